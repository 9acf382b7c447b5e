-- A reading under a function of its value: that many of one kind, one after another, and what was read.
use Rattle.std.proofs.Common.{◌≡◌, ℕ, suc, ◌+◌, ◌-◌, ◌<◌, List, ◌∷◌, Result, Ok, Err, IsErrAnd, refl, ap, ◌∙◌, arith}
use Rattle.jm_bytes.specs.declared.faults.Or.{Or}
use Rattle.jm_class.specs.declared.class.ClassFault.{ClassFault}
use Rattle.jm_class.specs.Views.{Gives}
use Rattle.jm_class.proofs.Stops.{gives_stop}
use Rattle.jm_class.specs.Readings.{Left, Outcome, Reading, value, continued, counted}
use Rattle.jm_class.proofs.ReadingLaws.{same_value, same_left}
use Rattle.jm_strip.specs.Walks.{shown, nothing}

-- what was read, from what was shown of it
pub record Saw {F A B : Type 0} (show : A → B) (outcome : Outcome F A) (b : B) (next : Left) : Type 0 where
  pub first : A
  pub is : outcome ≡ Ok (first, next)
  pub same : show first ≡ b

pub saw : {F A B : Type 0} (show : A → B) (outcome : Outcome F A) (b : B) (next : Left) → shown show outcome ≡ Ok (b, next)
    → Saw show outcome b next
saw {F} show (Ok r) b next e = record {
  first = r.0;
  is = ap (λ (l : Left). Ok (r.0, l)) (same_left {F = F} (show r.0) b r.1 next e);
  same = same_value {F = F} (show r.0) b r.1 next e;
}
saw show (Err fault) b next e = cc

pub stopped : {F A B : Type 0} (show : A → B) (outcome : Outcome F A) (fault : F) → shown show outcome ≡ Err fault → outcome ≡ Err fault
stopped show (Ok r) fault e = cc
stopped show (Err found) fault e = let same : found ≡ fault = cc in ap (λ f. Err f) same

-- the error of a part is that of the whole, where the whole has the faults of the part
pub walk_stop : {U A B : Type 0} (data_of : U → B) (part : Outcome ClassFault A) (all : Outcome ClassFault B) (error : Or ClassFault)
    (result : Result U (Or ClassFault)) (left next : Left) → IsErrAnd result (λ is. is ≡ error) → Gives {T = A} (λ a. a) part (Err error)
    left → ((fault : ClassFault) → part ≡ Err fault → all ≡ Err fault) → Gives data_of all result next
walk_stop data_of part all error result left next is gives stops = gives_stop (λ a. a) data_of part all error result left next is
    gives stops

-- the first one is taken into what is shown of those after it
pub shown-cons : {F A B : Type 0} (all rest : List A → B) (x : A) → ((xs : List A) → all (x ∷ xs) ≡ rest xs)
    → (outcome : Outcome F (List A)) → shown all (continued outcome (λ xs. value (x ∷ xs))) ≡ shown rest outcome
shown-cons all rest x same (Ok r) = let e = same r.0 in rw e refl
shown-cons all rest x same (Err fault) = refl

-- That many of one kind: a state that each one changes, and what the state makes of those to come

module _ {F A B S : Type 0} (reading : Reading F A) (step : S → A → S) (all : S → List A → B) (same : (s : S) (x : A) (xs : List A)
    → all s (x ∷ xs) ≡ all (step s x) xs) where
  pub shown-next : (count k : ℕ) (left next : Left) (old new : S) → k < count → shown (step old) (reading left) ≡ Ok (new, next)
      → shown (all old) (counted (count - k) reading left) ≡ shown (all new) (counted (count - (k + 1)) reading next)
  shown-next count k left next old new more e =
      let number : count - k ≡ suc (count - (k + 1)) = omega arith in
      let one = saw (step old) (reading left) new next e in
      rw (number, one.is) (shown-cons (all old) (all new) one.first (λ xs. same old one.first xs ∙ ap (λ s. all s xs) one.same)
      (counted (count - (k + 1)) reading next))

  pub shown-stop : (count k : ℕ) (left : Left) (old : S) (fault : F) → k < count → shown (step old) (reading left) ≡ Err fault
      → shown (all old) (counted (count - k) reading left) ≡ Err fault
  shown-stop count k left old fault more e =
      let number : count - k ≡ suc (count - (k + 1)) = omega arith in
      let stop = stopped (step old) (reading left) fault e in
      rw (number, stop) refl

-- nothing is kept of what is read
module _ {F A : Type 0} (reading : Reading F A) (count k : ℕ) (left next : Left) (more : k < count) where
  pub skip-next : shown nothing (reading left) ≡ Ok (tt, next) → shown nothing (counted (count - k) reading left)
      ≡ shown nothing (counted (count - (k + 1)) reading next)
  skip-next e = shown-next reading (λ _ _. tt) (λ _ xs. nothing xs) (λ s x xs. refl) count k left next tt tt more e

  pub skip-stop : (fault : F) → shown nothing (reading left) ≡ Err fault → shown nothing (counted (count - k) reading left) ≡ Err fault
  skip-stop fault e = shown-stop reading (λ _ _. tt) (λ _ xs. nothing xs) (λ s x xs. refl) count k left tt fault more e
