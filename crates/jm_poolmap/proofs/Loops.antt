-- Loops over forms: that many of one, and a run up to the last byte; and the error of a part.
use Rattle.std.proofs.Common.{◌≡◌, ◌≢◌, ℕ, suc, ◌+◌, ◌-◌, ◌<◌, ◌≤◌, ◌⊎◌, inl, inr, List, length}
use Rattle.std.proofs.Common.{Result, Ok, Err, IsErrAnd, refl, sym, arith}
use Rattle.std.proofs.lemmas.Bool.{eq-eqb, ne_eqb}
use Rattle.jm_bytes.specs.declared.faults.Or.{Or}
use Rattle.jm_bytes.specs.declared.faults.Or.TheVariants.{Fault, Memory}
use Rattle.jm_class.specs.Readings.{Left}
use Rattle.jm_poolmap.specs.declared.forms.Unknown.{Unknown}
use Rattle.jm_poolmap.specs.declared.site.FoundSite.{FoundSite}
use Rattle.jm_poolmap.specs.Finds.{Finds}
use Rattle.jm_poolmap.specs.Forms.{Texts, Form, Then, Run, times, at_most, reads}

-- that many are the next one and those after it
pub times_more : (form : Form) (count k : ℕ) → k < count → times (count - k) form ≡ Then form (times (count - (k + 1)) form)
times_more form count k more = let number : count - k ≡ suc (count - (k + 1)) = omega arith in rw number

-- the error of a part is that of the whole, where the whole isn't there without it
pub finds_stop : (texts : Texts) (part whole : Form) (error : Or Unknown) (result : Result (Unit {0}) (Or Unknown))
    (old found new : List FoundSite) (before left next : Left) → IsErrAnd result (λ is. is ≡ error)
    → Finds {T = Unit {0}} texts part found left (Err error) new next
    → (reads texts part found left ≡ Err tt → reads texts whole old before ≡ Err tt) → Finds texts whole old before result new next
finds_stop texts part whole error (Ok v) old found new before left next is gives stops = absurd is
finds_stop texts part whole (Fault one) (Err (Fault other)) old found new before left next is gives stops = stops gives
finds_stop texts part whole (Fault one) (Err Memory) old found new before left next is gives stops = tt
finds_stop texts part whole Memory (Err Memory) old found new before left next is gives stops = tt
finds_stop texts part whole Memory (Err (Fault other)) old found new before left next is gives stops = cc

-- of a run, at most that many items are still to come, and they are read as the rest of the run
pub record ToCome (texts : Texts) (item : ℕ → Form) (start : ℕ) (old : List FoundSite) (before : Left) (most : ℕ)
    (found : List FoundSite) (left : Left) : Type 0 where
  pub same : at_most most (λ found now. reads texts (item (now.place - start)) found now) found left ≡ reads texts (Run item) old before

pub run_begins : {texts : Texts} {item : ℕ → Form} {start : ℕ} {found : List FoundSite} {left : Left} (most : ℕ)
    → start ≡ left.place → most ≡ length left.bytes → ToCome texts item start found left (most - 0) found left
run_begins {left = left} most here size =
    let whole : most - 0 ≡ length left.bytes = omega (arith, size) in
    record { same = rw (whole, here) refl }

module _ {texts : Texts} {item : ℕ → Form} {start : ℕ} {old found : List FoundSite} {before left : Left} (most k : ℕ)
    (come : ToCome texts item start old before (most - k) found left) where
  module _ (below : k < most) (some : length left.bytes ≢ 0) where
    pub run_next : {new : List FoundSite} {next : Left} → reads texts (item (left.place - start)) found left ≡ Ok (new, next)
        → ToCome texts item start old before (most - (k + 1)) new next
    run_next e =
        let number : most - k ≡ suc (most - (k + 1)) = omega arith in
        let test = ne_eqb (length left.bytes) 0 some in
        record { same = rw (number, test, e) at come.same }

    pub run_stops : reads texts (item (left.place - start)) found left ≡ Err tt → reads texts (Run item) old before ≡ Err tt
    run_stops e =
        let number : most - k ≡ suc (most - (k + 1)) = omega arith in
        let test = ne_eqb (length left.bytes) 0 some in
        sym (rw (number, test, e) at come.same)

  pub run_ends : (k < most) × (length left.bytes ≡ 0) ⊎ (most ≤ k) → reads texts (Run item) old before ≡ Ok (found, left)
  run_ends (inl (below, none)) =
      let number : most - k ≡ suc (most - (k + 1)) = omega arith in
      let test = eq-eqb (length left.bytes) 0 none in
      sym (rw (number, test) at come.same)
  run_ends (inr past) = let number : most - k ≡ 0 = omega arith in sym (rw number at come.same)
