-- Lists whose items are put one after another, after their number.
use Rattle.std.proofs.Common.{◌≡◌, ℕ, zero, suc, ◌+◌, ◌-◌, ◌<◌, ◌≤◌, List, [], ◌∷◌, ◌++◌, length, map, Ok}
use Rattle.std.proofs.Common.{Err, refl, sym, ap, ◌∙◌, arith, append_assoc}
use Rattle.std.proofs.lemmas.List.{append-nil, length-map}
use Rattle.std.proofs.lemmas.List.Folds.{flat_map-map}
use Rattle.std.specs.Int.{w16}
use Rattle.std.specs.List.{flat_map}
use Rattle.jm_class.specs.Classes.{u2, counted_text}
use Rattle.jm_class.specs.Readings.{Left, Reading, value, and_then, number, counted, list_of}
use Rattle.jm_class.proofs.ReadingLaws.{passed, same_value}
use Rattle.jm_strip.specs.Walks.{shown}
use Rattle.jm_strip.proofs.Shown.{saw, stopped, shown-next, shown-stop}

-- a text with those of a list that are still to come
abbrev pub with_texts : {A : Type 0} → (A → List ℕ) → List ℕ → List A → List ℕ
with_texts words text xs = text ++ flat_map words xs

pub counted-length : {F A : Type 0} (reading : Reading F A) (count : ℕ) (left next : Left) (xs : List A)
    → counted count reading left ≡ Ok (xs, next) → length xs ≡ count
counted-length {F} reading zero left next xs e = ap length (sym (same_value {F = F} [] xs left next e))
counted-length {F} {A} reading (suc count) left next xs e =
    let one = passed (reading left) (λ x. and_then (counted count reading) (λ xs. value (x ∷ xs))) xs next e in
    let two = passed (counted count reading one.middle) (λ xs. value (one.first ∷ xs)) xs next one.rest in
    let rest = counted-length reading count one.middle two.middle two.first two.is in
    ap length (sym (same_value {F = F} (one.first ∷ two.first) xs two.middle next two.rest)) ∙ ap suc rest

module _ {F A : Type 0} (reading : Reading F A) (words : A → List ℕ) where
  text-same : (text : List ℕ) (x : A) (xs : List A) → with_texts words text (x ∷ xs) ≡ with_texts words (text ++ words x) xs
  text-same text x xs = sym (append_assoc text (words x) (flat_map words xs))

  pub put-next : (count k : ℕ) (left next : Left) (old new : List ℕ) → k < count → shown (λ a. old ++ words a) (reading left)
      ≡ Ok (new, next) → shown (with_texts words old) (counted (count - k) reading left)
      ≡ shown (with_texts words new) (counted (count - (k + 1)) reading next)
  put-next count k left next old new more e = shown-next reading (λ text x. text ++ words x) (with_texts words) text-same count k
      left next old new more e

  pub put-stop : (count k : ℕ) (left : Left) (old : List ℕ) (fault : F) → k < count → shown (λ a. old ++ words a) (reading left)
      ≡ Err fault → shown (with_texts words old) (counted (count - k) reading left) ≡ Err fault
  put-stop count k left old fault more e = shown-stop reading (λ text x. text ++ words x) (with_texts words) text-same count k left
      old fault more e

-- that many items were put: those to come make of the text what all make of the one before them
abbrev pub ArePut : {F A : Type 0} → Reading F A → (A → List ℕ) → ℕ → Left → List ℕ → ℕ → Left → List ℕ → Type 0
ArePut reading words count first opened k here text = shown (with_texts words opened) (counted count reading first)
    ≡ shown (with_texts words text) (counted (count - k) reading here)

-- the number of the items is read, and put as it is
module _ {F A B : Type 0} (short : ℕ → F) (reading : Reading F A) (text : B → List ℕ) (f : A → B) (left first : Left) (count : ℕ)
    (read : number short w16 left ≡ Ok (count, first)) (old opened : List ℕ) (begun : opened ≡ old ++ u2 count) where
  pub list-put : (k : ℕ) (next : Left) (new : List ℕ) → count ≤ k
      → ArePut reading (λ a. text (f a)) count first opened k next new
      → shown (λ xs. old ++ counted_text text (map f xs)) (list_of short reading left) ≡ Ok (new, next)
  list-put k next new ends are =
      let none : count - k ≡ zero = omega (arith, ends) in
      let same = append-nil new in
      let done : shown (with_texts (λ a. text (f a)) new) (counted (count - k) reading next) ≡ Ok (new, next) = rw (none, same) refl in
      let got = saw (with_texts (λ a. text (f a)) opened) (counted count reading first) new next (are ∙ done) in
      rw (read, got.is) (ap (λ t. Ok (t, next)) (put got.first (counted-length reading count first next got.first got.is) got.same))
    where
      put : (xs : List A) → length xs ≡ count → opened ++ flat_map (λ a. text (f a)) xs ≡ new → old ++ counted_text text (map f xs) ≡ new
      put xs size same =
          let end = append-nil (flat_map text (map f xs)) in
          let words = flat_map-map text f xs in
          let mapped : length (map f xs) ≡ count = length-map xs f ∙ size in
          rw (end, words, mapped) (sym (append_assoc old (u2 count) (flat_map (λ a. text (f a)) xs))
          ∙ ap (λ t. t ++ flat_map (λ a. text (f a)) xs) (sym begun) ∙ same)

  pub list-stopped : (k : ℕ) (here : Left) (now : List ℕ) → k < count → ArePut reading (λ a. text (f a)) count first opened k here now
      → (fault : F) → shown (λ a. now ++ text (f a)) (reading here) ≡ Err fault
      → shown (λ xs. old ++ counted_text text (map f xs)) (list_of short reading left) ≡ Err fault
  list-stopped k here now more are fault e =
      let words = λ (a : A). text (f a) in
      let stop = stopped (with_texts words opened) (counted count reading first) fault
      (are ∙ put-stop reading words count k here now fault more e) in
      rw (read, stop) refl
