-- The items of a list that pass a test, put and counted one after another.
use Rattle.std.proofs.Common.{◌≡◌, ℕ, zero, suc, ◌+◌, ◌-◌, ◌<◌, ◌≤◌, Bool, true, false, List, [], ◌∷◌, ◌++◌, length}
use Rattle.std.proofs.Common.{filter, take, drop, Ok, Err, refl, sym, ap, ◌∙◌, arith, append_assoc}
use Rattle.std.proofs.lemmas.List.{append-nil, take_at, drop_at, length-append}
use Rattle.std.specs.Int.{w16}
use Rattle.jm_class.specs.Classes.{u2, counted_text}
use Rattle.std.specs.List.{flat_map}
use Rattle.jm_class.specs.Readings.{Left, Outcome, Reading, number, counted, list_of}
use Rattle.jm_strip.specs.Walks.{shown, filtered}
use Rattle.jm_strip.proofs.Shown.{saw, stopped, shown-next, shown-stop}

-- a text and a count, with those of a list that are still to come
abbrev pub with_kept : {A : Type 0} → (A → List ℕ) → (A → Bool) → List ℕ × ℕ → List A → List ℕ × ℕ
with_kept words test s xs = (s.0 ++ flat_map words (filter test xs), s.1 + length (filter test xs))

module _ {F A : Type 0} (words : A → List ℕ) (test : A → Bool) (reading : Reading F A) where
  abbrev step : List ℕ × ℕ → A → List ℕ × ℕ
  step s x = with_kept words test s (x ∷ [])

  step-same : (s : List ℕ × ℕ) (x : A) (xs : List A) → with_kept words test s (x ∷ xs) ≡ with_kept words test (step s x) xs
  step-same s x xs = go (test x) refl
    where
      go : (b : Bool) → test x ≡ b → with_kept words test s (x ∷ xs) ≡ with_kept words test (step s x) xs
      go true e =
          let text : s.0 ++ (words x ++ flat_map words (filter test xs)) ≡ (s.0 ++ (words x ++ [])) ++ flat_map words (filter test xs) =
          sym (append_assoc s.0 (words x) (flat_map words (filter test xs)))
          ∙ ap (λ t. (s.0 ++ t) ++ flat_map words (filter test xs)) (sym (append-nil (words x))) in
          let number : s.1 + suc (length (filter test xs)) ≡ (s.1 + 1) + length (filter test xs) = omega arith in
          rw (e, text, number) refl
      go false e =
          let text = append-nil s.0 in
          let number : s.1 + 0 + length (filter test xs) ≡ s.1 + length (filter test xs) = omega arith in
          rw (e, text, number) refl

  pub kept-next : (count k : ℕ) (left next : Left) (old new : List ℕ) (kept n : ℕ) → k < count
      → shown (λ a. filtered words test old (a ∷ [])) (reading left) ≡ Ok ((new, n), next)
      → shown (with_kept words test (old, kept)) (counted (count - k) reading left) ≡ shown (with_kept words test (new, kept + n))
      (counted (count - (k + 1)) reading next)
  kept-next count k left next old new kept n more e =
      shown-next reading step (with_kept words test) step-same count k left next (old, kept) (new, kept + n) more (counts (reading left) e)
    where
      counts : (outcome : Outcome F A) → shown (λ a. filtered words test old (a ∷ [])) outcome ≡ Ok ((new, n), next)
          → shown (step (old, kept)) outcome ≡ Ok ((new, kept + n), next)
      counts (Ok r) e = ap (λ (o : Outcome F (List ℕ × ℕ)). shown (λ s. (s.0, kept + s.1)) o) e
      counts (Err fault) e = cc

  pub kept-stop : (count k : ℕ) (left : Left) (old : List ℕ) (kept : ℕ) (fault : F) → k < count
      → shown (λ a. filtered words test old (a ∷ [])) (reading left) ≡ Err fault → shown (with_kept words test (old, kept))
      (counted (count - k) reading left) ≡ Err fault
  kept-stop count k left old kept fault more e =
      shown-stop reading step (with_kept words test) step-same count k left (old, kept) fault more (stops (reading left) e)
    where
      stops : (outcome : Outcome F A) → shown (λ a. filtered words test old (a ∷ [])) outcome ≡ Err fault
          → shown (step (old, kept)) outcome ≡ Err fault
      stops (Ok r) e = cc
      stops (Err found) e = let same : found ≡ fault = cc in ap (λ f. Err f) same

  pub kept-end : (count k : ℕ) (left : Left) (text : List ℕ) (kept : ℕ) → count ≤ k
      → shown (with_kept words test (text, kept)) (counted (count - k) reading left) ≡ Ok ((text, kept), left)
  kept-end count k left text kept all =
      let number : count - k ≡ zero = omega (arith, all) in
      let end = append-nil text in
      let size : kept + 0 ≡ kept = omega arith in
      rw (number, end, size) refl

  -- one that isn't read is one of the list
  pub kept-stopped : (short : ℕ → F) (left first : Left) (old opened : List ℕ) (count : ℕ) → number short w16 left ≡ Ok (count, first)
      → (fault : F) → shown (filtered words test opened) (counted count reading first) ≡ Err fault
      → shown (λ xs. old ++ counted_text words (filter test xs)) (list_of short reading left) ≡ Err fault
  kept-stopped short left first old opened count read fault e =
      let stop = stopped (filtered words test opened) (counted count reading first) fault e in
      rw (read, stop) refl

  -- the number's room stands before what was put
  pub kept-room : (first next : Left) (old opened put : List ℕ) (at count n : ℕ) → at ≡ length old → opened ≡ old ++ u2 0
      → shown (filtered words test opened) (counted count reading first) ≡ Ok ((put, n), next) → at + 2 ≤ length put
  kept-room first next old opened put at count n there gap e =
      let got = saw (filtered words test opened) (counted count reading first) (put, n) next e in
      let flat = flat_map words (filter test got.first) in
      let whole : length (opened ++ flat) ≡ length put = ap (λ (s : List ℕ × ℕ). length s.0) got.same in
      let parts = length-append opened flat in
      let front : length opened ≡ length old + 2 = ap length gap ∙ length-append old (u2 0) in
      omega (arith, there, whole, parts, front)

-- A number that is put once what stands after it was put

pub patched : (old gap body words : List ℕ) → take (length old) ((old ++ gap) ++ body)
    ++ (words ++ drop (length old + length gap) ((old ++ gap) ++ body)) ≡ old ++ (words ++ body)
patched old gap body words =
    let whole = append_assoc old gap body in
    let front = take_at old (gap ++ body) (length old) refl in
    let back = drop_at (old ++ gap) body (length old + length gap) (length-append old gap) in
    rw back (rw (whole, front) refl)

number_put : (old put new flat : List ℕ) (at n m : ℕ) → at ≡ length old → put ≡ (old ++ u2 0) ++ flat → n ≡ m → new ≡ take at put
    ++ (u2 n ++ drop (at + 2) put) → new ≡ old ++ (u2 m ++ flat)
number_put old put new flat at n m there body size grown = grown ∙ rw (there, body, size) (patched old (u2 0) flat (u2 m))

-- a list with its number, which was patched in
pub kept-patched : {F A : Type 0} (short : ℕ → F) (words : A → List ℕ) (test : A → Bool) (reading : Reading F A)
    (left first next : Left) (old opened put new : List ℕ) (at count n : ℕ) → number short w16 left ≡ Ok (count, first) → at
    ≡ length old → opened ≡ old ++ u2 0 → shown (filtered words test opened) (counted count reading first) ≡ Ok ((put, n), next)
    → new ≡ take at put ++ (u2 n ++ drop (at + 2) put) → shown (λ xs. old ++ counted_text words (filter test xs))
    (list_of short reading left) ≡ Ok (new, next)
kept-patched {F} {A} short words test reading left first next old opened put new at count n read there gap e grown =
    let got = saw (filtered words test opened) (counted count reading first) (put, n) next e in
    let kept : List A = filter test got.first in
    let body : put ≡ (old ++ u2 0) ++ flat_map words kept = sym (ap (λ (s : List ℕ × ℕ). s.0) got.same)
    ∙ ap (λ t. t ++ flat_map words kept) gap in
    let size : n ≡ length kept = sym (ap (λ (s : List ℕ × ℕ). s.1) got.same) in
    let all : new ≡ old ++ (u2 (length kept) ++ flat_map words kept) =
    number_put old put new (flat_map words kept) at n (length kept) there body size grown in
    let end = append-nil (flat_map words kept) in
    rw (read, got.is) (ap (λ t. Ok (t, next)) (rw end (sym all)))
