-- One step of the reading of a name as UTF-8.
use Rattle.std.proofs.Common.{◌≡◌, ℕ, ◌-◌, ◌<◌, ◌≤◌, Bool, true, false, List, [], ◌∷◌, ◌++◌, length, take}
use Rattle.std.proofs.Common.{drop, slice_index_or, refl, ap, ◌∙◌, arith}
use Rattle.std.proofs.Math.Seq.{take-length}
use Rattle.jm_names.specs.UtfForms.{four_bytes, is_pair, pair_number, utf, FirstStays}

-- whether six bytes in front are a pair, and the number of its character
abbrev pub pair_in_front : List ℕ → Bool
pair_in_front bytes = is_pair (slice_index_or bytes 0 0) (slice_index_or bytes 1 0) (slice_index_or bytes 2 0)
    (slice_index_or bytes 3 0) (slice_index_or bytes 4 0) (slice_index_or bytes 5 0)

abbrev pub number_in_front : List ℕ → ℕ
number_in_front bytes = pair_number (slice_index_or bytes 1 0) (slice_index_or bytes 2 0) (slice_index_or bytes 4 0)
    (slice_index_or bytes 5 0)

-- a pair in front becomes its character
pub utf_pair : (bytes : List ℕ) (number : ℕ) → 6 ≤ length bytes → pair_in_front bytes ≡ true → number ≡ number_in_front bytes
    → utf bytes ≡ four_bytes number ++ utf (take (length bytes - 6) (drop 6 bytes))
utf_pair (a ∷ x ∷ y ∷ b ∷ z ∷ w ∷ name) number six h e =
    let all : take (length (a ∷ x ∷ y ∷ b ∷ z ∷ w ∷ name) - 6) name ≡ name = ap (λ n. take n name) (omega (arith)) ∙ take-length name in
    rw (all, h, e)
utf_pair (a ∷ x ∷ y ∷ b ∷ z ∷ []) number six h e = absurd (omega (arith, six))
utf_pair (a ∷ x ∷ y ∷ b ∷ []) number six h e = absurd (omega (arith, six))
utf_pair (a ∷ x ∷ y ∷ []) number six h e = absurd (omega (arith, six))
utf_pair (a ∷ x ∷ []) number six h e = absurd (omega (arith, six))
utf_pair (a ∷ []) number six h e = absurd (omega (arith, six))
utf_pair [] number six h e = absurd (omega (arith, six))

-- fewer than six bytes stay
pub utf_short : (bytes : List ℕ) → length bytes < 6 → FirstStays utf bytes
utf_short [] few = tt
utf_short (a ∷ []) few = refl
utf_short (a ∷ x ∷ []) few = refl
utf_short (a ∷ x ∷ y ∷ []) few = refl
utf_short (a ∷ x ∷ y ∷ b ∷ []) few = refl
utf_short (a ∷ x ∷ y ∷ b ∷ z ∷ []) few = refl
utf_short (a ∷ x ∷ y ∷ b ∷ z ∷ w ∷ name) few = absurd (omega (arith, few))

-- where no pair stands in front the first byte stays
pub utf_stays : (bytes : List ℕ) → 6 ≤ length bytes → pair_in_front bytes ≡ false → FirstStays utf bytes
utf_stays (a ∷ x ∷ y ∷ b ∷ z ∷ w ∷ name) six h = rw h
utf_stays (a ∷ x ∷ y ∷ b ∷ z ∷ []) six h = refl
utf_stays (a ∷ x ∷ y ∷ b ∷ []) six h = refl
utf_stays (a ∷ x ∷ y ∷ []) six h = refl
utf_stays (a ∷ x ∷ []) six h = refl
utf_stays (a ∷ []) six h = refl
utf_stays [] six h = tt
