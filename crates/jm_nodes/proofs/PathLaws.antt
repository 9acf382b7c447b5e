-- Names of packages, compared by the paths of folders.
use Rattle.std.proofs.Common.{◌≡◌, ℕ, ◌-◌, ◌≤◌, ◌⊎◌, inl, inr, min, List, [], ◌∷◌, length, drop}
use Rattle.std.proofs.Common.{refl, ◌∙◌, arith}
use Rattle.std.proofs.lemmas.Bool.{cases_lt}
use Rattle.std.proofs.lemmas.Bool.Decides.{nat_tests}
use Rattle.std.proofs.lemmas.List.{length-drop, length-map}
use Rattle.std.specs.Cmp.Lexicographic.{slice_cmp}
use Rattle.std.specs.Ordering.{nat_cmp}
use Rattle.std.specs.Prelude.{if◌then◌else◌}
use Rattle.jm_names.specs.Names.{dotted, is_slash}

abbrev dot : ℕ → ℕ
dot b = if is_slash b then 46 else b

-- where one text is at its end, the lengths decide
at_end : (xs ys : List ℕ) → (length xs ≡ 0) ⊎ (length ys ≡ 0) → slice_cmp nat_cmp xs ys ≡ nat_cmp (length xs) (length ys)
at_end [] [] end = refl
at_end [] (y ∷ ys) end = grind (arith, nat_tests)
at_end (x ∷ xs) [] end = grind (arith, nat_tests)
at_end (x ∷ xs) (y ∷ ys) (inl end) = absurd (omega arith)
at_end (x ∷ xs) (y ∷ ys) (inr end) = absurd (omega arith)

less_by : (i n m : ℕ) → i ≤ n → i ≤ m → nat_cmp (n - i) (m - i) ≡ nat_cmp n m
less_by i n m low high = grind (arith, nat_tests)

-- where one of two paths is at its end, their lengths decide
pub ends : (xs ys : List ℕ) (i : ℕ) → i ≡ min (length xs) (length ys)
    → slice_cmp nat_cmp (dotted (drop i xs)) (dotted (drop i ys)) ≡ nat_cmp (length xs) (length ys)
ends xs ys i end =
    let left = length-map (drop i xs) dot ∙ length-drop i xs in
    let other_left = length-map (drop i ys) dot ∙ length-drop i ys in
    let shorter : (length (dotted (drop i xs)) ≡ 0) ⊎ (length (dotted (drop i ys)) ≡ 0) =
    elim (cases_lt (length xs) (length ys)) [
      | inl first ↦ inl (omega arith)
      | inr second ↦ inr (omega arith)
    ] in
    at_end (dotted (drop i xs)) (dotted (drop i ys)) shorter ∙ (λ j. nat_cmp (left j) (other_left j))
    ∙ less_by i (length xs) (length ys) (omega arith) (omega arith)
