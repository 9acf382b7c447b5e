-- Words that tell items tell them in turn.
use Rattle.std.proofs.Common.{◌≡◌, ℕ, zero, suc, ◌+◌, ◌<◌, List, [], ◌∷◌, length, get_or, map, refl, ap, ◌∙◌, arith}
use Rattle.std.specs.List.{AllZip, range_with_len}

-- What words tell

-- what holds of each word of an item holds of the word at each place
pub zipped_each : {X : Type 0} (R : X → ℕ → Type 0) (P : ℕ → Type 0) → ((x : X) (w : ℕ) → R x w → P w) → (xs : List X) (ws : List ℕ)
    → AllZip R xs ws → (k : ℕ) → k < length ws → P (get_or ws k 0)
zipped_each R P holds xs [] zipped k below = absurd (omega arith)
zipped_each R P holds [] (w ∷ ws) zipped k below = absurd zipped
zipped_each R P holds (x ∷ xs) (w ∷ ws) zipped zero below = holds x w zipped.0
zipped_each R P holds (x ∷ xs) (w ∷ ws) zipped (suc k) below = zipped_each R P holds xs ws zipped.1 k (omega arith)

-- words that tell an item each tell the items in turn
pub zipped_told : {X : Type 0} (R : X → ℕ → Type 0) (tell : ℕ → X) (read : ℕ → ℕ) → ((x : X) (w : ℕ) → R x w → tell w ≡ x)
    → (xs : List X) (ws : List ℕ) (k : ℕ) → AllZip R xs ws → ((j : ℕ) → j < length ws → read (k + j) ≡ get_or ws j 0)
    → map (λ j. tell (read j)) (range_with_len k (length ws)) ≡ xs
zipped_told R tell read tells [] [] k zipped there = refl
zipped_told R tell read tells [] (w ∷ ws) k zipped there = absurd zipped
zipped_told R tell read tells (x ∷ xs) [] k zipped there = absurd zipped
zipped_told R tell read tells (x ∷ xs) (w ∷ ws) k zipped there =
    let place : k ≡ k + 0 = omega arith in
    let first : tell (read k) ≡ x = ap (λ j. tell (read j)) place ∙ ap tell (there 0 (omega arith)) ∙ tells x w zipped.0 in
    let next : (j : ℕ) → j < length ws → read (k + 1 + j) ≡ get_or ws j 0 =
    λ j below. let on : k + 1 + j ≡ k + suc j = omega arith in ap read on ∙ there (suc j) (omega arith) in
    let later = zipped_told R tell read tells xs ws (k + 1) zipped.1 next in
    ap (λ l. tell (read k) ∷ l) later ∙ ap (λ y. y ∷ xs) first
