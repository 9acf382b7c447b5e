-- Draws after draws.
use Rattle.std.proofs.Common.{◌≡◌, ℕ, zero, suc, ◌+◌, List, [], ◌∷◌, map, refl, ap, ◌∙◌, arith}
use Rattle.std.specs.List.{range_with_len}
use Rattle.jm_gen.specs.Draws.{draw, drawn}
use Rattle.jm_gen.specs.Generated.{class_file, info_file, module_files}

pub drawn-drawn : (seed a b : ℕ) → drawn (drawn seed a) b ≡ drawn seed (a + b)
drawn-drawn seed a zero = let none : a ≡ a + zero = omega arith in ap (drawn seed) none
drawn-drawn seed a (suc b) =
    let more : suc (a + b) ≡ a + suc b = omega arith in
    ap draw (drawn-drawn seed a b) ∙ ap (drawn seed) more

-- one draw more
pub drawn_next : (seed n : ℕ) → draw (drawn seed n) ≡ drawn seed (n + 1)
drawn_next seed n = let more : suc n ≡ n + 1 = omega arith in ap (drawn seed) more

-- the draw of a class, after those of the descriptor and of the classes before it
pub class_draw : (seed class draws value : ℕ) → draws ≡ drawn seed (class + 1) → value ≡ draw draws
    → value ≡ drawn seed (0 + 2 + class)
class_draw seed class draws value before is =
    let on : class + 1 + 1 ≡ 0 + 2 + class = omega arith in
    is ∙ ap draw before ∙ drawn_next seed (class + 1) ∙ ap (drawn seed) on

mapped : {A : Type 0} (f g : ℕ → A) (xs : List ℕ) → ((x : ℕ) → f x ≡ g x) → map f xs ≡ map g xs
mapped f g [] same = refl
mapped f g (x ∷ xs) same = ap (λ y. y ∷ map f xs) (same x) ∙ ap (λ ys. g x ∷ ys) (mapped f g xs same)

-- the files of a module by the draws before it are those by a seed that these draws made
pub same_files : (dir : List ℕ) (classes seed k before draws : ℕ) → draws ≡ drawn seed before → module_files dir classes draws k 0
    ≡ module_files dir classes seed k before
same_files dir classes seed k before draws are =
    let first : before + (0 + 1) ≡ before + 1 = omega arith in
    ap (λ (d : ℕ). module_files dir classes d k 0) are
    ∙ ap (λ (d : ℕ). info_file dir k d ∷ map (λ c. class_file dir k c (drawn (drawn seed before) (0 + 2 + c))) (range_with_len 0 classes))
    (drawn-drawn seed before (0 + 1) ∙ ap (drawn seed) first)
    ∙ ap (λ fs. info_file dir k (drawn seed (before + 1)) ∷ fs)
    (mapped (λ c. class_file dir k c (drawn (drawn seed before) (0 + 2 + c)))
    (λ c. class_file dir k c (drawn seed (before + 2 + c))) (range_with_len 0 classes)
    (λ c. let on : before + (0 + 2 + c) ≡ before + 2 + c = omega arith in
    ap (class_file dir k c) (drawn-drawn seed before (0 + 2 + c) ∙ ap (drawn seed) on)))
