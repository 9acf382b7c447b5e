-- The seeds that are still to be tried.
use Rattle.std.proofs.Common.{◌≡◌, ℕ, suc, ◌+◌, ◌-◌, ◌<◌, Bool, true, false, cond, List, [], ◌∷◌, Some, None, refl, ap, ◌∙◌, arith}
use Rattle.std.specs.List.{find, range_with_len}
use Rattle.jm_form.specs.Greedy.{seeds}

-- the seeds from one on
pub seeds_from : ℕ → List ℕ
seeds_from seed = range_with_len seed (1001 - seed)

pub seeds_all : seeds ≡ seeds_from 1
unfolding seeds seeds_from
seeds_all = refl

pub seeds_none : seeds_from 1001 ≡ []
unfolding seeds_from
seeds_none = refl

pub seeds_next : (seed : ℕ) → seed < 1001 → seeds_from seed ≡ seed ∷ seeds_from (seed + 1)
unfolding seeds_from
seeds_next seed below =
    let left : 1001 - seed ≡ suc (1001 - (seed + 1)) = omega arith in
    ap (range_with_len seed) left

-- a seed that fits is the least, and one that doesn't is passed over
pub seed_fits : (p : ℕ → Bool) (seed : ℕ) → seed < 1001 → p seed ≡ true → find p (seeds_from seed) ≡ Some seed
seed_fits p seed below passes = ap (find p) (seeds_next seed below) ∙ ap (λ b. cond b (Some seed) (find p (seeds_from (seed + 1)))) passes

pub seed_fails : (p : ℕ → Bool) (seed : ℕ) → seed < 1001 → p seed ≡ false → find p (seeds_from seed) ≡ find p (seeds_from (seed + 1))
seed_fails p seed below fails = ap (find p) (seeds_next seed below) ∙ ap (λ b. cond b (Some seed) (find p (seeds_from (seed + 1)))) fails

pub seeds_gone : (p : ℕ → Bool) (seed : ℕ) → seed ≡ 1001 → find p (seeds_from seed) ≡ None
seeds_gone p seed end = ap (λ s. find p (seeds_from s)) end ∙ ap (find p) seeds_none
