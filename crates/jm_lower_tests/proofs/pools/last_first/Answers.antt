use Rattle.std.proofs.Common.{[], ◌∷◌, refl, arith}
use Rattle.jm_lower_tests.proofs.pools.last_first.Goals as goal

pub reorder-requires : goal.reorder-requires
reorder-requires c =
    rw c.requires.three (record {
      moves = (1, 2) ∷ (0, 2) ∷ [];
      below = (omega arith, omega arith, (omega arith, omega arith, tt));
      is = refl;
    })
