use Rattle.std.proofs.Common.{◌≡◌, map, take}
use Rattle.jm_pool.specs.Pairs.{names_of}
use Rattle.jm_nodes.proofs.names.rising_names.Given as goal

abbrev pub invariant-loop-place : goal.invariant-loop-place
invariant-loop-place l = map (λ name. name.now) l.names ≡ take l.place (names_of l.pool)
