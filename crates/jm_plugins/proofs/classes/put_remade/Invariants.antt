use Rattle.std.proofs.Common.{◌≡◌, ◌<◌, All, length}
use Rattle.jm_plugins.specs.Steps.{put_remade}
use Rattle.jm_plugins.proofs.classes.put_remade.Given as goal

abbrev pub invariant-loop-place : goal.invariant-loop-place
invariant-loop-place l =
    (put_remade l.fn.remade l.fn.pool ≡ put_remade l.place-iterator.rest.items l.pool)
    × All (λ one. one.place < length l.pool) l.place-iterator.rest.items
