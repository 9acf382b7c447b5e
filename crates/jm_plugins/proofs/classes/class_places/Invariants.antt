use Rattle.std.proofs.Common.{◌≡◌, ◌++◌, drop}
use Rattle.jm_plugins.specs.Steps.{class_places, taken_by}
use Rattle.jm_plugins.proofs.classes.class_places.Given as goal

abbrev pub invariant-loop-place : goal.invariant-loop-place
invariant-loop-place l = l.places ++ class_places (taken_by l.way) l.place (drop l.place l.pool) ≡ class_places (taken_by l.way) 0 l.pool
