use Rattle.std.proofs.Common.{◌≡◌, map}
use Rattle.jm_filed.specs.declared.file_order.PlacedName.{PlacedName}
use Rattle.jm_filed.proofs.file_order.names_alone.Given as goal

abbrev pub invariant-loop-item : goal.invariant-loop-item
invariant-loop-item l = l.names ≡ map (λ (p : PlacedName). p.name) l.yielded
