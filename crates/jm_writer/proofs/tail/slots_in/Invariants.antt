use Rattle.std.proofs.Common.{◌≡◌, map, take}
use Rattle.jm_writer.specs.Parts.{slot_or_first}
use Rattle.jm_writer.proofs.tail.slots_in.Given as goal

abbrev pub invariant-loop-place : goal.invariant-loop-place
invariant-loop-place l = l.slots ≡ map (slot_or_first l.table) (take l.place l.names)
