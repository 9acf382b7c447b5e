use Rattle.std.proofs.Common.{◌≡◌, ◌+◌, drop}
use Rattle.std.specs.Prelude.{sum}
use Rattle.jm_writer.specs.Parts.{rows_at}
use Rattle.jm_writer.proofs.SlotLaws.{Placed}
use Rattle.jm_writer.proofs.rows.rows_in_slots.Given as goal

abbrev pub invariant-loop-entry : goal.invariant-loop-entry
invariant-loop-entry l = record {
  placed : Placed l.slots (rows_at 0 l.places l.sizes) l.count l.entry l.rows.items;
  left : rows_at l.offset (drop l.entry l.places) (drop l.entry l.sizes) ≡ drop l.entry (rows_at 0 l.places l.sizes);
  contents : l.offset + sum (drop l.entry l.sizes) ≡ sum l.sizes;
}
