use Rattle.std.proofs.Common.{ap, ◌∙◌, map, slice_get, unwrap_or, ℕ}
use Rattle.std.proofs.lemmas.List.{take_all}
use Rattle.jm_bytes.proofs.SameOrder.{mapped_twice}
use Rattle.jm_writer.specs.Parts.{slot_or_first}
use Rattle.jm_writer.proofs.tail.child_words.Goals as goal

pub returns : goal.returns
returns c =
    let place : ℕ → ℕ = λ slot. unwrap_or (slice_get c.args.places.now slot) 0 in
    let found = c.as_slice-found.result.now in
    c.loop-slot.invariant
    ∙ ap (map place) (take_all c.loop-slot.slot-index found c.loop-slot-test.false ∙ c.as_slice-found.ensures ∙ c.in_ok-slots.ensures)
    ∙ mapped_twice place (slot_or_first c.args.table.now) c.args.names.now
