use Rattle.std.proofs.Common.{◌∙◌, arith, ap, sym, map, ◌++◌, ◌∷◌, ◌+◌}
use Rattle.jm_reader.specs.Listing.{listed, listed_from}
use Rattle.jm_reader.specs.Walk.{entries_from}
use Rattle.jm_reader.proofs.WalkLaws.{from_more}
use Rattle.jm_reader.proofs.listing.next_listed.Goals as goal

pub returns-in-Some-clause-entry : goal.returns-in-Some-clause-entry
returns-in-Some-clause-entry g c =
    let f = c.args.buf.now in
    let h = c.args.header.now in
    let slot = c.loop-slot.slot in
    let row = c.in-Some.row in
    c.loop-slot.invariant.rest ∙ ap (map listed) (from_more f h slot c.loop-slot-test.true
    ∙ ap (λ es. es ++ entries_from f h (slot + 1)) c.in-Some.ensures.entry)
    ∙ ap (λ name. (slot, name, row) ∷ listed_from f h (slot + 1)) (sym c.in-Some.ensures.name)

pub loop-slot-preserved : goal.loop-slot-preserved
loop-slot-preserved g c =
    let loop = c.loop-slot.invariant in
    let later = c.held_by.ensures.reads in
    let count = later.count in
    let f = c.args.buf.now in
    let h = c.args.header.now in
    let slot = c.loop-slot.slot in
    record {
      bytes = later.bytes ∙ loop.bytes;
      count = omega arith;
      rest = loop.rest ∙ ap (map listed) (from_more f h slot c.loop-slot-test.true
          ∙ ap (λ es. es ++ entries_from f h (slot + 1)) c.in_default.ensures.spare);
    }
