use Rattle.std.proofs.Common.{◌≡◌, ◌+◌, true, ap, ◌∙◌, drop, slice_range, arith}
use Rattle.std.proofs.lemmas.Bool.{lt-ltb}
use Rattle.std.specs.Prelude.{nat_lt}
use Rattle.jm_form.specs.ComputedRows.{row_front}
use Rattle.jm_form.specs.Entries.{row_read}
use Rattle.jm_form.specs.Places.{locations, locations_place}
use Rattle.jm_form.proofs.HeadLaws.{header_fits}
use Rattle.jm_form.proofs.SectionLaws.{row_in_part}
use Rattle.jm_form.proofs.slots.row_at_place.Goals as goal

pub part-requires-clause-inside : goal.part-requires-clause-inside
part-requires-clause-inside g c =
    let fits = header_fits c.args.buf.now c.args.header.now c.requires.read in
    let place = c.locations_place.ensures in
    let size = c.min-size.ensures in
    omega arith

pub returns-clause-row : goal.returns-clause-row
returns-clause-row g c =
    let b = c.args.buf.now in
    let h = c.args.header.now in
    let place = c.args.place in
    let fits = header_fits b h c.requires.read in
    let below = c.if-place-header.false in
    let part : c.part.result.now ≡ slice_range b (locations_place h + place) (locations_place h + place + c.min-size.result) =
    rw c.locations_place.ensures at c.part.ensures.part in
    let front : row_front c.part.result.now ≡ row_front (drop place (locations b h)) = ap row_front part
    ∙ row_in_part b h place c.min-size.result fits (omega arith) c.min-size.ensures in
    let there : c.row_read.result ≡ row_read (row_front (drop place (locations b h))) = c.row_read.ensures
    ∙ ap row_read (c.read_row.ensures.value ∙ front) in
    let inside : nat_lt place h.locations ≡ true = lt-ltb place h.locations (omega arith) in
    rw inside there
