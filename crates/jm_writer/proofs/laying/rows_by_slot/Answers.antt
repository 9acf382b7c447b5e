use Rattle.std.proofs.Common.{length, ◌∙◌, ◌≡◌, ap, arith}
use Rattle.std.proofs.lemmas.List.FromFn.{length-map-range_with_len}
use Rattle.std.proofs.lemmas.Result.{IfOk-weaker}
use Rattle.jm_form.specs.Layout.{rows_from, texts_of}
use Rattle.jm_writer.specs.Laying.{slot_rows}
use Rattle.jm_writer.specs.Parts.{rows_at, rows_in_slots, sized_as}
use Rattle.jm_writer.proofs.PlaceLaws.{rows_by_places}
use Rattle.jm_writer.proofs.laying.rows_by_slot.Goals as goal

pub returns-clause-rows : goal.returns-clause-rows
returns-clause-rows c =
    let e = c.args.entries.now in
    let t = c.args.table.now in
    let places = ap (rows_at 0 c.args.places.now) c.as_slice-2.ensures ∙ ap (λ p. rows_at 0 p e.sizes) c.requires.places in
    let rows = places ∙ rows_by_places (texts_of e.names) 0 e.names e.sizes in
    let same : rows_in_slots c.as_slice.result.now (rows_at 0 c.args.places.now c.as_slice-2.result.now) t.length ≡ slot_rows e t =
    ap (λ r. rows_in_slots c.as_slice.result.now r t.length) rows
    ∙ ap (λ s. rows_in_slots s (rows_from (texts_of e.names) 0 (sized_as e.names e.sizes)) t.length) c.as_slice.ensures in
    IfOk-weaker c.rows_in_slots.result _ _ (λ r is. is ∙ same) c.rows_in_slots.ensures

pub returns-clause-few : goal.returns-clause-few
returns-clause-few c =
    let few = c.requires.table.few in
    let names = c.requires.entries.few in
    let size = c.requires.table.size in
    IfOk-weaker c.rows_in_slots.result _ _
    (λ r is. let long = ap length is ∙ length-map-range_with_len _ 0 c.args.table.now.length in omega (arith, few, names, size, long))
    c.rows_in_slots.ensures
