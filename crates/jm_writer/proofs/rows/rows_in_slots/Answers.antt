use Rattle.std.proofs.Common.{rules, replicate, None, ◌≡◌, ◌+◌, ◌<◌, length, drop, get_or, set, Some, arith, refl, subst, sym, ◌∙◌}
use Rattle.std.specs.Prelude.{sum}
use Rattle.jm_form.specs.declared.rows.Row.{Row}
use Rattle.jm_writer.specs.declared.interning.TextPlaces.{TextPlaces}
use Rattle.jm_writer.specs.Parts.{row_at, rows_at}
use Rattle.std.proofs.lemmas.List.Sums.{sum_by-drop_more}
use Rattle.jm_writer.proofs.SlotLaws.{Placed, length_rows_at, placed_all, placed_next, placed_none, row_there, rows_behind}
use Rattle.jm_writer.proofs.rows.rows_in_slots.Goals as goal

pub loop-entry-init : goal.loop-entry-init
loop-entry-init c =
    let none : c.in_ok-rows.rows.items ≡ replicate c.args.count None = search rules in
    record {
      placed = subst (Placed c.args.slots.now (rows_at 0 c.args.places.now c.args.sizes.now) c.args.count 0) (sym none)
          (placed_none c.args.slots.now (rows_at 0 c.args.places.now c.args.sizes.now) c.args.count);
      left = refl;
      contents = omega arith;
    }

pub loop-entry-preserved : goal.loop-entry-preserved
loop-entry-preserved c =
    let at = c.loop-entry.invariant in
    let entry = c.loop-entry.entry in
    let slots = c.args.slots.now in
    let places = c.args.places.now in
    let sizes = c.args.sizes.now in
    let offset = c.loop-entry.offset in
    let rows = rows_at 0 places sizes in
    let p : TextPlaces = record { «module» = 0; parent = 0; base = 0; ext = 0 } in
    let d : Row = record { «module» = 0; parent = 0; base = 0; ext = 0; offset = 0; packed = 0; size = 0 } in
    let long : length rows ≡ length sizes = length_rows_at 0 places sizes c.requires.places in
    let given = c.requires.slots in
    let inside : entry < length sizes = c.loop-entry-test.true in
    let row : row_at (get_or places entry p) offset (get_or sizes entry 0) ≡ get_or rows entry d = row_there offset places sizes
    rows entry p d c.requires.places long inside at.left in
    let more : sum (drop entry sizes) ≡ get_or sizes entry 0 + sum (drop (entry + 1) sizes) = sum_by-drop_more (λ n. n) sizes entry
    0 inside in
    record {
      placed = subst (λ r. Placed slots rows c.args.count (entry + 1) (set c.loop-entry.rows.items (get_or slots entry 0) (Some r)))
          (sym row) (placed_next slots rows c.args.count entry c.loop-entry.rows.items d (given ∙ sym long) (omega arith)
          (c.requires.below entry 0 (omega arith)) c.requires.differ at.placed);
      left = rows_behind offset places sizes rows entry p d c.requires.places long inside at.left;
      contents = omega (arith, more, at.contents);
    }

pub returns : goal.returns
returns c =
    let all : c.loop-entry.entry ≡ length c.args.slots.now = omega (arith, c.requires.slots) in
    placed_all c.args.slots.now (rows_at 0 c.args.places.now c.args.sizes.now) c.args.count c.loop-entry.rows.items
    (subst (λ n. Placed c.args.slots.now (rows_at 0 c.args.places.now c.args.sizes.now) c.args.count n c.loop-entry.rows.items) all
    c.loop-entry.invariant.placed)
