use Rattle.std.proofs.Common.{◌≡◌, ◌+◌, ◌-◌, ◌<◌, ◌++◌, ◌∷◌, [], length, min, refl, sym, ap, ◌∙◌, arith, subst}
use Rattle.std.proofs.lemmas.List.{length_push}
use Rattle.std.proofs.lemmas.List.FromFn.{length-range_with_len}
use Rattle.std.specs.List.{range_with_len}
use Rattle.jm_form.specs.declared.ranges.Range.{Range}
use Rattle.jm_form.specs.declared.rows.Row.{Row}
use Rattle.jm_form.specs.Entries.{entry_of}
use Rattle.jm_form.specs.Overlap.{range_by, ranges_by}
use Rattle.jm_form.proofs.SlotLaws.{sound_row_with}
use Rattle.jm_valid.specs.Parts.{ContentsAt, entries_at}
use Rattle.jm_valid.specs.Ranges.{ranges_with_bytes}
use Rattle.jm_valid.proofs.EntryRows.{entry_more, entry_same, length-entries_at, ranges_more, row_reached, slots_next}
use Rattle.jm_valid.proofs.entries.contents_of_slots.Goals as goal
use Rattle.jm_valid.proofs.entries.contents_of_slots.Goals.{in-Some+in_ok-add_entry, in_default}

pub loop-slot-init : goal.loop-slot-init
loop-slot-init c =
    let none : c.args.first - c.args.first ≡ 0 = omega arith in
    rw none (record { count = refl; ranges = c.new.ensures.items })

pub add_entry-requires : goal.add_entry-requires
add_entry-requires c =
    let slots = range_with_len c.args.first (c.loop-slot.slot - c.args.first) in
    let few = length-entries_at c.args.names.now.sections slots in
    let count = length-range_with_len c.args.first (c.loop-slot.slot - c.args.first) in
    record { room = omega (arith, few, count, c.loop-slot.invariant.count) }

pub overflow_add-range : goal.overflow_add-range
overflow_add-range c =
    let s = c.args.names.now.sections in
    let there = row_reached s c.loop-slot.slot c.in-Some.row (sym c.in-Some.ensures) in
    let below : c.loop-slot.slot < s.header.length = omega arith in
    let sound = sound_row_with s.compression s.bytes.now s.header s.size c.loop-slot.slot c.in-Some.row
    (c.requires c.loop-slot.slot below) there.0 in
    let same = ap (λ (r : Row). r.offset + r.size) c.judged-stored.ensures in
    let fits = sound.within in
    let size = s.size_fits in
    omega (arith, same, fits, size)

pub loop-slot-preserved : goal.loop-slot-preserved
loop-slot-preserved c =
    let s = c.args.names.now.sections in
    let i = c.loop-slot.slot in
    let slots = range_with_len c.args.first (i - c.args.first) in
    let before = entries_at s slots in
    let next = slots_next c.args.first i (omega arith) in
    elim c.match-entry_row.branch [
      | in-Some+in_ok-add_entry w ↦
          let row = w.in-Some.row in
          let e = entry_of s.bytes.now s.header i row in
          let more = ap (entries_at s) next ∙ entry_more s slots i row (sym w.in-Some.ensures) in
          let done = w.in_ok-add_entry.ensures in
          let same = w.contents-is in
          let range = ap (λ (r : Row). record { start = r.offset; slot = i; end = r.offset + r.size }) w.judged-stored.ensures in
          record {
            count = ap (λ x. x.count) same ∙ done.count ∙ ap (λ n. n + 1) c.loop-slot.invariant.count
                ∙ sym (ap length more ∙ length_push before e);
            ranges = ap (λ x. x.ranges.items) same ∙ done.ranges
                ∙ ap (λ (r : Range). c.loop-slot.contents.ranges.items ++ ranges_with_bytes (r ∷ [])) range
                ∙ ap (λ rs. rs ++ ranges_with_bytes (range_by s.compression e ∷ []))
                c.loop-slot.invariant.ranges ∙ sym (ap (λ es. ranges_with_bytes (ranges_by s.compression es)) more ∙ ranges_more s.compression before e);
          }
      | in_default w ↦
          let none = ap (entries_at s) next ∙ entry_same s slots i (sym w.in_default.ensures) in
          let same = w.contents-is in
          record {
            count = ap (λ x. x.count) same ∙ c.loop-slot.invariant.count ∙ sym (ap length none);
            ranges = ap (λ x. x.ranges.items) same ∙ c.loop-slot.invariant.ranges ∙ sym (ap (λ es. ranges_with_bytes (ranges_by s.compression es)) none);
          }
    ]

pub returns : goal.returns
returns c =
    let all = c.args.names.now.sections.header.length in
    let count : c.loop-slot.slot - c.args.first ≡ min (c.args.first + c.args.most) all - c.args.first = omega arith in
    subst (λ n. ContentsAt c.args.names.now.sections (range_with_len c.args.first n) c.loop-slot.contents) count c.loop-slot.invariant
