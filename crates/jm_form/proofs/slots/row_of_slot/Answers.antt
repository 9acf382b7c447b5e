use Rattle.std.proofs.Common.{◌≡◌, ℕ, ap, ◌∙◌}
use Rattle.jm_bytes.specs.Word.{word}
use Rattle.jm_form.specs.Entries.{row_at_place}
use Rattle.jm_form.specs.Places.{offset_word}
use Rattle.jm_form.proofs.slots.row_of_slot.Goals as goal

pub returns-clause-row : goal.returns-clause-row
returns-clause-row g c =
    let b = c.args.buf.now in
    let h = c.args.header.now in
    let offset : c.word-offset.result ≡ offset_word b h c.args.slot = c.word-offset.ensures.word ∙ ap (λ (n : ℕ). word h.order b n)
    c.offset_place.ensures in
    c.row_at_place.ensures.row ∙ ap (row_at_place b h) offset
