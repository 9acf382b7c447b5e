use Rattle.std.proofs.Common.{◌<◌, ℕ, List, subst, sym}
use Rattle.jm_form.specs.declared.container.Header.{Header}
use Rattle.jm_reader.specs.Look.{TextsEnd}
use Rattle.jm_reader.proofs.HeadLaws.{head_is}
use Rattle.jm_form.specs.declared.rows.Compression.TheVariants.{Refused}
use Rattle.jm_reader.proofs.IndexLaws.{held_sound, texts_of_valid}
use Rattle.jm_reader.proofs.entries.held.Goals as goal

pub held_by-requires-clause-ends : goal.held_by-requires-clause-ends
held_by-requires-clause-ends g c =
    subst (λ (l : List ℕ). TextsEnd l c.header.result) (sym c.buf.ensures)
    (texts_of_valid Refused c.args.image.now c.header.result c.header.ensures)

pub returns-clause-sound : goal.returns-clause-sound
returns-clause-sound g c =
    let b = c.args.image.now in
    let h = c.header.result in
    let below = subst (λ (h : Header). c.args.slot < h.length) (head_is b h c.header.ensures.header) c.requires.below in
    held_sound b h c.args.slot c.held_by.result c.header.ensures below (rw c.buf.ensures at c.held_by.ensures.row)
