use Rattle.std.proofs.Common.{subst}
use Rattle.jm_form.specs.declared.rows.Compression.TheVariants.{Refused}
use Rattle.jm_reader.specs.Listing.{ToList}
use Rattle.jm_reader.specs.Look.{SoundIn}
use Rattle.jm_reader.proofs.IndexLaws.{front_texts_end, listed_sound}
use Rattle.jm_reader.proofs.listing.Listing.step.Goals as goal

pub next_listed-requires-clause-ends : goal.next_listed-requires-clause-ends
next_listed-requires-clause-ends g c =
    let inside = c.self.inside in
    let index = c.self.invariant in
    front_texts_end Refused inside.buf inside.length inside.header index.header index.valid index.within

pub returns-clause-sound : goal.returns-clause-sound
returns-clause-sound g c =
    let inside = c.self.inside in
    let entry = c.in_ok-entry.entry in
    subst (λ (v : ToList). SoundIn (record { bytes = v.bytes; length = v.length }) entry.row) c.self.view_is
    (listed_sound Refused inside.buf inside.length inside.header entry.slot entry.row c.self.invariant c.in_ok-entry.ensures.below
    c.in_ok-entry.ensures.row)
