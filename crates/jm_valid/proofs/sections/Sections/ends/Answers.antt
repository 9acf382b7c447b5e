use Rattle.std.proofs.Common.{ℕ, List, length, sym, ap, ◌∙◌}
use Rattle.std.proofs.lemmas.List.{length-take-le}
use Rattle.std.specs.Prelude.{nat_lt}
use Rattle.jm_form.specs.Places.{strings}
use Rattle.jm_form.specs.Texts.{ended_length}
use Rattle.jm_form.proofs.TextLaws.{ended_length-le, text_ends-below}
use Rattle.jm_valid.proofs.sections.Sections.ends.Goals as goal

pub returns : goal.returns
returns c =
    let section : List ℕ = strings c.args.self.now.bytes.now c.args.self.now.header in
    let size = ap length c.args.self.now.texts_cut ∙ length-take-le (ended_length section) section (ended_length-le section) in
    ap (nat_lt c.args.place) size ∙ sym (text_ends-below section c.args.place)
