use Rattle.std.proofs.Common.{ap, sym, ◌∙◌}
use Rattle.std.specs.Prelude.{nat_lt}
use Rattle.jm_form.specs.Places.{strings}
use Rattle.jm_form.proofs.TextLaws.{text_ends-below}
use Rattle.jm_reader.specs.Look.{head}
use Rattle.jm_jrt.proofs.words.Ended.ends.Goals as goal

pub returns : goal.returns
returns c = ap (nat_lt c.args.place) c.args.self.now.cut
    ∙ sym (text_ends-below (strings c.args.self.now.index.now.bytes (head c.args.self.now.index.now.bytes)) c.args.place)
