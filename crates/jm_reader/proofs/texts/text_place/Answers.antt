use Rattle.std.proofs.Common.{ℕ, ◌+◌, ap}
use Rattle.jm_reader.proofs.HeadLaws.{text_there}
use Rattle.jm_reader.proofs.texts.text_place.Goals as goal

pub returns-clause-ends : goal.returns-clause-ends
returns-clause-ends c = (text_there c.args.buf.now c.args.header.now c.args.place (c.strings_place.result + c.args.place)
    c.requires.read c.requires.ends (ap (λ (n : ℕ). n + c.args.place) c.strings_place.ensures)).ends

pub returns-clause-text : goal.returns-clause-text
returns-clause-text c = (text_there c.args.buf.now c.args.header.now c.args.place (c.strings_place.result + c.args.place)
    c.requires.read c.requires.ends (ap (λ (n : ℕ). n + c.args.place) c.strings_place.ensures)).text
