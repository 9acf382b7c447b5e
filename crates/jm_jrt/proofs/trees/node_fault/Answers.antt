use Rattle.std.proofs.Common.{◌∙◌, ap}
use Rattle.jm_jrt.specs.Stat.{form_of}
use Rattle.jm_jrt.specs.Told.{bad_word}
use Rattle.jm_jrt.proofs.FileLaws.{file_bad}
use Rattle.jm_jrt.proofs.TellsLaws.{bad_word_rule}
use Rattle.jm_jrt.proofs.trees.node_fault.Goals as goal

pub returns-clause-place : goal.returns-clause-place
returns-clause-place g c b file =
    let f = c.args.index.now.bytes in
    let content = c.args.content.now in
    c.first_bad_word.ensures.place
    ∙ ap (bad_word f content) c.form_of.ensures
    ∙ file_bad f c.args.index.now.length c.header-header.result c.header-header.ensures.front c.header-header.ensures.valid b file content
    (form_of c.args.name.now)

pub returns-clause-rule : goal.returns-clause-rule
returns-clause-rule g c b file =
    bad_word_rule b c.args.content.now (form_of c.args.name.now) c.first_bad_word.result (returns-clause-place g c b file)
