use Rattle.std.proofs.Common.{rules, ◌≡◌, sym, ap, ◌∙◌, subst}
use Rattle.jm_names.specs.UtfForms.{four_bytes, pair_bytes, modified, utf, Rewritten}
use Rattle.jm_names.proofs.UtfLaws.{modified-utf}
use Rattle.jm_names.proofs.UtfRule.{utf-rule}
use Rattle.jm_names.proofs.forms.to_utf8.Goals as goal

pub returns-clause-read_back : goal.returns-clause-read_back
returns-clause-read_back c = λ is.
    let made : c.loop-first.text ≡ utf c.args.name.now = search rules in
    ap modified made ∙ modified-utf c.args.name.now is

pub returns-clause-rule : goal.returns-clause-rule
returns-clause-rule c =
    let made : c.loop-first.text ≡ utf c.args.name.now = search rules in
    subst (Rewritten pair_bytes four_bytes c.args.name.now) (sym made) (utf-rule c.args.name.now)
