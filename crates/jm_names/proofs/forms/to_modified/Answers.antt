use Rattle.std.proofs.Common.{rules, ◌≡◌, sym, ap, ◌∙◌, subst}
use Rattle.jm_names.specs.UtfForms.{four_bytes, pair_bytes, modified, utf, Rewritten}
use Rattle.jm_names.proofs.UtfLaws.{utf-modified}
use Rattle.jm_names.proofs.UtfRule.{modified-rule}
use Rattle.jm_names.proofs.forms.to_modified.Goals as goal

pub returns-clause-read_back : goal.returns-clause-read_back
returns-clause-read_back c = λ is.
    let made : c.loop-first.name ≡ modified c.args.text.now = search rules in
    ap utf made ∙ utf-modified c.args.text.now is

pub returns-clause-rule : goal.returns-clause-rule
returns-clause-rule c =
    let made : c.loop-first.name ≡ modified c.args.text.now = search rules in
    subst (Rewritten four_bytes pair_bytes c.args.text.now) (sym made) (modified-rule c.args.text.now)
