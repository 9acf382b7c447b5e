use Rattle.std.proofs.Common.{◌∙◌, sym}
use Rattle.jm_inspect.proofs.NodeLaws.{no_modules, no_packages, on_found, roots_there}
use Rattle.jm_inspect.proofs.nodes.judge.Goals as goal

pub returns-in-Some-clause-judged : goal.returns-in-Some-clause-judged
returns-in-Some-clause-judged g c =
    no_modules _ c.args.image.now.path c.args.image.now.front c.requires c.in-Some.given
    (λ b file. sym c.in-Some.is ∙ c.in_ok-given.ensures.found b file)

pub returns-in-Some-2-clause-judged : goal.returns-in-Some-2-clause-judged
returns-in-Some-2-clause-judged g c =
    no_packages _ c.args.image.now.path c.args.image.now.front c.requires
    (λ b file. sym c.in_default.is ∙ c.in_ok-given.ensures.found b file) c.in-Some-2.given
    (λ b file. sym c.in-Some-2.is ∙ c.in_ok-given-2.ensures.found b file)

pub returns-clause-judged : goal.returns-clause-judged
returns-clause-judged g c =
    on_found _ _ c.judge_image.result
    (roots_there _ c.args.image.now.path c.args.image.now.front c.requires
    (λ b file. sym c.in_default.is ∙ c.in_ok-given.ensures.found b file)
    (λ b file. sym c.in_default-2.is ∙ c.in_ok-given-2.ensures.found b file))
    c.judge_image.ensures.judged
