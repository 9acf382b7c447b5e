use Rattle.std.proofs.Common.{ap, sym, ◌∙◌}
use Rattle.jm_names.specs.Names.{join}
use Rattle.jm_names.proofs.JoinLaws.{join-split}
use Rattle.jm_names.proofs.pieces.split.Goals as goal

pub returns-in-Some-clause-whole : goal.returns-in-Some-clause-whole
returns-in-Some-clause-whole c = ap join (c.pieces_below_module.ensures ∙ sym c.in-Some.ensures.some) ∙ join-split c.args.name.now
