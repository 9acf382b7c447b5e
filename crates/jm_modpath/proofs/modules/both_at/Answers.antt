use Rattle.std.proofs.Common.{rules}
use Rattle.jm_modpath.proofs.ModulesLaws.{at_both}
use Rattle.jm_modpath.proofs.modules.both_at.Goals as goal

pub returns : goal.returns
returns c = search (rules, at_both)
