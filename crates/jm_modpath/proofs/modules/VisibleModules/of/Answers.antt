use Rattle.jm_modpath.proofs.ModulesLaws.{modules_again}
use Rattle.jm_modpath.proofs.modules.VisibleModules.of.Goals as goal

pub returns : goal.returns
returns c = rw (c.in_ok-candidates.ensures.candidates, c.in_ok-candidates.ensures.folders) (modules_again c.args.modules)
