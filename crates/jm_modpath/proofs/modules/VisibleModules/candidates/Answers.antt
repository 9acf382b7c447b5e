use Rattle.std.proofs.Common.{◌∙◌, ap}
use Rattle.jm_modpath.specs.Modules.{candidates}
use Rattle.jm_modpath.proofs.ModulesLaws.{candidates_again}
use Rattle.jm_modpath.proofs.modules.VisibleModules.candidates.Goals as goal

pub returns : goal.returns
returns c =
    c.as_slice.ensures ∙ candidates_again c.self.inside.candidates c.self.inside.folders c.self.invariant ∙ ap candidates c.self.view_is
