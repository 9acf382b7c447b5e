use Rattle.std.proofs.Common.{rules}
use Rattle.jm_modpath.proofs.FoundLaws.{names_differ}
use Rattle.jm_modpath.proofs.found.FoundModules.into_list.Goals as goal

pub returns-clause-are : goal.returns-clause-are
returns-clause-are c = search (rules, names_differ)
