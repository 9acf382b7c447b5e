use Rattle.std.proofs.Common.{rules}
use Rattle.jm_plugins.proofs.ComputedPluginsLaws.{makes_due}
use Rattle.jm_plugins.proofs.chain.act.Goals as goal

pub returns-in-Strip : goal.returns-in-Strip
returns-in-Strip g c = search (rules, makes_due)

pub returns-in-Compact : goal.returns-in-Compact
returns-in-Compact g c = search (rules, makes_due)

pub returns-in-Packages : goal.returns-in-Packages
returns-in-Packages g c = search (rules, makes_due)
