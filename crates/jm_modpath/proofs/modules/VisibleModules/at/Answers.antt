use Rattle.std.proofs.Common.{rules}
use Rattle.jm_modpath.proofs.ModulesLaws.{as_long}
use Rattle.jm_modpath.proofs.modules.VisibleModules.at.Goals as goal

pub both_at-requires-clause-long : goal.both_at-requires-clause-long
both_at-requires-clause-long c = rw (c.as_slice.ensures, c.as_slice-2.ensures) c.self.invariant

pub both_at-requires-clause-inside : goal.both_at-requires-clause-inside
both_at-requires-clause-inside c = search (rules, as_long)

pub returns : goal.returns
returns c = rw (← c.self.view_is) (rw (c.as_slice.ensures, c.as_slice-2.ensures) at c.both_at.ensures)
