use Rattle.std.proofs.Common.{None}
use Rattle.jm_halves.specs.First.{IsFirstIn}
use Rattle.jm_halves.proofs.search.first_between.Given as goal

abbrev pub invariant-loop-i : goal.invariant-loop-i
invariant-loop-i g l = IsFirstIn (goal.F-post g l.f) l.start l.i None
