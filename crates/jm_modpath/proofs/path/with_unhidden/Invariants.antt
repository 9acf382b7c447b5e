use Rattle.std.proofs.Common.{◌≡◌, All}
use Rattle.jm_modpath.specs.Finding as finding
use Rattle.jm_modpath.specs.Finding.{HasTexts}
use Rattle.jm_modpath.proofs.path.with_unhidden.Given as goal

abbrev pub invariant-loop-module : goal.invariant-loop-module
invariant-loop-module l = record {
  can : (goal.iterator-loop-module).can_next l.module-iterator;
  ends : (goal.iterator-loop-module).is_finite l.module-iterator;
  texts : All HasTexts l.module-iterator.rest.items;
  so_far : finding.with_unhidden l.all l.module-iterator.rest.items ≡ finding.with_unhidden l.fn.found l.fn.modules;
}
