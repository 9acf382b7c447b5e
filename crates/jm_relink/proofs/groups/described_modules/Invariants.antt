use Rattle.jm_relink.proofs.GroupingLaws.{AreGrouped}
use Rattle.jm_relink.proofs.groups.described_modules.Given as goal

abbrev pub invariant-loop-entry : goal.invariant-loop-entry
invariant-loop-entry l = record {
  can : (goal.iterator-loop-entry).can_next l.entry-iterator;
  ends : (goal.iterator-loop-entry).is_finite l.entry-iterator;
  so_far : AreGrouped l.fn.entries l.done l.current l.entry-iterator.rest.items;
}
