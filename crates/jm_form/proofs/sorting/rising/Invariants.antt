use Rattle.std.proofs.Common.{◌≡◌, ◌++◌}
use Rattle.jm_form.specs.Rising.{items_of}
use Rattle.jm_form.specs.Rising as form
use Rattle.jm_form.proofs.sorting.rising.Given as goal

abbrev pub invariant-loop-text : goal.invariant-loop-text
invariant-loop-text l = record {
  can : (goal.iterator-loop-text).can_next l.text-iterator;
  ends : (goal.iterator-loop-text).is_finite l.text-iterator;
  so_far : l.list ++ items_of l.text-iterator.rest.items ≡ form.rising (items_of l.fn.texts.items);
}
