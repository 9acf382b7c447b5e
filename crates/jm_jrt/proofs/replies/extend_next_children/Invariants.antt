use Rattle.std.proofs.Common.{◌≡◌, ◌++◌}
use Rattle.jm_reader.specs.Walk.{IsLater}
use Rattle.jm_jrt.specs.Reply.{held_lines}
use Rattle.jm_jrt.specs.Views.{count_of}
use Rattle.jm_jrt.proofs.replies.extend_next_children.Given as goal

abbrev pub invariant-loop-alloc : goal.invariant-loop-alloc
invariant-loop-alloc g l = record {
  bytes : l.list.bytes ≡ l.fn.list.bytes;
  metered : l.reads.bytes ≡ l.list.bytes;
  reads : IsLater l.fn.reads l.reads;
  lines : l.text.items ++ held_lines l.fn.path l.list.rest ≡ l.fn.text.items ++ held_lines l.fn.path l.fn.list.rest;
}

abbrev pub decreases-loop-alloc : goal.decreases-loop-alloc
decreases-loop-alloc g l = count_of l.list.rest
