use Rattle.std.proofs.Common.{◌≡◌, ◌++◌}
use Rattle.jm_reader.specs.Walk.{IsLater}
use Rattle.jm_jrt.specs.Reply.{held_lines}
use Rattle.jm_jrt.specs.Views.{count_of}
use Rattle.jm_jrt.proofs.replies.extend_children.Given as goal

abbrev pub invariant-loop-child : goal.invariant-loop-child
invariant-loop-child g l = record {
  bytes : l.reads.bytes ≡ l.list.bytes;
  reads : IsLater l.fn.reads l.reads;
  lines : l.text.items ++ held_lines l.fn.path l.list.rest ≡ l.fn.text.items ++ held_lines l.fn.path l.fn.list.rest;
}

abbrev pub decreases-loop-child : goal.decreases-loop-child
decreases-loop-child g l = count_of l.list.rest
