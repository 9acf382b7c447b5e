use Rattle.std.proofs.Common.{◌≡◌, [], Ok, length}
use Rattle.jm_jrt.specs.Reply.{held_lines}
use Rattle.jm_inspect.specs.Pieces.{Passing}
use Rattle.jm_inspect.specs.World.{sink_at}
use Rattle.jm_inspect.proofs.PieceLaws.{bare}
use Rattle.jm_inspect.proofs.ls.put_children.Given as goal

abbrev pub invariant-loop-text : goal.invariant-loop-text
invariant-loop-text g l = record {
  bytes : l.reads.bytes ≡ l.list.bytes;
  empty : l.text.items ≡ [];
  left : Passing (held_lines l.path l.fn.list.rest) (Ok tt) (bare [] (sink_at g.O.Sink l.fn.out))
      (bare (held_lines l.path l.list.rest) (sink_at g.O.Sink l.out));
}

abbrev pub decreases-loop-text : goal.decreases-loop-text
decreases-loop-text g l = length (held_lines l.path l.list.rest)
