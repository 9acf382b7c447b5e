use Rattle.std.proofs.Common.{Ok, flat_map, take}
use Rattle.jm_texts.specs.DescribeText.{need_line}
use Rattle.jm_inspect.specs.Pieces.{PassesOn}
use Rattle.jm_inspect.proofs.described.put_needs.Given as goal

abbrev pub invariant-loop-need : goal.invariant-loop-need
invariant-loop-need g l =
    PassesOn g.O.Sink (flat_map need_line (take l.need-index l.needs)) (Ok tt) l.fn.pieces l.pieces
