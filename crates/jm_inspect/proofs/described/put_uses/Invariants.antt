use Rattle.std.proofs.Common.{Ok, flat_map, take}
use Rattle.jm_texts.specs.DescribeText.{uses_line}
use Rattle.jm_inspect.specs.Pieces.{PassesOn}
use Rattle.jm_inspect.proofs.described.put_uses.Given as goal

abbrev pub invariant-loop-service : goal.invariant-loop-service
invariant-loop-service g l =
    PassesOn g.O.Sink (flat_map uses_line (take l.service-index l.services)) (Ok tt) l.fn.pieces l.pieces
