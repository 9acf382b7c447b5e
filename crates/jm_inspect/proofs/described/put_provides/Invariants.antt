use Rattle.std.proofs.Common.{Ok, flat_map, take}
use Rattle.jm_texts.specs.DescribeText.{provides_line}
use Rattle.jm_inspect.specs.Pieces.{PassesOn}
use Rattle.jm_inspect.proofs.described.put_provides.Given as goal

abbrev pub invariant-loop-provided : goal.invariant-loop-provided
invariant-loop-provided g l =
    PassesOn g.O.Sink (flat_map provides_line (take l.provided-index l.provides)) (Ok tt) l.fn.pieces l.pieces
