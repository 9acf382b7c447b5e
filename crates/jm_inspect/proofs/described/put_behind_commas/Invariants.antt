use Rattle.std.proofs.Common.{Ok, flat_map, take}
use Rattle.jm_texts.specs.DescribeText.{behind_comma}
use Rattle.jm_inspect.specs.Pieces.{PassesOn}
use Rattle.jm_inspect.proofs.described.put_behind_commas.Given as goal

abbrev pub invariant-loop-name : goal.invariant-loop-name
invariant-loop-name g l =
    PassesOn g.O.Sink (flat_map behind_comma (take l.name-index l.names)) (Ok tt) l.fn.pieces l.pieces
