use Rattle.std.proofs.Common.{Ok, flat_map, take}
use Rattle.jm_texts.specs.DescribeText.{opened_line}
use Rattle.jm_inspect.specs.Pieces.{PassesOn}
use Rattle.jm_inspect.proofs.described.put_packages.Given as goal

abbrev pub invariant-loop-opened : goal.invariant-loop-opened
invariant-loop-opened g l =
    PassesOn g.O.Sink (flat_map (opened_line l.word) (take l.opened-index l.packages)) (Ok tt) l.fn.pieces l.pieces
