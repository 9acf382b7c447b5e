use Rattle.std.proofs.Common.{Ok, flat_map, take}
use Rattle.jm_inspect.specs.ListText.{sized_as, sized_line}
use Rattle.jm_inspect.specs.Pieces.{PassesOn}
use Rattle.jm_inspect.proofs.listing.put_lines.Given as goal

abbrev pub invariant-loop-entry : goal.invariant-loop-entry
invariant-loop-entry g l =
    PassesOn g.O.Sink (flat_map (λ t. sized_line (sized_as t)) (take l.entry-index l.entries)) (Ok tt) l.fn.pieces l.pieces
