use Rattle.std.proofs.Common.{◌≡◌, AllPairs, IfOk, List, map, subst, sym}
use Rattle.jm_reader.specs.Walk.{entries_of}
use Rattle.jm_filed.specs.declared.file_order.PlacedName.{PlacedName}
use Rattle.jm_filed.specs.FileOrder.{in_file_order, placed_among}
use Rattle.jm_filed.proofs.FileOrderLaws.{Apart, placed_differ}
use Rattle.jm_filed.proofs.file_order.names_in_file_order.Goals as goal

pub returns-clause-order : goal.returns-clause-order
returns-clause-order g c b file =
    let these = placed_among (entries_of b) in
    let is = c.in_ok-placed.ensures.placed b file in
    subst (λ (ps : List PlacedName). IfOk c.names_by_place.result (λ names. names ≡ map (λ (p : PlacedName). p.name)
    (in_file_order ps))) is
    (c.names_by_place.ensures (subst (λ (ps : List PlacedName). AllPairs Apart ps) (sym is) (placed_differ b)))
