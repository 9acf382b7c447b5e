use Rattle.std.proofs.Common.{◌≡◌, IfOk, IsPermutation, List, map, of_calls, rules, subst}
use Rattle.jm_filed.specs.declared.file_order.PlacedName.{PlacedName}
use Rattle.jm_filed.proofs.FileOrderLaws.{names_sorted, sort_orders}
use Rattle.jm_filed.proofs.file_order.names_by_place.Goals as goal

pub returns : goal.returns
returns c differ =
    let sorted = c.sort_unstable_by.new.self.items in
    let moved : IsPermutation c.args.placed sorted = subst (λ (ps : List PlacedName). IsPermutation ps sorted)
    c.into_vec-sorted.ensures c.sort_unstable_by.ensures.permutation in
    let up = sort_orders sorted c.sort_unstable_by.ensures.sorted (λ a r q k. search (rules, of_calls)) in
    subst (λ (ps : List PlacedName). IfOk c.names_alone.result (λ names. names ≡ map (λ (p : PlacedName). p.name) ps))
    (names_sorted c.args.placed sorted differ moved up) c.names_alone.ensures
