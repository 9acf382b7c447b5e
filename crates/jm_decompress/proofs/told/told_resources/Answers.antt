use Rattle.std.proofs.Common.{◌≡◌, ◌∙◌, AllPairs, IsPermutation, List, ap, map, subst, sym}
use Rattle.std.proofs.lemmas.List.Sorted.{All-permutation}
use Rattle.jm_filed.specs.declared.file_order.PlacedName.{PlacedName}
use Rattle.jm_filed.specs.FileOrder.{in_file_order, placed_among}
use Rattle.jm_filed.proofs.FileOrderLaws.{Apart, placed_differ}
use Rattle.jm_reader.specs.Walk.{entries_of}
use Rattle.jm_decompress.specs.declared.resources.StoredResource.{StoredResource}
use Rattle.jm_decompress.specs.Steps.{LiesIn, placed_of}
use Rattle.jm_decompress.proofs.ResourceLaws.{placed_are}
use Rattle.jm_decompress.proofs.told.told_resources.Goals as goal

pub returns-clause-named : goal.returns-clause-named
returns-clause-named g c b file =
    let sorted = c.sorted_by_name.ensures in
    record {
      moved = subst (λ (rs : List StoredResource). IsPermutation rs c.sorted_by_name.result)
          (c.in_ok-by_slot.ensures.told b file) sorted.moved;
      sorted = sorted.sorted;
    }

pub returns-clause-order : goal.returns-clause-order
returns-clause-order g c b file =
    let is : c.in_ok-placed.placed ≡ placed_among (entries_of b) = c.in_ok-placed.ensures
    ∙ ap (map placed_of) (c.as_slice.ensures ∙ c.in_ok-by_slot.ensures.told b file) ∙ placed_are b in
    c.in_ok-order.ensures (subst (λ (ps : List PlacedName). AllPairs Apart ps) (sym is) (placed_differ b))
    ∙ ap (λ ps. map (λ (p : PlacedName). p.name) (in_file_order ps)) is

pub returns-clause-lie : goal.returns-clause-lie
returns-clause-lie g c =
    All-permutation (LiesIn c.args.index.now) c.in_ok-by_slot.by_slot c.sorted_by_name.result
    c.sorted_by_name.ensures.moved c.in_ok-by_slot.ensures.lie
