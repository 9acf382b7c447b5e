use Rattle.std.proofs.Common.{◌≡◌, drop, map}
use Rattle.jm_texts.specs.NameRefusals as names
use Rattle.jm_texts.proofs.name_refusals.first_bad_name.Given as goal

abbrev pub invariant-loop-item : goal.invariant-loop-item
invariant-loop-item g l =
    names.first_bad_name (map g.T.HasName.pair (drop l.item-index l.items)) ≡ names.first_bad_name (map g.T.HasName.pair l.items)
