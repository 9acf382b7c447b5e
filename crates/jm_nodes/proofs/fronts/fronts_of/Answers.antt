use Rattle.std.proofs.Common.{◌∙◌, map, sym}
use Rattle.std.specs.List.{flat_map}
use Rattle.jm_form.specs.Trees.{fronts}
use Rattle.jm_form.proofs.RisingLaws.{rising_same}
use Rattle.jm_nodes.proofs.fronts.fronts_of.Goals as goal

pub returns : goal.returns
returns c =
    let same = c.in_ok-all_fronts.ensures in
    c.rising.ensures
    ∙ sym (rising_same (flat_map fronts (map (λ name. name.now) c.args.names.now))
    (map (λ front. front.now) c.in_ok-all_fronts.field-0) same.has same.only)
