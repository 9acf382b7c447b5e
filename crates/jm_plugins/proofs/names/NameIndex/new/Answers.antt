use Rattle.std.proofs.Common.{◌≡◌, ◌∙◌, [], get_or, sym}
use Rattle.std.proofs.lemmas.List.{get_or_default}
use Rattle.jm_plugins.proofs.RankLaws.{numbered_on}
use Rattle.jm_plugins.proofs.names.NameIndex.new.Goals as goal

pub loop-number-preserved : goal.loop-number-preserved
loop-number-preserved c =
    let names = c.args.names.now in
    let below = c.loop-number-test.true in
    let name = c.in_ok-name.name in
    let here : get_or names c.loop-number.number [] ≡ name =
    get_or_default names c.loop-number.number [] c.index-names-number.result below ∙ sym c.index-names-number.is
    ∙ sym c.as_slice.ensures ∙ sym c.in_ok-name.ensures in
    rw c.in_ok-add.ensures.ok (numbered_on names c.loop-number.number c.loop-number.numbers name below here c.loop-number.invariant)
