use Rattle.std.proofs.Common.{◌∙◌}
use Rattle.jm_nodes.proofs.NameLaws.{called_at}
use Rattle.jm_nodes.proofs.packages.package_table.Goals as goal

pub package_child-requires-clause-called : goal.package_child-requires-clause-called
package_child-requires-clause-called c =
    c.as_slice.ensures ∙ c.index-called-place.is
    ∙ called_at c.args.folders.now c.args.called.now c.loop-place.place _ c.index-called-place.result c.loop-place-test.true
    c.requires.called
