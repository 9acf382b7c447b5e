use Rattle.std.proofs.Common.{◌++◌, ap, arith, ◌∙◌}
use Rattle.std.proofs.lemmas.List.{take_all}
use Rattle.jm_form.specs.Rising.{items_of}
use Rattle.jm_packages.proofs.ListedLaws.{grown_by, opened_packages, opened_join}
use Rattle.jm_packages.proofs.listed.push_opened.Goals as goal

pub loop-one-preserved : goal.loop-one-preserved
loop-one-preserved c =
    grown_by opened_packages opened_join c.args.opened.now c.loop-one.one-index c.one-item.result (items_of c.args.packages.now.items)
    (items_of c.loop-one.packages.items) (items_of c.push_package.new.packages.items) c.loop-one-test.true c.one-item.is
    c.loop-one.invariant (rw c.as_slice.ensures at c.in_ok-push_package.ensures)

pub returns : goal.returns
returns c =
    c.loop-one.invariant ∙ ap (λ xs. items_of c.args.packages.now.items ++ opened_packages xs)
    (take_all c.loop-one.one-index c.args.opened.now (omega arith))
