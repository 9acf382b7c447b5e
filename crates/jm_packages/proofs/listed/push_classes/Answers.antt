use Rattle.std.proofs.Common.{◌++◌, ap, arith, ◌∙◌}
use Rattle.std.proofs.lemmas.List.{take_all}
use Rattle.jm_form.specs.Rising.{items_of}
use Rattle.jm_packages.proofs.ListedLaws.{grown_by, class_packages, classes_join}
use Rattle.jm_packages.proofs.listed.push_classes.Goals as goal

pub loop-class-preserved : goal.loop-class-preserved
loop-class-preserved c =
    grown_by class_packages classes_join c.args.classes.now c.loop-class.class-index c.class-item.result (items_of c.args.packages.now.items)
    (items_of c.loop-class.packages.items) (items_of c.push_package.new.packages.items) c.loop-class-test.true c.class-item.is
    c.loop-class.invariant (rw (c.package_of.ensures, c.as_slice.ensures) at c.in_ok-push_package.ensures)

pub returns : goal.returns
returns c =
    c.loop-class.invariant ∙ ap (λ xs. items_of c.args.packages.now.items ++ class_packages xs)
    (take_all c.loop-class.class-index c.args.classes.now (omega arith))
