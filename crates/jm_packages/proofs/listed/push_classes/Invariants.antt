use Rattle.std.proofs.Common.{◌≡◌, ◌++◌, take}
use Rattle.jm_form.specs.Rising.{items_of}
use Rattle.jm_packages.proofs.ListedLaws.{class_packages}
use Rattle.jm_packages.proofs.listed.push_classes.Given as goal

-- the packages of what was read so far were put
abbrev pub invariant-loop-class : goal.invariant-loop-class
invariant-loop-class l =
    items_of l.packages.items ≡ items_of l.fn.packages.items ++ class_packages (take l.class-index l.classes)
