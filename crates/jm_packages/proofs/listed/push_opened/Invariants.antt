use Rattle.std.proofs.Common.{◌≡◌, ◌++◌, take}
use Rattle.jm_form.specs.Rising.{items_of}
use Rattle.jm_packages.proofs.ListedLaws.{opened_packages}
use Rattle.jm_packages.proofs.listed.push_opened.Given as goal

-- the packages of what was read so far were put
abbrev pub invariant-loop-one : goal.invariant-loop-one
invariant-loop-one l =
    items_of l.packages.items ≡ items_of l.fn.packages.items ++ opened_packages (take l.one-index l.opened)
