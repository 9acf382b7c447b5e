use Rattle.std.proofs.Common.{◌≡◌, ◌++◌, take}
use Rattle.jm_form.specs.Rising.{items_of}
use Rattle.jm_packages.proofs.ListedLaws.{provider_packages}
use Rattle.jm_packages.proofs.listed.push_providers.Given as goal

-- the packages of what was read so far were put
abbrev pub invariant-loop-service : goal.invariant-loop-service
invariant-loop-service l =
    items_of l.packages.items ≡ items_of l.fn.packages.items ++ provider_packages (take l.service-index l.provides)
