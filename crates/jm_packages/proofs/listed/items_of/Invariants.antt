use Rattle.std.proofs.Common.{◌≡◌, take}
use Rattle.jm_form.specs.Rising.{items_of}
use Rattle.jm_packages.proofs.listed.items_of.Given as goal

-- what was read so far stands there
abbrev pub invariant-loop-text : goal.invariant-loop-text
invariant-loop-text l = items_of l.items.items ≡ take l.text-index l.texts
