use Rattle.std.proofs.Common.{◌≡◌, ◌+◌, length, drop}
use Rattle.jm_class.specs.Classes.{opaque_text}
use Rattle.jm_class.specs.Views.{opaque_of}
use Rattle.jm_classout.proofs.Loops.{texts}
use Rattle.jm_classout.proofs.sizes.plains_size.Given as goal

abbrev pub invariant-loop-attribute : goal.invariant-loop-attribute
invariant-loop-attribute l = l.size + length (texts opaque_of opaque_text (drop l.attribute-index l.attributes))
    ≡ length (texts opaque_of opaque_text l.attributes)
