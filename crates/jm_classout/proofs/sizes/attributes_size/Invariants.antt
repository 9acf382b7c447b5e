use Rattle.std.proofs.Common.{◌≡◌, ◌+◌, length, drop}
use Rattle.jm_class.specs.Classes.{attribute_text}
use Rattle.jm_class.specs.Views.{attribute_of}
use Rattle.jm_classout.proofs.Loops.{texts}
use Rattle.jm_classout.proofs.sizes.attributes_size.Given as goal

abbrev pub invariant-loop-attribute : goal.invariant-loop-attribute
invariant-loop-attribute l = l.size + length (texts attribute_of attribute_text (drop l.attribute-index l.attributes))
    ≡ length (texts attribute_of attribute_text l.attributes)
