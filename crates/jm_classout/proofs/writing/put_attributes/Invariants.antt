use Rattle.std.proofs.Common.{◌≡◌, ◌++◌, drop}
use Rattle.jm_class.specs.Classes.{attribute_text}
use Rattle.jm_class.specs.Views.{attribute_of}
use Rattle.jm_classout.proofs.Loops.{texts}
use Rattle.jm_classout.proofs.writing.put_attributes.Given as goal

abbrev pub invariant-loop-attribute : goal.invariant-loop-attribute
invariant-loop-attribute l = l.text.items ++ texts attribute_of attribute_text (drop l.attribute-index l.attributes)
    ≡ l.initial.text.items ++ texts attribute_of attribute_text l.attributes
