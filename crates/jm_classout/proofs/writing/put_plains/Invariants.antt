use Rattle.std.proofs.Common.{◌≡◌, ◌++◌, drop}
use Rattle.jm_class.specs.Classes.{opaque_text}
use Rattle.jm_class.specs.Views.{opaque_of}
use Rattle.jm_classout.proofs.Loops.{texts}
use Rattle.jm_classout.proofs.writing.put_plains.Given as goal

abbrev pub invariant-loop-attribute : goal.invariant-loop-attribute
invariant-loop-attribute l = l.text.items ++ texts opaque_of opaque_text (drop l.attribute-index l.attributes)
    ≡ l.initial.text.items ++ texts opaque_of opaque_text l.attributes
