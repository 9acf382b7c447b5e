use Rattle.std.proofs.Common.{true}
use Rattle.jm_class.specs.Classes.{attribute_text}
use Rattle.jm_class.specs.ClassLayout.{attribute_field}
use Rattle.jm_class.specs.Layouts.{reading}
use Rattle.jm_strip.specs.Strip.{strip_attribute}
use Rattle.jm_strip.proofs.PutLists.{ArePut}
use Rattle.jm_class.specs.declared.class.ClassFault.TheVariants.{Short}
use Rattle.jm_strip.proofs.methods.strip_attributes.Given as goal

abbrev pub invariant-loop-k : goal.invariant-loop-k
invariant-loop-k l =
    ArePut (reading Short (attribute_field l.pool true)) (λ a. attribute_text (strip_attribute l.pool a)) l.count l.initial.cursor
    l.initial.text.items l._k l.cursor l.text.items
