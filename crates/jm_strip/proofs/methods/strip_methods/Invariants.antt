use Rattle.std.proofs.Common.{true}
use Rattle.jm_class.specs.Classes.{member_text}
use Rattle.jm_class.specs.ClassLayout.{member_field}
use Rattle.jm_class.specs.Layouts.{reading}
use Rattle.jm_strip.specs.Strip.{strip_method}
use Rattle.jm_strip.proofs.PutLists.{ArePut}
use Rattle.jm_class.specs.declared.class.ClassFault.TheVariants.{Short}
use Rattle.jm_strip.proofs.methods.strip_methods.Given as goal

abbrev pub invariant-loop-k : goal.invariant-loop-k
invariant-loop-k l =
    ArePut (reading Short (member_field l.pool true)) (λ a. member_text (strip_method l.pool a)) l.count l.initial.cursor
    l.initial.text.items l._k l.cursor l.text.items
