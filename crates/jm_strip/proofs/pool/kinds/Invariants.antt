use Rattle.std.proofs.Common.{◌≡◌, false, ◌-◌, ◌++◌, map}
use Rattle.jm_class.specs.ClassLayout.{slots}
use Rattle.jm_class.specs.Layouts.{reading}
use Rattle.jm_strip.specs.Kinds.{kind_of}
use Rattle.jm_strip.specs.Walks.{shown}
use Rattle.jm_class.specs.declared.class.ClassFault.TheVariants.{Short}
use Rattle.jm_strip.proofs.pool.kinds.Given as goal

abbrev pub invariant-loop-k : goal.invariant-loop-k
invariant-loop-k l = shown (map kind_of) (reading Short (slots l.fn.count false) l.fn.cursor) ≡ shown (λ xs. l.kinds.items ++ map kind_of xs)
    (reading Short (slots (l.count - l.k) l.due) l.cursor)
