use Rattle.std.proofs.Common.{◌≡◌, ◌++◌, drop}
use Rattle.jm_class.specs.Classes.{u2}
use Rattle.jm_classout.proofs.Loops.{texts}
use Rattle.jm_classout.proofs.writing.put_interfaces.Given as goal

abbrev pub invariant-loop-interface : goal.invariant-loop-interface
invariant-loop-interface l = l.text.items ++ texts (λ n. n) u2 (drop l.interface-index l.interfaces) ≡ l.initial.text.items
    ++ texts (λ n. n) u2 l.interfaces
