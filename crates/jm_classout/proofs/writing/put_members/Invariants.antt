use Rattle.std.proofs.Common.{◌≡◌, ◌++◌, drop}
use Rattle.jm_class.specs.Classes.{member_text}
use Rattle.jm_class.specs.Views.{member_of}
use Rattle.jm_classout.proofs.Loops.{texts}
use Rattle.jm_classout.proofs.writing.put_members.Given as goal

abbrev pub invariant-loop-member : goal.invariant-loop-member
invariant-loop-member l = l.text.items ++ texts member_of member_text (drop l.member-index l.members) ≡ l.initial.text.items
    ++ texts member_of member_text l.members
