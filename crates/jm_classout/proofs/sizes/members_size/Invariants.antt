use Rattle.std.proofs.Common.{◌≡◌, ◌+◌, length, drop}
use Rattle.jm_class.specs.Classes.{member_text}
use Rattle.jm_class.specs.Views.{member_of}
use Rattle.jm_classout.proofs.Loops.{texts}
use Rattle.jm_classout.proofs.sizes.members_size.Given as goal

abbrev pub invariant-loop-member : goal.invariant-loop-member
invariant-loop-member l = l.size + length (texts member_of member_text (drop l.member-index l.members))
    ≡ length (texts member_of member_text l.members)
