use Rattle.std.proofs.Common.{IfSome, subst}
use Rattle.jm_relink.specs.Groups.{GroupWithin}
use Rattle.jm_relink.proofs.GroupingLaws.{within_begun}
use Rattle.jm_relink.proofs.groups.group_of.Goals as goal

pub returns-clause-within : goal.returns-clause-within
returns-clause-within c size all here =
    within_begun size c.args.called.now c.args.done.now c.push_some.new.list c.described.result c.begun-2.result
    c.in_ok-push_some.ensures all (c.described.ensures.within size (subst (λ x. IfSome x (GroupWithin size)) c.in-Some.is here)) c.begun-2.ensures
