use Rattle.std.proofs.Common.{arith}
use Rattle.jm_nodes.proofs.FrontLaws.{before_known}
use Rattle.jm_nodes.proofs.fronts.known_len.Goals as goal

pub returns-clause-known : goal.returns-clause-known
returns-clause-known c =
    before_known c.args.names.now c.args.place c.shared_len.result _ (omega (arith, c.if-place-eq0.false)) c.requires
    c.shared_len.ensures.text c.shared_len.ensures.other c.shared_len.ensures.same
