use Rattle.jm_pattern.proofs.Leading.{leads-one}
use Rattle.jm_pattern.proofs.matching.one_byte.Goals as goal

pub returns-then-takes-clause-leads : goal.returns-then-takes-clause-leads
returns-then-takes-clause-leads g c =
    leads-one c.args.left.signs.now c.args.left.name.now c.in_ok-sign.sign.now c.in_ok-sign.signs.now c.in_ok-byte.byte.now
    c.in_ok-byte.name.now c.in_ok-sign.ensures.cases.0 c.in_ok-byte.ensures.cases.0 c.requires (c.takes.ensures.0 c.if-takes.true)
