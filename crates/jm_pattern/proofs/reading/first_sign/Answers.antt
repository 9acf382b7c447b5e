use Rattle.std.proofs.Common.{arith}
use Rattle.jm_pattern.proofs.FirstSign.{first-byte, first-escaped, first-one, first-star, first-two}
use Rattle.jm_pattern.proofs.reading.first_sign.Goals as goal

pub returns-in_ok-byte-in-92-clause-some : goal.returns-in_ok-byte-in-92-clause-some
returns-in_ok-byte-in-92-clause-some c = first-escaped c.args.text.now c.in_ok-first.after.now c.in_ok-byte-in-92.behind.now
    c.in_ok-first.first.now c.in_ok-byte-in-92.byte.now c.in_ok-first.ensures.cases.0 c.in-92.is c.in_ok-byte-in-92.ensures.cases.0

pub returns-in-63-clause-some : goal.returns-in-63-clause-some
returns-in-63-clause-some c = first-one c.args.text.now c.in_ok-first.after.now c.in_ok-first.first.now
    c.in_ok-first.ensures.cases.0 c.in-63.is

pub returns-in_default-clause-some : goal.returns-in_default-clause-some
returns-in_default-clause-some c =
    first-byte c.args.text.now c.in_ok-first.after.now c.in_ok-first.first.now c.in_ok-first.ensures.cases.0 (omega arith)
    (omega arith) (omega arith)

pub returns-in-Some-clause-some : goal.returns-in-Some-clause-some
returns-in-Some-clause-some c = first-two c.args.text.now c.in_ok-first.after.now c.in-Some.behind.now c.in_ok-first.first.now
    c.in_ok-first.ensures.cases.0 c.in-42.is c.in-Some.ensures.some

pub returns-in-None-clause-some : goal.returns-in-None-clause-some
returns-in-None-clause-some c = first-star c.args.text.now c.in_ok-first.after.now c.in_ok-first.first.now
    c.in_ok-first.ensures.cases.0 c.in-42.is c.in-None.ensures.none
