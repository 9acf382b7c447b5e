use Rattle.std.proofs.Common.{arith}
use Rattle.jm_pattern.proofs.FirstItem.{goes-at_end, goes-byte, goes-escaped}
use Rattle.jm_pattern.proofs.items.next_in_item.Goals as goal

pub returns-in_default-clause-goes_on : goal.returns-in_default-clause-goes_on
returns-in_default-clause-goes_on c = goes-byte c.args.text.now c.in_ok-first.first.now c.in_ok-first.rest.now
    c.in_ok-first.ensures.cases.0 (omega arith) (omega arith)

pub returns-in-Some-clause-goes_on : goal.returns-in-Some-clause-goes_on
returns-in-Some-clause-goes_on c = goes-escaped c.args.text.now c.in_ok-first.rest.now c.in-Some.behind.now c.in_ok-first.first.now
    c.in-Some.field-0-0.now c.in_ok-first.ensures.cases.0 c.in-92.is c.in-Some.ensures.cases.0

pub returns-in-None-clause-goes_on : goal.returns-in-None-clause-goes_on
returns-in-None-clause-goes_on c = goes-at_end c.args.text.now c.in_ok-first.rest.now c.in_ok-first.first.now
    c.in_ok-first.ensures.cases.0 c.in-92.is c.in-None.ensures.cases
