use Rattle.std.proofs.Common.{sym}
use Rattle.jm_closure.proofs.JudgeLaws.{least_lacked, least_lacker}
use Rattle.jm_closure.proofs.missing.lack.Goals as goal

pub returns-in_default-clause-none : goal.returns-in_default-clause-none
returns-in_default-clause-none c =
    rw (sym c.in_default.ensures) at (least_lacked c.args.found.now c.args.names.now c.args.chosen.now c.requires.names)

pub returns-in_default-least_that_requires-clause-none : goal.returns-in_default-least_that_requires-clause-none
returns-in_default-least_that_requires-clause-none c =
    let lacking = rw (sym c.in-Some.ensures) at (least_lacked c.args.found.now c.args.names.now c.args.chosen.now c.requires.names) in
    let lacker = rw (sym c.in_default-least_that_requires.ensures) at (least_lacker c.args.found.now c.args.chosen.now
    c.in-Some.name.now lacking.0.1.4) in
    absurd (lacker lacking.0.0 lacking.0.1)

pub returns-clause-name : goal.returns-clause-name
returns-clause-name c =
    rw (sym c.in-Some.ensures) at (least_lacked c.args.found.now c.args.names.now c.args.chosen.now c.requires.names)

pub returns-clause-by : goal.returns-clause-by
returns-clause-by c =
    let lacking = rw (sym c.in-Some.ensures) at (least_lacked c.args.found.now c.args.names.now c.args.chosen.now c.requires.names) in
    rw (sym c.in-Some-least_that_requires.ensures)
    at (least_lacker c.args.found.now c.args.chosen.now c.in-Some.name.now lacking.0.1.4)
