use Rattle.std.proofs.Common.{arith, rules}
use Rattle.jm_bytes.proofs.ResultLaws.{passed_on}
use Rattle.jm_plugins.proofs.ComputedPluginsLaws.{all_acted, one_acted, one_refused}
use Rattle.jm_plugins.proofs.chain.apply_for.Goals as goal

pub loop-number-init : goal.loop-number-init
loop-number-init g c = λ result applies. applies

pub loop-number-preserved : goal.loop-number-preserved
loop-number-preserved g c = search (rules, one_acted)

pub returns-in_err-pool : goal.returns-in_err-pool
returns-in_err-pool g c =
    rw (passed_on c.from_residual.result _ c.from_residual.ensures.1)
    (one_refused c.args.release c.args.list.now c.args.pool c.loop-number.number c.loop-number.pool c.loop-number.invariant
    c.index-list-number.result c.in_err-pool.field-0.0 (omega arith) c.index-list-number.is c.in_err-pool.ensures)

pub returns : goal.returns
returns g c =
    all_acted c.args.release c.args.list.now c.args.pool c.loop-number.number c.loop-number.pool c.loop-number.invariant (omega arith)
