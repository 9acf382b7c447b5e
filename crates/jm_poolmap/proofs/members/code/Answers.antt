use Rattle.std.proofs.Common.{arith}
use Rattle.jm_class.specs.Classes.{utf8_at}
use Rattle.jm_class.specs.Views.{pool_of}
use Rattle.jm_poolmap.proofs.members.code.Goals as goal

pub returns-in_err-sized_instructions : goal.returns-in_err-sized_instructions
returns-in_err-sized_instructions c =
    let texts = utf8_at (pool_of c.args.class.now.pool) in
    grind (arith, c.in_err-sized_instructions.ensures texts)

pub returns-in_err-handlers : goal.returns-in_err-handlers
returns-in_err-handlers c =
    let texts = utf8_at (pool_of c.args.class.now.pool) in
    grind (arith, c.in_ok-sized_instructions.ensures texts)

pub returns-in_err-rows : goal.returns-in_err-rows
returns-in_err-rows c =
    let texts = utf8_at (pool_of c.args.class.now.pool) in
    grind (arith, c.in_ok-sized_instructions.ensures texts, c.in_err-rows.ensures texts)

pub returns : goal.returns
returns c =
    let texts = utf8_at (pool_of c.args.class.now.pool) in
    grind (arith, c.in_ok-sized_instructions.ensures texts, c.in_ok-rows.ensures texts)
