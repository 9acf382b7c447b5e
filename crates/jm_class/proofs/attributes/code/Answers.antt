use Rattle.std.proofs.Common.{sym}
use Rattle.jm_class.specs.Views.{pool_of, code_of}
use Rattle.jm_class.proofs.Stops.{gives_stop}
use Rattle.jm_class.proofs.WholeReadings.{code-stop, code-rest, code-all}
use Rattle.jm_class.proofs.attributes.code.Goals as goal

pub returns-in_err-code : goal.returns-in_err-code
returns-in_err-code c =
    let stop = code-stop (pool_of c.args.pool.now) c.args.cursor.now c.number32.new.cursor c.in_ok-inner.inner c.inner.new.cursor
    c.in_ok-size.size c.in_ok-size.ensures c.in_ok-inner.ensures in
    gives_stop code_of code_of _ _ c.in_err-code.field-0.0 c.from_residual-in_err-code.result c.code_parts.new.cursor
    c.inner.new.cursor c.from_residual-in_err-code.ensures.1 c.in_err-code.ensures
    (λ fault stops. stop fault (rw (sym c.place.ensures) stops))

pub returns-then-len-ne0 : goal.returns-then-len-ne0
returns-then-len-ne0 c =
    let rest = code-rest (pool_of c.args.pool.now) c.args.cursor.now c.number32.new.cursor c.in_ok-inner.inner c.inner.new.cursor
    c.in_ok-size.size c.in_ok-size.ensures c.in_ok-inner.ensures in
    rw c.place.ensures (rest (code_of c.in_ok-code.code) c.code_parts.new.cursor c.len.result
    (rw (sym c.place.ensures) c.in_ok-code.ensures) c.len.ensures c.if-len-ne0.true)

pub returns : goal.returns
returns c =
    let all = code-all (pool_of c.args.pool.now) c.args.cursor.now c.number32.new.cursor c.in_ok-inner.inner c.inner.new.cursor
    c.in_ok-size.size c.in_ok-size.ensures c.in_ok-inner.ensures in
    all (code_of c.in_ok-code.code) c.code_parts.new.cursor c.len.result (rw (sym c.place.ensures) c.in_ok-code.ensures)
    c.len.ensures c.if-len-ne0.false
