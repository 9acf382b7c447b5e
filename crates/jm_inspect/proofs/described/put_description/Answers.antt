use Rattle.std.proofs.Common.{rules}
use Rattle.jm_bytes.proofs.ResultLaws.{passed_on}
use Rattle.jm_inspect.proofs.PieceLaws.{broken, last_put, puts_so}
use Rattle.jm_inspect.proofs.described.put_description.Goals as goal

pub returns-in_err-put_lines : goal.returns-in_err-put_lines
returns-in_err-put_lines g c =
    rw (passed_on c.from_residual.result c.in_err-put_lines.field-0.0 c.from_residual.ensures.1)
    (puts_so (broken c.new-held.ensures.items c.in_err-put_lines.ensures) (search rules))

pub returns : goal.returns
returns g c = puts_so (last_put c.new-held.ensures.items c.in_ok-put_lines.ensures c.put_held.ensures.puts) (search rules)
