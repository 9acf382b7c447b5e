use Rattle.std.proofs.Common.{◌≡◌, ◌++◌}
use Rattle.jm_compact.specs.Steps.{by_numbers}
use Rattle.jm_compact.proofs.KeptTexts.{kept_from}
use Rattle.jm_compact.proofs.pool.put_pool.Given as goal

abbrev pub invariant-loop-place : goal.invariant-loop-place
invariant-loop-place l = l.text.items ++ kept_from (by_numbers l.numbers) l.flags l.pool l.place
    ≡ l.fn.text.items ++ kept_from (by_numbers l.numbers) l.flags l.pool 0
