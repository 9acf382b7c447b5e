use Rattle.std.proofs.Common.{rules}
use Rattle.jm_bytes.proofs.ResultLaws.{on_err, on_ok}
use Rattle.jm_outside.proofs.HoldsLaws.{part_of_whole}
use Rattle.jm_link.proofs.image.write_whole.Goals as goal

pub returns-clause-ok : goal.returns-clause-ok
returns-clause-ok g c = search (rules, on_ok)

pub returns-clause-err : goal.returns-clause-err
returns-clause-err g c = search (rules, on_err, part_of_whole)
