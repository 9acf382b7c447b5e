use Rattle.std.proofs.Common.{arith, length}
use Rattle.jm_inspect.proofs.FrontLaws.{takes_none}
use Rattle.jm_inspect.proofs.describe.file_bytes.Goals as goal

pub returns-in-Err-clause-takes : goal.returns-in-Err-clause-takes
returns-in-Err-clause-takes g c =
    takes_none (g.S.Shelf.files c.args.shelf.now) c.args.path.now (λ b. length b) _ _ (omega (arith, c.in-Err.ensures.handed))
