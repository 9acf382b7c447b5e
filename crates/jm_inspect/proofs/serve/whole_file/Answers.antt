use Rattle.std.proofs.Common.{arith, length}
use Rattle.jm_inspect.proofs.FrontLaws.{takes_none, takes_there}
use Rattle.jm_inspect.proofs.serve.whole_file.Goals as goal

pub returns-in_err-length-clause-takes : goal.returns-in_err-length-clause-takes
returns-in_err-length-clause-takes g c =
    takes_none (g.S.Shelf.files c.args.shelf.now) c.args.path.now (λ b. length b) _ _ c.file_length.ensures.handed

pub returns-clause-takes : goal.returns-clause-takes
returns-clause-takes g c =
    let first = c.file_length.ensures.handed in
    let rest = c.file_part.ensures.handed in
    takes_there (g.S.Shelf.files c.args.shelf.now) c.args.path.now (λ b. length b) c.in_ok-length.length _ _ c.in_ok-length.ensures.reads
    (λ b is. omega (arith, first, rest, is))
