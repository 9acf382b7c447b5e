use Rattle.std.proofs.Common.{arith}
use Rattle.jm_halves.proofs.Borders.{piece_start-mono}
use Rattle.jm_halves.proofs.run.Run.bounds.Goals as goal

pub returns-clause-order : goal.returns-clause-order
returns-clause-order c =
    let run = c.args.self in
    let order = piece_start-mono c.args.places run.pieces run.from run.to (omega arith) (omega arith) in
    omega arith
