use Rattle.std.proofs.Common.{arith}
use Rattle.std.specs.Fn.{FnReturnsAt}
use Rattle.std.specs.List.{AllZip}
use Rattle.jm_halves.specs.ComputedPieces.{pieces_between}
use Rattle.jm_halves.proofs.Zipped.{zip_whole}
use Rattle.jm_halves.proofs.map.map_halves.Goals as goal

pub returns : goal.returns
returns g c =
    let run = c.in-Some.run' in
    let all = c.in-Some.ensures.all in
    let zipped : AllZip (FnReturnsAt g.F.Fn c.args.f.now) (pieces_between c.args.items.now run.pieces run.from run.to)
    c.in_ok-map_run.field-0.items = c.in_ok-map_run.ensures in
    rw c.from_vec.ensures
    (zip_whole (FnReturnsAt g.F.Fn c.args.f.now) c.args.items.now run.pieces (omega arith) _ (rw (all.0, all.1) at zipped))
