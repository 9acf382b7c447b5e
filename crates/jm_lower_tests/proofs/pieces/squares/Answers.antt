use Rattle.std.proofs.Common.{◌*◌, rules, of_calls}
use Rattle.jm_halves.proofs.Zipped.{zipped_map_ok}
use Rattle.jm_lower_tests.proofs.pieces.squares.Goals as goal

pub returns : goal.returns
returns g c =
    zipped_map_ok _ _ (λ n. n * n) c.args.numbers.now c.map_halves.result (λ x b says. search (rules, of_calls)) c.map_halves.ensures
