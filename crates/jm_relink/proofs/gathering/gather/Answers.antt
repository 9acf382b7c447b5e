use Rattle.std.proofs.Common.{◌≢◌, AllPairs, List, ℕ, ap, subst, sym}
use Rattle.jm_pool.specs.Pairs.{names_of}
use Rattle.jm_relink.proofs.GatherLaws.{gathered_apart}
use Rattle.jm_relink.proofs.gathering.gather.Goals as goal

pub pooled-requires-clause-differ : goal.pooled-requires-clause-differ
pooled-requires-clause-differ g c =
    let b = c.args.image.now in
    let chosen = c.in_ok-files.ensures.chooses b c.requires.stand.infos in
    subst (AllPairs (λ (n m : List ℕ). n ≢ m)) (sym (ap names_of chosen.1))
    (gathered_apart b c.args.modules.now c.args.chosen.now c.requires.modules c.requires.places)
