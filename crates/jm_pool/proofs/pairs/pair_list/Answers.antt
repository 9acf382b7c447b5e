use Rattle.std.proofs.Common.{◌∙◌}
use Rattle.indexmap.proofs.CallerLemmas.{Drains-YieldsInOrder}
use Rattle.jm_pool.proofs.PairLaws.{shown-apart}
use Rattle.jm_pool.proofs.pairs.pair_list.Goals as goal

pub returns : goal.returns
returns c =
    let ran = c.in_ok-from_iter.ensures.ran in
    let drained = ran.3 in
    let end = drained.2 tt in
    let all = ran.4.0 ∙ Drains-YieldsInOrder _ _ ran.0 ran.1 ran.2.2 (end.0, (drained.0, drained.1, end.1)) ∙ ran.2.0 in
    record { pairs = all; differ = rw all (shown-apart (λ k. k.items) (λ v. v.items) c.args.pairs.entries ran.2.4) }
