use Rattle.std.proofs.Common.{rules, sym, arith}
use Rattle.std.proofs.lemmas.List.Sorted.{IsNonDecreasingBy-from_sort_by_key, answers_always}
use Rattle.jm_plugins.proofs.TurnLaws.{of_number}
use Rattle.jm_plugins.proofs.order.by_rank.Goals as goal

pub returns : goal.returns
returns c =
    let sorted = c.sort_by_key.new.self.items in
    let rises = IsNonDecreasingBy-from_sort_by_key (λ turn. turn.rank) sorted (c.in_ok-sort_by_key.ensures.sorted)
    (λ a r q k. search rules) in
    let stable = c.sort_by_key.ensures.stable (λ turn. turn.rank) (answers_always _ _ _ (λ f a r g h. search rules)) in
    record {
      same = rw (sym c.into_vec-sorted.ensures) c.sort_by_key.ensures.permutation;
      rises = λ i j d before below. rises i j d (omega arith) below;
      stays = λ number. rw (sym c.into_vec-sorted.ensures) (of_number c.into_vec-sorted.result.items sorted number stable);
    }
