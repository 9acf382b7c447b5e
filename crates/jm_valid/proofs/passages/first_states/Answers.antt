use Rattle.std.proofs.Common.{◌≡◌, ◌+◌, [], ◌∷◌, ◌++◌, List, ℕ, sym, ap, ◌∙◌, arith}
use Rattle.std.specs.List.{range_with_len}
use Rattle.jm_bytes.proofs.Pairs.{range_more}
use Rattle.jm_valid.proofs.passages.first_states.Goals as goal

pub loop-state-preserved : goal.loop-state-preserved
loop-state-preserved c =
    let n = c.loop-state.state in
    let last : 0 + n ≡ n = omega arith in
    c.in_ok-push.ensures.items ∙ ap (λ (l : List ℕ). l ++ n ∷ []) c.loop-state.invariant
    ∙ sym (range_more 0 n ∙ ap (λ k. range_with_len 0 n ++ k ∷ []) last)
