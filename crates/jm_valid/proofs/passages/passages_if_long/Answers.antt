use Rattle.std.proofs.Common.{◌≡◌, ◌+◌, ◌-◌, ◌*◌, ◌/◌, ◌∷◌, ◌++◌, [], List, ℕ, length, get_or, map, ap, ap₂, ◌∙◌, sym, arith}
use Rattle.std.proofs.lemmas.List.FromFn.{get_or-map-range_with_len, length-map-range_with_len, map-range_with_len_more}
use Rattle.std.specs.List.{range_with_len}
use Rattle.jm_valid.specs.Passages.{nth_passage, passage_of}
use Rattle.jm_form.specs.Texts.{text_at}
use Rattle.jm_valid.proofs.PassageLaws.{passage_behind, passages_are}
use Rattle.jm_valid.proofs.passages.passages_if_long.Goals as goal

pub loop-nth-init : goal.loop-nth-init
loop-nth-init c =
    let texts = c.args.texts.now in
    let last = length texts / 512 in
    let first = passage_behind texts (last + 2 - 1 - 0) (omega arith) in
    c.in_ok-push.ensures.ok ∙ ap (λ l. l ++ c.from_vec.result ∷ []) c.new-passages.ensures ∙ ap (λ p. p ∷ []) (c.from_vec.ensures
    ∙ c.in_ok-first_states.ensures ∙ sym first)

pub bounds-as_slice-nth : goal.bounds-as_slice-nth
bounds-as_slice-nth c =
    let texts = c.args.texts.now in
    let last = length texts / 512 in
    let size = ap (λ (l : List (List ℕ)). length l) (c.as_slice.ensures ∙ c.loop-nth.invariant)
    ∙ length-map-range_with_len (λ k. nth_passage texts (last + 2 - 1 - k)) 0 (c.loop-nth.nth + 1) in
    omega (arith, size)

pub passage_at-requires-clause-behind : goal.passage_at-requires-clause-behind
passage_at-requires-clause-behind c =
    let texts = c.args.texts.now in
    let last = length texts / 512 in
    let i = c.loop-nth.nth in
    let read = get_or-map-range_with_len (λ k. nth_passage texts (last + 2 - 1 - k)) 0 (i + 1) i i c.index-as_slice-nth.result
    (omega arith) (omega arith) in
    let place : (last + 2 - 1 - i) * 512 ≡ (last - i) * 512 + 512 = omega arith in
    c.as_slice-behind.ensures ∙ c.index-as_slice-nth.is ∙ ap (λ (l : List (List ℕ)). get_or l i c.index-as_slice-nth.result)
    (c.as_slice.ensures ∙ c.loop-nth.invariant) ∙ read ∙ ap (λ p. passage_of (text_at texts p)) place

pub loop-nth-preserved : goal.loop-nth-preserved
loop-nth-preserved c =
    let texts = c.args.texts.now in
    let last = length texts / 512 in
    let i = c.loop-nth.nth in
    let more = map-range_with_len_more (λ k. nth_passage texts (last + 2 - 1 - k)) 0 (i + 1) (i + 1) (omega arith) in
    let place : last - i ≡ last + 2 - 1 - (i + 1) = omega arith in
    c.in_ok-push-2.ensures.ok ∙ ap₂ (λ (l : List (List ℕ)) p. l ++ p ∷ []) c.loop-nth.invariant (c.in_ok-passage.ensures
    ∙ ap (nth_passage texts) place) ∙ sym more

pub returns-clause-passages : goal.returns-clause-passages
returns-clause-passages c =
    let texts = c.args.texts.now in
    let last = length texts / 512 in
    let end : c.loop-nth.nth + 1 ≡ last + 2 = omega arith in
    passages_are texts c.loop-nth.passages (last + 2) (c.loop-nth.invariant ∙ ap (λ n. map (λ k. nth_passage texts (last + 2 - 1 - k))
    (range_with_len 0 n)) end)
