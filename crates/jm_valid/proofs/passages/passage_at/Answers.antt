use Rattle.std.proofs.Common.{◌≡◌, ◌<◌, ◌+◌, ◌++◌, List, ℕ, drop, length, take, min, ap, ap₂, ◌∙◌, sym, map}
use Rattle.std.proofs.Math.Seq.{take-append_seam}
use Rattle.std.proofs.lemmas.List.Elements.{All-drop, All-from_get_or}
use Rattle.std.proofs.lemmas.List.FromFn.{length-range_with_len}
use Rattle.jm_names.specs.Hash.{state_after}
use Rattle.jm_form.specs.Texts.{text_at}
use Rattle.jm_valid.specs.Passages.{passage_of}
use Rattle.jm_valid.proofs.PassageLaws.{length_passage, stretch_cut}
use Rattle.jm_valid.proofs.passages.passage_at.Goals as goal

pub returns : goal.returns
returns c =
    let texts = c.args.texts.now in
    let place = c.args.place in
    let rest = drop (place + 512) texts in
    let bytes = All-drop (λ b. b < 256) (place + 512) texts (All-from_get_or (λ b. b < 256) texts 0
    (λ k below. (c.type_inv.texts k).fits)) in
    let behind = c.split_at.ensures.back in
    let front : c.split_at-2.result.0.now ≡ take (min 512 (length (drop place texts))) (drop place texts) =
    c.split_at-2.ensures.front ∙ ap₂ (λ n l. take n l) (c.min.ensures ∙ ap (λ (l : List ℕ). min 512 (length l)) behind) behind in
    let whole : c.split_at-2.result.0.now ++ rest ≡ drop place texts = ap (λ (l : List ℕ). l ++ rest) front
    ∙ stretch_cut texts place 512 in
    let done : c.pass_stretch.new.states ≡ passage_of (text_at texts place) =
    c.pass_stretch.ensures rest bytes c.requires.behind ∙ ap₂ (λ t l. map (λ s. state_after s (text_at t 0)) l) whole
    (c.as_mut_slice.ensures.value ∙ c.in_ok-states.ensures) in
    let size = ap length done ∙ length_passage (text_at texts place) in
    let room : c.in_ok-states.states.len ≡ length c.pass_stretch.new.states =
    sym c.as_mut_slice.ensures.len ∙ ap length (c.as_mut_slice.ensures.value ∙ c.in_ok-states.ensures) ∙ length-range_with_len 0 257
    ∙ sym size in
    c.from_vec.ensures ∙ ap (λ n. take n (c.pass_stretch.new.states ++ drop (length c.pass_stretch.new.states)
    c.in_ok-states.states.items)) room ∙ take-append_seam c.pass_stretch.new.states (drop (length c.pass_stretch.new.states)
    c.in_ok-states.states.items) ∙ done
