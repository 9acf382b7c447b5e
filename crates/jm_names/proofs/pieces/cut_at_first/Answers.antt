use Rattle.std.proofs.Common.{◌==◌, ◌+◌, ap, sym, ◌∙◌, take, drop}
use Rattle.std.proofs.lemmas.List.{drop-drop}
use Rattle.jm_names.proofs.ByteSearches.{found_nowhere, first_place}
use Rattle.jm_names.proofs.pieces.cut_at_first.Goals as goal

pub returns-in_err-at-clause-none : goal.returns-in_err-at-clause-none
returns-in_err-at-clause-none c = rw c.from_residual.ensures (found_nowhere (λ x. x == c.args.byte) c.args.text.now c.in_err-at.ensures)

pub returns-clause-before : goal.returns-clause-before
returns-clause-before c =
    let found = c.in_ok-at.ensures in
    let place = first_place (λ x. x == c.args.byte) c.args.text.now c.in_ok-at.at found.0 found.1 in
    c.split_at.ensures.front ∙ ap (λ n. take n c.args.text.now) (sym place)

pub returns-clause-after : goal.returns-clause-after
returns-clause-after c =
    let found = c.in_ok-at.ensures in
    let place = first_place (λ x. x == c.args.byte) c.args.text.now c.in_ok-at.at found.0 found.1 in
    c.split_at-2.ensures.back ∙ ap (drop 1) c.split_at.ensures.back ∙ drop-drop 1 c.in_ok-at.at c.args.text.now
    ∙ ap (λ n. drop (n + 1) c.args.text.now) (sym place)
