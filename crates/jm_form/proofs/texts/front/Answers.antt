use Rattle.std.proofs.Common.{◌==◌, ap, sym, ◌∙◌, take}
use Rattle.jm_names.proofs.ByteSearches.{found_nowhere, first_place}
use Rattle.jm_form.proofs.texts.front.Goals as goal

pub returns-in_err-len-clause-ends : goal.returns-in_err-len-clause-ends
returns-in_err-len-clause-ends c = rw c.from_residual.ensures (sym (found_nowhere (λ x. x == 0) c.args.bytes.now c.in_err-len.ensures))

pub returns-clause-text : goal.returns-clause-text
returns-clause-text c =
    let found = c.in_ok-len.ensures in
    let place = first_place (λ x. x == 0) c.args.bytes.now c.in_ok-len.len found.0 found.1 in
    c.split_at.ensures.front ∙ ap (λ n. take n c.args.bytes.now) (sym place)
