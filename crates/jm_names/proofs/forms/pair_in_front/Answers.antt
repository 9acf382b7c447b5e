use Rattle.std.proofs.Common.{refl, sym, ◌∙◌}
use Rattle.jm_names.proofs.UtfSteps.{utf_pair}
use Rattle.jm_names.proofs.forms.pair_in_front.Goals as goal

pub returns-then-is_surrogate-2-clause-some : goal.returns-then-is_surrogate-2-clause-some
returns-then-is_surrogate-2-clause-some c =
    let high = sym c.is_surrogate.ensures ∙ c.if-is_surrogate.true in
    let low = sym c.is_surrogate-then-is_surrogate.ensures ∙ c.if-is_surrogate-2.true in
    utf_pair c.args.bytes.now c.pair_number.result c.in-len6-up.len_at_least (rw (high, low) refl) c.pair_number.ensures
