use Rattle.std.proofs.Common.{ap, sym, ◌∙◌}
use Rattle.std.specs.Prelude.{slice_set}
use Rattle.jm_words.specs.Drafts.{the}
use Rattle.jm_words.specs.Givens.{Given}
use Rattle.jm_words.specs.Tables.{same_field}
use Rattle.jm_words.proofs.DraftLaws.{others_left}
use Rattle.jm_words.proofs.drafts.take.Goals as goal

pub returns-then-eq-clause-others : goal.returns-then-eq-clause-others
returns-then-eq-clause-others c other differs =
    let i = c.loop-place.invariant in
    let here = ap (λ (g : Given). same_field g.field c.args.field) (sym c.given.view_is) ∙ sym c.if-eq.ensures in
    ap (λ (g : Given). the other (slice_set c.loop-place.values c.loop-place.place (record g { value = c.replace.new.dest })))
    c.given-then-eq.view_is
    ∙ others_left c.args.field c.replace.new.dest c.loop-place.values c.loop-place.place c.index-values-place-then-eq.result
    c.index-values-place.result (rw i.1 c.loop-place-test.true) here other differs
    ∙ ap (the other) i.1
