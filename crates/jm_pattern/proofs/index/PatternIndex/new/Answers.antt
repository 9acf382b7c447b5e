use Rattle.std.proofs.Common.{◌≡◌, ◌∙◌, [], get_or, sym, ap}
use Rattle.std.proofs.lemmas.List.{get_or_default}
use Rattle.jm_pattern.specs.Indexing.{literal}
use Rattle.jm_pattern.proofs.IndexLaws.{literal_more, other_more}
use Rattle.jm_pattern.proofs.index.PatternIndex.new.Goals as goal
use Rattle.jm_pattern.proofs.index.PatternIndex.new.Goals.{in-Some+in_ok-add-in-Some, in-None+in_ok-push-in-None}

pub loop-number-preserved : goal.loop-number-preserved
loop-number-preserved c =
    let patterns = c.args.patterns.now in
    let below = c.loop-number-test.true in
    let pattern = c.index-patterns-number.result in
    let here : get_or patterns c.loop-number.number [] ≡ pattern =
    get_or_default patterns c.loop-number.number [] pattern below ∙ sym c.index-patterns-number.is in
    let given = c.in_ok-text.ensures ∙ ap literal c.signs.ensures in
    elim c.match-branch-2.branch [
      | in-Some+in_ok-add-in-Some w ↦ rw (w.literals-is, w.others-is, w.in_ok-add-in-Some.ensures.ok) (literal_more patterns
          c.loop-number.number c.loop-number.literals c.loop-number.others below c.loop-number.invariant pattern w.in-Some.text here
          (sym w.in-Some.is ∙ given))
      | in-None+in_ok-push-in-None w ↦ rw (w.literals-is, w.others-is, w.in_ok-push-in-None.ensures.ok) (other_more patterns
          c.loop-number.number c.loop-number.literals c.loop-number.others below c.loop-number.invariant pattern here
          (sym w.in-None.is ∙ given))
    ]
