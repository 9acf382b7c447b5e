use Rattle.std.proofs.Common.{◌≡◌, ◌∙◌, Ok, ap, arith, length, map, string_bytes}
use Rattle.jm_bytes.proofs.ResultLaws.{passed_on}
use Rattle.jm_words.specs.Reading.{Standing}
use Rattle.jm_words.specs.Rows.{row_of}
use Rattle.jm_words.proofs.RuleLaws.{reading_ends, reading_goes, reading_stops}
use Rattle.jm_words.proofs.reading.draft_of.Goals as goal

pub returns-in_err-progress : goal.returns-in_err-progress
returns-in_err-progress c =
    rw (passed_on c.from_residual.result c.in_err-progress.field-0.0 c.from_residual.ensures.1) (reading_stops string_bytes
    c.args.verb c.args.words.now c.loop-i.i c.index-words-i.result c.as_str.result.now c.loop-i.progress
    (map row_of c.options-rows.result.now) c.loop-i-test.true c.index-words-i.is c.as_str.ensures.value c.options-rows.ensures
    c.loop-i.invariant.0 c.loop-i.invariant.1 c.in_err-progress.field-0.0 c.in_err-progress.ensures)

pub loop-i-preserved : goal.loop-i-preserved
loop-i-preserved c =
    reading_goes string_bytes c.args.verb c.args.words.now c.loop-i.i c.index-words-i.result c.as_str.result.now
    c.loop-i.progress (map row_of c.options-rows.result.now) c.loop-i-test.true c.index-words-i.is c.as_str.ensures.value
    c.options-rows.ensures c.loop-i.invariant.0 c.loop-i.invariant.1 c.in_ok-progress.progress c.in_ok-progress.ensures

pub returns : goal.returns
returns c =
    let end : c.loop-i.i ≡ length c.args.words.now = omega (arith, c.loop-i-test.false, c.loop-i.auto.i-end) in
    ap (λ (standing : Standing). Ok standing.draft) c.progress.view_is
    ∙ reading_ends string_bytes c.args.verb c.args.words.now c.loop-i.i c.loop-i.progress end c.loop-i.invariant.0 c.loop-i.invariant.1
