use Rattle.std.proofs.Common.{◌≡◌, ◌++◌, length, arith, false, rules}
use Rattle.std.proofs.lemmas.List.{length-append}
use Rattle.std.proofs.lemmas.List.Elements.{All-append}
use Rattle.jm_bytes.proofs.ResultLaws.{passed_on}
use Rattle.jm_jrt.specs.Lines.{is_newline}
use Rattle.jm_jrt.specs.Sessions.{Breaks, Refuses, moment}
use Rattle.jm_jrt.proofs.FreeLaws.{none_free}
use Rattle.jm_jrt.proofs.ServeErrors.{err_from}
use Rattle.jm_jrt.proofs.SessionSteps.{breaks_part, breaks_then, empty_part, next_breaks, next_passes, passes_nothing}
use Rattle.jm_jrt.proofs.WithinLaws.{later_then, within_later}
use Rattle.jm_jrt.proofs.session.take_piece.Goals as goal

pub loop-bytes-init : goal.loop-bytes-init
loop-bytes-init g c = search (rules, passes_nothing)

pub returns-in_err-end_line-clause-err : goal.returns-in_err-end_line-clause-err
returns-in_err-end_line-clause-err g c =
    let before = c.loop-bytes.invariant in
    let cut = c.in-Some.ensures in
    rw (passed_on c.from_residual.result c.in_err-end_line.field-0.0 c.from_residual.ensures.1)
    (next_breaks c.args.image.now _ _ c.loop-bytes.progress.part.items c.loop-bytes.rest.now c.in-Some.bytes.now c.in-Some.behind.now _
    before.goes_on before.passes cut.found cut.before cut.after c.in_err-end_line.field-0.0 _ c.in_err-end_line.ensures.err)

pub loop-bytes-preserved : goal.loop-bytes-preserved
loop-bytes-preserved g c = search (rules, empty_part, next_passes, later_then, within_later)

pub returns-clause-err : goal.returns-clause-err
returns-clause-err g c =
    let b = c.args.image.now in
    let before = c.loop-bytes.invariant in
    let part = c.loop-bytes.progress.part.items in
    let rest = c.loop-bytes.rest.now in
    let put = g.O.Sink.content c.loop-bytes.answering.out.now in
    let now = moment put c.loop-bytes.progress.lines c.loop-bytes.answering.hashes.now c.loop-bytes.answering.reads.now in
    let free = All-append (λ x. is_newline x ≡ false) part rest before.goes_on.free (none_free rest c.in_default.ensures.none) in
    err_from (λ e. Refuses e c.loop-bytes.progress.lines (length (part ++ rest))) (λ e. Breaks e b _ _ put) c.keep_part.result
    c.keep_part.ensures.err c.keep_part.ensures.begun
    (λ error refuses begun. breaks_then error b _ _ (part ++ rest) now put before.passes
    (breaks_part error b (part ++ rest) now before.goes_on.within free (omega (arith, length-append part rest)) refuses))
