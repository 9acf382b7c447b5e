use Rattle.std.proofs.Common.{length, take, refl, ap, ◌∙◌, arith, rules}
use Rattle.std.proofs.lemmas.List.{length-take}
use Rattle.jm_bytes.proofs.ResultLaws.{passed_on}
use Rattle.jm_jrt.specs.declared.serve_error.ServeError.TheVariants.{Memory}
use Rattle.jm_jrt.specs.Sessions.{moment}
use Rattle.jm_jrt.proofs.SessionEnds.{arrives_more, comes_further, serves_given, serves_nothing, serves_stopped}
use Rattle.jm_jrt.proofs.SessionEnds.{told_none, told_same, told_start}
use Rattle.jm_jrt.proofs.SessionSteps.{empty_part, passes_nothing}
use Rattle.jm_jrt.proofs.WithinLaws.{later_then}
use Rattle.jm_jrt.proofs.session.serve_ended.Goals as goal

pub returns-in_err-piece-clause-err : goal.returns-in_err-piece-clause-err
returns-in_err-piece-clause-err g c =
    rw (passed_on c.from_residual.result Memory c.from_residual.ensures.1) (serves_nothing c.args.image.now _
    (moment _ 0 c.args.answering.now.hashes.now c.args.answering.now.reads.now) _ _ refl)

pub loop-progress-init : goal.loop-progress-init
loop-progress-init g c = search (rules, told_start, empty_part, passes_nothing)

pub returns-in_err-count-clause-err : goal.returns-in_err-count-clause-err
returns-in_err-count-clause-err g c =
    rw (
      passed_on c.from_residual-in_err-count.result c.in_err-count.field-0.0 c.from_residual-in_err-count.ensures.1,
      c.in_err-count.ensures.fault,
      c.in_err-count.ensures.err,
    )
    (serves_given c.args.image.now _ _ _ _ _ _ _ c.loop-progress.invariant.arrives)

pub returns-then-count-eq0-clause-ok : goal.returns-then-count-eq0-clause-ok
returns-then-count-eq0-clause-ok g c = search (rules, told_same)

pub returns-then-count-eq0-clause-end : goal.returns-then-count-eq0-clause-end
returns-then-count-eq0-clause-end g c = search (rules, told_none)

pub loop-progress-smaller : goal.loop-progress-smaller
loop-progress-smaller g c = search (rules, length-take, comes_further)

pub loop-progress-preserved : goal.loop-progress-preserved
loop-progress-preserved g c =
    let before = c.loop-progress.invariant in
    let step = c.take_piece.ensures in
    let hashes = step.hashes in
    record {
      same = (step.same.0 ∙ before.same.0, step.same.1 ∙ before.same.1, step.same.2 ∙ before.same.2);
      metered = step.reads.bytes ∙ before.metered;
      piece = c.take.ensures.length ∙ before.piece;
      arrives = arrives_more c.args.image.now _ _ _ _ _ _ c.split_at.result.0.now (take c.in_ok-count.count c.take.new.piece.items)
          before.arrives c.in_ok-count.ensures.moved
          (c.split_at.ensures.front ∙ ap (take c.in_ok-count.count) c.as_slice.ensures.value) _ _ c.in_ok-take_piece.ensures.passes
          c.in_ok-take_piece.ensures.open_new;
      input_faults = c.in_ok-count.ensures.faults.kept refl ∙ before.input_faults;
      out_faults = c.in_ok-take_piece.ensures.faults.kept refl ∙ before.out_faults;
      hashes = omega arith;
      reads = later_then _ _ _ before.reads step.reads;
    }

pub returns-in_err-take_piece-clause-err : goal.returns-in_err-take_piece-clause-err
returns-in_err-take_piece-clause-err g c =
    let count = c.in_ok-count.count in
    let front = c.split_at.ensures.front ∙ ap (take count) c.as_slice.ensures.value in
    let size = ap length front in
    let len = length-take count c.take.new.piece.items in
    rw (passed_on c.from_residual-in_err-take_piece.result c.in_err-take_piece.field-0.0 c.from_residual-in_err-take_piece.ensures.1)
    (serves_stopped c.args.image.now _ _ _ _ _ _ c.split_at.result.0.now (take count c.take.new.piece.items)
    c.loop-progress.invariant.arrives c.in_ok-count.ensures.moved front _ _ _ _ refl (omega arith) c.in_err-take_piece.ensures.err)
