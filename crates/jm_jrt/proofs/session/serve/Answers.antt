use Rattle.std.proofs.Common.{◌≡◌, refl, rules, sym, ap, ◌∙◌}
use Rattle.jm_bytes.proofs.ResultLaws.{passed_on}
use Rattle.jm_jrt.proofs.FreeLaws.{no_bytes, some_bytes}
use Rattle.jm_jrt.proofs.ServeErrors.{serves_lent}
use Rattle.jm_jrt.proofs.SessionEnds.{serves_all, serves_last, serves_not_last}
use Rattle.jm_jrt.proofs.session.serve.Goals as goal

pub returns-in_err-progress-clause-serves : goal.returns-in_err-progress-clause-serves
returns-in_err-progress-clause-serves g c = search (rules, passed_on, serves_lent)

pub returns-then-is_empty-clause-serves : goal.returns-then-is_empty-clause-serves
returns-then-is_empty-clause-serves g c =
    let same_out : c.serve_ended.new.answering.out.now ≡ c.out-then-is_empty-1.given.0 = search rules in
    let same_reads : c.serve_ended.new.answering.reads.now ≡ c.reads-then-is_empty-1.given.0 = search rules in
    serves_lent _ _ _ _ _ _ _ _ _ _ (ap g.O.Sink.content same_out) same_reads
    (serves_all c.args.image.now _ _ _ _ _ refl c.in_ok-progress.ensures.ok c.in_ok-progress.ensures.end
    (sym c.as_slice-last.ensures.value ∙ no_bytes c.as_slice-last.result.now (sym c.is_empty.ensures ∙ c.if-is_empty.true)))

pub returns-in_err-put_reply-clause-serves : goal.returns-in_err-put_reply-clause-serves
returns-in_err-put_reply-clause-serves g c =
    let same_out : c.put_reply.new.answering.out.now ≡ c.out-2-1.given.0 = search rules in
    let same_reads : c.put_reply.new.answering.reads.now ≡ c.reads-2-1.given.0 = search rules in
    let last = c.as_slice-last.ensures.value in
    serves_lent _ _ _ _ _ _ _ _ _ _ (ap g.O.Sink.content same_out) same_reads
    (rw (passed_on c.from_residual-in_err-put_reply.result c.in_err-put_reply.field-0.0 c.from_residual-in_err-put_reply.ensures.1)
    (serves_not_last c.in_err-put_reply.field-0.0 c.args.image.now _ _ _ _ _ _ _ _ refl c.in_ok-progress.ensures.ok
    c.in_ok-progress.ensures.end (rw last at (some_bytes c.as_slice-last.result.now (sym c.is_empty.ensures ∙ c.if-is_empty.false)))
    (rw last at c.in_err-put_reply.ensures.err)))

pub returns-clause-serves : goal.returns-clause-serves
returns-clause-serves g c =
    let same_out : c.put_reply.new.answering.out.now ≡ c.out-2-1.given.0 = search rules in
    let same_reads : c.put_reply.new.answering.reads.now ≡ c.reads-2-1.given.0 = search rules in
    let last = c.as_slice-last.ensures.value in
    serves_lent _ _ _ _ _ _ _ _ _ _ (ap g.O.Sink.content same_out) same_reads
    (serves_last c.args.image.now _ _ _ _ _ _ _ refl c.in_ok-progress.ensures.ok c.in_ok-progress.ensures.end
    (rw last at (some_bytes c.as_slice-last.result.now (sym c.is_empty.ensures ∙ c.if-is_empty.false)))
    (rw last at c.in_ok-put_reply.ensures.ok) (rw last at c.put_reply.ensures.reads))
