use Rattle.std.proofs.Common.{refl, ◌∙◌}
use Rattle.jm_class.specs.Views.{plain}
use Rattle.jm_modinfo.proofs.InfoLaws.{info_with, parts-info}
use Rattle.jm_modinfo.proofs.Stops.{answers_error}
use Rattle.jm_modinfo.proofs.describing.info.Goals as goal

pub returns-in_err-descriptor-clause-info : goal.returns-in_err-descriptor-clause-info
returns-in_err-descriptor-clause-info c =
    let texts = c.in_ok-texts.ensures in
    answers_error (λ d. d) (λ d. d) _ _ c.in_err-descriptor.field-0.0 c.from_residual-in_err-descriptor.result
    c.from_residual-in_err-descriptor.ensures.1 c.in_err-descriptor.ensures.info
    (λ fault stops. info_with (plain c.args.class.now) c.in_ok-body.body.now c.if-class-eq0.false c.if-class-lt53.false
    c.in_ok-body.ensures ∙ (let stop = rw texts at stops in rw stop refl))

pub returns-in_err-descriptor-2-clause-info : goal.returns-in_err-descriptor-2-clause-info
returns-in_err-descriptor-2-clause-info c =
    let texts = c.in_ok-texts.ensures in
    let info = rw texts at c.in_ok-descriptor.ensures.info in
    answers_error (λ main. main) (λ d. d) _ _ c.in_err-descriptor-2.field-0.0 c.from_residual-in_err-descriptor-2.result
    c.from_residual-in_err-descriptor-2.ensures.1 c.in_err-descriptor-2.ensures.main
    (λ fault stops. info_with (plain c.args.class.now) c.in_ok-body.body.now c.if-class-eq0.false c.if-class-lt53.false
    c.in_ok-body.ensures ∙ (let stop = rw (c.in_ok-descriptor.ensures.class, texts) at stops in rw (info, stop) refl))

pub returns-clause-info : goal.returns-clause-info
returns-clause-info c =
    let texts = c.in_ok-texts.ensures in
    let info = rw texts at c.in_ok-descriptor.ensures.info in
    let main = rw (c.in_ok-descriptor.ensures.class, texts) at c.in_ok-descriptor-2.ensures.main in
    info_with (plain c.args.class.now) c.in_ok-body.body.now c.if-class-eq0.false c.if-class-lt53.false c.in_ok-body.ensures
    ∙ rw (info, main) refl

pub returns-clause-says : goal.returns-clause-says
returns-clause-says c =
    let texts = c.in_ok-texts.ensures in
    let says = rw texts at c.in_ok-descriptor.ensures.says in
    let main = rw (c.in_ok-descriptor.ensures.class, texts) at c.in_ok-descriptor-2.ensures.says in
    parts-info (plain c.args.class.now) c.in_ok-descriptor.descriptor c.in_ok-descriptor-2.field-0 c.in_ok-body.body.now
    c.if-class-eq0.false c.if-class-lt53.false c.in_ok-body.ensures says main
