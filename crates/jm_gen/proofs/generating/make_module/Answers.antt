use Rattle.std.proofs.Common.{◌+◌, ap, refl, ◌∙◌, rules}
use Rattle.jm_bytes.proofs.ResultLaws.{on_err}
use Rattle.jm_gen.specs.Draws.{draw, drawn}
use Rattle.jm_gen.specs.Generated.{class_file, info_file}
use Rattle.jm_gen.proofs.DrawLaws.{class_draw, drawn_next}
use Rattle.jm_gen.proofs.FileLaws.{made_next, part_first, part_next}
use Rattle.jm_gen.proofs.generating.make_module.Goals as goal

pub returns-in_err-make_info-clause-err : goal.returns-in_err-make_info-clause-err
returns-in_err-make_info-clause-err g c =
    on_err _ c.from_residual.result
    (part_first (info_file c.args.place.dir.now c.args.place.number (draw c.args.draws.now))
    (λ k. class_file c.args.place.dir.now c.args.place.number k (drawn c.args.draws.now (0 + 2 + k))) c.args.classes _ _
    (rw c.draw.ensures.drawn at c.in_err-make_info.ensures.err))

pub loop-class-init : goal.loop-class-init
loop-class-init g c = record {
  files = rw c.draw.ensures.drawn at c.in_ok-make_info.ensures.ok;
  draws = c.draw.ensures.next;
  handed = c.make_info.ensures.handed;
  faults = c.in_ok-make_info.ensures.faults.kept refl;
}

pub returns-in_err-make_class-clause-err : goal.returns-in_err-make_class-clause-err
returns-in_err-make_class-clause-err g c =
    on_err _ c.from_residual-in_err-make_class.result
    (part_next (info_file c.args.place.dir.now c.args.place.number (draw c.args.draws.now))
    (λ k. class_file c.args.place.dir.now c.args.place.number k (drawn c.args.draws.now (0 + 2 + k))) c.loop-class.class c.args.classes
    _ _ _ c.loop-class-test.true c.loop-class.invariant.files
    (rw (class_draw c.args.draws.now c.loop-class.class c.loop-class.draws c.draw-in-loop-class.result c.loop-class.invariant.draws
    c.draw-in-loop-class.ensures.drawn) at c.in_err-make_class.ensures.err))

pub loop-class-preserved : goal.loop-class-preserved
loop-class-preserved g c = record {
  files = made_next (info_file c.args.place.dir.now c.args.place.number (draw c.args.draws.now))
      (λ k. class_file c.args.place.dir.now c.args.place.number k (drawn c.args.draws.now (0 + 2 + k))) c.loop-class.class _ _ _
      c.loop-class.invariant.files
      (rw (class_draw c.args.draws.now c.loop-class.class c.loop-class.draws c.draw-in-loop-class.result c.loop-class.invariant.draws
      c.draw-in-loop-class.ensures.drawn) at c.in_ok-make_class.ensures.ok);
  draws = c.draw-in-loop-class.ensures.next ∙ ap draw c.loop-class.invariant.draws ∙ drawn_next c.args.draws.now (c.loop-class.class + 1);
  handed = c.make_class.ensures.handed ∙ c.loop-class.invariant.handed;
  faults = c.in_ok-make_class.ensures.faults.kept refl ∙ c.loop-class.invariant.faults;
}

pub returns-clause-ok : goal.returns-clause-ok
returns-clause-ok g c = search (rules)

pub returns-clause-draws : goal.returns-clause-draws
returns-clause-draws g c = search (rules)
