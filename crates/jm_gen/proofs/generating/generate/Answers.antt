use Rattle.std.proofs.Common.{◌+◌, ◌*◌, ℕ, refl, ap, subst, ◌∙◌, arith, rules}
use Rattle.std.proofs.Math.Nat.{add-mul}
use Rattle.jm_outside.specs.Made.{MadeAll, MadePart, Writes}
use Rattle.jm_outside.proofs.MadeLaws.{made_none}
use Rattle.jm_bytes.proofs.ResultLaws.{on_err}
use Rattle.jm_gen.specs.Draws.{drawn}
use Rattle.jm_gen.specs.Generated.{module_files}
use Rattle.jm_gen.proofs.DrawLaws.{drawn-drawn, same_files}
use Rattle.jm_gen.proofs.FileLaws.{all_next, some_next}
use Rattle.jm_gen.proofs.generating.generate.Goals as goal

pub loop-number-init : goal.loop-number-init
loop-number-init g c = search (rules, made_none)

pub returns-in_err-make_module-clause-err : goal.returns-in_err-make_module-clause-err
returns-in_err-make_module-clause-err g c =
    on_err _ c.from_residual.result
    (some_next (λ k. module_files c.args.dir.now c.args.classes c.args.seed k (k * (c.args.classes + 1))) c.loop-number.number
    c.args.modules _ _ _ c.loop-number-test.true c.loop-number.invariant.files
    (subst (λ (fs : Writes). MadePart fs (g.S.Shelf.files c.loop-number.shelf) (g.S.Shelf.files c.make_module.new.shelf)) (same_files c.args.dir.now c.args.classes c.args.seed c.loop-number.number _
    c.loop-number.draws c.loop-number.invariant.draws) c.in_err-make_module.ensures.err))

pub loop-number-preserved : goal.loop-number-preserved
loop-number-preserved g c =
    let before = c.loop-number.invariant in
    let number = c.loop-number.number in
    record {
      files = all_next (λ k. module_files c.args.dir.now c.args.classes c.args.seed k (k * (c.args.classes + 1))) number _ _ _ before.files
          (subst (λ (fs : Writes). MadeAll fs (g.S.Shelf.files c.loop-number.shelf) (g.S.Shelf.files c.make_module.new.shelf)) (same_files c.args.dir.now c.args.classes c.args.seed number _ c.loop-number.draws
          before.draws) c.in_ok-make_module.ensures.ok);
      draws = c.in_ok-make_module.ensures.draws ∙ ap (λ (d : ℕ). drawn d (c.args.classes + 1)) before.draws
          ∙ drawn-drawn c.args.seed (number * (c.args.classes + 1)) (c.args.classes + 1)
          ∙ ap (drawn c.args.seed) (omega (arith, add-mul number 1 (c.args.classes + 1)));
      handed = c.make_module.ensures.handed ∙ before.handed;
      faults = c.in_ok-make_module.ensures.faults.kept refl ∙ before.faults;
    }

pub returns-clause-ok : goal.returns-clause-ok
returns-clause-ok g c = search (rules)
