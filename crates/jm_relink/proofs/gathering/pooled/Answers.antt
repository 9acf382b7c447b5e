use Rattle.std.proofs.Common.{◌++◌, ap, length, sym, ◌∙◌, arith}
use Rattle.jm_filed.specs.Filed.{IsWithin}
use Rattle.jm_reader.proofs.WalkLaws.{later_further}
use Rattle.jm_relink.specs.declared.choosing.ChosenFile.{ChosenFile}
use Rattle.jm_relink.specs.Choosing.{IsDescribedIn}
use Rattle.jm_relink.proofs.ListLaws.{of_next, taken_more}
use Rattle.jm_relink.proofs.PooledLaws.{name_is_new, pooled_more}
use Rattle.jm_relink.proofs.gathering.pooled.Goals as goal

pub put_file-requires : goal.put_file-requires
put_file-requires g c =
    let before = c.loop-file in
    let b = c.args.image.now in
    let file = c.in-Some.file in
    let rest = c.next.new.self.rest.items in
    let whole = ap (λ fs. before.yielded ++ fs) (sym c.in-Some.ensures.steps.0) ∙ before.invariant.all in
    record {
      new = name_is_new b c.args.files before.yielded file rest before.pool c.requires.differ whole before.invariant.pool;
      described = of_next (IsDescribedIn b) before.yielded rest c.args.files file c.requires.described whole;
      within = of_next (λ (f : ChosenFile). IsWithin (length b) f.content) before.yielded rest c.args.files file
          c.requires.within whole;
      metered = before.invariant.metered;
    }

pub loop-file-preserved : goal.loop-file-preserved
loop-file-preserved g c = grind (arith, later_further, taken_more, pooled_more)
