use Rattle.std.proofs.Common.{◌≡◌, ◌∙◌, ◌+◌, ◌∷◌, [], ℕ, List, Option, ap, arith, length, refl, subst, sym}
use Rattle.std.proofs.lemmas.List.{length-append}
use Rattle.jm_outside.specs.Files.{Files}
use Rattle.jm_outside.specs.Outcome.{Shows}
use Rattle.jm_filed.specs.Filed.{IsAt}
use Rattle.jm_filed.specs.Taken.{content_in}
use Rattle.jm_extract.proofs.FiledLaws.{contents_next, size_within, sizes_next}
use Rattle.jm_extract.proofs.contents.all_contents.Goals as goal

pub returns-in_err-read_extent-clause-handed : goal.returns-in_err-read_extent-clause-handed
returns-in_err-read_extent-clause-handed g c =
    omega (
      arith,
      size_within c.args.entries.now c.loop-entry.entry-index c.entry-item.result c.loop-entry-test.true (sym c.entry-item.is),
      c.loop-entry.invariant.handed,
      c.in_err-read_extent.ensures.handed,
    )

pub returns-in_err-push-clause-handed : goal.returns-in_err-push-clause-handed
returns-in_err-push-clause-handed g c =
    omega (
      arith,
      size_within c.args.entries.now c.loop-entry.entry-index c.entry-item.result c.loop-entry-test.true (sym c.entry-item.is),
      c.loop-entry.invariant.handed,
      c.in_ok-read_extent.ensures.handed,
    )

pub loop-entry-preserved : goal.loop-entry-preserved
loop-entry-preserved g c =
    let before = c.loop-entry.invariant in
    let read = c.in_ok-read_extent.ensures in
    let ts = c.args.entries.now in
    let i = c.loop-entry.entry-index in
    let t = c.entry-item.result in
    let told = g.S.Shelf.files c.args.shelf.now in
    let next = sizes_next ts i t c.loop-entry-test.true (sym c.entry-item.is) in
    record {
      files = read.files ∙ before.files;
      count = read.faults.kept refl ∙ before.count;
      size = ap (λ (us : List (List ℕ)). length us) c.in_ok-push.ensures.ok ∙ length-append c.loop-entry.texts (c.read_extent.new.text ∷ [])
          ∙ ap (λ n. n + 1) before.size;
      contents = λ b at. contents_next told b ts i t c.loop-entry.texts c.push.new.self c.read_extent.new.text c.loop-entry-test.true
          (sym c.entry-item.is) before.size (before.contents b at) (subst (λ (o : Option Files). Shows o (λ (files : Files).
          c.read_extent.new.text ≡ content_in b t)) before.files
          (read.content b (subst (λ (o : Option Files). IsAt o c.args.path.now b) (sym before.files) at))) c.in_ok-push.ensures.ok;
      handed = omega (arith, next, before.handed, read.handed);
    }
