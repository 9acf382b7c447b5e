use Rattle.std.proofs.Common.{◌∙◌, arith, map, refl, sym, rules}
use Rattle.std.proofs.lemmas.List.{drop_all, take_all}
use Rattle.jm_outside.proofs.MadeLaws.{made_none, part_of_none}
use Rattle.jm_extract.specs.Extracted.{writes_of}
use Rattle.jm_filed.specs.Taken.{taken_as}
use Rattle.jm_extract.proofs.ExtractLaws.{made_next, part_next}
use Rattle.jm_extract.proofs.FiledLaws.{drop_less, has_content, kept_of, makes_all, makes_part, sizes_parted, unkept_next}
use Rattle.jm_extract.proofs.extracting.make_files.Goals as goal

pub returns-in_err-contents-clause-makes : goal.returns-in_err-contents-clause-makes
returns-in_err-contents-clause-makes g c b at = search (rules, part_of_none, makes_part)

pub loop-place-init : goal.loop-place-init
loop-place-init g c = search (rules, drop_all, made_none)

pub returns-in_err-make_entry-clause-makes : goal.returns-in_err-make_entry-clause-makes
returns-in_err-make_entry-clause-makes g c b at =
    let ts = c.args.entries.now in
    let is = sym c.index-entries-place.is in
    let same = sym c.as_slice-kept.ensures in
    let made = c.loop-place.invariant.made b at in
    makes_part _ c.from_residual-in_err-make_entry.result (writes_of c.args.dir.now (map (taken_as b) ts)) _ _
    c.from_residual-in_err-make_entry.ensures.1
    (part_next b c.args.dir.now ts c.loop-place.place _ _ _ _ c.loop-place-test.true is made (c.in_err-make_entry.ensures.makes b
    (has_content _ _ c.args.path.now c.args.dir.now b ts c.as_slice-kept.result.now c.loop-place.place _ _ c.loop-place-test.true is at
    (rw same at (c.in_ok-contents.ensures.contents b at)) (rw same at c.in_ok-contents.ensures.enough) made
    (kept_of _ _ c.get.result c.get.ensures.lookup))))

pub returns-in_err-make_entry-clause-handed : goal.returns-in_err-make_entry-clause-handed
returns-in_err-make_entry-clause-handed g c = search (rules, drop_less, sizes_parted, unkept_next)

pub loop-place-preserved : goal.loop-place-preserved
loop-place-preserved g c =
    let ts = c.args.entries.now in
    let is = sym c.index-entries-place.is in
    let same = sym c.as_slice-kept.ensures in
    let before = c.loop-place.invariant in
    record {
      made = λ b at. made_next b c.args.dir.now ts c.loop-place.place _ _ _ _ c.loop-place-test.true is (before.made b at)
          (c.in_ok-make_entry.ensures.makes b (has_content _ _ c.args.path.now c.args.dir.now b ts c.as_slice-kept.result.now
          c.loop-place.place _ _ c.loop-place-test.true is at (rw same at (c.in_ok-contents.ensures.contents b at))
          (rw same at c.in_ok-contents.ensures.enough) (before.made b at) (kept_of _ _ c.get.result c.get.ensures.lookup)));
      count = c.in_ok-make_entry.ensures.faults.kept refl ∙ before.count;
      handed = omega (
        arith,
        unkept_next ts c.as_slice-kept.result.now c.loop-place.place _ c.get.result c.loop-place-test.true is
            c.get.ensures.lookup,
        before.handed,
        c.in_ok-make_entry.ensures.handed,
      );
    }

pub returns-clause-makes : goal.returns-clause-makes
returns-clause-makes g c b at = search (rules, take_all, makes_all)

pub returns-clause-handed : goal.returns-clause-handed
returns-clause-handed g c = search (rules, drop_less, sizes_parted)
