use Rattle.std.proofs.Common.{◌∙◌, ap, arith, map, sym, subst, rules}
use Rattle.std.proofs.lemmas.List.{length-map}
use Rattle.jm_names.specs.ByName.{RisesByName}
use Rattle.jm_reader.proofs.IndexLaws.{file_begins, file_with}
use Rattle.jm_extract.specs.Extracted.{extracted}
use Rattle.jm_filed.specs.Taken.{LieWithin, taken_as}
use Rattle.jm_extract.proofs.ExtractLaws.{broken_off, free_due, out_of_memory, refused_due}
use Rattle.jm_extract.proofs.RefusalLaws.{rises_alone}
use Rattle.jm_extract.proofs.SizeLaws.{size_due}
use Rattle.jm_extract.proofs.extracting.extract.Goals as goal

pub returns-in_err-taken-clause-extracts : goal.returns-in_err-taken-clause-extracts
returns-in_err-taken-clause-extracts g c b filed =
    out_of_memory (extracted b c.args.work.include.now) c.args.work.dir.now c.from_residual.result
    (g.S.Shelf.files c.args.shelf.now) c.from_residual.ensures.1

pub refusal_of-requires : goal.refusal_of-requires
refusal_of-requires g c =
    let index = c.args.image.index.now in
    let b = file_with index.bytes index.length in
    let file = file_begins index.bytes index.length (rw c.length-length.ensures.length at c.length-length.ensures.within) in
    record {
      rises = rises_alone b c.as_slice-entries.result.now
          (subst (λ ts. RisesByName (map (taken_as b) ts)) (sym c.as_slice-entries.ensures) (c.in_ok-taken.ensures.rises b file));
    }

pub returns-in_err-refusal-clause-extracts : goal.returns-in_err-refusal-clause-extracts
returns-in_err-refusal-clause-extracts g c b filed =
    out_of_memory (extracted b c.args.work.include.now) c.args.work.dir.now c.from_residual-in_err-refusal.result
    (g.S.Shelf.files c.args.shelf.now) c.from_residual-in_err-refusal.ensures.1

pub returns-in-Some-clause-extracts : goal.returns-in-Some-clause-extracts
returns-in-Some-clause-extracts g c b filed = search (rules, refused_due)

pub make_files-requires : goal.make_files-requires
make_files-requires g c = search (rules)

pub returns-in_err-make_files-clause-extracts : goal.returns-in_err-make_files-clause-extracts
returns-in_err-make_files-clause-extracts g c b filed = search (rules, broken_off, free_due)

pub returns-in_err-make_files-clause-takes : goal.returns-in_err-make_files-clause-takes
returns-in_err-make_files-clause-takes g c b file = grind (arith, size_due)

pub returns-clause-extracts : goal.returns-clause-extracts
returns-clause-extracts g c b filed =
    let entries = c.as_slice-entries.result.now in
    let is = rw c.in_default.is at (c.in_ok-refusal.ensures.refusal b) in (
      map (taken_as b) entries,
      free_due (map (taken_as b) entries) _ (ap (map (taken_as b)) c.as_slice-entries.ensures
          ∙ c.in_ok-taken.ensures.taken b filed.0) is,
      sym (length-map entries (taken_as b)),
      c.in_ok-make_files.ensures.makes b filed.1,
    )

pub returns-clause-takes : goal.returns-clause-takes
returns-clause-takes g c b file =
    omega (
      arith,
      size_due c.args.image.index.now.length b c.as_slice-entries.result.now _ file.length_is
          (subst (LieWithin c.args.image.index.now.length) (sym c.as_slice-entries.ensures) c.in_ok-taken.ensures.within)
          (ap (map (taken_as b)) c.as_slice-entries.ensures ∙ c.in_ok-taken.ensures.taken b file)
          (rw c.in_default.is at (c.in_ok-refusal.ensures.refusal b)),
      c.in_ok-make_files.ensures.handed,
    )
