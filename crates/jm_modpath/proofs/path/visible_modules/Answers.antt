use Rattle.std.proofs.Common.{◌∙◌, [], refl, rules}
use Rattle.jm_modpath.specs.Finding.{directories_due, shown_more}
use Rattle.jm_modpath.specs.Listed.{all_infos_size, infos_size}
use Rattle.jm_modpath.proofs.ListedLaws.{below_more, due_more, taken_more}
use Rattle.jm_modpath.proofs.PathLaws.{path_done, path_ended}
use Rattle.jm_bytes.proofs.ResultLaws.{passed_on}
use Rattle.jm_modpath.proofs.path.visible_modules.Goals as goal

pub with_directory-requires : goal.with_directory-requires
with_directory-requires g c =
    rw (c.as_slice.ensures, c.directory-item.is) (c.requires c.loop-directory.directory-index c.directory-item.result
    c.loop-directory-test.true)

pub returns-in_err-found-clause-modules : goal.returns-in_err-found-clause-modules
returns-in_err-found-clause-modules g c =
    rw (passed_on c.from_residual.result _ c.from_residual.ensures.1)
    (path_ended c.args.release _ _ c.args.directories.now c.loop-directory.directory-index c.directory-item.result
    c.as_slice.result.now c.loop-directory.found _ c.loop-directory.invariant.files c.as_slice.ensures c.loop-directory-test.true c.directory-item.is
    c.loop-directory.invariant.told c.in_err-found.ensures.told)

pub returns-clause-modules : goal.returns-clause-modules
returns-clause-modules g c = search (rules, path_done)

pub loop-directory-preserved : goal.loop-directory-preserved
loop-directory-preserved g c =
    let directories = c.args.directories.now in
    let at = c.loop-directory.directory-index in
    let release = c.args.release in
    record {
      files = c.with_directory.ensures.files ∙ c.loop-directory.invariant.files;
      faults = c.in_ok-found.ensures.faults.kept refl ∙ c.loop-directory.invariant.faults;
      whole = λ some. c.in_ok-found.ensures.whole;
      told = due_more _ _ (λ files. shown_more release files c.loop-directory.found) (directories_due release)
          (λ files. directories_due release files [] directories) c.loop-directory.found c.in_ok-found.found directories at
          c.directory-item.result c.as_slice.result.now (λ files x xs. refl) c.loop-directory.invariant.files c.as_slice.ensures
          c.loop-directory-test.true c.directory-item.is c.loop-directory.invariant.told c.in_ok-found.ensures.told;
      below = below_more directories at c.directory-item.result c.as_slice.result.now c.loop-directory.found c.in_ok-found.found
          c.loop-directory-test.true c.directory-item.is c.as_slice.ensures c.loop-directory.invariant.below c.in_ok-found.ensures.from;
      taken = taken_more _ _ infos_size (λ files. all_infos_size files directories) directories at c.directory-item.result
          c.as_slice.result.now _ _ _ c.loop-directory.invariant.files c.as_slice.ensures c.loop-directory-test.true c.directory-item.is
          c.loop-directory.invariant.taken c.with_directory.ensures.takes;
    }

pub returns-clause-below : goal.returns-clause-below
returns-clause-below g c = rw (c.in_ok-of.ensures, c.into_list.ensures.list) c.loop-directory.invariant.below
