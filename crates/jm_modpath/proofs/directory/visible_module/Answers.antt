use Rattle.std.proofs.Common.{◌≡◌, ◌∙◌, ◌≢◌, true, false, AllPairs, Err, List, Ok, ℕ, ap, rules, subst, sym}
use Rattle.jm_bytes.proofs.ResultLaws.{passed_on}
use Rattle.jm_modpath.specs.Finding.{folder_due, names_within}
use Rattle.jm_modpath.specs.Modules.{is_named, module_with}
use Rattle.jm_modpath.proofs.FolderLaws.{within_apart}
use Rattle.jm_modpath.proofs.StepLaws.{folder_ended, folder_shown, out_of_memory, shown_new, shown_twice}
use Rattle.jm_modpath.proofs.TextCuts.{inside_is_text, listed_is_text}
use Rattle.jm_modpath.proofs.directory.visible_module.Goals as goal

pub read_info-requires : goal.read_info-requires
read_info-requires g c =
    rw (c.as_slice.ensures, c.in_ok-path.ensures) (inside_is_text c.args.listing.directory.now c.args.folder.now c.requires.directory
    (listed_is_text c.args.listing.names.now c.args.folder.now c.requires.texts c.requires.listed))

pub names_within-requires-clause-folder : goal.names_within-requires-clause-folder
names_within-requires-clause-folder g c =
    listed_is_text c.args.listing.names.now c.args.folder.now c.requires.texts c.requires.listed

pub returns-in_err-info-clause-told : goal.returns-in_err-info-clause-told
returns-in_err-info-clause-told g c =
    rw (passed_on c.from_residual-in_err-info.result _ c.from_residual-in_err-info.ensures.1)
    (folder_ended c.args.listing.release _ c.args.listing.directory.now c.args.folder.now c.as_slice.result.now
    c.args.listing.names.now c.args.earlier.now _ (c.as_slice.ensures ∙ c.in_ok-path.ensures) c.requires.listed c.requires.told
    c.in_err-info.ensures.told)

pub returns-then-has-clause-told : goal.returns-then-has-clause-told
returns-then-has-clause-told g c =
    let directory = c.args.listing.directory.now in
    let names = c.args.listing.names.now in
    let again : is_named c.args.earlier.now c.in_ok-info.info.descriptor.name ≡ true = search rules in
    folder_shown c.args.listing.release _ directory c.args.folder.now c.in_ok-path.path names c.args.earlier.now c.in_ok-info.info
    (Err c.two_modules.result) c.in_ok-path.ensures c.requires.told (rw c.as_slice.ensures at c.in_ok-info.ensures.told)
    (shown_twice directory c.args.earlier.now c.in_ok-path.path c.in_ok-info.info (names_within c.args.folder.now names)
    (Err c.two_modules.result) c.as_slice-name.result.now again c.as_slice-name.ensures c.two_modules.ensures.due)

pub returns-in_err-files-clause-told : goal.returns-in_err-files-clause-told
returns-in_err-files-clause-told g c =
    rw (passed_on c.from_residual-in_err-files.result _ c.from_residual-in_err-files.ensures.1) (out_of_memory _ (λ files.
    folder_due c.args.listing.release files c.args.listing.directory.now c.args.earlier.now c.args.folder.now))

pub returns-clause-told : goal.returns-clause-told
returns-clause-told g c =
    let directory = c.args.listing.directory.now in
    let names = c.args.listing.names.now in
    let new : is_named c.args.earlier.now c.in_ok-info.info.descriptor.name ≡ false = search rules in
    folder_shown c.args.listing.release _ directory c.args.folder.now c.in_ok-path.path names c.args.earlier.now c.in_ok-info.info
    (Ok c.in_ok-module_with.field-0) c.in_ok-path.ensures c.requires.told (rw c.as_slice.ensures at c.in_ok-info.ensures.told)
    (shown_new directory c.args.earlier.now c.in_ok-path.path c.in_ok-info.info (names_within c.args.folder.now names)
    c.in_ok-module_with.field-0 new
    (c.in_ok-module_with.ensures ∙ ap (module_with c.in_ok-path.path c.in_ok-info.info.descriptor c.in_ok-info.info.bytes)
    c.in_ok-files.ensures.names))

pub returns-clause-texts : goal.returns-clause-texts
returns-clause-texts g c =
    let names = c.args.listing.names.now in
    let text = listed_is_text names c.args.folder.now c.requires.texts c.requires.listed in
    let apart = subst (AllPairs (λ (path other : List ℕ). path ≢ other)) (sym c.in_ok-files.ensures.names)
    (within_apart c.args.folder.now names c.requires.rising) in
    rw c.in_ok-module_with.ensures (record {
      folder = rw c.in_ok-path.ensures (inside_is_text c.args.listing.directory.now c.args.folder.now c.requires.directory text);
      files = c.in_ok-files.ensures.texts;
      differ = apart;
      legal = c.in_ok-info.ensures.legal;
      said = c.in_ok-info.ensures.said;
    })

pub returns-then-has-clause-takes : goal.returns-then-has-clause-takes
returns-then-has-clause-takes g c = rw (c.as_slice.ensures, c.in_ok-path.ensures) at c.read_info.ensures.takes

pub returns-in_err-files-clause-takes : goal.returns-in_err-files-clause-takes
returns-in_err-files-clause-takes g c = rw (c.as_slice.ensures, c.in_ok-path.ensures) at c.read_info.ensures.takes

pub returns-in_err-module_with-clause-takes : goal.returns-in_err-module_with-clause-takes
returns-in_err-module_with-clause-takes g c = rw (c.as_slice.ensures, c.in_ok-path.ensures) at c.read_info.ensures.takes

pub returns-clause-takes : goal.returns-clause-takes
returns-clause-takes g c = rw (c.as_slice.ensures, c.in_ok-path.ensures) at c.read_info.ensures.takes
