use Rattle.std.proofs.Common.{◌≡◌, ◌+◌, ◌∙◌, ◌∷◌, ◌++◌, [], Ok, ap, drop, refl, sym}
use Rattle.std.proofs.lemmas.List.Elements.{All-append, All-cons, All-nil}
use Rattle.std.specs.List.{sum_by}
use Rattle.jm_modpath.specs.declared.visible.VisibleModule.{VisibleModule}
use Rattle.jm_bytes.specs.Results.{followed}
use Rattle.jm_modpath.specs.Finding.{added_due, folder_due, folders_due}
use Rattle.jm_modpath.specs.Listed.{IsInside, info_size}
use Rattle.jm_modpath.proofs.ListedLaws.{due_more, taken_listed, taken_more, taken_within}
use Rattle.jm_modpath.proofs.StepLaws.{told_more}
use Rattle.jm_modpath.proofs.directory.found_among.Goals as goal

pub loop-folder-preserved : goal.loop-folder-preserved
loop-folder-preserved g c =
    let directory = c.args.listing.directory.now in
    let items = c.as_slice-folder-items.result.now in
    let release = c.args.listing.release in
    record {
      files = c.visible_module.ensures.files ∙ c.loop-folder.invariant.files;
      faults = c.in_ok-module.ensures.faults.kept refl ∙ c.loop-folder.invariant.faults;
      whole = λ before. c.in_ok-module.ensures.whole;
      told = due_more _ _ (λ files. added_due release files directory c.loop-folder.found) (λ files. folders_due release files directory)
          (λ files. folders_due release files directory [] items) c.loop-folder.found c.in_ok-found.found items
          c.loop-folder.folder-index c.folder-item.result c.as_slice.result.now (λ files x xs. refl) c.loop-folder.invariant.files
          c.as_slice.ensures c.loop-folder-test.true c.folder-item.is c.loop-folder.invariant.told
          (told_more _ (λ files. folder_due release files directory c.loop-folder.found c.as_slice.result.now ≡ Ok c.in_ok-module.module)
          (λ files. added_due release files directory c.loop-folder.found c.as_slice.result.now ≡ Ok c.in_ok-found.found)
          (λ files shown.
          ap (λ r. followed r (λ m. Ok (c.loop-folder.found ++ m ∷ []))) shown ∙ ap (λ ms. Ok ms) (sym c.in_ok-found.ensures))
          c.in_ok-module.ensures.told);
      below = rw c.in_ok-found.ensures
          (All-append (λ (m : VisibleModule). IsInside directory m.folder) c.loop-folder.found (c.in_ok-module.module ∷ [])
          c.loop-folder.invariant.below
          (All-cons (λ (m : VisibleModule). IsInside directory m.folder) c.in_ok-module.module []
          (c.as_slice.result.now, c.in_ok-module.ensures.folder) (All-nil (λ (m : VisibleModule). IsInside directory m.folder))));
      taken = taken_more _ _ (λ files. info_size files directory) (λ files. sum_by (info_size files directory) items) items
          c.loop-folder.folder-index c.folder-item.result c.as_slice.result.now _ _ _ c.loop-folder.invariant.files c.as_slice.ensures
          c.loop-folder-test.true c.folder-item.is c.loop-folder.invariant.taken c.visible_module.ensures.takes;
    }

pub returns-in_err-module-clause-takes : goal.returns-in_err-module-clause-takes
returns-in_err-module-clause-takes g c =
    let directory = c.args.listing.directory.now in
    let items = c.as_slice-folder-items.result.now in
    taken_listed _ c.args.listing.names.now items directory _ _ (c.as_slice-folder-items.ensures ∙ c.in_ok-folders.ensures.folders)
    c.requires.told
    (taken_within _ (λ files. sum_by (info_size files directory) (drop (c.loop-folder.folder-index + 1) items))
    (λ files. sum_by (info_size files directory) items) _ _
    (taken_more _ _ (λ files. info_size files directory) (λ files. sum_by (info_size files directory) items) items
    c.loop-folder.folder-index c.folder-item.result c.as_slice.result.now _ _ _ c.loop-folder.invariant.files c.as_slice.ensures
    c.loop-folder-test.true c.folder-item.is c.loop-folder.invariant.taken c.visible_module.ensures.takes))

pub returns-in_err-found-clause-takes : goal.returns-in_err-found-clause-takes
returns-in_err-found-clause-takes g c =
    let directory = c.args.listing.directory.now in
    let items = c.as_slice-folder-items.result.now in
    taken_listed _ c.args.listing.names.now items directory _ _ (c.as_slice-folder-items.ensures ∙ c.in_ok-folders.ensures.folders)
    c.requires.told
    (taken_within _ (λ files. sum_by (info_size files directory) (drop (c.loop-folder.folder-index + 1) items))
    (λ files. sum_by (info_size files directory) items) _ _
    (taken_more _ _ (λ files. info_size files directory) (λ files. sum_by (info_size files directory) items) items
    c.loop-folder.folder-index c.folder-item.result c.as_slice.result.now _ _ _ c.loop-folder.invariant.files c.as_slice.ensures
    c.loop-folder-test.true c.folder-item.is c.loop-folder.invariant.taken c.visible_module.ensures.takes))
