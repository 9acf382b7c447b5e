use Rattle.std.proofs.lemmas.Slice.Zip.{AllZip-long}
use Rattle.jm_bytes.proofs.ResultLaws.{passed_on}
use Rattle.jm_link.proofs.ModuleParts.{modules_refused, modules_shown, no_memory, unread_infos}
use Rattle.jm_link.proofs.relinking.shown_modules.Goals as goal

pub returns-in_err-entries-clause-shows : goal.returns-in_err-entries-clause-shows
returns-in_err-entries-clause-shows g c =
    let images = c.module_entries.ensures.images in
    rw (passed_on c.from_residual.result _ c.from_residual.ensures.1)
    (no_memory c.args.image.index.now images.0 images.1 (g.S.Shelf.files c.args.shelf.now) c.args.image.path.now c.args.release
    (g.S.Shelf.handed c.args.shelf.now))

pub returns-in_err-infos-clause-shows : goal.returns-in_err-infos-clause-shows
returns-in_err-infos-clause-shows g c =
    let images = c.module_entries.ensures.images in
    let listed = c.in_ok-entries.ensures in
    rw (passed_on c.from_residual-in_err-infos.result _ c.from_residual-in_err-infos.ensures.1)
    (unread_infos c.args.image.index.now images.0 images.1 (g.S.Shelf.files c.args.shelf.now) c.args.image.path.now c.args.release
    c.in_ok-entries.entries listed.entries listed.within c.in_err-infos.field-0.0 _ _
    (rw c.as_slice.ensures at c.in_err-infos.ensures.handed))

pub modules_with-requires : goal.modules_with-requires
modules_with-requires g c =
    AllZip-long _ c.in_ok-entries.entries c.in_ok-infos.infos (rw c.as_slice.ensures at c.in_ok-infos.ensures.infos)

pub returns-in_err-modules_with-clause-shows : goal.returns-in_err-modules_with-clause-shows
returns-in_err-modules_with-clause-shows g c =
    let images = c.module_entries.ensures.images in
    let listed = c.in_ok-entries.ensures in
    rw (passed_on c.from_residual-in_err-modules_with.result _ c.from_residual-in_err-modules_with.ensures.1)
    (modules_refused c.args.image.index.now images.0 images.1 (g.S.Shelf.files c.args.shelf.now) c.args.image.path.now
    c.args.release c.in_ok-entries.entries listed.entries listed.within c.in_ok-infos.infos
    (rw c.as_slice.ensures at c.in_ok-infos.ensures.infos) _ _
    (rw c.as_slice.ensures at c.in_ok-infos.ensures.handed) c.in_err-modules_with.field-0.0 c.in_err-modules_with.ensures.modules)

pub returns-clause-shows : goal.returns-clause-shows
returns-clause-shows g c =
    let images = c.module_entries.ensures.images in
    let listed = c.in_ok-entries.ensures in
    modules_shown c.args.image.index.now images.0 images.1 (g.S.Shelf.files c.args.shelf.now) c.args.image.path.now c.args.release
    c.in_ok-entries.entries listed.entries listed.within c.in_ok-infos.infos
    (rw c.as_slice.ensures at c.in_ok-infos.ensures.infos) _ _
    (rw c.as_slice.ensures at c.in_ok-infos.ensures.handed) c.in_ok-modules_with.field-0 c.in_ok-modules_with.ensures.modules
    c.in_ok-modules_with.ensures.within
