use Rattle.std.proofs.Common.{Err, ap, refl}
use Rattle.jm_bytes.proofs.ResultLaws.{passed_on}
use Rattle.jm_outside.specs.Shelves.{shelf_at}
use Rattle.jm_link.specs.declared.linking.LinkStop.{LinkStop}
use Rattle.jm_link.specs.Links.{request_of}
use Rattle.jm_link.proofs.FiledLinkLaws.{are_modules, lacks_unshown, modules_linked, reads_sooner, unshown}
use Rattle.jm_link.proofs.relinking.link_image.Goals as goal

pub returns-in_err-modules-clause-links : goal.returns-in_err-modules-clause-links
returns-in_err-modules-clause-links g c =
    let shown = c.in_err-modules.ensures in
    rw (passed_on c.from_residual.result _ c.from_residual.ensures.1)
    (unshown _ c.args.task.now.directories (request_of c.args.task.now) _ c.args.task.now.output
    (shelf_at g.S.Shelf c.args.shelf.now) c.requires.there _ _ c.in_err-modules.field-0.0
    (shelf_at g.S.Shelf c.shown_modules.new.shelf) shown.shows shown.files
    (λ is. shown.faults.rose (ap (λ (e : LinkStop). Err e) is)))

pub returns-in_err-modules-clause-lacks : goal.returns-in_err-modules-clause-lacks
returns-in_err-modules-clause-lacks g c =
    let shown = c.in_err-modules.ensures in
    rw (passed_on c.from_residual.result _ c.from_residual.ensures.1)
    (lacks_unshown _ c.args.task.now.directories (request_of c.args.task.now) _ c.args.task.now.output
    (shelf_at g.S.Shelf c.args.shelf.now) c.requires.there _ _ c.in_err-modules.field-0.0 shown.shows)

pub link_modules-requires-clause-image : goal.link_modules-requires-clause-image
link_modules-requires-clause-image g c κs within =
    are_modules _ c.args.task.now.directories (request_of c.args.task.now) _ c.args.task.now.output
    (shelf_at g.S.Shelf c.args.shelf.now) c.requires.there _ _ c.in_ok-modules.modules c.in_ok-modules.ensures.shows

pub returns-clause-links : goal.returns-clause-links
returns-clause-links g c =
    let shown = c.in_ok-modules.ensures in
    let asked = request_of c.args.task.now in
    let directories = c.args.task.now.directories in
    let output = c.args.task.now.output in
    let old = shelf_at g.S.Shelf c.args.shelf.now in
    let now = shelf_at g.S.Shelf c.shown_modules.new.shelf in
    let new = shelf_at g.S.Shelf c.link_modules.new.shelf in
    modules_linked _ directories asked _ output old c.requires.there _ _ c.in_ok-modules.modules shown.shows
    c.link_modules.result new _
    (reads_sooner _ directories asked c.in_ok-modules.modules output c.link_modules.result old now new _ _ shown.files
    (shown.faults.kept refl) c.link_modules.ensures.links)
    c.link_modules.ensures.lacks
