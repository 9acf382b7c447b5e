use Rattle.std.proofs.Common.{◌∙◌, ℕ, All, Option, Err, ap, refl, subst, sym}
use Rattle.jm_bytes.proofs.ResultLaws.{passed_on}
use Rattle.jm_modset.specs.declared.contents.ReadStop.{ReadStop}
use Rattle.jm_modset.specs.Parts.{AreReadAs, IsToldIn}
use Rattle.jm_modset.specs.Shown.{AreFit}
use Rattle.jm_outside.proofs.CountLaws.{rose_sooner}
use Rattle.jm_outside.specs.Files.{Files}
use Rattle.jm_outside.specs.Outcome.{Shows}
use Rattle.jm_outside.specs.Shelves.{shelf_at}
use Rattle.jm_link.specs.declared.linking.LinkStop.{LinkStop}
use Rattle.jm_link.specs.Links.{request_of}
use Rattle.jm_link.specs.ModuleSteps.{ReadLinks}
use Rattle.jm_link.proofs.ModuleLinkLaws.{are_told, lacks_below, modules_read, read_stopped, texts}
use Rattle.jm_link.proofs.NothingRead.{found_stopped, links_lack_nothing, links_stopped}
use Rattle.jm_link.proofs.PartsRead.{names_read}
use Rattle.jm_link.proofs.modules.link_modules.Goals as goal

pub returns-in_err-found-clause-links : goal.returns-in_err-found-clause-links
returns-in_err-found-clause-links g c =
    let found = c.in_err-found.ensures in
    rw (passed_on c.from_residual.result _ c.from_residual.ensures.1)
    (found_stopped c.args.image.path.now c.args.task.now.directories (request_of c.args.task.now) c.args.image.modules
    c.args.task.now.output (shelf_at g.S.Shelf c.args.shelf.now) (shelf_at g.S.Shelf c.found_modules.new.shelf) _ _ found.takes
    c.in_err-found.field-0.0 found.files found.finds (λ is. found.faults.rose (ap (λ (e : LinkStop). Err e) is)))

pub returns-in_err-linked-clause-links : goal.returns-in_err-linked-clause-links
returns-in_err-linked-clause-links g c =
    let found = c.in_ok-found.ensures in
    rw (passed_on c.from_residual-in_err-linked.result _ c.from_residual-in_err-linked.ensures.1)
    (links_stopped c.args.image.path.now c.args.task.now.directories (request_of c.args.task.now) c.args.image.modules
    c.args.task.now.output (shelf_at g.S.Shelf c.args.shelf.now) (shelf_at g.S.Shelf c.found_modules.new.shelf) _ _ found.takes
    c.in_err-linked.field-0.0 c.in_ok-found.found found.files found.are.long found.finds c.in_err-linked.ensures.links)

pub returns-in_err-linked-clause-lacks : goal.returns-in_err-linked-clause-lacks
returns-in_err-linked-clause-lacks g c =
    rw (passed_on c.from_residual-in_err-linked.result _ c.from_residual-in_err-linked.ensures.1)
    (links_lack_nothing c.args.task.now.directories c.in_err-linked.field-0.0 c.in_ok-found.found c.args.task.now.bind
    c.in_err-linked.ensures.links)

pub read_contents-requires-clause-texts : goal.read_contents-requires-clause-texts
read_contents-requires-clause-texts g c =
    texts c.args.task.now.directories (request_of c.args.task.now) c.args.image.modules (shelf_at g.S.Shelf c.args.shelf.now)
    c.in_ok-found.found c.in_ok-found.ensures.are c.in_ok-found.ensures.from c.in_ok-linked.linked c.in_ok-linked.ensures.taken

pub read_contents-requires-clause-told : goal.read_contents-requires-clause-told
read_contents-requires-clause-told g c =
    subst (λ (t : Option Files). Shows t (λ files. All (λ f. IsToldIn files f.content f.described) c.in_ok-linked.linked.files))
    (sym c.in_ok-found.ensures.files)
    (are_told c.args.task.now.directories (request_of c.args.task.now) c.args.image.modules
    (shelf_at g.S.Shelf c.args.shelf.now) c.in_ok-found.found c.in_ok-found.ensures.are c.in_ok-found.ensures.from
    c.in_ok-linked.linked c.in_ok-linked.ensures.taken)

pub returns-in_err-read-clause-links : goal.returns-in_err-read-clause-links
returns-in_err-read-clause-links g c =
    let found = c.in_ok-found.ensures in
    let linked = c.in_ok-linked.ensures in
    let tried = c.in_err-read.ensures in
    let faults = g.S.Shelf.faults in
    rw (passed_on c.from_residual-in_err-read.result _ c.from_residual-in_err-read.ensures.1)
    (read_stopped c.args.task.now.directories (request_of c.args.task.now) c.args.image.modules
    (shelf_at g.S.Shelf c.args.shelf.now) c.in_ok-found.found found.are found.from c.in_ok-linked.linked linked.taken found.finds
    linked.links linked.fit _ _ _ found.takes (rw found.files at tried.takes) c.args.image.path.now c.args.task.now.output _
    found.files (shelf_at g.S.Shelf c.read_contents.new.shelf) (tried.files ∙ found.files) c.in_err-read.field-0.0 tried.lacks
    (λ is. rose_sooner (faults c.args.shelf.now) (faults c.found_modules.new.shelf) (faults c.read_contents.new.shelf)
    found.faults.count (tried.faults.rose (ap (λ (e : ReadStop). Err e) is))))

pub returns-in_err-read-clause-lacks : goal.returns-in_err-read-clause-lacks
returns-in_err-read-clause-lacks g c =
    rw (passed_on c.from_residual-in_err-read.result _ c.from_residual-in_err-read.ensures.1)
    (lacks_below c.args.task.now.directories (request_of c.args.task.now) c.args.image.modules
    (shelf_at g.S.Shelf c.args.shelf.now) c.in_ok-found.found c.in_ok-found.ensures.are c.in_ok-found.ensures.from
    c.in_ok-linked.linked c.in_ok-linked.ensures.taken _ c.in_err-read.field-0.0 c.in_err-read.ensures.lacks)

pub write_plugged-requires-clause-fit : goal.write_plugged-requires-clause-fit
write_plugged-requires-clause-fit g c κs within =
    subst AreFit
    (sym (names_read _ c.args.image.path.now c.in_ok-linked.linked.files c.in_ok-read.read c.in_ok-read.ensures.pool))
    c.in_ok-linked.ensures.fit

pub returns-clause-links : goal.returns-clause-links
returns-clause-links g c =
    let found = c.in_ok-found.ensures in
    let linked = c.in_ok-linked.ensures in
    let had = c.in_ok-read.ensures in
    let path = c.args.image.path.now in
    let directories = c.args.task.now.directories in
    let asked = request_of c.args.task.now in
    let modules = c.args.image.modules in
    let output = c.args.task.now.output in
    let old = shelf_at g.S.Shelf c.args.shelf.now in
    let now = shelf_at g.S.Shelf c.read_contents.new.shelf in
    let new = shelf_at g.S.Shelf c.write_plugged.new.shelf in
    let pool = c.in_ok-read.read in
    let fs = c.in_ok-linked.linked.files in
    subst (λ (n : ℕ). ReadLinks path directories asked modules output c.write_plugged.result old new
    (g.S.Shelf.handed c.args.shelf.now) n) (sym c.write_plugged.ensures.handed)
    (modules_read directories asked modules old c.in_ok-found.found found.are found.from c.in_ok-linked.linked linked.taken
    found.finds linked.links linked.fit _ _ _ found.takes (rw found.files at had.takes) path output pool
    (subst (λ (t : Option Files). AreReadAs t path fs pool) found.files had.pool) now new (had.files ∙ found.files)
    (had.faults.kept refl ∙ found.faults.kept refl) c.write_plugged.result c.write_plugged.ensures.links)
