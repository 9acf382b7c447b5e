use Rattle.std.proofs.Common.{refl, sym, ◌∙◌}
use Rattle.jm_jrt.specs.Stat.{held, node_sought, stat}
use Rattle.jm_outside.specs.Shelves.{shelf_at}
use Rattle.jm_words.specs.declared.tasks.ImageWork.TheVariants as work
use Rattle.jm_inspect.specs.Outcome.{ls_outcome}
use Rattle.jm_inspect.proofs.ContentLaws.{content_put, content_unread, sought_there, takes_sought}
use Rattle.jm_inspect.proofs.OutcomeLaws.{ls_session}
use Rattle.jm_inspect.proofs.StepLaws.{from_stop}
use Rattle.jm_inspect.proofs.ls.ls_file.Goals as goal

pub returns-in_err-content-clause-comes : goal.returns-in_err-content-clause-comes
returns-in_err-content-clause-comes g c source =
    let is = from_stop c.from_residual.result _ c.from_residual.ensures.1 in
    let part = c.in_err-content.ensures in
    rw is (content_unread _ (shelf_at g.S.Shelf c.args.shelf.now) (shelf_at g.S.Shelf c.sought_content.new.shelf) part.files source _
    c.args.image.now.front c.requires (work.Ls c.args.path.now) c.node_counted-row.result _ part.reads
    (λ failed. part.faults.rose (rw failed refl)))

pub returns-clause-comes : goal.returns-clause-comes
returns-clause-comes g c source =
    let front = c.args.image.now.front in
    let part = c.in_ok-content.ensures in
    let path = c.args.path.now in
    let shelf = shelf_at g.S.Shelf c.args.shelf.now in
    let there = sought_there shelf.told c.args.image.now.path front (λ b. node_sought b path) c.node_counted-row.result _ c.requires
    c.node_counted-row.ensures part.reads in
    let b = there.0 in
    let holds = held (stat b path) in
    content_put _ shelf (shelf_at g.S.Shelf c.sought_content.new.shelf) part.files source _ front c.requires (work.Ls path) b
    (ls_outcome path holds) _ _ there.1 (part.faults.kept refl) (ls_session path holds) (λ t. refl)
    (c.list_folder.ensures b there.1.0 (there.2 ∙ sym c.bytes_of.ensures))

pub returns-in_err-content-clause-takes : goal.returns-in_err-content-clause-takes
returns-in_err-content-clause-takes g c =
    takes_sought _ _ c.args.image.now.front (λ b. node_sought b c.args.path.now) c.node_counted-row.result _ _ _
    c.in_err-content.ensures.handed c.node_counted-row.ensures c.in_err-content.ensures.reads

pub returns-clause-takes : goal.returns-clause-takes
returns-clause-takes g c =
    takes_sought _ _ c.args.image.now.front (λ b. node_sought b c.args.path.now) c.node_counted-row.result _ _ _
    c.in_ok-content.ensures.handed c.node_counted-row.ensures c.in_ok-content.ensures.reads
