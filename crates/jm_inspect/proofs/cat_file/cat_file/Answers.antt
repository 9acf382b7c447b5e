use Rattle.std.proofs.Common.{None, Some, refl}
use Rattle.jm_form.specs.Validity.{look}
use Rattle.jm_outside.specs.Shelves.{shelf_at}
use Rattle.jm_words.specs.declared.tasks.ImageWork.TheVariants as work
use Rattle.jm_inspect.proofs.ContentLaws.{cat_put, content_unread, takes_sought}
use Rattle.jm_inspect.proofs.StepLaws.{from_stop}
use Rattle.jm_inspect.proofs.cat_file.cat_file.Goals as goal

pub returns-in_err-content-clause-comes : goal.returns-in_err-content-clause-comes
returns-in_err-content-clause-comes g c source =
    let is = from_stop c.from_residual.result _ c.from_residual.ensures.1 in
    let part = c.in_err-content.ensures in
    rw is (content_unread _ (shelf_at g.S.Shelf c.args.shelf.now) (shelf_at g.S.Shelf c.sought_content.new.shelf) part.files source _
    c.args.image.now.front c.requires (work.Cat c.args.name.now) c.find_counted-row.result _ part.reads
    (λ failed. part.faults.rose (rw failed refl)))

pub returns-in-Some-clause-comes : goal.returns-in-Some-clause-comes
returns-in-Some-clause-comes g c source =
    let part = c.in_ok-content.ensures in
    cat_put _ (shelf_at g.S.Shelf c.args.shelf.now) (shelf_at g.S.Shelf c.sought_content.new.shelf) part.files source _
    c.args.image.now.front c.requires c.args.name.now c.find_counted-row.result _ (Some c.in-Some.content) _ _ c.find_counted-row.ensures
    part.reads (part.faults.kept refl) c.in-Some.is (rw c.as_slice.ensures at c.put_output.ensures)

pub returns-in-None-clause-comes : goal.returns-in-None-clause-comes
returns-in-None-clause-comes g c source =
    let part = c.in_ok-content.ensures in
    cat_put _ (shelf_at g.S.Shelf c.args.shelf.now) (shelf_at g.S.Shelf c.sought_content.new.shelf) part.files source _
    c.args.image.now.front c.requires c.args.name.now c.find_counted-row.result _ None _ _ c.find_counted-row.ensures part.reads
    (part.faults.kept refl) c.in-None.is (c.no_entry.ensures _)

pub returns-in_err-content-clause-takes : goal.returns-in_err-content-clause-takes
returns-in_err-content-clause-takes g c =
    takes_sought _ _ c.args.image.now.front (λ b. look b c.args.name.now) c.find_counted-row.result _ _ _
    c.in_err-content.ensures.handed c.find_counted-row.ensures c.in_err-content.ensures.reads

pub returns-in-Some-clause-takes : goal.returns-in-Some-clause-takes
returns-in-Some-clause-takes g c =
    takes_sought _ _ c.args.image.now.front (λ b. look b c.args.name.now) c.find_counted-row.result _ _ _
    c.in_ok-content.ensures.handed c.find_counted-row.ensures c.in_ok-content.ensures.reads

pub returns-in-None-clause-takes : goal.returns-in-None-clause-takes
returns-in-None-clause-takes g c =
    takes_sought _ _ c.args.image.now.front (λ b. look b c.args.name.now) c.find_counted-row.result _ _ _
    c.in_ok-content.ensures.handed c.find_counted-row.ensures c.in_ok-content.ensures.reads
