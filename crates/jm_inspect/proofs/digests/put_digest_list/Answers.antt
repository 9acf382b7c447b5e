use Rattle.std.proofs.Common.{Err, Ok, rules, true}
use Rattle.jm_filed.specs.Taken.{taken}
use Rattle.jm_outside.specs.Shelves.{shelf_at}
use Rattle.jm_words.specs.declared.tasks.ImageWork.TheVariants as work
use Rattle.jm_inspect.specs.Outcome.{reading}
use Rattle.jm_inspect.specs.Stops.{stop_of_sink}
use Rattle.jm_inspect.specs.Works.{WorkComesTo}
use Rattle.jm_inspect.specs.World.{sink_at, world}
use Rattle.jm_inspect.specs.declared.stop.Stop.TheVariants as stop
use Rattle.jm_inspect.proofs.ContentLaws.{takes_chosen}
use Rattle.jm_inspect.proofs.DigestLaws.{digests_broken, digests_put, same_sink}
use Rattle.jm_inspect.proofs.StepLaws.{from_stop, out_of_memory}
use Rattle.jm_inspect.proofs.digests.put_digest_list.Goals as goal

pub returns-in_err-entries-clause-comes : goal.returns-in_err-entries-clause-comes
returns-in_err-entries-clause-comes g c source =
    rw (from_stop c.from_residual.result stop.Memory c.from_residual.ensures.1)
    (out_of_memory (WorkComesTo _ source.told c.args.image.now.path (work.List c.args.include.now true)) reading
    (world (shelf_at g.S.Shelf c.args.shelf.now) source (sink_at g.O.Sink c.args.out.now)))

pub returns-in_err-put_digests-clause-comes : goal.returns-in_err-put_digests-clause-comes
returns-in_err-put_digests-clause-comes g c source =
    let took = c.in_ok-entries.ensures in
    let put = c.in_err-put_digests.ensures in
    let given = c.in_err-put_digests.field-0.0 in
    rw (from_stop c.from_residual-in_err-put_digests.result given c.from_residual-in_err-put_digests.ensures.1)
    (same_sink _ _ _ _ _ _ _ (search rules)
    (digests_broken c.args.image.now.path (shelf_at g.S.Shelf c.args.shelf.now) (shelf_at g.S.Shelf c.put_digests.new.shelf) put.files source
    (sink_at g.O.Sink c.args.out.now) c.args.image.now.front c.requires c.args.include.now c.in_ok-entries.entries took.taken took.within _ _
    c.new-held.ensures.items _ given (rw (c.as_slice.ensures, c.path.ensures.path, c.as_slice-2.ensures) at put.puts)))

pub returns-in_err-put_held-clause-comes : goal.returns-in_err-put_held-clause-comes
returns-in_err-put_held-clause-comes g c source =
    let took = c.in_ok-entries.ensures in
    let put = c.in_ok-put_digests.ensures in
    let error = c.in_err-put_held.field-0.0 in
    rw (from_stop c.from_residual-in_err-put_held.result (stop_of_sink error) c.from_residual-in_err-put_held.ensures.1)
    (same_sink _ _ _ _ _ _ _ (search rules)
    (digests_put c.args.image.now.path (shelf_at g.S.Shelf c.args.shelf.now) (shelf_at g.S.Shelf c.put_digests.new.shelf) put.files source
    (sink_at g.O.Sink c.args.out.now) c.args.image.now.front c.requires c.args.include.now c.in_ok-entries.entries took.taken took.within _ _
    c.new-held.ensures.items _ (Err error) _ (rw (c.as_slice.ensures, c.path.ensures.path, c.as_slice-2.ensures) at put.puts)
    c.in_err-put_held.ensures.puts))

pub returns-clause-comes : goal.returns-clause-comes
returns-clause-comes g c source =
    let took = c.in_ok-entries.ensures in
    let put = c.in_ok-put_digests.ensures in
    same_sink _ _ _ _ _ _ _ (search rules)
    (digests_put c.args.image.now.path (shelf_at g.S.Shelf c.args.shelf.now) (shelf_at g.S.Shelf c.put_digests.new.shelf) put.files source
    (sink_at g.O.Sink c.args.out.now) c.args.image.now.front c.requires c.args.include.now c.in_ok-entries.entries took.taken took.within _ _
    c.new-held.ensures.items _ (Ok tt) _ (rw (c.as_slice.ensures, c.path.ensures.path, c.as_slice-2.ensures) at put.puts)
    c.in_ok-put_held.ensures.puts)

pub returns-in_err-put_digests-clause-takes : goal.returns-in_err-put_digests-clause-takes
returns-in_err-put_digests-clause-takes g c =
    let took = c.in_ok-entries.ensures in
    takes_chosen c.args.image.now.front c.in_ok-entries.entries (λ b. taken b c.args.include.now) took.taken took.within _ _
    (rw c.as_slice-2.ensures at c.in_err-put_digests.ensures.handed)

pub returns-in_err-put_held-clause-takes : goal.returns-in_err-put_held-clause-takes
returns-in_err-put_held-clause-takes g c =
    let took = c.in_ok-entries.ensures in
    takes_chosen c.args.image.now.front c.in_ok-entries.entries (λ b. taken b c.args.include.now) took.taken took.within _ _
    (rw c.as_slice-2.ensures at c.in_ok-put_digests.ensures.handed)

pub returns-clause-takes : goal.returns-clause-takes
returns-clause-takes g c =
    let took = c.in_ok-entries.ensures in
    takes_chosen c.args.image.now.front c.in_ok-entries.entries (λ b. taken b c.args.include.now) took.taken took.within _ _
    (rw c.as_slice-2.ensures at c.in_ok-put_digests.ensures.handed)
