use Rattle.std.proofs.Common.{◌≡◌, ℕ, List, Ok, Err, refl, ◌∙◌, subst}
use Rattle.jm_outside.specs.Made.{MadeAll}
use Rattle.jm_gen.specs.Generated.{generated}
use Rattle.jm_commands.specs.Gen.{gen_link, modules_path}
use Rattle.jm_outside.specs.Shelves.{shelf_at}
use Rattle.jm_inspect.specs.World.{sink_at, world}
use Rattle.jm_commands.proofs.GenLaws.{gen_put, gen_stopped, lacks_as, links_as}
use Rattle.jm_commands.proofs.LinkLaws.{alone_takes}
use Rattle.jm_commands.proofs.TakenLaws.{gen_takes}
use Rattle.jm_commands.proofs.generator.gen_command.Goals as goal

pub returns-in-Ok-clause-comes : goal.returns-in-Ok-clause-comes
returns-in-Ok-clause-comes g c source =
    let gen = c.args.task.now in
    let path : c.in_ok-mods.mods ≡ modules_path gen = c.in_ok-mods.ensures.path ∙ rw (c.as_slice.ensures, c.as_bytes.ensures.value) refl in
    let made = subst (λ (dir : List ℕ). MadeAll (generated dir gen.modules gen.classes gen.seed) (g.S.Shelf.files c.args.shelf.now)
    (g.S.Shelf.files c.generate.new.shelf)) (c.as_slice-2.ensures ∙ path) c.in_ok-generate.ensures.ok in
    let links = links_as gen _ (Ok c.in-Ok.summary) (shelf_at g.S.Shelf c.generate.new.shelf)
    (shelf_at g.S.Shelf c.link_generated.new.shelf) _ _ path c.in-Ok.ensures.links in
    gen_put gen (shelf_at g.S.Shelf c.args.shelf.now) (world (shelf_at g.S.Shelf c.generate.new.shelf) source
    (sink_at g.O.Sink c.args.out.now))
    _ _ _ _ _ made (c.in_ok-generate.ensures.faults.kept refl) refl links c.put_generated.ensures

pub returns-in-Err-clause-comes : goal.returns-in-Err-clause-comes
returns-in-Err-clause-comes g c source =
    let gen = c.args.task.now in
    let path : c.in_ok-mods.mods ≡ modules_path gen = c.in_ok-mods.ensures.path ∙ rw (c.as_slice.ensures, c.as_bytes.ensures.value) refl in
    let made = subst (λ (dir : List ℕ). MadeAll (generated dir gen.modules gen.classes gen.seed) (g.S.Shelf.files c.args.shelf.now)
    (g.S.Shelf.files c.generate.new.shelf)) (c.as_slice-2.ensures ∙ path) c.in_ok-generate.ensures.ok in
    let links = links_as gen _ (Err c.in-Err.why) (shelf_at g.S.Shelf c.generate.new.shelf)
    (shelf_at g.S.Shelf c.link_generated.new.shelf) _ _ path c.in-Err.ensures.links in
    rw c.stop_of_link.ensures
    (gen_stopped gen (shelf_at g.S.Shelf c.args.shelf.now) (world (shelf_at g.S.Shelf c.generate.new.shelf) source
    (sink_at g.O.Sink c.args.out.now))
    _ _ _ _ made (c.in_ok-generate.ensures.faults.kept refl) refl links (lacks_as gen _ _ path c.in-Err.ensures.lacks)
    c.in-Err.ensures.whole refl)

pub returns-in-Ok-clause-takes : goal.returns-in-Ok-clause-takes
returns-in-Ok-clause-takes g c =
    let gen = c.args.task.now in
    let path : c.in_ok-mods.mods ≡ modules_path gen = c.in_ok-mods.ensures.path ∙ rw (c.as_slice.ensures, c.as_bytes.ensures.value) refl in
    let made = subst (λ (dir : List ℕ). MadeAll (generated dir gen.modules gen.classes gen.seed) (g.S.Shelf.files c.args.shelf.now)
    (g.S.Shelf.files c.generate.new.shelf)) (c.as_slice-2.ensures ∙ path) c.in_ok-generate.ensures.ok in
    gen_takes gen _ _ _ _ _ made c.generate.ensures.handed (alone_takes (gen_link gen) _ _ _ _ _ refl (links_as gen _
    (Ok c.in-Ok.summary) (shelf_at g.S.Shelf c.generate.new.shelf) (shelf_at g.S.Shelf c.link_generated.new.shelf) _ _ path
    c.in-Ok.ensures.links))

pub returns-in-Err-clause-takes : goal.returns-in-Err-clause-takes
returns-in-Err-clause-takes g c =
    let gen = c.args.task.now in
    let path : c.in_ok-mods.mods ≡ modules_path gen = c.in_ok-mods.ensures.path ∙ rw (c.as_slice.ensures, c.as_bytes.ensures.value) refl in
    let made = subst (λ (dir : List ℕ). MadeAll (generated dir gen.modules gen.classes gen.seed) (g.S.Shelf.files c.args.shelf.now)
    (g.S.Shelf.files c.generate.new.shelf)) (c.as_slice-2.ensures ∙ path) c.in_ok-generate.ensures.ok in
    gen_takes gen _ _ _ _ _ made c.generate.ensures.handed (alone_takes (gen_link gen) _ _ _ _ _ refl (links_as gen _
    (Err c.in-Err.why) (shelf_at g.S.Shelf c.generate.new.shelf) (shelf_at g.S.Shelf c.link_generated.new.shelf) _ _ path
    c.in-Err.ensures.links))
