use Rattle.std.proofs.Common.{◌≡◌, ◌∙◌, Some, ap, refl, sym}
use Rattle.jm_commands.specs.LinkText.{link_text}
use Rattle.jm_commands.proofs.LinkLaws.{alone_put, alone_stopped, alone_takes, link_comes, link_takes_by}
use Rattle.jm_commands.proofs.TakenLaws.{link_takes_nothing}
use Rattle.jm_commands.proofs.link.link_command.Goals as goal

-- the path was copied, since the task is handed on
pub returns-in-Some-clause-comes : goal.returns-in-Some-clause-comes
returns-in-Some-clause-comes g c source =
    let same : c.in_ok-path-in-Some.path ≡ c.in-Some.path = c.in_ok-path-in-Some.ensures ∙ c.as_slice.ensures in
    link_comes link_text (g.S.Shelf.files c.args.shelf.now) c.args.task (Some c.in_ok-path-in-Some.path) _ _ _
    (c.in-Some.is ∙ ap (λ p. Some p) (sym same)) (c.link_with_image.ensures.comes source)

pub returns-in-Some-clause-takes : goal.returns-in-Some-clause-takes
returns-in-Some-clause-takes g c =
    let same : c.in_ok-path-in-Some.path ≡ c.in-Some.path = c.in_ok-path-in-Some.ensures ∙ c.as_slice.ensures in
    link_takes_by (g.S.Shelf.files c.args.shelf.now) c.args.task (Some c.in_ok-path-in-Some.path) _ _
    (c.in-Some.is ∙ ap (λ p. Some p) (sym same)) c.link_with_image.ensures.takes

pub returns-in_err-path-in-Some-clause-takes : goal.returns-in_err-path-in-Some-clause-takes
returns-in_err-path-in-Some-clause-takes g c =
    link_takes_nothing (g.S.Shelf.files c.args.shelf.now) c.args.task (g.S.Shelf.handed c.args.shelf.now)

pub returns-clause-comes : goal.returns-clause-comes
returns-clause-comes g c source =
    rw c.stop_of_link.ensures (alone_stopped link_text c.args.task _ _ refl c.in-None.is _ _ _ c.in-Err.ensures.links c.in-Err.ensures.lacks
    refl)

pub returns-clause-takes : goal.returns-clause-takes
returns-clause-takes g c = alone_takes c.args.task _ _ _ _ _ c.in-None.is c.in-Err.ensures.links

pub returns-in-Ok-clause-takes : goal.returns-in-Ok-clause-takes
returns-in-Ok-clause-takes g c = alone_takes c.args.task _ _ _ _ _ c.in-None.is c.in-Ok.ensures.links

pub returns-in-Ok-clause-comes : goal.returns-in-Ok-clause-comes
returns-in-Ok-clause-comes g c source =
    alone_put link_text c.args.task _ _ refl c.in-None.is _ _ _ _ c.in-Ok.ensures.links c.put_summary.ensures
