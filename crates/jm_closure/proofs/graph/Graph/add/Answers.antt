use Rattle.std.proofs.Common.{ap, ◌∙◌, ◌++◌, ◌∷◌, []}
use Rattle.std.proofs.lemmas.List.{length-map}
use Rattle.jm_closure.proofs.GraphLaws.{due_anyway, grown, stayed}
use Rattle.jm_closure.proofs.graph.Graph.add.Goals as goal

pub returns-clause-ok : goal.returns-clause-ok
returns-clause-ok c =
    let rows = c.self.inside.edges.items in
    let row = ap (λ ends. ends.items) c.index_mut.ensures.value in
    rw (← c.self.view_is)
    (grown (λ ends. ends.items) rows c.args.from c.args.to c.index_mut.result.now c.push.new.self
    (rw (← c.self.view_is, length-map rows (λ ends. ends.items)) at c.requires)
    (c.in_ok-push.ensures.items ∙ ap (λ items. items ++ c.args.to ∷ []) row))

pub returns-in_err-push-clause-err : goal.returns-in_err-push-clause-err
returns-in_err-push-clause-err c =
    let row = ap (λ ends. ends.items) c.index_mut.ensures.value in
    due_anyway c.from_residual.result
    (rw (← c.self.view_is)
    (stayed (λ ends. ends.items) c.self.inside.edges.items c.args.from c.index_mut.result.now c.push.new.self
    (c.in_err-push.ensures.items ∙ row)))
