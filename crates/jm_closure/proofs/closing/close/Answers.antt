use Rattle.std.proofs.Common.{sym, ◌∙◌}
use Rattle.jm_closure.specs.Graphs.{IsMarked}
use Rattle.jm_closure.specs.Modules.{Reached}
use Rattle.jm_closure.proofs.ClosureLaws.{among_within, answers_as, graph_of, marked_reached}
use Rattle.jm_closure.proofs.JudgeLaws.{least_lost}
use Rattle.jm_closure.proofs.RefusalLaws.{graph_within}
use Rattle.jm_closure.proofs.closing.close.Goals as goal

pub returns-in-Some : goal.returns-in-Some
returns-in-Some c =
    rw c.in_ok-copy_of.ensures
    (rw (sym c.in-Some.ensures) at (least_lost c.args.found.now c.in_ok-names.names c.args.roots.now c.in_ok-names.ensures))

pub reached-requires-clause-graph : goal.reached-requires-clause-graph
reached-requires-clause-graph c =
    rw c.in_ok-graph.ensures
    (graph_within c.args.found.now _ (graph_of c.args.found.now c.in_ok-names.names c.in_ok-names.ensures))

pub reached-requires-clause-starts : goal.reached-requires-clause-starts
reached-requires-clause-starts c =
    rw (
      c.as_slice.ensures.value,
      c.in_ok-starts.ensures,
      c.in_ok-graph.ensures,
      (graph_of c.args.found.now c.in_ok-names.names c.in_ok-names.ensures).size,
    )
    (among_within c.args.found.now c.in_ok-names.names c.args.roots.now c.in_ok-names.ensures)

pub judge-requires-clause-graph : goal.judge-requires-clause-graph
judge-requires-clause-graph c =
    rw c.in_ok-graph.ensures (graph_of c.args.found.now c.in_ok-names.names c.in_ok-names.ensures)

pub returns : goal.returns
returns c =
    answers_as c.args.found.now c.args.roots.now (IsMarked c.in_ok-chosen.chosen.items) (Reached c.args.found.now c.args.roots.now)
    c.judge.result
    (rw (sym c.in_default.ensures) at (least_lost c.args.found.now c.in_ok-names.names c.args.roots.now c.in_ok-names.ensures))
    (marked_reached c.args.found.now c.in_ok-names.names c.args.roots.now c.in_ok-graph.graph c.as_slice.result.now
    c.in_ok-chosen.chosen.items c.in_ok-names.ensures c.in_ok-graph.ensures
    (c.as_slice.ensures.value ∙ c.in_ok-starts.ensures) c.in_ok-chosen.ensures.exactly)
    (rw c.as_slice-2.ensures.value at c.judge.ensures)
