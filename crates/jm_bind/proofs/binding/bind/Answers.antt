use Rattle.std.proofs.Common.{subst, sym}
use Rattle.jm_closure.specs.Cycles.{IsGraphOf}
use Rattle.jm_closure.specs.Graphs.{IsMarked}
use Rattle.jm_closure.proofs.ClosureLaws.{answers_as, graph_of}
use Rattle.jm_closure.proofs.JudgeLaws.{least_lost}
use Rattle.jm_bind.specs.Binding.{Bound}
use Rattle.jm_bind.proofs.binding.bind.Goals as goal

pub returns-in-Some : goal.returns-in-Some
returns-in-Some c =
    let names = c.in_ok-names.names in
    let least = least_lost c.args.found.now names c.args.roots.now c.in_ok-names.ensures in
    rw c.in_ok-copy_of.ensures (rw (sym c.in-Some.ensures) at least)

pub bound-requires-clause-graph : goal.bound-requires-clause-graph
bound-requires-clause-graph c =
    subst (IsGraphOf c.args.found.now) (sym c.in_ok-required.ensures)
    (graph_of c.args.found.now c.in_ok-names.names c.in_ok-names.ensures)

pub judge-requires-clause-graph : goal.judge-requires-clause-graph
judge-requires-clause-graph c =
    subst (IsGraphOf c.args.found.now) (sym c.in_ok-required.ensures)
    (graph_of c.args.found.now c.in_ok-names.names c.in_ok-names.ensures)

pub returns : goal.returns
returns c =
    let names = c.in_ok-names.names in
    let least = least_lost c.args.found.now names c.args.roots.now c.in_ok-names.ensures in
    answers_as c.args.found.now c.args.roots.now (IsMarked c.in_ok-chosen.chosen.items)
    (Bound c.args.found.now c.args.roots.now) c.judge.result
    (rw (sym c.in_default.ensures) at least) c.in_ok-chosen.ensures.exactly
    (rw c.as_slice.ensures.value at c.judge.ensures)
