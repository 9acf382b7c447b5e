use Rattle.std.proofs.Common.{◌≡◌, ◌<◌, [], ◌∙◌, drop, length, get_or, slice_set, sym}
use Rattle.std.proofs.lemmas.List.{drop_all, get_or_default}
use Rattle.jm_closure.proofs.ReachLaws.{reached_before, reached_now, reaches_one}
use Rattle.jm_closure.proofs.reach.reach_each.Goals as goal
use Rattle.jm_closure.proofs.reach.reach_each.Goals.{then-index-eq0+in_ok-push, else-index-eq0}

pub loop-node-preserved : goal.loop-node-preserved
loop-node-preserved c =
    let rounds = c.loop-node.rounds.items in
    let work = c.loop-node.work.items in
    let at = c.loop-node.node-index in
    let x = get_or c.args.nodes.now at 0 in
    let given = c.requires.within at 0 c.loop-node-test.true in
    let within : x < length rounds = rw c.loop-node.invariant.size given in
    let here = get_or_default rounds x 0 c.index.result.now within ∙ sym c.index.ensures in
    elim c.if-index-eq0.branch [
      | then-index-eq0+in_ok-push w ↦
          (let now = reached_now rounds work c.args.round x (here ∙ w.if-index-eq0.true) in
          let one = reaches_one rounds work c.args.nodes.now (slice_set rounds x c.args.round) w.push.new.self.items c.args.round at
          c.requires.round c.loop-node-test.true within now.0 (w.in_ok-push.ensures.items ∙ now.1) in
          rw (w.rounds-is, w.work-is) (record {
            reaches = λ graph before starts begun.
                one.reaches graph before starts (c.loop-node.invariant.reaches graph before starts begun);
            measure = one.measure ∙ c.loop-node.invariant.measure;
            size = one.size ∙ c.loop-node.invariant.size;
          }))
      | else-index-eq0 w ↦
          (let was = reached_before rounds work c.args.round x
          (λ same. w.if-index-eq0.false (sym here ∙ same)) in
          let one = reaches_one rounds work c.args.nodes.now rounds work c.args.round at c.requires.round c.loop-node-test.true
          within was.0 was.1 in
          rw (w.rounds-is, w.work-is) (record {
            reaches = λ graph before starts begun.
                one.reaches graph before starts (c.loop-node.invariant.reaches graph before starts begun);
            measure = one.measure ∙ c.loop-node.invariant.measure;
            size = one.size ∙ c.loop-node.invariant.size;
          }))
    ]

pub returns-clause-reaches : goal.returns-clause-reaches
returns-clause-reaches c = λ graph before starts begun.
    let none : drop c.loop-node.node-index c.args.nodes.now ≡ [] =
    drop_all c.loop-node.node-index c.args.nodes.now c.loop-node-test.false in
    rw none at (c.loop-node.invariant.reaches graph before starts begun)
