use Rattle.std.proofs.Common.{◌∙◌, arith, refl, sym}
use Rattle.jm_extract.proofs.FiledLaws.{size_within, sizes_next}
use Rattle.jm_inspect.proofs.NodeLaws.{first_bad, next_judged}
use Rattle.jm_inspect.proofs.nodes.judge_nodes.Goals as goal

pub returns-in-Some-clause-judged : goal.returns-in-Some-clause-judged
returns-in-Some-clause-judged g c =
    let before = c.loop-node.invariant in
    first_bad c.args.entries.now c.loop-node.node-index _ c.loop-node-test.true (sym c.node-item.is) before.judged
    (rw (before.files, c.in-Some.is) at c.in_ok-given.ensures.judged)

pub returns-in-Some-clause-handed : goal.returns-in-Some-clause-handed
returns-in-Some-clause-handed g c =
    let before = c.loop-node.invariant in
    let most = size_within c.args.entries.now c.loop-node.node-index _ c.loop-node-test.true (sym c.node-item.is) in
    let more = c.judge_node.ensures.handed in
    omega (arith, most, before.handed, more)

pub loop-node-preserved : goal.loop-node-preserved
loop-node-preserved g c =
    let before = c.loop-node.invariant in
    let judged = c.in_ok-given.ensures in
    let size = sizes_next c.args.entries.now c.loop-node.node-index _ c.loop-node-test.true (sym c.node-item.is) in
    let more = judged.handed in
    record {
      files = judged.files ∙ before.files;
      count = judged.faults.kept refl ∙ before.count;
      metered = judged.reads.bytes ∙ before.metered;
      judged = next_judged c.args.entries.now c.loop-node.node-index _ c.loop-node-test.true (sym c.node-item.is) before.judged
          (rw (before.files, c.in_default.is) at judged.judged);
      handed = omega (arith, size, more, before.handed);
    }
