use Rattle.jm_inspect.proofs.NodeLaws.{node_judged}
use Rattle.jm_inspect.proofs.nodes.judge_node.Goals as goal

pub returns-clause-judged : goal.returns-clause-judged
returns-clause-judged g c =
    let read = c.in_ok-read_extent.ensures.read in
    let judged = c.in_ok-judge_content.ensures in
    node_judged c.args.node.now c.read_extent.new.text _ read (λ b file. rw c.as_slice.ensures at (judged.found b file)) judged.damage
