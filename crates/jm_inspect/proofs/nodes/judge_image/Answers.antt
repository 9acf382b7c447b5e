use Rattle.jm_filed.specs.Taken.{nodes}
use Rattle.jm_inspect.proofs.ContentLaws.{takes_chosen}
use Rattle.jm_inspect.proofs.NodeLaws.{image_judged, on_found}
use Rattle.jm_inspect.proofs.nodes.judge_image.Goals as goal

pub returns-clause-judged : goal.returns-clause-judged
returns-clause-judged g c =
    let took = c.in_ok-entries.ensures in
    on_found _ _ c.judge_nodes.result
    (image_judged _ c.args.image.now.path c.args.image.now.front c.requires.there c.in_ok-entries.entries
    (rw c.as_index.ensures at took.taken) (rw c.as_index.ensures at took.within))
    (rw (c.as_filed-image.ensures.index, c.as_filed-image.ensures.path, c.as_slice.ensures) at c.judge_nodes.ensures.judged)

pub returns-clause-takes : goal.returns-clause-takes
returns-clause-takes g c =
    let took = c.in_ok-entries.ensures in
    takes_chosen c.args.image.now.front c.in_ok-entries.entries nodes (rw c.as_index.ensures at took.taken)
    (rw c.as_index.ensures at took.within) _ _ (rw c.as_slice.ensures at c.judge_nodes.ensures.handed)
