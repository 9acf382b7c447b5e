use Rattle.std.proofs.Common.{rules}
use Rattle.jm_jrt.proofs.StandingLaws.{hashes_all, index_file, standing_costs, within_whole}
use Rattle.jm_jrt.proofs.TellsLaws.{item_told}
use Rattle.jm_jrt.proofs.TreeLaws.{item_shown}
use Rattle.jm_jrt.proofs.trees.stands_at.Goals as goal

pub returns-clause-item : goal.returns-clause-item
returns-clause-item g c = search (rules, index_file)

pub returns-clause-trees : goal.returns-clause-trees
returns-clause-trees g c = search (rules, item_shown, returns-clause-item)

pub returns-clause-told : goal.returns-clause-told
returns-clause-told g c = search (rules, item_told, returns-clause-item)

pub returns-clause-within : goal.returns-clause-within
returns-clause-within g c = search (rules, within_whole)

pub returns-clause-hashes : goal.returns-clause-hashes
returns-clause-hashes g c =
    hashes_all c.args.path.now _ _ _ c.node_content-content.ensures.hashes c.said_at.ensures.hashes

pub returns-clause-reads : goal.returns-clause-reads
returns-clause-reads g c = search (rules, standing_costs)
