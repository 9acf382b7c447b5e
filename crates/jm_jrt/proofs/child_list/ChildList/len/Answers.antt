use Rattle.std.proofs.Common.{rules}
use Rattle.jm_jrt.proofs.PairLaws.{items_length}
use Rattle.jm_jrt.proofs.child_list.ChildList.len.Goals as goal

pub returns-in-Words : goal.returns-in-Words
returns-in-Words c = search (rules, items_length)

pub returns-in-Pairs : goal.returns-in-Pairs
returns-in-Pairs c = search (rules, items_length)
