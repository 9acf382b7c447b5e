use Rattle.std.proofs.Common.{◌∙◌}
use Rattle.std.specs.Str.{bytes_eq}
use Rattle.indexmap.proofs.CallerLemmas.{insert_entry-new}
use Rattle.jm_pool.proofs.PairLaws.{absent-shown}
use Rattle.jm_pool.proofs.pairs.add.Goals as goal

pub returns-clause-ok : goal.returns-clause-ok
returns-clause-ok c = c.in_ok-insert.ensures.entries ∙ insert_entry-new (λ one other. bytes_eq one.items other.items)
    c.args.pairs.now c.args.name c.args.bytes (absent-shown (λ k. k.items) (λ v. v.items) c.args.name.items c.args.pairs.now.entries
    c.requires)
