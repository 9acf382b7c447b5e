use Rattle.std.proofs.lemmas.List.Sorted.{All-permutation}
use Rattle.jm_relink.specs.Entries.{HasExtent}
use Rattle.jm_relink.proofs.EntryLaws.{entries_are, modules_within}
use Rattle.jm_relink.proofs.entries.module_entries.Goals as goal

pub returns-clause-entries : goal.returns-clause-entries
returns-clause-entries g c b file =
    entries_are b c.in_ok-entries.entries (c.in_ok-entries.ensures.taken b file) (c.in_ok-entries.ensures.rises b file)
    c.in_ok-described_modules.field-0 c.sorted.result (c.in_ok-described_modules.ensures.groups b)
    c.sorted.ensures.moved c.sorted.ensures.sorted
    (All-permutation HasExtent c.in_ok-described_modules.field-0 c.sorted.result c.sorted.ensures.moved
    c.in_ok-described_modules.ensures.infos)

pub returns-clause-within : goal.returns-clause-within
returns-clause-within g c =
    modules_within c.args.index.now.length c.in_ok-described_modules.field-0 c.sorted.result c.sorted.ensures.moved
    c.in_ok-described_modules.ensures.infos
    (c.in_ok-described_modules.ensures.within c.args.index.now.length c.in_ok-entries.ensures.within)
