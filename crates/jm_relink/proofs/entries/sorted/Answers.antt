use Rattle.std.proofs.Common.{[], of_calls, rules}
use Rattle.jm_bytes.specs.ByteOrder.{is_before}
use Rattle.jm_names.proofs.NameOrder.{names_sorted}
use Rattle.jm_names.specs.ByName.{Named}
use Rattle.jm_relink.specs.declared.entries.ModuleEntries.{ModuleEntries}
use Rattle.std.proofs.Common.{◌≡◌, false}
use Rattle.jm_relink.proofs.ListLaws.{pairs_unmap}
use Rattle.jm_relink.proofs.entries.sorted.Goals as goal

pub returns-clause-sorted : goal.returns-clause-sorted
returns-clause-sorted c =
    let sorted = c.sort_unstable_by.new.self.items in
    let named : ModuleEntries → Named = λ m. (m.module, []) in
    let up = names_sorted named sorted c.sort_unstable_by.ensures.sorted (λ a r q k. search (rules, of_calls)) in
    rw c.from_vec.ensures (pairs_unmap (λ (e f : Named). is_before f.0 e.0 ≡ false) named sorted up)
