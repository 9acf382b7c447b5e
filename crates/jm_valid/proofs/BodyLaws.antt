-- What is wrong behind the header: a slot's fault, or else that of the entries.
use Rattle.std.proofs.Common.{◌≡◌, ℕ, Some, sym, arith}
use Rattle.jm_bytes.proofs.CheckLaws.{first_fault_append_none, first_fault_append_some, first_fault_least, no_fault_from_between}
use Rattle.jm_form.specs.declared.damage.Damage.{Damage}
use Rattle.jm_form.specs.Damages.{entries_checks, slot_faults}
use Rattle.jm_form.specs.Entries.{entries}
use Rattle.jm_halves.specs.First.{IsFirstIn}
use Rattle.jm_valid.specs.declared.sections.Sections.{Sections}
use Rattle.jm_valid.specs.Sections.{body_damage_in, entries_damage_in, slot_fault_in, IsSound}

-- the fault of the least slot that has one comes first
pub slots_decide : (s : Sections) (found : ℕ × Damage) → IsFirstIn (λ slot r. r ≡ slot_fault_in s slot) 0 s.header.length (Some found)
    → body_damage_in s ≡ Some found.1
slots_decide s found first =
    let b = s.bytes.now in
    let h = s.header in
    first_fault_append_some (slot_faults s.compression b h s.size) (entries_checks s.compression h.count (entries b h)) found.1
    (first_fault_least (slot_fault_in s) 0 h.length found.0 found.1 first.value.0 (omega arith)
    (λ k from to. sym (first.before k from to)) (sym first.value.2))

-- where no slot has one, the entries decide
pub entries_decide : (s : Sections) → IsSound s → body_damage_in s ≡ entries_damage_in s
entries_decide s sound =
    let b = s.bytes.now in
    let h = s.header in
    first_fault_append_none (slot_faults s.compression b h s.size) (entries_checks s.compression h.count (entries b h))
    (no_fault_from_between (slot_fault_in s) 0 h.length (λ j from to. sound j (omega arith)))
