-- The row at the offset word of an entry's slot spells that entry's name, and is no bad word: the
-- fact on which the law of the trees rests.
use Rattle.std.proofs.Common.{◌≡◌, ℕ, true, List, Contains, rules}
use Rattle.jm_form.specs.Entries.{Entry, entries}
use Rattle.jm_form.specs.Places.{offset_word, strings}
use Rattle.jm_form.specs.Validity.{ValidAs}
use Rattle.jm_form.proofs.EntryLaws.{entry_from}
use Rattle.jm_form.proofs.SlotLaws.{sound_row, sound_texts}
use Rattle.jm_reader.specs.Look.{head}
use Rattle.jm_jrt.specs.Told.{is_row_sound, name_told, row_told}

pub entry_told : (b : List ℕ) (e : Entry) → Contains (entries b (head b)) e → name_told b (offset_word b (head b) e.slot) ≡ e.name
entry_told b e there = search (rules, entry_from)

pub entry_sound : (b : List ℕ) (e : Entry) → ValidAs b (head b) → Contains (entries b (head b)) e
    → is_row_sound (strings b (head b)) (row_told b (offset_word b (head b) e.slot)) ≡ true
entry_sound b e valid there = search (rules, entry_from, sound_row, sound_texts)
