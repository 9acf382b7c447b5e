-- The entries of an image, one after another by rising slot (jimage 1.0).
use Rattle.std.specs.Prelude.{ℕ, ◌-◌, ◌≤◌, ◌≡◌, List, [], ◌∷◌, filter, filter_map, Ok, Err, Result}
use Rattle.std.specs.List.{range_with_len}
use Rattle.jm_bytes.specs.Metered.{Metered}
use Rattle.jm_form.specs.declared.container.Header.{Header}
use Rattle.jm_form.specs.declared.container.HeaderFault.{HeaderFault}
use Rattle.jm_form.specs.Entries.{Entry, entries, entry_at, is_reached}
use Rattle.jm_form.specs.Head.{header_of}
use Rattle.jm_reader.specs.declared.entries.Entry as handed
use Rattle.jm_reader.specs.Look.{head}

-- the image's bytes and the entries still to come
pub record Walked : Type 0 where
  pub bytes : List ℕ
  pub rest : List Entry

-- the entries of some slots: of those that the slots spell, the ones that the table reaches
abbrev pub entries_in : List ℕ → Header → List ℕ → List Entry
entries_in b h places = filter (is_reached b h) (filter_map (entry_at b h) places)

-- the entry of one slot of an image, or none where the slot is spare
abbrev pub entry_alone : List ℕ → ℕ → List Entry
entry_alone b slot = entries_in b (head b) (slot ∷ [])

-- the entries of the slots from one on
abbrev pub entries_from : List ℕ → Header → ℕ → List Entry
entries_from b h slot = entries_in b h (range_with_len slot (h.length - slot))

-- all entries, by what was read as the header; none where that is a fault
abbrev pub entries_with : List ℕ → Result Header HeaderFault → List Entry
entries_with b (Err fault) = []
entries_with b (Ok h) = entries b h

-- all entries of an image's bytes
abbrev pub entries_of : List ℕ → List Entry
entries_of b = entries_with b (header_of b)

-- what is handed out has slot, name and content of the first of some entries, and the rest follows
-- it
pub record IsFirst (all : List Entry) (given : handed.Entry) (rest : List Entry) : Type 0 where
  pub entry : Entry
  pub first : all ≡ entry ∷ rest
  pub slot : given.slot ≡ entry.slot
  pub name : given.name ≡ entry.name
  pub content : given.bytes.now ≡ entry.content

-- the same bytes are read, and the count didn't fall
pub record IsLater (old new : Metered) : Type 0 where
  pub bytes : new.bytes ≡ old.bytes
  pub count : old.count ≤ new.count
