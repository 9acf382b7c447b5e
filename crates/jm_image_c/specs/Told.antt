-- The numbers in which the exports tell what the libraries below them answer.
use Rattle.std.specs.Prelude.{ℕ, ◌+◌, ◌==◌, ◌≡◌, nat_lt, List, [], ◌∷◌, ◌++◌, length, take, drop}
use Rattle.std.specs.Prelude.{Bool, ◌&&◌, ◌||◌, Option, Some, None}
use Rattle.std.specs.Prelude.{Result, Ok, Err, if◌then◌else◌, true, false}
use Rattle.jm_form.specs.declared.container.Header.{Header}
use Rattle.jm_form.specs.declared.container.HeaderFault.{HeaderFault}
use Rattle.jm_form.specs.declared.container.HeaderFault.TheVariants.{Short, Magic, Version, Sizes}
use Rattle.jm_form.specs.declared.damage.Damage.{Damage}
use Rattle.jm_form.specs.declared.damage.Damage.TheVariants as damage
use Rattle.jm_form.specs.declared.rows.Row.{Row}
use Rattle.jm_form.specs.Entries as form
use Rattle.jm_form.specs.Head.{index_length}
use Rattle.jm_form.specs.Places.{strings_place}
use Rattle.jm_form.specs.TreeView.{TreeItem, Folder, Package, File, Link}
use Rattle.jm_reader.specs.Look.{head}
use Rattle.jm_reader.specs.Walk.{entry_alone}
use Rattle.jm_jrt.specs.declared.jrt_error.JrtError.{JrtError}
use Rattle.jm_jrt.specs.declared.jrt_error.JrtError.TheVariants.{NotThere, BadNode, NotFolder}
use Rattle.jm_image_c.specs.declared.numbers.Content.{Content}
use Rattle.jm_image_c.specs.declared.numbers.Entry.{Entry}
use Rattle.jm_image_c.specs.declared.numbers.Owner.{Owner}
use Rattle.jm_image_c.specs.declared.numbers.Standing.{Standing}
use Rattle.jm_image_c.specs.declared.numbers.Verdict.{Verdict}

-- Damages

-- a kind of damage with its two numbers
abbrev pub verdict_of : ℕ → ℕ → ℕ → Verdict
verdict_of kind first second = record { kind = kind; first = first; second = second }

-- a header's fault by its kind, with the version where it is that
abbrev pub header_verdict : HeaderFault → Verdict
header_verdict Short = verdict_of 1 0 0
header_verdict Magic = verdict_of 2 0 0
header_verdict (Version word) = verdict_of 3 word 0
header_verdict Sizes = verdict_of 4 0 0

-- a damage by its kind and its numbers, in the order in which the damage has them
abbrev pub damage_verdict : Damage → Verdict
damage_verdict (damage.Header fault) = header_verdict fault
damage_verdict (damage.Offset slot) = verdict_of 5 slot 0
damage_verdict (damage.Row slot) = verdict_of 6 slot 0
damage_verdict (damage.Compressed slot) = verdict_of 7 slot 0
damage_verdict (damage.Text slot kind) = verdict_of 8 slot kind
damage_verdict (damage.Range slot) = verdict_of 9 slot 0
damage_verdict (damage.Count stated found) = verdict_of 10 stated found
damage_verdict (damage.Overlap first second) = verdict_of 11 first second

-- a verdict of this kind has a first number: a version, a slot or a count
abbrev pub has_first : ℕ → Bool
has_first kind = kind == 3 || (nat_lt 4 kind && nat_lt kind 12)

-- a verdict of this kind has a second number: a text of a slot, a count or a slot
abbrev pub has_second : ℕ → Bool
has_second kind = kind == 8 || (kind == 10 || kind == 11)

-- the numbers that its kind doesn't have are 0
pub record HasOnlyItsNumbers (verdict : Verdict) : Type 0 where
  pub first : has_first verdict.kind ≡ false → verdict.first ≡ 0
  pub second : has_second verdict.kind ≡ false → verdict.second ≡ 0

-- Contents

-- no content
abbrev pub nowhere : Content
nowhere = record { place = 0; size = 0; found = false }

-- where the content of a row stands in the bytes of an image that has this header
abbrev pub row_content : Header → Row → Content
row_content h row =
    record { place = index_length h + row.offset; size = row.size; found = true }

-- where the content that a look-up answers stands in the bytes of an image, or nowhere
abbrev pub content_told : List ℕ → Option (Row × List ℕ) → Content
content_told b None = nowhere
content_told b (Some found) = row_content (head b) found.0

-- Trees

-- a kind with its number
abbrev pub standing_of : ℕ → ℕ → Standing
standing_of kind number = record { kind = kind; number = number }

-- what stands at a path, by its kind and its number of children, bytes or the bad word's place
abbrev pub standing_told : Result TreeItem JrtError → Standing
standing_told (Ok (Folder names)) = standing_of 1 (length names)
standing_told (Ok (Package owners)) = standing_of 1 (length owners)
standing_told (Ok (File bytes)) = standing_of 2 (length bytes)
standing_told (Ok (Link name)) = standing_of 3 (length name)
standing_told (Err (BadNode place)) = standing_of 4 place
standing_told (Err NotThere) = standing_of 0 0
standing_told (Err NotFolder) = standing_of 0 0

-- a kind with its number
abbrev pub owner_of : ℕ → ℕ → Owner
owner_of kind number = record { kind = kind; number = number }

-- the first full owner, by the size of its name
abbrev pub owner_told : Result (Option (List ℕ)) JrtError → Owner
owner_told (Ok (Some name)) = owner_of 1 (length name)
owner_told (Ok None) = owner_of 2 0
owner_told (Err (BadNode place)) = owner_of 4 place
owner_told (Err NotThere) = owner_of 0 0
owner_told (Err NotFolder) = owner_of 0 0

-- the name of the first full owner; no byte where there is none
abbrev pub owner_name : Result (Option (List ℕ)) JrtError → List ℕ
owner_name (Ok (Some name)) = name
owner_name other = []

-- a room with as many bytes of a text as it has room for at its front, and what stood behind them
abbrev pub put_front : List ℕ → List ℕ → List ℕ
put_front text room = take (length room) text ++ drop (length text) room

-- Entries

-- no entry
abbrev pub no_entry : Entry
no_entry = record {
  «module» = 0;
  parent = 0;
  base = 0;
  ext = 0;
  place = 0;
  size = 0;
  found = false;
}

-- where the texts and the content of a row stand in the bytes of an image that has this header
abbrev pub row_entry : Header → Row → Entry
row_entry h row = record {
  «module» = strings_place h + row.module;
  parent = strings_place h + row.parent;
  base = strings_place h + row.base;
  ext = strings_place h + row.ext;
  place = index_length h + row.offset;
  size = row.size;
  found = true;
}

-- the first of some entries of an image, or none
abbrev pub first_entry : List ℕ → List form.Entry → Entry
first_entry b [] = no_entry
first_entry b (e ∷ es) = row_entry (head b) e.row

-- the entry that a slot of an image holds, or none
abbrev pub entry_told : List ℕ → ℕ → Entry
entry_told b slot =
    if nat_lt slot (head b).length then first_entry b (entry_alone b slot) else no_entry

-- how many slots the table of an image has
abbrev pub slots_of : List ℕ → ℕ
slots_of b = (head b).length
