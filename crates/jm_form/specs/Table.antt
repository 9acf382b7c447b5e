-- The table of an image, which leads a name to a slot (jimage 1.0).
use Rattle.std.specs.Prelude.{ℕ, ◌-◌, ◌%◌, ◌^◌, ◌==◌, nat_lt, Bool, false, List, Option, Some, None}
use Rattle.std.specs.Prelude.{if◌then◌else◌}
use Rattle.jm_names.specs.Hash.{hash, default_seed}
use Rattle.jm_form.specs.declared.container.Header.{Header}
use Rattle.jm_form.specs.declared.table.Redirect.{Redirect}
use Rattle.jm_form.specs.declared.table.Redirect.TheVariants as redirect
use Rattle.jm_form.specs.Places.{redirect_word}

-- what a redirect word says of the names of its bucket: 0 nothing, a word above 0 the seed of a
-- second hash, and one below 0 the slot, as -1 less the slot
abbrev pub redirect_of : ℕ → Redirect
redirect_of word =
    if word == 0 then redirect.Nowhere
    else if nat_lt word (2 ^ 31) then redirect.Seed word
    else redirect.Slot (2 ^ 32 - 1 - word)

-- what the table says of the names with this hash; a table of no slot says nothing
abbrev pub redirect_at : List ℕ → Header → ℕ → Redirect
redirect_at b h hash =
    if h.length == 0 then redirect.Nowhere else redirect_of (redirect_word b h (hash % h.length))

-- the slot, if a table of this length has it
abbrev pub slot_below : ℕ → ℕ → Option ℕ
slot_below slots slot = if nat_lt slot slots then Some slot else None

-- the slot of a table of this length to which a name is led
abbrev pub slot_of : ℕ → List ℕ → Redirect → Option ℕ
slot_of slots name redirect.Nowhere = None
slot_of slots name (redirect.Slot slot) = slot_below slots slot
slot_of slots name (redirect.Seed seed) = slot_below slots (hash seed name % slots)

-- the slot to which the table leads a name, or none; it looks at no name
abbrev pub probe : List ℕ → Header → List ℕ → Option ℕ
probe b h name = slot_of h.length name (redirect_at b h (hash default_seed name))

-- the slot that was led to is this one
abbrev pub is_slot : ℕ → Option ℕ → Bool
is_slot i None = false
is_slot i (Some j) = i == j
