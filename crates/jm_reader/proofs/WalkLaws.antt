-- The entries of the slots from one on: that slot's, and those of the slots behind it.
use Rattle.std.proofs.Common.{◌≡◌, ◌≢◌, ℕ, suc, ◌+◌, ◌-◌, ◌<◌, List, [], ◌∷◌, ◌++◌, get_or, AllPairs, ap, ◌∙◌, arith}
use Rattle.std.proofs.lemmas.List.Elements.{Contains-get_or, filter-append, filter_map-append}
use Rattle.std.specs.List.{filter, filter_map, range_with_len}
use Rattle.jm_bytes.specs.Metered.{Metered}
use Rattle.jm_form.specs.declared.container.Header.{Header}
use Rattle.jm_form.specs.Entries.{entries, entry_at, is_reached}
use Rattle.jm_form.proofs.EntryLaws.{names_differ, slots_rise}
use Rattle.jm_reader.specs.Walk.{entries_from, entries_in, IsLater}

pub from_more : (b : List ℕ) (h : Header) (slot : ℕ) → slot < h.length → entries_from b h slot ≡ entries_in b h (slot ∷ [])
    ++ entries_from b h (slot + 1)
from_more b h slot below =
    let later : List ℕ = range_with_len (slot + 1) (h.length - (slot + 1)) in
    let size : h.length - slot ≡ suc (h.length - (slot + 1)) = omega arith in
    let read = filter_map-append (entry_at b h) (slot ∷ []) later in
    ap (λ (n : ℕ). entries_in b h (range_with_len slot n)) size
    ∙ ap (filter (is_reached b h)) read
    ∙ filter-append (is_reached b h) (filter_map (entry_at b h) (slot ∷ [])) (filter_map (entry_at b h) later)

-- All of them

-- the entries of an image have different names
pub entries_differ : (b : List ℕ) (h : Header) → AllPairs (λ e f. e.name ≢ f.name) (entries b h)
entries_differ b h i j d before inside same =
    let slots = slots_rise b h i j d before inside in
    let one = Contains-get_or (entries b h) i d (omega arith) in
    let other = Contains-get_or (entries b h) j d inside in
    absurd (omega (arith, slots, names_differ b h (get_or (entries b h) i d) (get_or (entries b h) j d) one other same))

-- Meters

pub later_further : (first second third : Metered) → IsLater first second → IsLater second third → IsLater first third
later_further first second third one other = record { bytes = other.bytes ∙ one.bytes; count = omega (arith, one.count, other.count) }
