-- The entries of an image: one slot more, what an entry is, and which of them can have a name.
use Rattle.std.proofs.Common.{◌≡◌, ℕ, ◌<◌, true, List, [], ◌∷◌, length}
use Rattle.std.proofs.Common.{Option, Some, None, AllPairs, Contains, option_map, refl, sym, ap, ◌∙◌}
use Rattle.std.proofs.Common.{subst, arith}
use Rattle.std.proofs.lemmas.Bool.{eqb-true, eq-eqb}
use Rattle.std.proofs.lemmas.List.Kept.{AllPairs-filter}
use Rattle.std.specs.List.{filter, filter_map, range_with_len}
use Rattle.jm_bytes.proofs.Choice.{same_some}
use Rattle.jm_bytes.proofs.Members.{contains_filter, contains_filter_map, contains_range}
use Rattle.jm_bytes.proofs.Members.{from_filter, from_filter_map, from_range}
use Rattle.jm_bytes.proofs.Pairs.{pairs_filter_map, range_rises}
use Rattle.jm_form.specs.declared.container.Header.{Header}
use Rattle.jm_form.specs.declared.rows.Row.{Row}
use Rattle.jm_form.specs.Entries.{Entry, entries, entry_at, entry_of, is_reached, name_of, row_at}
use Rattle.jm_form.specs.Places.{strings}
use Rattle.jm_form.specs.Table.{is_slot, probe}

-- One slot more

-- the entry of one slot
abbrev pub entry_alone : List ℕ → Header → ℕ → List Entry
entry_alone b h n = filter (is_reached b h) (filter_map (entry_at b h) (n ∷ []))

-- What an entry is

led_to_slot : (i : ℕ) (o : Option ℕ) → is_slot i o ≡ true → o ≡ Some i
led_to_slot i None e = cc
led_to_slot i (Some j) e = ap (λ (k : ℕ). Some k) (sym (eqb-true i j e))

slot_led_to : (i : ℕ) (o : Option ℕ) → o ≡ Some i → is_slot i o ≡ true
slot_led_to i o e = rw e (eq-eqb i i refl)

-- it stands in a slot of the table, of which it has the row, the name and the content, and its name
-- leads there
pub record IsEntry (b : List ℕ) (h : Header) (e : Entry) : Type 0 where
  pub below : e.slot < h.length
  pub row : row_at b h e.slot ≡ Some e.row
  pub is : e ≡ entry_of b h e.slot e.row
  pub led : probe b h e.name ≡ Some e.slot

-- the entry that a slot spells
entry_spelled : (b : List ℕ) (h : Header) (i : ℕ) (e : Entry) → entry_at b h i ≡ Some e → (row_at b h i ≡ Some e.row)
    × (e ≡ entry_of b h i e.row)
entry_spelled b h i e there = go (row_at b h i) refl there
  where
    go : (o : Option Row) → row_at b h i ≡ o → option_map (entry_of b h i) o ≡ Some e → (row_at b h i ≡ Some e.row)
        × (e ≡ entry_of b h i e.row)
    go None at there = cc
    go (Some row) at there =
        let same : entry_of b h i row ≡ e = same_some (entry_of b h i row) e there in
        let rows : row ≡ e.row = ap (λ (f : Entry). f.row) same in
        (at ∙ ap (λ (r : Row). Some r) rows, sym same ∙ ap (entry_of b h i) rows)

pub entry_from : (b : List ℕ) (h : Header) (e : Entry) → Contains (entries b h) e → IsEntry b h e
entry_from b h e there =
    let reached = from_filter (is_reached b h) (filter_map (entry_at b h) (range_with_len 0 h.length)) e there in
    let read = from_filter_map (entry_at b h) (range_with_len 0 h.length) e reached.0 in
    let i : ℕ = read.0 in
    let within = from_range 0 h.length i read.1 in
    let spelled = entry_spelled b h i e read.2 in
    let below : i < h.length = omega (arith, within.1) in
    let slot : i ≡ e.slot = sym (ap (λ (f : Entry). f.slot) spelled.1) in
    record {
      below = subst (λ (k : ℕ). k < h.length) slot below;
      row = subst (λ (k : ℕ). row_at b h k ≡ Some e.row) slot spelled.0;
      is = subst (λ (k : ℕ). e ≡ entry_of b h k e.row) slot spelled.1;
      led = led_to_slot e.slot (probe b h e.name) reached.1;
    }

-- and back
pub entry_there : (b : List ℕ) (h : Header) (i : ℕ) (row : Row) → i < h.length → row_at b h i ≡ Some row
    → probe b h (name_of (strings b h) row) ≡ Some i → Contains (entries b h) (entry_of b h i row)
entry_there b h i row below there led =
    let slot = contains_range 0 h.length i (omega arith) (omega arith) in
    let read = contains_filter_map (entry_at b h) (range_with_len 0 h.length) i (entry_of b h i row) slot
    (ap (option_map (entry_of b h i)) there) in
    contains_filter (is_reached b h) (filter_map (entry_at b h) (range_with_len 0 h.length)) (entry_of b h i row) read
    (slot_led_to i (probe b h (name_of (strings b h) row)) led)

-- the slots of the entries rise
pub slots_rise : (b : List ℕ) (h : Header) → AllPairs (λ e f. e.slot < f.slot) (entries b h)
slots_rise b h =
    AllPairs-filter (λ e f. e.slot < f.slot) (is_reached b h) (filter_map (entry_at b h) (range_with_len 0 h.length))
    (pairs_filter_map (λ i j. i < j) (λ e f. e.slot < f.slot) (entry_at b h) carried (range_with_len 0 h.length) (range_rises 0 h.length))
  where
    carried : (i j : ℕ) → i < j → (e f : Entry) → entry_at b h i ≡ Some e → entry_at b h j ≡ Some f → e.slot < f.slot
    carried i j before e f first second =
        let one : e.slot ≡ i = ap (λ (g : Entry). g.slot) (entry_spelled b h i e first).1 in
        let other : f.slot ≡ j = ap (λ (g : Entry). g.slot) (entry_spelled b h j f second).1 in
        omega arith

-- Names

-- two entries with the same name stand in the same slot, and are the same
pub names_differ : (b : List ℕ) (h : Header) (e f : Entry) → Contains (entries b h) e → Contains (entries b h) f → e.name ≡ f.name
    → e.slot ≡ f.slot
names_differ b h e f first second same =
    let one = (entry_from b h e first).led in
    let other = (entry_from b h f second).led in
    same_some e.slot f.slot (sym one ∙ ap (probe b h) same ∙ other)

pub same_entry : (b : List ℕ) (h : Header) (e f : Entry) → Contains (entries b h) e → Contains (entries b h) f → e.name ≡ f.name → e ≡ f
same_entry b h e f first second same =
    let one = entry_from b h e first in
    let other = entry_from b h f second in
    let slots : e.slot ≡ f.slot = names_differ b h e f first second same in
    let rows : e.row ≡ f.row = same_some e.row f.row (sym one.row ∙ ap (row_at b h) slots ∙ other.row) in
    one.is ∙ ap (λ (i : ℕ). entry_of b h i e.row) slots ∙ ap (entry_of b h f.slot) rows ∙ sym other.is
