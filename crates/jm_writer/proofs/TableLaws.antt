-- The table of the names, from what is built.
use Rattle.std.proofs.Common.{◌≡◌, ℕ, zero, suc, ◌+◌, ◌*◌, ◌<◌, ◌≤◌, List, [], ◌∷◌, Option, Some, None}
use Rattle.std.proofs.Common.{length, map, get_or, All, option_map, refl, sym, ap, ◌∙◌, subst, arith}
use Rattle.std.proofs.lemmas.List.{length-map}
use Rattle.std.proofs.lemmas.List.Elements.{All-head, All-tail}
use Rattle.std.proofs.lemmas.Grind.{get_or_default_zero}
use Rattle.std.specs.Option.{option_or}
use Rattle.jm_bytes.proofs.Choice.{same_some}
use Rattle.jm_form.specs.Greedy.{GreedyTable, bucket_of, first_table, greedy, greedy_among, lengths_from}
use Rattle.jm_form.specs.Greedy.{next_length, table_lengths, word_of}
use Rattle.jm_form.specs.Serves.{Serves}
use Rattle.jm_form.specs.Table.{redirect_of}
use Rattle.jm_form.proofs.LookLaws.{slot_within}
use Rattle.jm_form.proofs.ServesLaws.{greedy_serves}
use Rattle.jm_redirect.specs.declared.building.Table.{Table}
use Rattle.jm_redirect.specs.Built.{as_table}
use Rattle.jm_redirect.proofs.LengthLaws.{next_within}
use Rattle.jm_redirect.proofs.TableLaws.{led_by, length_of_table}
use Rattle.jm_writer.specs.Laying.{IsTable}

-- the length at which a table was found
record FoundAt (names : List (List ℕ)) (table : GreedyTable) (most : ℕ) : Type 0 where
  slots : ℕ
  is : greedy names slots ≡ Some table
  enough : length names ≤ slots
  few : slots ≤ most

found_among : (names : List (List ℕ)) (table : GreedyTable) (count slots : ℕ) → length names ≤ slots
    → greedy_among names (lengths_from count slots) ≡ Some table → FoundAt names table (slots + 2 * count)
found_among names table zero slots enough is = cc
found_among names table (suc count) slots enough is =
    go (greedy names slots) refl is (λ rest. found_among names table count (next_length slots)
    (let more = next_within slots in omega (arith, more.0)) rest)
  where
    go : (o : Option GreedyTable) → greedy names slots ≡ o
        → option_or o (greedy_among names (lengths_from count (next_length slots))) ≡ Some table
        → (greedy_among names (lengths_from count (next_length slots)) ≡ Some table → FoundAt names table (next_length slots + 2 * count))
        → FoundAt names table (slots + 2 * suc count)
    go (Some first) e is rest = record { slots = slots; is = e ∙ is; enough = enough; few = omega arith }
    go None e is rest =
        let later = rest is in
        let more = next_within slots in
        record { slots = later.slots; is = later.is; enough = later.enough; few = let within = later.few in omega (arith, within, more.1) }

found_first : (names : List (List ℕ)) (table : GreedyTable) → first_table names ≡ Some table → FoundAt names table (length names + 128)
unfolding table_lengths
found_first names table is = found_among names table 64 (length names) (omega arith) is

all_below : (names : List (List ℕ)) (slots : ℕ) (words given : List ℕ) → Serves names slots words given → All (λ slot. slot < slots) given
all_below names slots words given serves k d inside =
    let long = serves.given_length in
    let name = get_or names k [] in
    subst (λ s. s < slots) (sym (get_or_default_zero given k d inside))
    (slot_within slots name (redirect_of (get_or words (bucket_of slots name) 0)) (get_or given k 0) (serves.led k (omega arith)))

of_greedy : (names : List (List ℕ)) (greedy_table : GreedyTable) → length names ≤ 1048576 → first_table names ≡ Some greedy_table
    → IsTable names (as_table greedy_table)
of_greedy names table few is =
    let found = found_first names table is in
    let slots = found.slots in
    let within = found.few in
    let served = greedy_serves names slots table found.enough (omega arith) found.is in
    let serves = served.serves in
    let size = length_of_table names slots table found.is in
    record {
      greedy = table;
      first = is;
      size = refl;
      given = refl;
      redirects = refl;
      whole = sym (length-map table.redirects word_of) ∙ serves.words_length ∙ sym size;
      few = omega arith;
      each = serves.given_length;
      below = subst (λ n. All (λ slot. slot < n) table.slots) (sym size) (all_below names slots (map word_of table.redirects)
          table.slots serves);
      apart = serves.apart;
      serves = subst (λ n. Serves names n (map word_of table.redirects) table.slots) (sym size) serves;
      led = led_by names slots table found.enough found.is serves.given_length;
    }

-- what is built is the table of the names
pub table_built : (names : List (List ℕ)) (table : Table) → length names ≤ 1048576 → option_map as_table (first_table names)
    ≡ Some table → IsTable names table
table_built names table few is = go (first_table names) refl is
  where
    go : (o : Option GreedyTable) → first_table names ≡ o → option_map as_table o ≡ Some table → IsTable names table
    go None e is = cc
    go (Some g) e is = subst (IsTable names) (same_some (as_table g) table is) (of_greedy names g few e)

none_among : (names : List (List ℕ)) (lengths : List ℕ) → All (λ slots. greedy names slots ≡ None) lengths
    → greedy_among names lengths ≡ None
none_among names [] none = refl
none_among names (slots ∷ lengths) none =
    ap (λ o. option_or o (greedy_among names lengths)) (All-head (λ s. greedy names s ≡ None) slots lengths none)
    ∙ none_among names lengths (All-tail (λ s. greedy names s ≡ None) slots lengths none)

-- none of the lengths has a table
pub none_built : (names : List (List ℕ)) → All (λ slots. greedy names slots ≡ None) (table_lengths (length names))
    → first_table names ≡ None
none_built names none = none_among names (table_lengths (length names)) none
