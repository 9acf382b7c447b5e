-- The table of a layout: it serves the names, its redirects have words, and it is no longer than the
-- image.
use Rattle.std.proofs.Common.{◌≡◌, ℕ, zero, suc, ◌*◌, ◌^◌, ◌<◌, ◌≤◌, inl, inr, List, [], ◌∷◌, length, Option}
use Rattle.std.proofs.Common.{Some, None, Contains, option_map, refl, sym, ap, ◌∙◌, subst, arith}
use Rattle.std.proofs.lemmas.List.FromFn.{length-map-range_with_len}
use Rattle.std.specs.Option.{option_or}
use Rattle.jm_bytes.proofs.Choice.{same_some}
use Rattle.jm_bytes.proofs.Members.{contains_cases, contains_here, contains_later, contains_none}
use Rattle.jm_bytes.specs.declared.words.Order.{Order}
use Rattle.jm_form.specs.declared.table.Redirect.{Redirect}
use Rattle.jm_form.specs.Greedy.{GreedyTable, buckets_in_turn, first_table, given_in_turn, greedy}
use Rattle.jm_form.specs.Greedy.{greedy_among, lengths_from, next_length, redirect_in, table_lengths}
use Rattle.jm_form.specs.Greedy.{table_of}
use Rattle.jm_form.specs.Layout.{Written, all_names, layout, layout_table, layout_with}
use Rattle.jm_form.proofs.ServesLaws.{greedy_serves, Served}
use Rattle.jm_redirect.proofs.LengthLaws.{next_within}
use Rattle.jm_redirect.proofs.TableLaws.{length_of_table}
use Rattle.jm_writer.proofs.LayoutLaws.{layout_length}

-- the length at which a table was found
found_among : (names : List (List ℕ)) (lengths : List ℕ) (table : GreedyTable) → greedy_among names lengths ≡ Some table
    → (slots : ℕ) × Contains lengths slots × (greedy names slots ≡ Some table)
found_among names [] table is = cc
found_among names (slots ∷ lengths) table is = go (greedy names slots) refl is (λ rest. found_among names lengths table rest)
  where
    go : (o : Option GreedyTable) → greedy names slots ≡ o → option_or o (greedy_among names lengths) ≡ Some table
        → (greedy_among names lengths ≡ Some table → (s : ℕ) × Contains lengths s × (greedy names s ≡ Some table)) → (s : ℕ)
        × Contains (slots ∷ lengths) s × (greedy names s ≡ Some table)
    go None e is rest = let (s, later, here) = rest is in (s, contains_later slots lengths s later, here)
    go (Some other) e is rest = (slots, contains_here slots lengths, e ∙ is)

lengths_rise : (count slots s : ℕ) → Contains (lengths_from count slots) s → slots ≤ s
lengths_rise zero slots s there = absurd (contains_none s there)
lengths_rise (suc count) slots s there =
    elim (contains_cases slots (lengths_from count (next_length slots)) s there) [
      | inl same ↦ omega (arith, same)
      | inr later ↦ omega (arith, (next_within slots).0, lengths_rise count (next_length slots) s later)
    ]

lengths_enough : (count s : ℕ) → Contains (table_lengths count) s → count ≤ s
unfolding table_lengths
lengths_enough count s there = lengths_rise 64 count s there

redirects_of_table : (names : List (List ℕ)) (slots : ℕ) (table : GreedyTable) → greedy names slots ≡ Some table
    → length table.redirects ≡ slots
redirects_of_table names slots table is = go (given_in_turn names slots [] [] (buckets_in_turn names slots)) is
  where
    go : (o : Option (List (ℕ × Redirect))) → option_map (table_of names slots) o ≡ Some table → length table.redirects ≡ slots
    go None is = cc
    go (Some given) is = ap (λ (t : GreedyTable). length t.redirects) (sym (same_some (table_of names slots given) table is))
        ∙ length-map-range_with_len (redirect_in given) 0 slots

-- what a layout's table keeps
pub record TableFor (names : List (List ℕ)) (table : GreedyTable) : Type 0 where
  pub redirects : length table.redirects ≡ table.length
  pub served : table.length < 2 ^ 31 → Served names table.length table

pub table_found : (names : List (List ℕ)) (table : GreedyTable) → first_table names ≡ Some table → TableFor names table
table_found names table is =
    let (slots, among, here) = found_among names (table_lengths (length names)) table is in
    let long : table.length ≡ slots = length_of_table names slots table here in
    let enough = lengths_enough (length names) slots among in
    record {
      redirects = redirects_of_table names slots table here ∙ sym long;
      served = λ few. subst (λ n. Served names n table) (sym long) (greedy_serves names slots table enough (omega (arith, long, few)) here);
    }

-- a layout is that of a table
pub layout_from : (order : Order) (resources : List Written) (b : List ℕ) → layout order resources ≡ Some b → (table : GreedyTable)
    × (layout_table resources ≡ Some table) × (layout_with order resources table ≡ b)
layout_from order resources b is = go (layout_table resources) refl is
  where
    go : (o : Option GreedyTable) → layout_table resources ≡ o → option_map (layout_with order resources) o ≡ Some b
        → (table : GreedyTable) × (layout_table resources ≡ Some table) × (layout_with order resources table ≡ b)
    go None e is = cc
    go (Some table) e is = (table, e, same_some (layout_with order resources table) b is)

-- eight bytes of the image for each slot
pub slots_within : (order : Order) (resources : List Written) (table : GreedyTable) → TableFor (all_names resources) table
    → 8 * table.length ≤ length (layout_with order resources table)
slots_within order resources table found = let size = layout_length order resources table found.redirects in omega (arith, size)
