-- A greedy table and its parts, as they are built one after the other.
use Rattle.std.proofs.Common.{◌≡◌, ℕ, zero, suc, ◌+◌, ◌^◌, ◌<◌, ◌≤◌, List, [], ◌∷◌, ◌++◌, Option, Some, None, length}
use Rattle.std.proofs.Common.{map, take, get_or, option_map, refl, sym, ap, ◌∙◌, subst, arith}
use Rattle.std.proofs.lemmas.List.{take_more}
use Rattle.std.proofs.lemmas.List.Elements.{filter_map-append}
use Rattle.std.proofs.lemmas.List.FromFn.{length-map-range_with_len, get_or-map-range_with_len}
use Rattle.std.specs.List.{filter_map, cons_option, range_with_len}
use Rattle.std.specs.Option.{option_to_list}
use Rattle.jm_bytes.proofs.Choice.{same_some}
use Rattle.jm_names.specs.Hash.{hash, default_seed}
use Rattle.jm_form.specs.declared.table.Redirect.{Redirect}
use Rattle.jm_form.specs.declared.table.Redirect.TheVariants as redirect
use Rattle.jm_form.specs.Greedy.{GreedyTable, greedy, greedy_among, first_table, given_in_turn}
use Rattle.jm_form.specs.Greedy.{buckets_in_turn, bucket_of, redirect_in, table_of, word_of}
use Rattle.jm_form.specs.Serves.{Serves}
use Rattle.jm_form.specs.Table.{slot_of}
use Rattle.jm_form.proofs.ServesLaws.{greedy_serves}
use Rattle.jm_redirect.specs.declared.building.Table.{Table}
use Rattle.jm_redirect.specs.Built.{as_table, redirect_at, ServesNames}
use Rattle.jm_redirect.proofs.LengthLaws.{lengths_left, among_here}

-- the slot of a name, by the redirect of its bucket
abbrev pub slot_by : List Redirect → List ℕ → Option ℕ
slot_by redirects name = slot_of (length redirects) name (get_or redirects (bucket_of (length redirects) name) redirect.Nowhere)

-- one name more
pub slots_more : (redirects : List Redirect) (names : List (List ℕ)) (i : ℕ) (d : List ℕ) (slots : List ℕ) → i < length names
    → slots ≡ filter_map (slot_by redirects) (take i names) → slots ++ option_to_list (slot_by redirects (get_or names i d))
    ≡ filter_map (slot_by redirects) (take (i + 1) names)
slots_more redirects names i d slots inside so_far =
    ap (λ l. l ++ option_to_list (slot_by redirects (get_or names i d))) so_far
    ∙ ap (λ l. filter_map (slot_by redirects) (take i names) ++ l) (one (slot_by redirects (get_or names i d)))
    ∙ sym (ap (filter_map (slot_by redirects)) (take_more names i d inside) ∙ filter_map-append (slot_by redirects)
    (take i names) (get_or names i d ∷ []))
  where
    one : (o : Option ℕ) → option_to_list o ≡ cons_option o []
    one None = refl
    one (Some x) = refl

-- functions with the same answers at all elements
filter_map_same : (f g : List ℕ → Option ℕ) (xs : List (List ℕ)) → ((x : List ℕ) → f x ≡ g x) → filter_map f xs ≡ filter_map g xs
filter_map_same f g [] same = refl
filter_map_same f g (x ∷ xs) same = ap (λ o. cons_option o (filter_map f xs)) (same x)
    ∙ ap (cons_option (g x)) (filter_map_same f g xs same)

-- the slots of a table, by its redirects
slots_of_table : (names : List (List ℕ)) (slots : ℕ) (given : List (ℕ × Redirect)) → length names ≤ slots
    → filter_map (slot_by (table_of names slots given).redirects) names ≡ (table_of names slots given).slots
slots_of_table [] slots given enough = refl
slots_of_table (first ∷ names) slots given enough =
    let redirects = map (redirect_in given) (range_with_len 0 slots) in
    let long = length-map-range_with_len (redirect_in given) 0 slots in
    filter_map_same (slot_by redirects) (λ name. slot_of slots name (redirect_in given (bucket_of slots name))) (first ∷ names)
    (λ name.
    let below : bucket_of slots name < slots = omega arith in
    ap (λ n. slot_of n name (get_or redirects (bucket_of n name) redirect.Nowhere)) long
    ∙ ap (slot_of slots name) (get_or-map-range_with_len (redirect_in given) 0 slots (bucket_of slots name)
    (bucket_of slots name) redirect.Nowhere below (omega arith)))

-- the table of these redirects
pub record IsTableOf (names : List (List ℕ)) (slots : ℕ) (redirects : List Redirect) : Type 0 where
  pub long : length redirects ≡ slots
  pub is : greedy names slots ≡ Some (record { length = slots; redirects = redirects; slots = filter_map (slot_by redirects) names })

pub table_with : (names : List (List ℕ)) (slots : ℕ) (redirects : List Redirect) → length names ≤ slots
    → option_map (λ t. t.redirects) (greedy names slots) ≡ Some redirects → IsTableOf names slots redirects
table_with names slots redirects enough is = go (given_in_turn names slots [] [] (buckets_in_turn names slots)) refl is
  where
    made : (given : List (ℕ × Redirect)) → given_in_turn names slots [] [] (buckets_in_turn names slots) ≡ Some given
        → IsTableOf names slots (table_of names slots given).redirects
    made given e = record {
      long = length-map-range_with_len (redirect_in given) 0 slots;
      is = ap (option_map (table_of names slots)) e
          ∙ ap (λ s. Some (record { length = slots; redirects = (table_of names slots given).redirects; slots = s }))
          (sym (slots_of_table names slots given enough));
    }

    go : (o : Option (List (ℕ × Redirect))) → given_in_turn names slots [] [] (buckets_in_turn names slots) ≡ o
        → option_map (λ t. t.redirects) (option_map (table_of names slots) o) ≡ Some redirects → IsTableOf names slots redirects
    go None e is = cc
    go (Some given) e is = subst (IsTableOf names slots) (same_some (table_of names slots given).redirects redirects is) (made given e)

-- a table that is built serves its names
pub table_serves : (names : List (List ℕ)) (slots : ℕ) (table : GreedyTable) → length names ≤ slots → slots < 2 ^ 31
    → greedy names slots ≡ Some table → table.length ≡ slots → ServesNames names (as_table table)
table_serves names slots table enough few is long =
    let served = greedy_serves names slots table enough few is in
    subst (λ n. Serves names n (map word_of table.redirects) table.slots) (sym long) served.serves

pub length_of_table : (names : List (List ℕ)) (slots : ℕ) (table : GreedyTable) → greedy names slots ≡ Some table → table.length ≡ slots
length_of_table names slots table is = go (given_in_turn names slots [] [] (buckets_in_turn names slots)) is
  where
    go : (o : Option (List (ℕ × Redirect))) → option_map (table_of names slots) o ≡ Some table → table.length ≡ slots
    go None is = cc
    go (Some given) is = sym (ap (λ (t : GreedyTable). t.length) (same_some (table_of names slots given) table is))

-- the parts that were built are those of the table
pub table_made : (names : List (List ℕ)) (slots : ℕ) (redirects : List Redirect) (given : List ℕ) → IsTableOf names slots redirects
    → given ≡ filter_map (slot_by redirects) names
    → ◌≡◌ {A = Option Table} (Some (record { length = slots; redirects = redirects; slot_of = given }))
    (option_map as_table (greedy names slots))
table_made names slots redirects given table given_are =
    let made : List ℕ → Option Table = λ g. Some (record { length = slots; redirects = redirects; slot_of = g }) in
    ap made given_are ∙ sym (ap (option_map as_table) table.is)

-- what a function leaves out
short_filter_map : (f : List ℕ → Option ℕ) (xs : List (List ℕ)) → length (filter_map f xs) ≤ length xs
short_filter_map f [] = omega arith
short_filter_map f (x ∷ xs) = go (f x) (short_filter_map f xs)
  where
    go : (o : Option ℕ) → length (filter_map f xs) ≤ length xs → length (cons_option o (filter_map f xs)) ≤ length (x ∷ xs)
    go None rest = omega (arith, rest)
    go (Some y) rest = omega (arith, rest)

filtered_at : (f : List ℕ → Option ℕ) (xs : List (List ℕ)) (k : ℕ) → length (filter_map f xs) ≡ length xs → k < length xs
    → f (get_or xs k []) ≡ Some (get_or (filter_map f xs) k 0)
filtered_at f [] k all below = absurd (omega (arith, below))
filtered_at f (x ∷ xs) k all below = go (f x) refl k all below (λ j same inside. filtered_at f xs j same inside)
  where
    go : (o : Option ℕ) → f x ≡ o → (k : ℕ) → length (cons_option o (filter_map f xs)) ≡ length (x ∷ xs) → k < length (x ∷ xs)
        → ((j : ℕ) → length (filter_map f xs) ≡ length xs → j < length xs → f (get_or xs j []) ≡ Some (get_or (filter_map f xs) j 0))
        → f (get_or (x ∷ xs) k []) ≡ Some (get_or (cons_option o (filter_map f xs)) k 0)
    go None is k all below rest = let short = short_filter_map f xs in absurd (omega (arith, short, all))
    go (Some y) is zero all below rest = is
    go (Some y) is (suc k) all below rest = rest k (omega (arith, all)) (omega (arith, below))

-- a name is led to its slot by the redirect of its bucket
pub led_by : (names : List (List ℕ)) (slots : ℕ) (table : GreedyTable) → length names ≤ slots → greedy names slots ≡ Some table
    → length table.slots ≡ length names → (k : ℕ) → k < length names
    → slot_of table.length (get_or names k []) (redirect_at table.redirects (hash default_seed (get_or names k [])))
    ≡ Some (get_or table.slots k 0)
led_by names slots table enough is each k below =
    let name = get_or names k [] in
    let of = table_with names slots table.redirects enough (ap (option_map (λ (t : GreedyTable). t.redirects)) is) in
    let given = filter_map (slot_by table.redirects) names in
    let made = same_some (record { length = slots; redirects = table.redirects; slots = given }) table (sym of.is ∙ is) in
    let slots_are : given ≡ table.slots = ap (λ (t : GreedyTable). t.slots) made in
    let length_is : slots ≡ table.length = ap (λ (t : GreedyTable). t.length) made in
    ap (λ (n : ℕ). slot_of n name (redirect_at table.redirects (hash default_seed name))) (sym (of.long ∙ length_is))
    ∙ filtered_at (slot_by table.redirects) names k (ap length slots_are ∙ each) below
    ∙ ap (λ (l : List ℕ). Some (get_or l k 0)) slots_are

-- The first length that has a table

-- the table of this length is the first
pub built : (names : List (List ℕ)) (tried slots : ℕ) (table : Table) → tried < 64 → option_map as_table (greedy names slots)
    ≡ Some table → first_table names ≡ greedy_among names (lengths_left tried slots) → option_map as_table (first_table names)
    ≡ Some table
built names tried slots table below is left = go (greedy names slots) refl is
  where
    go : (o : Option GreedyTable) → greedy names slots ≡ o → option_map as_table o ≡ Some table
        → option_map as_table (first_table names) ≡ Some table
    go None e is = cc
    go (Some g) e is = ap (option_map as_table) (left ∙ among_here names tried slots g below e) ∙ is

pub built_serves : (names : List (List ℕ)) (slots : ℕ) (table : Table) → length names ≤ slots → slots < 2 ^ 31
    → option_map as_table (greedy names slots) ≡ Some table → ServesNames names table
built_serves names slots table enough few is = go (greedy names slots) refl is
  where
    go : (o : Option GreedyTable) → greedy names slots ≡ o → option_map as_table o ≡ Some table → ServesNames names table
    go None e is = cc
    go (Some g) e is = subst (ServesNames names) (same_some (as_table g) table is) (table_serves names slots g enough few e
        (length_of_table names slots g e))

pub not_built : (names : List (List ℕ)) (slots : ℕ) → option_map as_table (greedy names slots) ≡ None → greedy names slots ≡ None
not_built names slots is = go (greedy names slots) refl is
  where
    go : (o : Option GreedyTable) → greedy names slots ≡ o → option_map as_table o ≡ None → greedy names slots ≡ None
    go None e is = e
    go (Some g) e is = cc
