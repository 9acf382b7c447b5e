-- The parts that were laid out and drawn are those of the layout.
use Rattle.std.proofs.Common.{AllPairs, ◌≢◌, ◌≡◌, ℕ, zero, suc, ◌+◌, ◌-◌, ◌*◌, ◌<◌, ◌≤◌, ◌==◌, ◌⊎◌, inl, inr, Bool}
use Rattle.std.proofs.Common.{true, false, cond, is_some, List, [], ◌∷◌, ◌++◌, Option, Some, None, Err}
use Rattle.std.proofs.Common.{unwrap_or, length, map, get_or, slice_get, All, Contains, refl, sym, ap, ◌∙◌}
use Rattle.std.proofs.Common.{subst, arith, append_assoc, length-append}
use Rattle.std.specs.Prelude.{sum}
use Rattle.std.specs.List.{flat_map, range_with_len, zip}
use Rattle.std.specs.Map.{lookup}
use Rattle.std.specs.Str.{bytes_eq}
use Rattle.std.proofs.lemmas.Bool.{cases_lt, eqb-true, lt-ltb, le-ltb}
use Rattle.std.proofs.lemmas.List.{append-nil, get_or_past, length-map}
use Rattle.std.proofs.lemmas.List.Elements.{All-head, All-tail}
use Rattle.std.proofs.lemmas.List.FromFn.{get_or-map-range_with_len, length-map-range_with_len}
use Rattle.jm_bytes.specs.declared.words.Order.{Order}
use Rattle.jm_bytes.specs.Results.{IfAnswered}
use Rattle.jm_bytes.specs.declared.faults.Or.{Or}
use Rattle.jm_bytes.specs.declared.faults.Or.TheVariants as due
use Rattle.jm_bytes.proofs.Members.{contains_here, contains_later}
use Rattle.jm_bytes.proofs.Pairs.{range_more}
use Rattle.jm_form.specs.Strings.{section_of, IsZeroFree}
use Rattle.jm_strings.specs.Limit.{limit}
use Rattle.jm_form.specs.declared.rows.Row.{Row}
use Rattle.jm_form.specs.declared.trees.Holds.{Holds}
use Rattle.jm_form.specs.declared.trees.Holds.TheVariants.{Children, Owners}
use Rattle.jm_form.specs.declared.trees.TreeNode.{TreeNode}
use Rattle.jm_form.specs.Greedy.{word_of}
use Rattle.jm_form.specs.Layout.{Index, Sized, Written, all_names, all_sized, contents_text, index_text}
use Rattle.jm_form.specs.Layout.{layout_index, layout_with, location_of, locations_below, locations_text, name_place}
use Rattle.jm_form.specs.Layout.{names_of, node_words, offset_words, redirect_words, row_in, row_place}
use Rattle.jm_form.specs.Layout.{rows_from, sized, sized_node, texts_of, written_node}
use Rattle.jm_form.specs.Nodes.{words_text}
use Rattle.jm_form.specs.Trees.{first_clash, tree_nodes}
use Rattle.jm_form.proofs.PartLaws.{length-rows}
use Rattle.jm_names.specs.NameFaults.{IsSound}
use Rattle.jm_nodes.specs.Refusals.{IsRefused}
use Rattle.jm_nodes.specs.declared.trees.NodesFault.TheVariants as unmade
use Rattle.jm_nodes.proofs.EndLaws.{has_nodes}
use Rattle.jm_redirect.specs.declared.building.Table.{Table}
use Rattle.jm_writer.specs.declared.draft.Draft.{Draft}
use Rattle.jm_writer.specs.declared.draft.PlanFault.{PlanFault}
use Rattle.jm_writer.specs.declared.draft.PlanFault.TheVariants as refusal
use Rattle.jm_writer.specs.declared.entries.Entries.{Entries}
use Rattle.jm_writer.specs.declared.laying.Laid.{Laid}
use Rattle.jm_writer.specs.Drafts.{IsDraft, IsLarge, Plans, image_limit}
use Rattle.jm_writer.specs.Laying.{AreFit, IsDrawn, IsLaid, IsTable, Lays, laid_length, slot_rows}
use Rattle.jm_writer.specs.Parts.{IsOfEntries, child_word, holds_words, index_bytes, locations_of, place_at, places_from}
use Rattle.jm_writer.specs.Parts.{rows_in_slots, sized_as, slot_in, tail_bytes}
use Rattle.jm_writer.specs.Laid.{CanLay}
use Rattle.jm_writer.proofs.LaidNames.{names_differ, names_zero_free}
use Rattle.jm_writer.proofs.LayoutLaws.{layout_length}
use Rattle.jm_writer.proofs.LedLaws.{AreNamed, led_there, nodes_named}

-- Lists

flat_push : {A B : Type 0} (f : A → List B) (xs : List A) (x : A) → flat_map f (xs ++ x ∷ []) ≡ flat_map f xs ++ f x
flat_push f [] x = append-nil (f x)
flat_push f (y ∷ xs) x = ap (λ l. f y ++ l) (flat_push f xs x) ∙ sym (append_assoc (f y) (flat_map f xs) (f x))

flat_mapped : {A B C : Type 0} (f : B → List C) (g : A → B) (xs : List A) → flat_map f (map g xs) ≡ flat_map (λ x. f (g x)) xs
flat_mapped f g [] = refl
flat_mapped f g (x ∷ xs) = ap (λ l. f (g x) ++ l) (flat_mapped f g xs)

map_same : {A B : Type 0} (f g : A → B) (xs : List A) → ((x : A) → Contains xs x → f x ≡ g x) → map f xs ≡ map g xs
map_same f g [] same = refl
map_same f g (x ∷ xs) same = ap (λ y. y ∷ map f xs) (same x (contains_here x xs))
    ∙ ap (λ l. g x ∷ l) (map_same f g xs (λ y there. same y (contains_later x xs y there)))

slice_get_or : (xs : List ℕ) (i : ℕ) → unwrap_or (slice_get xs i) 0 ≡ get_or xs i 0
slice_get_or [] i = refl
slice_get_or (x ∷ xs) zero = refl
slice_get_or (x ∷ xs) (suc i) = slice_get_or xs i

-- Entries

sized_back : (es : List Sized) → sized_as (map (λ e. e.name) es) (map (λ e. e.size) es) ≡ es
sized_back [] = refl
sized_back (e ∷ es) = ap (λ l. e ∷ l) (sized_back es)

-- the two lists of some entries
abbrev lists_of : List Sized → Entries
lists_of es = record { names = map (λ e. e.name) es; sizes = map (λ e. e.size) es }

entries_are : (es : List Sized) (entries : Entries) → IsOfEntries es entries → entries ≡ lists_of es
entries_are es entries is =
    ap (λ n. record { names = n; sizes = entries.sizes }) is.names
    ∙ ap (λ s. record { names = map (λ e. e.name) es; sizes = s }) is.sizes

-- Locations

module _ (index : Index) where
  locations_are : (count : ℕ) → locations_of (map (row_in index) (range_with_len 0 count)) ≡ locations_below index count
  locations_are count = ap (λ l. 0 ∷ l) (flat_mapped location_of (row_in index) (range_with_len 0 count))

  below_next : (slot : ℕ) → length (locations_below index slot) + length (location_of (row_in index slot))
      ≡ length (locations_below index (slot + 1))
  below_next slot =
      let row : ℕ → List ℕ = λ below. location_of (row_in index below) in
      let more : flat_map row (range_with_len 0 (slot + 1)) ≡ flat_map row (range_with_len 0 slot) ++ row slot =
      ap (flat_map row) (range_more 0 slot) ∙ flat_push row (range_with_len 0 slot) (0 + slot)
      ∙ ap (λ (n : ℕ). flat_map row (range_with_len 0 slot) ++ row n) (let same : 0 + slot ≡ slot = omega arith in same) in
      let size = ap length more in
      let both = length-append (flat_map row (range_with_len 0 slot)) (row slot) in
      omega (arith, size, both)

  place_is : (slot : ℕ) → place_at (length (locations_below index slot)) (row_in index slot) ≡ row_place index slot
  place_is slot = go (row_in index slot)
    where
      go : (o : Option Row) → place_at (length (locations_below index slot)) o ≡ cond (is_some o) (length (locations_below index slot)) 0
      go None = refl
      go (Some row) = refl

  places_are : (slot count : ℕ) → places_from (length (locations_below index slot)) (map (row_in index) (range_with_len slot count))
      ≡ map (row_place index) (range_with_len slot count)
  places_are slot zero = refl
  places_are slot (suc count) =
      ap (λ n. n ∷ places_from (length (locations_below index slot) + length (location_of (row_in index slot)))
      (map (row_in index) (range_with_len (slot + 1) count))) (place_is slot)
      ∙ ap (λ l. row_place index slot ∷ l)
      (ap (λ n. places_from n (map (row_in index) (range_with_len (slot + 1) count))) (below_next slot) ∙ places_are (slot + 1) count)

  all_places : places_from 1 (map (row_in index) (range_with_len 0 index.table.length)) ≡ offset_words index
  all_places = places_are 0 index.table.length

  -- a slot that no entry has
  none_at : (slots : List ℕ) (rows : List Row) (slot count : ℕ) → count ≤ slot → All (λ s. s < count) slots
      → lookup (λ other. slot == other) (zip slots rows) ≡ None
  none_at [] rows slot count above below = refl
  none_at (s ∷ slots) [] slot count above below = refl
  none_at (s ∷ slots) (row ∷ rows) slot count above below = go (slot == s) refl (λ rest. none_at slots rows slot count above rest)
    where
      go : (b : Bool) → (slot == s) ≡ b → (All (λ x. x < count) slots → lookup (λ other. slot == other) (zip slots rows) ≡ None)
          → cond b (Some row) (lookup (λ other. slot == other) (zip slots rows)) ≡ None
      go true test rest =
          let same = eqb-true slot s test in
          let inside = All-head (λ x. x < count) s slots below in
          absurd (omega arith)
      go false test rest = rest (All-tail (λ x. x < count) s slots below)

  place_found : All (λ s. s < index.table.length) index.table.slots → (slot : ℕ) → unwrap_or (slice_get (offset_words index) slot) 0
      ≡ row_place index slot
  place_found below slot = slice_get_or (offset_words index) slot ∙ elim (cases_lt slot index.table.length) [
    | inl inside ↦ get_or-map-range_with_len (row_place index) 0 index.table.length slot slot 0 inside (omega arith)
    | inr above ↦
        get_or_past (offset_words index) slot 0 (let long = length-map-range_with_len (row_place index) 0 index.table.length in omega arith)
        ∙ sym (ap (λ (o : Option Row). cond (is_some o) (length (locations_below index slot)) 0) (none_at index.table.slots
        index.rows slot index.table.length (omega arith) below))
  ]

  -- Index

  index_is : length index.table.redirects ≡ index.table.length → index_bytes index.order (length index.rows) (redirect_words index)
      (offset_words index) (locations_text index) (section_of index.texts) ≡ index_text index
  index_is whole =
      let same : length (redirect_words index) ≡ index.table.length = length-map index.table.redirects word_of ∙ whole in
      ap (λ n. words_text index.order ((0xCAFEDADA ∷ 0x00010000 ∷ 0 ∷ length index.rows ∷ n ∷ length (locations_text index)
      ∷ length (section_of index.texts) ∷ []) ++ (redirect_words index ++ offset_words index))
      ++ (locations_text index ++ section_of index.texts)) same

  -- Nodes

  -- the table leads the names to the slots that they have among all
  abbrev Leads : List (List ℕ) → Table → Type 0
  Leads names table = (name : List ℕ) → Contains names name → slot_in table name ≡ lookup (bytes_eq name) (zip names index.table.slots)

  child_is : (names : List (List ℕ)) (table : Table) → All (λ s. s < index.table.length) index.table.slots → Leads names table
      → (name : List ℕ) → Contains names name → child_word table (offset_words index) name ≡ name_place index names name
  child_is names table below leads name there =
      place_found below (unwrap_or (slot_in table name) 0)
      ∙ ap (λ (o : Option ℕ). row_place index (unwrap_or o 0)) (leads name there)

  holds_are : (names : List (List ℕ)) (table : Table) → All (λ s. s < index.table.length) index.table.slots → Leads names table
      → (holds : Holds) → AreNamed names holds → holds_words index.texts table (offset_words index) holds ≡ node_words index names holds
  holds_are names table below leads (Children list) named = map_same (child_word table (offset_words index))
      (name_place index names) list (λ name there. child_is names table below leads name (named name there))
  holds_are names table below leads (Owners owners) named = refl

  tail_is : (names : List (List ℕ)) (table : Table) (nodes : List TreeNode) → All (λ s. s < index.table.length) index.table.slots
      → Leads names table → ((node : TreeNode) → Contains nodes node → AreNamed names node.holds)
      → tail_bytes index.order index.texts table (offset_words index) nodes ≡ contents_text (map (written_node index names) nodes)
  tail_is names table [] below leads named = refl
  tail_is names table (node ∷ nodes) below leads named =
      ap (λ w. words_text index.order w ++ tail_bytes index.order index.texts table (offset_words index) nodes)
      (holds_are names table below leads node.holds (named node (contains_here node nodes)))
      ∙ ap (λ l. words_text index.order (node_words index names node.holds) ++ l) (tail_is names table nodes below leads
      (λ other there. named other (contains_later node nodes other there)))

-- The whole

module _ (order : Order) (pool : List Written) (table : Table) (is : IsTable (all_names pool) table) where
  abbrev es : List Sized
  es = all_sized pool

  abbrev index : Index
  index = layout_index order is.greedy pool

  rows_are : slot_rows (lists_of es) table ≡ map (row_in index) (range_with_len 0 index.table.length)
  rows_are =
      ap (λ l. rows_in_slots table.slot_of (rows_from (texts_of (all_names pool)) 0 l) table.length) (sized_back es)
      ∙ ap (λ s. rows_in_slots s index.rows table.length) is.given
      ∙ ap (rows_in_slots is.greedy.slots index.rows) is.size

  text_is : locations_of (slot_rows (lists_of es) table) ≡ locations_text index
  text_is = ap locations_of rows_are ∙ locations_are index index.table.length

  places_is : places_from 1 (slot_rows (lists_of es) table) ≡ offset_words index
  places_is = ap (places_from 1) rows_are ∙ all_places index

  -- the length that was laid out is that of the image
  length_is : laid_length (lists_of es) table ≡ length (layout_with order pool is.greedy)
  length_is =
      ap (λ (l : List ℕ). ((28 + 8 * table.length) + length l + length (section_of index.texts)) + sum (map (λ e. e.size) es)) text_is
      ∙ ap (λ (n : ℕ). ((28 + 8 * n) + length (locations_text index) + length (section_of index.texts))
      + sum (map (λ e. e.size) es)) is.size
      ∙ sym (layout_length order pool is.greedy is.whole)

  leads : CanLay pool → Leads index (all_names pool) table
  leads can name there =
      led_there (all_names pool) table is (names_differ pool can) name there
      ∙ ap (λ s. lookup (bytes_eq name) (zip (all_names pool) s)) is.given

  drafted : (laid : Laid) (nodes : List TreeNode) (draft : Draft) → CanLay pool → IsLaid (lists_of es) table laid
      → IsDrawn order (lists_of es) table laid nodes draft → nodes ≡ tree_nodes (names_of pool) → first_clash (names_of pool) ≡ None
      → length es ≤ 1048576 → IsDraft order pool draft
  drafted laid nodes draft can lay drawn all apart few = record {
    table = is.greedy;
    has_table = is.first;
    apart = apart;
    few = few;
    order = drawn.order;
    index =
        drawn.index
        ∙ ap (λ r. index_bytes order (length (all_names pool)) (map word_of r) laid.locations.places.items
        laid.locations.text.items (section_of laid.strings)) is.redirects
        ∙ ap (λ p. index_bytes order (length (all_names pool)) (redirect_words index) p laid.locations.text.items
        (section_of laid.strings)) (lay.places ∙ places_is)
        ∙ ap (λ l. index_bytes order (length (all_names pool)) (redirect_words index) (offset_words index) l
        (section_of laid.strings)) (lay.text ∙ text_is)
        ∙ ap (λ t. index_bytes order (length (all_names pool)) (redirect_words index) (offset_words index) (locations_text index)
        (section_of t)) lay.texts
        ∙ ap (λ n. index_bytes order n (redirect_words index) (offset_words index) (locations_text index) (section_of index.texts))
        (length-map es (λ e. e.name) ∙ sym (length-rows index.texts 0 es))
        ∙ index_is index is.whole;
    tail =
        drawn.tail
        ∙ ap (λ t. tail_bytes order t table laid.locations.places.items nodes) lay.texts
        ∙ ap (λ p. tail_bytes order index.texts table p nodes) (lay.places ∙ places_is)
        ∙ ap (tail_bytes order index.texts table (offset_words index)) all
        ∙ tail_is index (all_names pool) table (tree_nodes (names_of pool)) is.below (leads can) (nodes_named pool);
    size = drawn.size ∙ lay.size ∙ length_is;
    within = subst (λ n. n ≤ image_limit) (lay.size ∙ length_is) lay.within;
    slots = drawn.slots ∙ is.size;
  }

  large : (number : ℕ) → ((number ≡ 0) × (limit < length (section_of index.texts))) ⊎ ((number ≡ laid_length (lists_of es) table)
      × (image_limit < number) × (length (section_of index.texts) ≤ limit)) → IsLarge order pool number
  large number (inl (none, long)) = record {
    table = is.greedy;
    has_table = is.first;
    long = let all = layout_length order pool is.greedy is.whole in omega (arith, all, long);
    number = none ∙ sym (ap (λ (b : Bool). cond b 0 (length (layout_with order pool is.greedy)))
        (lt-ltb limit (length (section_of index.texts)) long));
  }
  large number (inr (is_length, long, fits)) = record {
    table = is.greedy;
    has_table = is.first;
    long = subst (λ n. image_limit < n) (is_length ∙ length_is) long;
    number = is_length ∙ length_is ∙ sym (ap (λ (b : Bool). cond b 0 (length (layout_with order pool is.greedy)))
        (le-ltb limit (length (section_of index.texts)) fits));
  }

-- what was drawn is the draft of the pool
pub plan_drafted : (order : Order) (pool : List Written) (entries : Entries) (table : Table) (laid : Laid) (nodes : List TreeNode)
    (draft : Draft) → CanLay pool → IsOfEntries (all_sized pool) entries → IsTable entries.names table → IsLaid entries table laid
    → IsDrawn order entries table laid nodes draft → nodes ≡ tree_nodes (names_of pool) → first_clash (names_of pool) ≡ None
    → length (all_sized pool) ≤ 1048576 → IsDraft order pool draft
plan_drafted order pool entries table laid nodes draft can of_entries tabled lay drawn all apart few =
    subst (λ (e : Entries). IsTable e.names table → IsLaid e table laid → IsDrawn order e table laid nodes draft → IsDraft order pool draft)
    (sym (entries_are (all_sized pool) entries of_entries))
    (λ t l d. drafted order pool table t laid nodes draft can l d all apart few) tabled lay drawn

-- an image that is too large
pub plan_large : (order : Order) (pool : List Written) (entries : Entries) (table : Table) (why : Or PlanFault)
    → IsOfEntries (all_sized pool) entries → IsTable entries.names table → IfAnswered (Lays entries table) (Err why)
    → first_clash (names_of pool) ≡ None → length (all_sized pool) ≤ 1048576 → IfAnswered (Plans order pool) (Err why)
plan_large order pool entries table (due.Fault (refusal.TooLarge number)) of_entries tabled lays apart few = (
  record { apart = apart; few = few },
  subst (λ (e : Entries). IsTable e.names table → Lays e table (Err (refusal.TooLarge number)) → IsLarge order pool number)
      (sym (entries_are (all_sized pool) entries of_entries))
      (λ t l. large order pool table t number l) tabled lays,
)
plan_large order pool entries table due.Memory of_entries tabled lays apart few = tt
plan_large order pool entries table (due.Fault (refusal.Clash name)) of_entries tabled lays apart few = absurd lays
plan_large order pool entries table (due.Fault (refusal.TooMany number)) of_entries tabled lays apart few = absurd lays
plan_large order pool entries table (due.Fault (refusal.NoTable lengths)) of_entries tabled lays apart few = absurd lays

-- how many entries there are
pub count_sized : (pool : List Written) (nodes : List TreeNode) → nodes ≡ tree_nodes (names_of pool) → length (all_sized pool)
    ≡ length pool + length nodes
count_sized pool nodes is =
    length-append (map sized pool) (map sized_node (tree_nodes (names_of pool)))
    ∙ ap (λ n. n + length (map sized_node (tree_nodes (names_of pool)))) (length-map pool sized)
    ∙ ap (λ n. length pool + n) (length-map (tree_nodes (names_of pool)) sized_node ∙ ap length (sym is))

-- nodes for which the resources leave room
pub nodes_few : (pool : List Written) (nodes : List TreeNode) (count room : ℕ) → All IsSound (names_of pool) → nodes
    ≡ tree_nodes (names_of pool) → length (tree_nodes (names_of pool)) ≤ room → count ≡ length pool → room ≡ 1048576 - count
    → length pool + length nodes ≤ 1048576
nodes_few pool nodes count room sound is within resources left =
    let some = has_nodes (names_of pool) sound in
    let size = ap length is in
    omega (arith, some, size, within, resources, left)

-- nodes for which they leave none
pub plan_crowded : (order : Order) (pool : List Written) (count room number : ℕ) (why : Or PlanFault)
    → (why ≡ due.Memory) ⊎ (why ≡ due.Fault (refusal.TooMany (count + number))) → count ≡ length pool → room ≡ 1048576 - count
    → IsRefused (names_of pool) room (unmade.TooMany number) → IfAnswered (Plans order pool) (Err why)
plan_crowded order pool count room number why (inl none) resources left refused =
    subst (λ w. IfAnswered (Plans order pool) (Err w)) (sym none) tt
plan_crowded order pool count room number why (inr is) resources left refused =
    let all = count_sized pool (tree_nodes (names_of pool)) refl in
    let size = refused.2 in
    subst (λ w. IfAnswered (Plans order pool) (Err w)) (sym is) (
      refused.0,
      omega (arith, left, refused.1),
      omega (arith, all, size, resources),
    )

-- the entries of a pool whose names differ and make trees
pub entries_fit : (pool : List Written) (entries : Entries) → IsOfEntries (all_sized pool) entries → length (all_sized pool)
    ≤ 1048576 → CanLay pool → AreFit entries
entries_fit pool entries is few can =
    let names = ap length is.names ∙ length-map (all_sized pool) (λ e. e.name) in
    let sizes = ap length is.sizes ∙ length-map (all_sized pool) (λ e. e.size) in
    record {
      beside = names ∙ sym sizes;
      few = omega (arith, names, few);
      free = subst (All IsZeroFree) (sym is.names) (names_zero_free pool can);
      differ = subst (AllPairs (λ one other. one ≢ other)) (sym is.names) (names_differ pool can);
    }
