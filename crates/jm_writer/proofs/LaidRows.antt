-- The entries of a layout that are no nodes are its resources, with their rows: each content is stored
-- as it is, behind those of the resources before it.
use Rattle.std.proofs.Common.{◌≡◌, ◌≢◌, ℕ, ◌+◌, ◌<◌, ◌≤◌, Bool, not, List}
use Rattle.std.proofs.Common.{◌++◌, length, map, get_or, Some, Ok, All, AllPairs, Contains, IsPermutation}
use Rattle.std.proofs.Common.{refl, sym, ap, ◌∙◌, subst, arith, length-append}
use Rattle.std.proofs.lemmas.List.{ext_get_or, get_or-map, get_or_append_left, get_or_default, length-map}
use Rattle.std.proofs.lemmas.List.Elements.{All-from_get_or, Contains-get_or}
use Rattle.std.proofs.lemmas.List.FromFn.{get_or-map-range_with_len, length-map-range_with_len}
use Rattle.std.proofs.lemmas.List.Kept.{AllPairs-filter}
use Rattle.std.proofs.lemmas.List.Sorted.{Contains-permutation, IsPermutation-sym}
use Rattle.std.specs.List.{filter, range_with_len}
use Rattle.jm_bytes.proofs.Choice.{same_ok}
use Rattle.jm_bytes.proofs.Members.{contains_map, contains_range, from_filter, from_map, from_range}
use Rattle.jm_bytes.proofs.Pairs.{pairs_weaker}
use Rattle.jm_bytes.specs.declared.words.Order.{Order}
use Rattle.jm_names.specs.Names.{is_node}
use Rattle.jm_form.specs.declared.container.Header.{Header}
use Rattle.jm_form.specs.declared.container.HeaderFault.{HeaderFault}
use Rattle.jm_form.specs.Entries.{Entry, content_of, entries, entry_of}
use Rattle.jm_form.specs.Greedy.{GreedyTable}
use Rattle.jm_form.specs.Head.{header_of}
use Rattle.jm_form.specs.Layout.{Written, contents_text, layout, layout_index, layout_table, layout_with, sized, index_of}
use Rattle.jm_form.specs.Layout.{index_text, written_nodes}
use Rattle.jm_form.specs.Places.{contents}
use Rattle.jm_form.proofs.EntryLaws.{same_entry, slots_rise}
use Rattle.jm_writer.specs.Drafts.{image_limit}
use Rattle.jm_writer.specs.Laid.{CanLay}
use Rattle.jm_writer.specs.Writable.{Writable, header_with}
use Rattle.jm_writer.proofs.ImageEntries.{content_is, entry_is_there, length-slots, name_is, nothing, row_for}
use Rattle.jm_writer.proofs.ImageLists.{same_elements}
use Rattle.jm_writer.proofs.ImageRows.{contents_apart}
use Rattle.jm_writer.proofs.ImageValid.{image_valid_as, pair_of}
use Rattle.jm_writer.proofs.LaidTable.{layout_from}
use Rattle.jm_writer.proofs.LaidWritable.{laid_stands, laid_writable}
use Rattle.jm_writer.proofs.LayoutLaws.{layout_parts}

-- these entries of an image hold the resources in their order, each stored as it is, one behind
-- another
pub record HoldInOrder (b : List ℕ) (h : Header) (resources : List Written) (es : List Entry) : Type 0 where
  pub pairs : map pair_of es ≡ resources
  pub stored : All (λ e. e.row.packed ≡ 0) es
  pub sizes : All (λ e. e.row.size ≡ length e.content) es
  pub cut : All (λ e. e.content ≡ content_of (contents b h) e.row) es
  pub places : AllPairs (λ e f. e.row.offset + e.row.size ≤ f.row.offset) es

-- the entries of an image in this byte order that are no nodes hold the resources so, and their
-- contents are a part of the image
pub record HoldsResources (order : Order) (resources : List Written) (b : List ℕ) : Type 0 where
  pub header : Header
  pub read : header_of b ≡ Ok header
  pub ordered : header.order ≡ order
  pub found : List Entry
  pub moved : IsPermutation (filter (λ e. not (is_node e.name)) (entries b header)) found
  pub hold : HoldInOrder b header resources found
  pub within : length (contents_text resources) ≤ length b

module _ (order : Order) (resources : List Written) (can : CanLay resources) (table : GreedyTable) (is : layout_table resources
    ≡ Some table) (limit : length (layout_with order resources table) ≤ image_limit) where
  abbrev nodes : List Written
  nodes = written_nodes (layout_index order table resources) resources

  abbrev es : List Written
  es = resources ++ nodes

  abbrev b : List ℕ
  b = layout_with order resources table

  abbrev h : Header
  h = header_with (index_of order table (map sized es))

  writable : Writable order table es
  writable = laid_writable order resources can table is limit

  abbrev entry : ℕ → Entry
  entry k = entry_of b h (get_or table.slots k 0) (row_for es k)

  -- those that hold the resources, in their order
  abbrev found : List Entry
  found = map entry (range_with_len 0 (length resources))

  abbrev is_plain : Entry → Bool
  is_plain e = not (is_node e.name)

  below_all : (k : ℕ) → k < length resources → k < length es
  below_all k below = let all = length-append resources nodes in omega arith

  resource_at : (k : ℕ) → k < length resources → get_or es k nothing ≡ get_or resources k nothing
  resource_at k below = get_or_append_left resources nodes nothing k below

  found_at : (k : ℕ) (d : Entry) → k < length resources → get_or found k d ≡ entry k
  found_at k d below = get_or-map-range_with_len entry 0 (length resources) k k d below (omega arith)

  length-found : length found ≡ length resources
  length-found = length-map-range_with_len entry 0 (length resources)

  pair_at : (k : ℕ) → k < length resources → ◌≡◌ {A = Written} (pair_of (entry k)) (get_or resources k nothing)
  pair_at k below =
      let inside = below_all k below in
      ap (λ n. (n, (entry k).content)) (name_is order table es writable k inside)
      ∙ ap (λ c. ((get_or es k nothing).0, c)) (content_is order table es writable k inside) ∙ resource_at k below

  -- They are the entries that are no nodes

  found_differ : AllPairs (λ e f. e ≢ f) found
  found_differ i j d before inside same =
      let many = length-found in
      let slots = length-slots order table es writable in
      let all = length-append resources nodes in
      let one = found_at i d (omega arith) in
      let other = found_at j d (omega arith) in
      writable.serves.apart i j 0 before (omega arith) (ap (λ (e : Entry). e.slot) (sym one ∙ same ∙ other))

  entries_differ : AllPairs (λ e f. e ≢ f) (filter is_plain (entries b h))
  entries_differ =
      AllPairs-filter (λ e f. e ≢ f) is_plain (entries b h)
      (pairs_weaker (λ (e f : Entry). e.slot < f.slot) (λ e f. e ≢ f)
      (λ e f before same. let slots = ap (λ (g : Entry). g.slot) same in absurd (omega arith)) (entries b h) (slots_rise b h))

  stands : IsPermutation (map pair_of (filter is_plain (entries b h))) resources
  stands =
      let held = laid_stands order resources can table is limit in
      let same : held.0 ≡ h = same_ok {E = HeaderFault} held.0 h (sym held.1.header ∙ (image_valid_as order table es writable).header) in
      subst (λ (g : Header). IsPermutation (map pair_of (filter is_plain (entries b g))) resources) same held.2

  forth : (e : Entry) → Contains (filter is_plain (entries b h)) e → Contains found e
  forth e there =
      let from = from_filter is_plain (entries b h) e there in
      let (k, below, at) = Contains-permutation (map pair_of (filter is_plain (entries b h))) resources (pair_of e) stands
      (contains_map pair_of (filter is_plain (entries b h)) e there) in
      let given : ◌≡◌ {A = Written} (get_or resources k nothing) (pair_of e) =
      sym (get_or_default resources k (pair_of e) nothing below) ∙ at in
      let names : e.name ≡ (entry k).name = sym (ap (λ (p : Written). p.0) (pair_at k below ∙ given)) in
      let same = same_entry b h e (entry k) from.0 (entry_is_there order table es writable k (below_all k below)) names in
      subst (Contains found) (sym same)
      (contains_map entry (range_with_len 0 (length resources)) k (contains_range 0 (length resources) k (omega arith) (omega arith)))

  back : (e : Entry) → Contains found e → Contains (filter is_plain (entries b h)) e
  back e there =
      let (k, among, made) = from_map entry (range_with_len 0 (length resources)) e there in
      let within = from_range 0 (length resources) k among in
      let below : k < length resources = omega (arith, within.1) in
      let pair = get_or resources k nothing in
      let held = Contains-permutation resources (map pair_of (filter is_plain (entries b h))) pair
      (IsPermutation-sym (map pair_of (filter is_plain (entries b h))) resources stands) (Contains-get_or resources k nothing below) in
      let (f, inside, is) = from_map pair_of (filter is_plain (entries b h)) pair held in
      let names : f.name ≡ (entry k).name = ap (λ (p : Written). p.0) (is ∙ sym (pair_at k below)) in
      let same = same_entry b h f (entry k) (from_filter is_plain (entries b h) f inside).0
      (entry_is_there order table es writable k (below_all k below)) names in
      subst (Contains (filter is_plain (entries b h))) (same ∙ made) inside

  -- They hold the resources

  each : (P : Entry → Type 0) → ((k : ℕ) → k < length resources → P (entry k)) → All P found
  each P holds =
      All-from_get_or P found (entry 0)
      (λ k inside.
      let many = length-found in
      let below : k < length resources = omega arith in
      subst P (sym (found_at k (entry 0) below)) (holds k below))

  pairs_are : map pair_of found ≡ resources
  pairs_are =
      ext_get_or nothing (map pair_of found) resources (length-map found pair_of ∙ length-found)
      (λ k inside.
      let many = length-found in
      let mapped = length-map found pair_of in
      let below : k < length resources = omega arith in
      get_or-map pair_of found k (entry 0) nothing (omega arith) ∙ ap pair_of (found_at k (entry 0) below) ∙ pair_at k below)

  places_rise : AllPairs (λ (e f : Entry). e.row.offset + e.row.size ≤ f.row.offset) found
  places_rise i j d before inside =
      let many = length-found in
      let one = found_at i d (omega arith) in
      let other = found_at j d (omega arith) in
      let apart = contents_apart es i j nothing before (below_all j (omega arith)) in
      let offset = ap (λ (e : Entry). e.row.offset) one in
      let size = ap (λ (e : Entry). e.row.size) one in
      let later = ap (λ (e : Entry). e.row.offset) other in
      omega arith

  contents_within : length (contents_text resources) ≤ length b
  contents_within =
      let parts = ap length (layout_parts order resources table) in
      let index = index_text (layout_index order table resources) in
      let all = length-append index (contents_text resources ++ contents_text nodes) in
      let both = length-append (contents_text resources) (contents_text nodes) in
      omega arith

  holds_by : HoldsResources order resources b
  holds_by = record {
    header = h;
    read = (image_valid_as order table es writable).header;
    ordered = refl;
    found = found;
    moved = same_elements (filter is_plain (entries b h)) found entries_differ found_differ forth back;
    hold = record {
      pairs = pairs_are;
      stored = each (λ e. e.row.packed ≡ 0) (λ k below. refl);
      sizes =
          each (λ e. e.row.size ≡ length e.content)
          (λ k below. ap length (sym (content_is order table es writable k (below_all k below))));
      cut = each (λ e. e.content ≡ content_of (contents b h) e.row) (λ k below. refl);
      places = places_rise;
    };
    within = contents_within;
  }

-- a layout of no more bytes than the limit
pub layout_holds : (order : Order) (resources : List Written) (b : List ℕ) → CanLay resources → layout order resources ≡ Some b
    → length b ≤ image_limit → HoldsResources order resources b
layout_holds order resources b can is within =
    let (table, of, whole) = layout_from order resources b is in
    subst (HoldsResources order resources) whole
    (holds_by order resources can table of (subst (λ l. length l ≤ image_limit) (sym whole) within))
