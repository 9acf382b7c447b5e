-- An image that a link made without an order of resources comes back from `decompress`.
use Rattle.std.proofs.Common.{◌≡◌, ◌≢◌, ◌≤◌, ◌==◌, ℕ, true, false, cond, not, List, [], ◌∷◌, length, map, take, drop}
use Rattle.std.proofs.Common.{All, AllPairs, IsPermutation, Option, Some, None, option_map, Result, Ok}
use Rattle.std.proofs.Common.{refl, sym, ap, ◌∙◌, subst, arith}
use Rattle.std.proofs.lemmas.Bool.{le-ltb}
use Rattle.std.proofs.lemmas.List.Concat.{length-flat_map}
use Rattle.std.proofs.lemmas.List.Elements.{All-contains, All-head, All-map, All-tail}
use Rattle.std.proofs.lemmas.List.Sorted.{All-permutation, Contains-permutation, IsPermutation-map, IsPermutation-sym}
use Rattle.std.proofs.lemmas.List.Sorted.{IsPermutation-trans, sum_by-IsPermutation}
use Rattle.std.proofs.lemmas.List.Sums.{sum_by-cons}
use Rattle.std.specs.List.{AllZip, filter, sum_by}
use Rattle.std.specs.Prelude.{nat_lt}
use Rattle.jm_bytes.proofs.CheckLaws.{fault_if_false, no_fault_cons, no_fault_from}
use Rattle.jm_bytes.proofs.Choice.{same_some}
use Rattle.jm_bytes.proofs.Members.{all_from_contains, contains_map}
use Rattle.jm_bytes.proofs.Pairs.{pairs_map}
use Rattle.jm_bytes.specs.Checks.{fault_if}
use Rattle.jm_bytes.specs.declared.words.Order.{Order}
use Rattle.jm_filed.specs.FileOrder.{file_order}
use Rattle.jm_form.specs.declared.container.Header.{Header}
use Rattle.jm_form.specs.Entries.{Entry, content_of, entries}
use Rattle.jm_form.specs.Layout.{Written, layout, names_of}
use Rattle.jm_form.specs.Places.{contents, strings}
use Rattle.jm_form.specs.Rows.{as_stored}
use Rattle.jm_link.specs.Linked.{LinkedImage, LinksFrom, Request, image_with, laid_out, layout_refusal}
use Rattle.jm_link.specs.Relinked.{AreOnShelf, IsLinkedFrom, leaves_order}
use Rattle.jm_link.proofs.FileOrder.{IsFirstOrOne}
use Rattle.jm_link.proofs.LaidLaws.{can_lay, laid_bytes, resources_apart}
use Rattle.jm_link.proofs.LaidOrder.{AreFirst, NamesDiffer, kept_back, layout_order}
use Rattle.jm_link.proofs.MadeFrom.{left_of, left_plain, left_sound, made_from}
use Rattle.jm_modset.specs.Found.{Sources}
use Rattle.jm_names.proofs.ComputedFaultLaws.{HasFault-computed}
use Rattle.jm_names.specs.ComputedFault.{name_fault}
use Rattle.jm_names.specs.NameFaults.{IsSound}
use Rattle.jm_names.specs.Names.{is_node}
use Rattle.jm_names.specs.declared.check.NameFault.{NameFault}
use Rattle.jm_packed.specs.Packed.{Comes}
use Rattle.jm_plugins.specs.Matching.{kept}
use Rattle.jm_reader.specs.Look.{head, head_with}
use Rattle.jm_reader.specs.Walk.{entries_with}
use Rattle.jm_texts.specs.declared.refusal.Refusal.{Refusal}
use Rattle.jm_texts.specs.declared.refusal.Refusal.TheVariants as refusal
use Rattle.jm_texts.specs.NameRefusals.{first_bad_name, name_refusal}
use Rattle.jm_writer.specs.Drafts.{image_limit}
use Rattle.jm_writer.proofs.ImageValid.{pair_of}
use Rattle.jm_writer.proofs.LaidRows.{HoldsResources, layout_holds}
use Rattle.jm_decompress.specs.declared.resources.StoredResource.{StoredResource}
use Rattle.jm_decompress.specs.Decompressed.{AreByName, DecompressesTo, IsContentOf, IsJudgedTo, content_limit, index_refusal}
use Rattle.jm_decompress.specs.Decompressed.{laid, named, stored_bytes, stored_resource, stored_resources, total_size}
use Rattle.jm_decompress.proofs.OnceLaws.{decompresses_once}
use Rattle.jm_decompress.proofs.ResourceLaws.{resources_differ}

-- What the index refuses

unrefused : (name : List ℕ) → IsSound name → option_map (λ fault. refusal.BadName name fault) (name_fault name) ≡ None
unrefused name sound = go (name_fault name) refl
  where
    go : (o : Option NameFault) → name_fault name ≡ o → option_map (λ fault. refusal.BadName name fault) o ≡ None
    go None is = refl
    go (Some fault) is = absurd (sound fault (HasFault-computed name fault is).fails)

-- sound names, and no more bytes than the limit
index_free : (rs : List StoredResource) → All (λ r. IsSound r.name) rs → total_size rs ≤ content_limit → index_refusal rs ≡ None
index_free rs sound within =
    let large = nat_lt content_limit (total_size rs) in
    no_fault_cons (first_bad_name (map named rs)) _
    (no_fault_from (map name_refusal (map named rs))
    (All-map (λ o. o ≡ None) name_refusal (map named rs)
    (All-map (λ f. name_refusal f ≡ None) named rs
    (all_from_contains (λ r. name_refusal (named r) ≡ None) rs
    (λ r there. unrefused r.name (All-contains (λ (s : StoredResource). IsSound s.name) rs r sound there))))))
    (no_fault_cons (fault_if large _) [] (fault_if_false large _ (le-ltb content_limit (total_size rs) within)) refl)

-- Contents that are stored as they are

abbrev IsStored : StoredResource → Type 0
IsStored r = r.row.packed ≡ 0

-- a resource with its stored bytes
abbrev pair_in : List ℕ → StoredResource → Written
pair_in b r = (r.name, stored_bytes b r.row)

contents_had : (b : List ℕ) (rs : List StoredResource) → All IsStored rs → AllZip (IsContentOf b) rs (map (pair_in b) rs)
contents_had b [] stored = tt
contents_had b (r ∷ rs) stored =
    let bytes = stored_bytes b r.row in
    let is = All-head IsStored r rs stored in (
      (
        refl,
        subst (λ n. Comes (n == 0) (head b).order (strings b (head b)) r.row.size bytes (Ok bytes)) (sym is) refl,
      ),
      contents_had b rs (All-tail IsStored r rs stored),
    )

sizes_are : (es : List Entry) → All (λ e. e.row.size ≡ length e.content) es
    → total_size (map stored_resource es) ≡ sum_by (λ (r : Written). length r.1) (map pair_of es)
sizes_are [] sizes = refl
sizes_are (e ∷ es) sizes =
    let here = All-head (λ (f : Entry). f.row.size ≡ length f.content) e es sizes in
    let rest = sizes_are es (All-tail (λ (f : Entry). f.row.size ≡ length f.content) e es sizes) in
    let one = sum_by-cons (λ (r : StoredResource). r.row.size) (stored_resource e) (map stored_resource es) in
    let other = sum_by-cons (λ (r : Written). length r.1) (pair_of e) (map pair_of es) in
    omega (arith, here, rest, one, other)

stored_content : (b : List ℕ) (h : Header) (e : Entry) → head b ≡ h → e.row.packed ≡ 0 → e.content ≡ content_of (contents b h) e.row
    → ◌≡◌ {A = Written} (pair_in b (stored_resource e)) (pair_of e)
stored_content b h e read stored cut =
    ap (λ (c : List ℕ). (e.name, c))
    (ap (λ (g : Header). content_of (contents b g) (as_stored e.row)) read
    ∙ ap (λ n. take (cond (n == 0) e.row.size n) (drop e.row.offset (contents b h))) stored ∙ sym cut)

pairs_are : (b : List ℕ) (h : Header) (es : List Entry) → head b ≡ h → All (λ e. e.row.packed ≡ 0) es
    → All (λ e. e.content ≡ content_of (contents b h) e.row) es → map (pair_in b) (map stored_resource es) ≡ map pair_of es
pairs_are b h [] read stored cut = refl
pairs_are b h (e ∷ es) read stored cut =
    let Packed : Entry → Type 0 = λ f. f.row.packed ≡ 0 in
    let Cut : Entry → Type 0 = λ f. f.content ≡ content_of (contents b h) f.row in
    ap (λ p. p ∷ map (pair_in b) (map stored_resource es)) (stored_content b h e read (All-head Packed e es stored) (All-head Cut e es cut))
    ∙ ap (λ ps. pair_of e ∷ ps) (pairs_are b h es read (All-tail Packed e es stored) (All-tail Cut e es cut))

-- A layout of resources whose names are fit and which stand by module and then by path

module _ (order : Order) (resources : List Written) (b : List ℕ) (free : layout_refusal order resources ≡ None)
    (is : layout order resources ≡ Some b) (sound : All IsSound (names_of resources))
    (plain : All (λ name. is_node name ≡ false) (names_of resources))
    (sorted : AllPairs (λ (e f : Written). IsFirstOrOne e.0 f.0) resources) where
  within : length b ≤ image_limit
  within =
      let bytes = laid_bytes order resources free 0 in
      subst (λ c. length c ≤ image_limit) (sym (same_some b (image_with order 0 resources).bytes (sym is ∙ bytes.0))) bytes.1

  holds : HoldsResources order resources b
  holds = layout_holds order resources b (can_lay order resources free sound plain) is within

  abbrev es : List Entry
  es = holds.found

  read : head b ≡ holds.header
  read = ap (head_with b) holds.read

  -- its resources, in their order
  stored_moved : IsPermutation (stored_resources b) (map stored_resource es)
  stored_moved =
      subst (λ all. IsPermutation (map stored_resource (filter (λ (e : Entry). not (is_node e.name)) all)) (map stored_resource es))
      (sym (ap (entries_with b) holds.read))
      (IsPermutation-map stored_resource (filter (λ (e : Entry). not (is_node e.name)) (entries b holds.header)) es holds.moved)

  differ : NamesDiffer resources
  differ = resources_apart order resources free

  rises : AllPairs AreFirst resources
  rises i j d before inside = sorted i j d before inside (differ i j d before inside)

  module _ (rs : List StoredResource) (by : AreByName b rs) where
    moved : IsPermutation (map stored_resource es) rs
    moved =
        IsPermutation-trans (map stored_resource es) (stored_resources b) rs
        (IsPermutation-sym (stored_resources b) (map stored_resource es) stored_moved) by.moved

    abbrev pairs : List Written
    pairs = map (pair_in b) rs

    pairs_moved : IsPermutation resources pairs
    pairs_moved =
        subst (λ ps. IsPermutation ps pairs)
        (pairs_are b holds.header es read holds.hold.stored holds.hold.cut ∙ holds.hold.pairs)
        (IsPermutation-map (pair_in b) (map stored_resource es) rs moved)

    all_stored : All IsStored rs
    all_stored = All-permutation IsStored (map stored_resource es) rs moved (All-map IsStored stored_resource es holds.hold.stored)

    all_sound : All (λ (r : StoredResource). IsSound r.name) rs
    all_sound =
        all_from_contains (λ (r : StoredResource). IsSound r.name) rs
        (λ r there.
        All-contains IsSound (names_of pairs) r.name
        (All-permutation IsSound (names_of resources) (names_of pairs) (IsPermutation-map (λ (p : Written). p.0) resources pairs
        pairs_moved) sound)
        (contains_map (λ (p : Written). p.0) pairs (pair_in b r) (contains_map (pair_in b) rs r there)))

    size_within : total_size rs ≤ content_limit
    size_within =
        let same = sum_by-IsPermutation (λ (r : StoredResource). r.row.size) (map stored_resource es) rs moved in
        let sizes = sizes_are es holds.hold.sizes in
        let resources_size = ap (λ rs. sum_by (λ (r : Written). length r.1) rs) holds.hold.pairs in
        let text = length-flat_map (λ (r : Written). r.1) resources in
        let inside = holds.within in
        let limit = within in
        omega (arith, same, sizes, resources_size, text, inside, limit)

    put_back : kept (file_order b) pairs ≡ resources
    put_back =
        ap (λ names. kept names pairs) (layout_order order resources b holds rises)
        ∙ kept_back resources pairs differ
        (pairs_map (λ (e f : Written). e.0 ≢ f.0) (pair_in b) rs (resources_differ b rs by))
        (λ p there. Contains-permutation pairs resources p (IsPermutation-sym resources pairs pairs_moved) there)
        (λ p there. Contains-permutation resources pairs p pairs_moved there)

    laid_again : laid (head b).order (kept (file_order b) pairs) ≡ Ok (image_with order 0 resources)
    laid_again =
        ap (λ (h : Header). laid h.order (kept (file_order b) pairs)) read
        ∙ ap (λ o. laid o (kept (file_order b) pairs)) holds.ordered ∙ ap (laid order) put_back
        ∙ ap (laid_out order 0 resources) free

    comes : DecompressesTo b (Ok (image_with order 0 resources))
    comes = (
      rs,
      by,
      subst (λ (o : Option Refusal). IsJudgedTo b rs o (Ok (image_with order 0 resources)))
          (sym (index_free rs all_sound size_within)) (Ok pairs, contents_had b rs all_stored, sym laid_again),
    )

  -- it comes to these resources, so to the same bytes
  pub layout_given_back : (result : Result LinkedImage Refusal) → DecompressesTo b result → result ≡ Ok (image_with order 0 resources)
  layout_given_back result (rs, by, to) =
      decompresses_once b result (Ok (image_with order 0 resources)) (rs, by, to) (comes rs by)

-- An image that a link made

-- it comes back, whether or not the descriptors of the modules stand in it
pub link_given_back : (source : Sources) (first : Request) (image : LinkedImage) → AreOnShelf source → LinksFrom source first (Ok image)
    → All (λ one. leaves_order one ≡ true) first.plugins → (result : Result LinkedImage Refusal) → DecompressesTo image.bytes result
    → (given : LinkedImage) × (result ≡ Ok given) × (given.bytes ≡ image.bytes)
link_given_back source first image stands linked unordered result to =
    let from = made_from source first image stands linked in
    let made = from.made in
    let left = made.left in
    let bytes : image.bytes ≡ (image_with first.order (length made.places) left).bytes = ap (λ (x : LinkedImage). x.bytes) made.is in
    let sound = left_sound source first image from in
    let plain = left_plain source first image from in
    let there = (laid_bytes first.order left made.fits (length made.places)).0 in
    let are = left_of source first image from unordered in (
      image_with first.order 0 left,
      layout_given_back first.order left image.bytes made.fits (there ∙ ap (λ (x : List ℕ). Some x) (sym bytes)) sound plain are.order
          result to,
      sym bytes,
    )

-- an image that a link made without an order of resources comes back, byte for byte
pub given_back : (source : Sources) (first : Request) (b : List ℕ) → IsLinkedFrom source first b → (result : Result LinkedImage Refusal)
    → DecompressesTo b result → (image : LinkedImage) × (result ≡ Ok image) × (image.bytes ≡ b)
given_back source first b was result to =
    let back = link_given_back source first was.image was.stands was.linked was.unordered result
    (subst (λ c. DecompressesTo c result) was.made to) in
    (back.0, back.1, back.2 ∙ sym was.made)
