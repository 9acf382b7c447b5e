-- Contents that were read as parts of an image's file, side by side with what they were read for.
use Rattle.std.proofs.Common.{inl, inr, ◌≡◌, ◌≢◌, ◌-◌, ℕ, not, List, [], ◌∷◌, drop, length, map, min, All, rules}
use Rattle.std.proofs.Common.{AllPairs, Contains, filter, Option, Some, None, Ok, Err, Result, refl, sym, ap}
use Rattle.std.proofs.Common.{subst, ◌∙◌}
use Rattle.std.proofs.lemmas.List.{length-drop, length-take}
use Rattle.std.specs.List.{AllZip, zip}
use Rattle.jm_bytes.proofs.Choice.{same_some}
use Rattle.jm_bytes.proofs.Members.{all_from_contains, contains_cases, contains_here, contains_later, contains_map}
use Rattle.jm_bytes.proofs.Members.{contains_none, from_filter, from_map}
use Rattle.jm_bytes.proofs.Pairs.{pairs_map, pairs_none}
use Rattle.jm_filed.specs.declared.extent.Extent.{Extent}
use Rattle.jm_filed.specs.Filed.{IsAt, IsReadAt, content_at}
use Rattle.jm_filed.specs.Parts.{HasSizes, named}
use Rattle.jm_form.specs.declared.container.Header.{Header}
use Rattle.jm_form.specs.declared.container.HeaderFault.{HeaderFault}
use Rattle.jm_form.specs.Entries.{Entry, entries, indexed}
use Rattle.jm_form.specs.Head.{IsFileOf, header_of, index_length}
use Rattle.jm_form.specs.Layout.{Written}
use Rattle.jm_form.specs.Places.{contents}
use Rattle.jm_form.proofs.EntryLaws.{entry_from}
use Rattle.jm_form.proofs.HeadLaws.{header_fits}
use Rattle.jm_form.proofs.LocalityLaws.{same_entries, same_index}
use Rattle.jm_names.specs.ByName.{Named}
use Rattle.jm_names.specs.Names.{is_node}
use Rattle.jm_outside.specs.Files.{Files}
use Rattle.jm_outside.specs.Outcome.{Shows}
use Rattle.jm_reader.specs.Listing.{IsIndex}
use Rattle.jm_reader.specs.Walk.{entries_of, entries_with}
use Rattle.jm_reader.proofs.WalkLaws.{entries_differ}
use Rattle.jm_relink.specs.Files.{resources_of}
use Rattle.jm_relink.proofs.ModuleLaws.{one_content}

-- Two lists side by side

module _ {A B : Type 0} where
  -- an element of the second list stands beside one of the first
  pub beside : (R : A → B → Type 0) (xs : List A) (ys : List B) → AllZip R xs ys → (y : B) → Contains ys y
      → (x : A) × Contains xs x × R x y
  beside R [] [] both y there = absurd (contains_none y there)
  beside R [] (z ∷ ys) both y there = absurd both
  beside R (x ∷ xs) [] both y there = absurd both
  beside R (x ∷ xs) (z ∷ ys) both y there = elim (contains_cases z ys y there) [
    | inl same ↦ (x, contains_here x xs, subst (R x) same both.0)
    | inr later ↦ let rest = beside R xs ys both.1 y later in (rest.0, contains_later x xs rest.0 rest.1, rest.2)
  ]

  -- another relation of elements that stand side by side
  pub zipped_as : (R S : A → B → Type 0) (xs : List A) (ys : List B) → AllZip R xs ys
      → ((x : A) (y : B) → Contains xs x → Contains ys y → R x y → S x y) → AllZip S xs ys
  zipped_as R S [] [] both to = tt
  zipped_as R S [] (y ∷ ys) both to = absurd both
  zipped_as R S (x ∷ xs) [] both to = absurd both
  zipped_as R S (x ∷ xs) (y ∷ ys) both to = (
    to x y (contains_here x xs) (contains_here y ys) both.0,
    zipped_as R S xs ys both.1 (λ a b there too. to a b (contains_later x xs a there) (contains_later y ys b too)),
  )

  -- elements of the second list with keys of the first
  pub zipped_keys : {K : Type 0} (R : A → B → Type 0) (key : A → K) (xs : List A) (ys : List B) → AllZip R xs ys
      → AllZip (λ x p. (p.0 ≡ key x) × R x p.1) xs (zip (map key xs) ys)
  zipped_keys R key [] [] both = tt
  zipped_keys R key [] (y ∷ ys) both = absurd both
  zipped_keys R key (x ∷ xs) [] both = absurd both
  zipped_keys R key (x ∷ xs) (y ∷ ys) both = ((refl, both.0), zipped_keys R key xs ys both.1)

  -- what is the same of elements that stand side by side
  pub zipped_same : {K : Type 0} (R : A → B → Type 0) (one : A → K) (other : B → K) (xs : List A) (ys : List B) → AllZip R xs ys
      → ((x : A) (y : B) → R x y → other y ≡ one x) → map other ys ≡ map one xs
  zipped_same R one other [] [] both same = search (rules)
  zipped_same R one other [] (y ∷ ys) both same = search (rules)
  zipped_same R one other (x ∷ xs) [] both same = search (rules)
  zipped_same R one other (x ∷ xs) (y ∷ ys) both same = search (rules, (zipped_same R one other xs ys both.1 same))

-- Extents

-- what holds of the content at an extent of a told file holds of what was read there
pub content_read : (told : Option Files) (path b : List ℕ) (x : Extent) (text : List ℕ) → IsAt told path b
    → IsReadAt told path x text → (P : List ℕ → Type 0) → P (content_at b x) → Shows told (λ files. P text)
content_read None path b x text at read P holds = search (rules)
content_read (Some files) path b x text at read P holds = search (rules, same_some)

-- what is shown of each element
pub shown_all : {X : Type 0} (told : Option Files) (P : X → Type 0) (xs : List X)
    → ((x : X) → Contains xs x → Shows told (λ files. P x)) → Shows told (λ files. All P xs)
shown_all None P xs each = tt
shown_all (Some files) P xs each = all_from_contains P xs each

-- The entries of an image

abbrev Apart : Named → Named → Type 0
Apart p q = p.0 ≢ q.0

apart_with : (b : List ℕ) (header : Result Header HeaderFault) → AllPairs Apart (map named (entries_with b header))
apart_with b (Err fault) = pairs_none Apart
apart_with b (Ok h) = pairs_map Apart named (entries b h) (entries_differ b h)

-- a name has one content
pub same_content : (b n c d : List ℕ) → Contains (map named (entries_of b)) (n, c) → Contains (map named (entries_of b)) (n, d)
    → c ≡ d
same_content b n c d there too = one_content (map named (entries_of b)) n n c d (apart_with b (header_of b)) there too refl

-- a resource is an entry
pub resource_entry : (b : List ℕ) (r : Written) → Contains (resources_of b) r → Contains (map named (entries_of b)) r
resource_entry b r there =
    let from = from_map (λ (e : Entry). (e.name, e.content)) (filter (λ e. not (is_node e.name)) (entries_of b)) r there in
    let kept = from_filter (λ (e : Entry). not (is_node e.name)) (entries_of b) from.0 from.1 in
    subst (Contains (map named (entries_of b))) from.2 (contains_map named (entries_of b) from.0 kept.0)

-- the contents of all files of an index have the same sizes
module _ (f : List ℕ) (size : ℕ) (h : Header) (index : IsIndex f size h) (b c : List ℕ) (file : IsFileOf f size b)
    (other : IsFileOf f size c) where
  long_of : (d : List ℕ) → IsFileOf f size d → (e : Entry) → Contains (entries d h) e
      → length e.content ≡ min e.row.size (size - index_length h - e.row.offset)
  long_of d own e there =
      ap (λ (g : Entry). length g.content) (entry_from d h e there).is
      ∙ length-take e.row.size (drop e.row.offset (contents d h))
      ∙ ap (min e.row.size) (length-drop e.row.offset (contents d h) ∙ ap (λ n. n - e.row.offset) (length-drop (index_length h) d
      ∙ ap (λ n. n - index_length h) own.length_is))

  same_indexed : map indexed (entries b h) ≡ map indexed (entries c h)
  same_indexed =
      let fits = header_fits f h index.header in
      sym (same_entries f b h (same_index f size b h file fits)) ∙ same_entries f c h (same_index f size c h other fits)

  all_entries : (d : List ℕ) → IsFileOf f size d → entries_of d ≡ entries d h
  all_entries d own = ap (entries_with d) (index.valid d own).header

  same_size : (p : Named) (content : List ℕ) → Contains (map named (entries_of b)) (p.0, content) → length content ≡ length p.1
      → (content : List ℕ) × Contains (map named (entries_of c)) (p.0, content) × (length content ≡ length p.1)
  same_size p content there long =
      let from = from_map named (entries_of b) (p.0, content) there in
      let e : Entry = from.0 in
      let first : Contains (entries b h) e = subst (λ (es : List Entry). Contains es e) (all_entries b file) from.1 in
      let too = from_map indexed (entries c h) (indexed e) (subst (λ xs. Contains xs (indexed e)) same_indexed
      (contains_map indexed (entries b h) e first)) in
      let g : Entry = too.0 in
      let name : g.name ≡ p.0 = ap (λ x. x.2) too.2 ∙ ap (λ (q : Named). q.0) from.2 in
      let sizes : length g.content ≡ length p.1 =
      long_of c other g too.1 ∙ ap (λ x. min x.1.size (size - index_length h - x.1.offset)) too.2 ∙ sym (long_of b file e first)
      ∙ ap (λ (q : Named). length q.1) from.2 ∙ long
      in
      let own : Contains (entries_of c) g = subst (λ (es : List Entry). Contains es g) (sym (all_entries c other)) too.1 in
      let has = contains_map named (entries_of c) g own in
      (g.content, subst (λ n. Contains (map named (entries_of c)) (n, g.content)) name has, sizes)

  pub same_sizes : (read : List Named) → HasSizes b read → HasSizes c read
  same_sizes read sized = λ k d below. let one = sized k d below in same_size _ one.0 one.1 one.2
