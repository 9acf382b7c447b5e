-- Stored bytes that were read one by one are those of one file of the index by which they were read.
use Rattle.std.proofs.Common.{◌≡◌, ◌≤◌, ◌+◌, ℕ, List, [], ◌∷◌, map, filter, not, AllPairs, Contains, Option}
use Rattle.std.proofs.Common.{Result, Ok, Err, refl, sym, ap, ◌∙◌, subst, arith}
use Rattle.std.proofs.lemmas.List.Elements.{All-contains}
use Rattle.std.proofs.lemmas.List.Kept.{AllPairs-cons}
use Rattle.std.proofs.lemmas.List.Sorted.{Contains-permutation, IsPermutation-sym, sum_by-IsPermutation}
use Rattle.jm_bytes.proofs.Members.{all_from_contains, contains_map, contains_none, from_filter, from_map}
use Rattle.jm_bytes.proofs.Pairs.{pairs_head, pairs_map, pairs_none, pairs_tail}
use Rattle.jm_filed.specs.declared.extent.Extent.{Extent}
use Rattle.jm_filed.specs.Filed.{IsFiled, IsIndexAt, IsReadAt, IsWithin, content_at}
use Rattle.jm_filed.specs.Parts.{HasBytesBy, all_named_by, named_by}
use Rattle.jm_filed.proofs.FileLaws.{bytes_read}
use Rattle.jm_filed.proofs.FirstReadLaws.{agreed, read_of}
use Rattle.jm_filed.proofs.TakingLaws.{names_apart}
use Rattle.jm_form.specs.declared.container.Header.{Header}
use Rattle.jm_form.specs.declared.rows.Compression.TheVariants.{Allowed}
use Rattle.jm_form.specs.Entries.{Entry}
use Rattle.jm_form.specs.Head.{IsFileOf}
use Rattle.jm_form.specs.Rows.{as_stored}
use Rattle.jm_link.specs.declared.linking.LinkStop.{LinkStop}
use Rattle.jm_link.specs.declared.linking.LinkStop.TheVariants as stop
use Rattle.jm_link.specs.Steps.{StepStops, stop_of}
use Rattle.jm_link.proofs.PartLaws.{beside}
use Rattle.jm_names.proofs.NameOrder.{Differ}
use Rattle.jm_names.specs.ByName.{Named}
use Rattle.jm_names.specs.Names.{is_node}
use Rattle.jm_outside.specs.declared.shelf.ShelfError.{ShelfError}
use Rattle.jm_outside.specs.declared.shelf.ShelfError.TheVariants as outside
use Rattle.jm_outside.specs.Files.{Files}
use Rattle.jm_reader.specs.Listing.{IsIndexBy}
use Rattle.jm_reader.specs.Walk.{entries_of}
use Rattle.jm_texts.specs.declared.refusal.Refusal.{Refusal}
use Rattle.jm_valid.specs.Opened.{Front}
use Rattle.jm_decompress.specs.declared.held.HeldResource.{HeldResource}
use Rattle.jm_decompress.specs.declared.resources.StoredResource.{StoredResource}
use Rattle.jm_decompress.specs.Decompressed.{AreByName, stored_bytes, stored_resource, stored_resources, stored_size, stored_sizes}
use Rattle.jm_decompress.specs.Steps.{AreHeld, AreHeldRead, AreTold, IsHeld, IsHeldRead, IsRefusedBy, Judges, ReadsImage}
use Rattle.jm_decompress.proofs.ResourceLaws.{Apart, resources_differ}

-- the name of a resource, and what stands with it
abbrev held_as : HeldResource → Named
held_as h = (h.resource.name, h.stored)

-- The stored bytes of a resource stand where the row of its entry says

stored_there : (b : List ℕ) (rs : List StoredResource) → AreByName b rs → (r : StoredResource) → Contains rs r
    → Contains (all_named_by Allowed b) (r.name, stored_bytes b r.row)
stored_there b rs are r there =
    let passes = λ (e : Entry). not (is_node e.name) in
    let own = Contains-permutation rs (stored_resources b) r (IsPermutation-sym (stored_resources b) rs are.moved) there in
    let from = from_map stored_resource (filter passes (entries_of b)) r own in
    let kept = from_filter passes (entries_of b) from.0 from.1 in
    subst (λ (s : StoredResource). Contains (all_named_by Allowed b) (s.name, stored_bytes b s.row)) from.2
    (contains_map (named_by Allowed b) (entries_of b) from.0 kept.0)

-- and there is one for each name
one_stored : (b : List ℕ) (p q : Named) → Contains (all_named_by Allowed b) p → Contains (all_named_by Allowed b) q → p.0 ≡ q.0
    → p.1 ≡ q.1
one_stored b = agreed (all_named_by Allowed b) (names_apart (λ e. (named_by Allowed b e).1) b)

-- how many they are together
sizes_are : (b : List ℕ) (rs : List StoredResource) → AreByName b rs → stored_size rs ≡ stored_sizes b
sizes_are b rs are = sum_by-IsPermutation (λ (r : StoredResource). (as_stored r.row).size) (stored_resources b) rs are.moved

-- The names differ

abbrev HeldApart : HeldResource → HeldResource → Type 0
HeldApart h k = Apart h.resource k.resource

pub held_apart : (hs : List HeldResource) → AllPairs Apart (map (λ h. h.resource) hs) → AllPairs HeldApart hs
held_apart [] differ = pairs_none HeldApart
held_apart (h ∷ hs) differ =
    AllPairs-cons HeldApart h hs (all_from_contains (HeldApart h) hs (λ k there. All-contains (Apart h.resource)
    (map (λ (h : HeldResource). h.resource) hs) k.resource
    (pairs_head Apart h.resource (map (λ (h : HeldResource). h.resource) hs) differ)
    (contains_map (λ (h : HeldResource). h.resource) hs k there)))
    (held_apart hs (pairs_tail Apart h.resource (map (λ (h : HeldResource). h.resource) hs) differ))

-- resources that were read stand with the same resources
same_resources : (index : Front) (told : Option Files) (path : List ℕ) (rs : List StoredResource) (hs : List HeldResource)
    → AreHeldRead index told path rs hs → map (λ h. h.resource) hs ≡ rs
same_resources index told path [] [] zipped = refl
same_resources index told path [] (h ∷ hs) zipped = absurd zipped
same_resources index told path (r ∷ rs) [] zipped = absurd zipped
same_resources index told path (r ∷ rs) (h ∷ hs) zipped =
    ap (λ s. s ∷ map (λ (h : HeldResource). h.resource) hs) zipped.0.0
    ∙ ap (λ ss. r ∷ ss) (same_resources index told path rs hs zipped.1)

held_differ : (index : Front) (told : Option Files) (path b : List ℕ) (rs : List StoredResource) (hs : List HeldResource)
    → AreByName b rs → AreHeldRead index told path rs hs → AllPairs HeldApart hs
held_differ index told path b rs hs are zipped =
    held_apart hs (subst (AllPairs Apart) (sym (same_resources index told path rs hs zipped)) (resources_differ b rs are))

-- A file of the index

-- a step that asks no shelf ends the work as one that may
stops_weaker : (Refuses : Refusal → Type 0) (given : LinkStop) → StepStops Refuses ⊥ ⊥ given → StepStops Refuses ⊥ (Unit {0}) given
stops_weaker Refuses (stop.Refused r) is = is
stops_weaker Refuses (stop.NotThere listed) is = is
stops_weaker Refuses stop.Outside is = tt
stops_weaker Refuses stop.Memory is = is

module _ (index : Front) (h : Header) (is : IsIndexBy Allowed index.bytes index.length h) (told : Option Files) (path : List ℕ)
    (there : IsIndexAt index told path) where
  -- the one at the path, where it is told
  some_file : (b : List ℕ) × IsFiled index told path b
  some_file =
      let nothing = read_of index told path (all_named_by Allowed) [] (λ b file p among. absurd (contains_none p among))
      (pairs_none Differ) in
      let found = bytes_read Allowed index h is told path there [] nothing in
      (found.0, found.1)

  -- the index refuses the resources, or there is no memory
  pub image_refused : (given : LinkStop) → ((b : List ℕ) → IsFileOf index.bytes index.length b → Judges b (Err given)) → (first : ℕ)
      → ReadsImage index told path (Err given) first first
  image_refused given judges first = record {
    bytes = some_file.0;
    filed = some_file.1;
    gives = stops_weaker (IsRefusedBy some_file.0) given (judges some_file.0 some_file.1.0);
    takes = omega arith;
  }

  -- which is no failure of a shelf
  pub not_outside : {A : Type 0} (given : LinkStop) → ((b : List ℕ) → IsFileOf index.bytes index.length b → Judges b (Err given))
      → ◌≡◌ {A = Result A LinkStop} (Err given) (Err stop.Outside) → ⊥
  not_outside {A} given judges is = go given (judges some_file.0 some_file.1.0) is
    where
      go : (given : LinkStop) → Judges some_file.0 (Err given) → ◌≡◌ {A = Result A LinkStop} (Err given) (Err stop.Outside) → ⊥
      go (stop.Refused r) judged is = cc
      go (stop.NotThere listed) judged is = judged
      go stop.Outside judged is = judged
      go stop.Memory judged is = cc

  module _ (rs : List StoredResource) (are : (b : List ℕ) → IsFileOf index.bytes index.length b → AreByName b rs)
      (first last : ℕ) (takes : last ≤ first + stored_size rs) where
    most : (b : List ℕ) → IsFileOf index.bytes index.length b → last ≤ first + stored_sizes b
    most b file = subst (λ (n : ℕ). last ≤ first + n) (sizes_are b rs (are b file)) takes

    -- the stored bytes of one weren't had
    pub image_unread : (error : ShelfError) → ReadsImage index told path (Err (stop_of error)) first last
    image_unread error = record {
      bytes = some_file.0;
      filed = some_file.1;
      gives = gives error;
      takes = most some_file.0 some_file.1.0;
    }
      where
        gives : (error : ShelfError) → StepStops (IsRefusedBy some_file.0) ⊥ (Unit {0}) (stop_of error)
        gives outside.Failed = tt
        gives outside.Memory = tt

  module _ (rs : List StoredResource) (are : (b : List ℕ) → IsFileOf index.bytes index.length b → AreByName b rs)
      (hs : List HeldResource) (zipped : AreHeldRead index told path rs hs) where
    as_read : (b : List ℕ) → IsFileOf index.bytes index.length b → (p : Named) → Contains (map held_as hs) p
        → (x : Extent) × IsReadAt told path x p.1 × IsWithin index.length x
        × Contains (all_named_by Allowed b) (p.0, content_at b x)
    as_read b file p among =
        let from = from_map held_as hs p among in
        let by = beside (IsHeldRead index told path) rs hs zipped from.0 from.1 in
        let r : StoredResource = by.0 in
        let read = by.2.1 in
        let name : r.name ≡ p.0 = ap (λ (s : StoredResource). s.name) (sym by.2.0) ∙ ap (λ (q : Named). q.0) from.2 in (
          read.extent,
          subst (IsReadAt told path read.extent) (ap (λ (q : Named). q.1) from.2) read.read,
          read.within,
          subst (λ n. Contains (all_named_by Allowed b) (n, content_at b read.extent)) name
              (subst (λ bytes. Contains (all_named_by Allowed b) (r.name, bytes)) (sym (read.content b file))
              (stored_there b rs (are b file) r by.1)),
        )

    -- it has the stored bytes that were read
    held_file : (b : List ℕ) × IsFiled index told path b × AreHeld b hs
    held_file = (b, found.1, all_from_contains (IsHeld b) hs each)
      where
        some : List ℕ
        some = some_file.0

        differ : AllPairs Differ (map held_as hs)
        differ = pairs_map Differ held_as hs (held_differ index told path some rs hs (are some some_file.1.0) zipped)

        found : (b : List ℕ) × IsFiled index told path b × HasBytesBy Allowed b (map held_as hs)
        found = bytes_read Allowed index h is told path there (map held_as hs)
            (read_of index told path (all_named_by Allowed) (map held_as hs) as_read differ)

        b : List ℕ
        b = found.0

        each : (k : HeldResource) → Contains hs k → IsHeld b k
        each k among =
            let own = All-contains (Contains (all_named_by Allowed b)) (map held_as hs) (held_as k) found.2
            (contains_map held_as hs k among) in
            let by = beside (IsHeldRead index told path) rs hs zipped k among in
            let r : StoredResource = by.0 in
            one_stored b (held_as k) (r.name, stored_bytes b r.row) own (stored_there b rs (are b found.1.0) r by.1)
            (ap (λ (s : StoredResource). s.name) by.2.0)
            ∙ ap (λ (s : StoredResource). stored_bytes b s.row) (sym by.2.0)

    -- what the reading gives, having taken no more than they are
    pub image_held : (order : List (List ℕ)) → ((b : List ℕ) → IsFileOf index.bytes index.length b
        → AreTold b (record { resources = rs; order = order })) → (first last : ℕ) → last ≤ first + stored_size rs
        → ReadsImage index told path (Ok (record { resources = hs; order = order })) first last
    image_held order tells first last takes =
        let b = held_file.0 in
        record {
          bytes = b;
          filed = held_file.1;
          gives = record {
            told = subst (λ (ss : List StoredResource). AreTold b (record { resources = ss; order = order }))
                (sym (same_resources index told path rs hs zipped)) (tells b held_file.1.0);
            bytes = held_file.2;
          };
          takes = most rs are first last takes b held_file.1.0;
        }
