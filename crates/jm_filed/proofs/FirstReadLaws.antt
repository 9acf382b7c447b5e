-- Entries whose contents were read one after another are those of a file of the index by which they were read.
use Rattle.std.proofs.Common.{inl, inr, ◌≡◌, ◌≢◌, ℕ, Bool, List, [], ◌∷◌, ◌++◌, drop, length, map, All, AllPairs, Contains, Option}
use Rattle.std.proofs.Common.{Some, None, IsTrue, option_map, refl, sym, ap, subst, ◌∙◌, arith}
use Rattle.std.proofs.lemmas.List.Elements.{All-contains}
use Rattle.std.proofs.lemmas.List.Kept.{AllPairs-cons}
use Rattle.jm_bytes.proofs.ByteOrderLaws.{before_other}
use Rattle.jm_bytes.proofs.Choice.{same_some}
use Rattle.jm_bytes.proofs.Members.{all_from_contains, contains_cases, contains_here, contains_later, contains_map, contains_none}
use Rattle.jm_bytes.proofs.Members.{from_filter}
use Rattle.jm_bytes.proofs.Pairs.{pairs_head, pairs_none, pairs_tail, pairs_weaker}
use Rattle.jm_bytes.specs.ByteOrder.{is_before}
use Rattle.jm_form.specs.declared.container.Header.{Header}
use Rattle.jm_form.specs.Head.{IsFileOf}
use Rattle.jm_names.proofs.NameOrder.{Differ, by_name_rises, from_by_name}
use Rattle.jm_names.specs.ByName.{Named}
use Rattle.jm_outside.specs.Files.{Files, part}
use Rattle.jm_outside.specs.Outcome.{Shows}
use Rattle.jm_reader.specs.Listing.{IsIndex}
use Rattle.jm_reader.specs.Walk.{entries_of}
use Rattle.jm_reader.proofs.IndexLaws.{file_begins, file_with}
use Rattle.jm_valid.specs.Opened.{Front}
use Rattle.jm_filed.specs.Filed.{IsAt, IsFiled, IsIndexAt, IsReadAt, IsWithin, content_at}
use Rattle.jm_filed.specs.FirstRead.{AreFirstRead, IsEntryRead}
use Rattle.jm_filed.specs.Parts.{AgreeByName, AreRead, AreReadOf, HasContents, IsSizedIn, all_named, named}
use Rattle.jm_filed.specs.Taken.{LieWithin, content_in, named_among, named_of, taken_as}
use Rattle.jm_filed.specs.declared.extent.Extent.{Extent}
use Rattle.jm_filed.specs.declared.taking.TakenEntry.{TakenEntry}
use Rattle.jm_filed.proofs.ExtentLaws.{content_length}
use Rattle.jm_filed.proofs.FileLaws.{file_read}
use Rattle.jm_filed.proofs.TakingLaws.{entries_apart, taken_differ}

-- Names and contents

-- where names differ, one name has one content
pub agreed : (es : List Named) → AllPairs Differ es → AgreeByName es
agreed [] differ p q there too same = absurd (contains_none p there)
agreed (e ∷ es) differ p q there too same =
    elim (contains_cases e es p there) [
      | inl first ↦
          elim (contains_cases e es q too) [
            | inl second ↦ ap (λ (r : Named). r.1) (sym first ∙ second)
            | inr later ↦ absurd (apart q later (ap (λ (r : Named). r.0) first ∙ same))
          ]
      | inr before ↦
          elim (contains_cases e es q too) [
            | inl second ↦ absurd (apart p before (ap (λ (r : Named). r.0) second ∙ sym same))
            | inr later ↦ agreed es (pairs_tail Differ e es differ) p q before later same
          ]
    ]
  where
    apart : (r : Named) → Contains es r → e.0 ≡ r.0 → ⊥
    apart r among = All-contains (Differ e) es r (pairs_head Differ e es differ) among

-- One more

-- the next entry was read too
pub first_more : (told : Option Files) (path : List ℕ) (ts us : List TakenEntry) (read more : List Named)
    → length read ≡ length ts → AreFirstRead told path ts read → AreFirstRead told path us more
    → AreFirstRead told path (ts ++ us) (read ++ more)
first_more told path [] us [] more long first then = then
first_more told path [] us (p ∷ read) more long first then = absurd first
first_more told path (t ∷ ts) us [] more long first then = cc
first_more told path (t ∷ ts) us (p ∷ read) more long first then =
    (first.0, first_more told path ts us read more (omega (arith, long)) first.1 then)

-- and those behind it were not
pub first_among : (told : Option Files) (path : List ℕ) (ts us : List TakenEntry) (read : List Named)
    → AreFirstRead told path ts read → AreFirstRead told path (ts ++ us) read
first_among told path ts us [] first = tt
first_among told path [] us (p ∷ read) first = absurd first
first_among told path (t ∷ ts) us (p ∷ read) first = (first.0, first_among told path ts us read first.1)

-- What was read stands beside an entry

beside : (told : Option Files) (path : List ℕ) (ts : List TakenEntry) (read : List Named) → AreFirstRead told path ts read
    → (p : Named) → Contains read p → (t : TakenEntry) × Contains ts t × IsEntryRead told path t p
beside told path ts [] first p there = absurd (contains_none p there)
beside told path [] (q ∷ read) first p there = absurd first
beside told path (t ∷ ts) (q ∷ read) first p there =
    elim (contains_cases q read p there) [
      | inl same ↦ (t, contains_here t ts, subst (IsEntryRead told path t) same first.0)
      | inr later ↦
          let rest = beside told path ts read first.1 p later in (rest.0, contains_later t ts rest.0 rest.1, rest.2)
    ]

-- so its names differ as those of the entries do
read_differ : (told : Option Files) (path b : List ℕ) (ts : List TakenEntry) (read : List Named) → AllPairs Differ (map (taken_as b) ts)
    → AreFirstRead told path ts read → AllPairs Differ read
read_differ told path b ts [] differ first = pairs_none Differ
read_differ told path b [] (p ∷ read) differ first = absurd first
read_differ told path b (t ∷ ts) (p ∷ read) differ first =
    AllPairs-cons Differ p read (all_from_contains (Differ p) read apart)
    (read_differ told path b ts read (pairs_tail Differ (taken_as b t) (map (taken_as b) ts) differ) first.1)
  where
    apart : (q : Named) → Contains read q → p.0 ≢ q.0
    apart q among same =
        let from = beside told path ts read first.1 q among in
        All-contains (Differ (taken_as b t)) (map (taken_as b) ts) (taken_as b from.0)
        (pairs_head Differ (taken_as b t) (map (taken_as b) ts) differ) (contains_map (taken_as b) ts from.0 from.1)
        (sym first.0.0 ∙ same ∙ from.2.0)

-- In a file of the index

-- a text that was read of the file that is told is what stands there
text_at : (told : Option Files) (path b : List ℕ) (x : Extent) (text : List ℕ) → IsAt told path b → IsReadAt told path x text
    → Shows told (λ files. text ≡ content_at b x)
text_at None path b x text at read = tt
text_at (Some files) path b x text at read =
    sym (same_some (content_at b x) text (ap (option_map (λ bytes. part bytes x.at x.size)) at ∙ read.shown))

-- what stands under names of each file of an index, read where it stands and each name once, is read of it
module _ (index : Front) (told : Option Files) (path : List ℕ) (all : List ℕ → List Named) (read : List Named)
    (as_read : (b : List ℕ) → IsFileOf index.bytes index.length b → (p : Named) → Contains read p
    → (x : Extent) × IsReadAt told path x p.1 × IsWithin index.length x × Contains (all b) (p.0, content_at b x)) where
  sized : (b : List ℕ) → IsFiled index told path b → All (IsSizedIn (all b)) read
  sized b filed = all_from_contains (IsSizedIn (all b)) read (λ p there.
      let from = as_read b filed.0 p there in (
        content_at b from.0,
        from.3,
        content_length index.length b from.0 filed.0.length_is from.2 ∙ sym from.1.size,
      ))

  contained : (told_too : Option Files) → told_too ≡ told → (b : List ℕ) → IsFiled index told path b
      → Shows told_too (λ files. All (Contains (all b)) read)
  contained None is b filed = tt
  contained (Some files) is b filed = all_from_contains (Contains (all b)) read (λ p there.
      let from = as_read b filed.0 p there in
      let text = subst (λ (t : Option Files). Shows t (λ files. p.1 ≡ content_at b from.0)) (sym is)
      (text_at told path b from.0 p.1 filed.1 from.1) in
      subst (λ content. Contains (all b) (p.0, content)) (sym text) from.3)

  pub read_of : AllPairs Differ read → AreReadOf all index told path read
  read_of differ = record { agree = agreed read differ; sizes = sized; contents = contained told refl }

module _ (index : Front) (told : Option Files) (path : List ℕ) (passes : List ℕ → Bool) (ts : List TakenEntry)
    (are : (b : List ℕ) → IsFileOf index.bytes index.length b → map (taken_as b) ts ≡ named_of passes b)
    (within : LieWithin index.length ts) (read : List Named) (first : AreFirstRead told path ts read) where
  -- the entries are among those of each file
  among : (b : List ℕ) → IsFileOf index.bytes index.length b → (t : TakenEntry) → Contains ts t
      → Contains (map named (entries_of b)) (taken_as b t)
  among b file t there =
      let passed = from_by_name (named_among passes (entries_of b)) (taken_as b t)
      (subst (λ es. Contains es (taken_as b t)) (are b file) (contains_map (taken_as b) ts t there)) in
      (from_filter (λ (e : Named). passes e.0) (map named (entries_of b)) (taken_as b t) passed).0

  -- and what was read, with the content of the file
  as_first : (b : List ℕ) → IsFileOf index.bytes index.length b → (p : Named) → Contains read p
      → (x : Extent) × IsReadAt told path x p.1 × IsWithin index.length x
      × Contains (all_named b) (p.0, content_at b x)
  as_first b file p there =
      let from = beside told path ts read first p there in (
        from.0.content,
        from.2.1,
        All-contains (λ (t : TakenEntry). IsWithin index.length t.content) ts from.0 within from.1,
        subst (λ n. Contains (map named (entries_of b)) (n, content_in b from.0)) (sym from.2.0) (among b file from.0 from.1),
      )

  are_read : (b : List ℕ) → IsFileOf index.bytes index.length b → AreRead index told path read
  are_read b file = read_of index told path all_named read as_first (read_differ told path b ts read differ first)
    where
      rises : AllPairs Differ (named_of passes b)
      rises = pairs_weaker (λ (e f : Named). IsTrue (is_before e.0 f.0)) Differ
          (λ e f before same. before_other f.0 (subst (λ n. IsTrue (is_before n f.0)) same before)) (named_of passes b)
          (by_name_rises (named_among passes (entries_of b)) (taken_differ passes b))

      differ : AllPairs Differ (map (taken_as b) ts)
      differ = subst (AllPairs Differ) (sym (are b file)) rises

  -- in a file with these contents they are the first of the entries
  are_first : (b : List ℕ) → ((t : TakenEntry) → Contains ts t → Contains (map named (entries_of b)) (taken_as b t))
      → HasContents b read → map (taken_as b) ts ≡ read ++ map (taken_as b) (drop (length read) ts)
  are_first b there has = go ts read there (λ p in_read. All-contains (Contains (map named (entries_of b))) read p has in_read) first
    where
      go : (ts : List TakenEntry) (read : List Named)
          → ((t : TakenEntry) → Contains ts t → Contains (map named (entries_of b)) (taken_as b t))
          → ((p : Named) → Contains read p → Contains (map named (entries_of b)) p) → AreFirstRead told path ts read
          → map (taken_as b) ts ≡ read ++ map (taken_as b) (drop (length read) ts)
      go ts [] there has first = refl
      go [] (p ∷ read) there has first = absurd first
      go (t ∷ ts) (p ∷ read) there has first =
          let content : content_in b t ≡ p.1 = agreed (map named (entries_of b)) (entries_apart b) (taken_as b t) p
          (there t (contains_here t ts)) (has p (contains_here p read)) (sym first.0.0) in
          let rest = go ts read (λ u later. there u (contains_later t ts u later)) (λ q later. has q (contains_later p read q later))
          first.1 in
          λ i. (sym first.0.0 i, content i) ∷ rest i

  -- some file of the index, which is the one at the path, where it is told, has what was read as the contents of
  -- the first of the entries
  pub first_read : (h : Header) → IsIndex index.bytes index.length h → IsIndexAt index told path
      → (b : List ℕ) × IsFiled index told path b × (map (taken_as b) ts ≡ read ++ map (taken_as b) (drop (length read) ts))
  first_read h images at =
      let some = file_with index.bytes index.length in
      let is = file_begins index.bytes index.length images.within in
      let found = file_read index h images told path at read (are_read some is) in
      (found.0, found.1, are_first found.0 (among found.0 found.1.0) found.2)
