-- The files of an archive: the best candidates of its names, and no others; there is one such list.
use Rattle.std.proofs.Common.{◌≡◌, ◌≢◌, ◌⊎◌, inl, inr, ℕ, zero, suc, ◌<◌, ◌≤◌, nat_lt, Bool, true, false, cond}
use Rattle.std.proofs.Common.{List, [], ◌∷◌, ◌++◌, length, map, slice_get, get_or, AllPairs, Contains, IsPermutation}
use Rattle.std.proofs.Common.{Option, Some, None, refl, sym, ap, ◌∙◌, subst, arith}
use Rattle.std.proofs.lemmas.Bool.{ltb-true, lt-ltb}
use Rattle.std.proofs.lemmas.List.Elements.{All-nil, All-contains}
use Rattle.std.proofs.lemmas.List.Kept.{AllPairs-cons}
use Rattle.std.proofs.lemmas.List.Sorted.{Contains-permutation, IsPermutation-sym}
use Rattle.std.proofs.lemmas.List.Sums.{passes_at_first, position_or_len_is}
use Rattle.std.proofs.lemmas.Option.{get_or_from_slice_get, option_and_then_some, slice_get-get_or}
use Rattle.std.proofs.lemmas.Slice.Eq.{bytes_eq-Decides}
use Rattle.std.specs.List.{position, position_or_len}
use Rattle.std.specs.Option.{option_and_then, option_or}
use Rattle.std.specs.Str.{bytes_eq}
use Rattle.jm_bytes.specs.ByteOrder.{is_before}
use Rattle.jm_bytes.proofs.ByteOrderLaws.{before_other, one_way, unequal}
use Rattle.jm_bytes.proofs.Choice.{chosen, same_some}
use Rattle.jm_bytes.proofs.Members.{contains_cases, contains_filter_map, contains_here, contains_later, contains_map, contains_none}
use Rattle.jm_bytes.proofs.Members.{contains_range, from_filter_map, from_map}
use Rattle.jm_bytes.proofs.Pairs.{pairs_append, pairs_head, pairs_map, pairs_none, pairs_tail}
use Rattle.jm_bytes.proofs.SameOrder.{same_order}
use Rattle.jm_archive.specs.Cuts.{AreBest, Before, Candidate, IsSmall, candidates, cut_of}
use Rattle.jm_archive.specs.Files.{AreFiles, entry_name, file_at, file_named, first_place, is_folder, is_meta, is_versioned}
use Rattle.jm_archive.specs.Files.{versions, versions_of}
use Rattle.jm_archive.specs.declared.files.ArchiveFile.{ArchiveFile}
use Rattle.jm_archive.specs.declared.kinds.ArchiveKind.{ArchiveKind}
use Rattle.jm_archive.specs.declared.kinds.ArchiveKind.TheVariants.{Jmod, Jar, MultiRelease}
use Rattle.jm_archive.proofs.CutLaws.{cut_named, named_cut}
use Rattle.jm_archive.proofs.VersionLaws.{from_versions, versions_fall}

abbrev Names : Type 0
Names = List (List ℕ)

abbrev pub Differ : List ℕ → List ℕ → Type 0
Differ name later = name ≢ later

-- The place of a name

pub position_found : (names : Names) (name : List ℕ) (place : ℕ) → position (bytes_eq name) names ≡ Some place
    → slice_get names place ≡ Some name
position_found names name place is =
    let first = position_or_len (bytes_eq name) names in
    elim (chosen (nat_lt first (length names)) (Some first) None (Some place) is) [
      | inr (past, none) ↦ absurd (cc)
      | inl (below, same) ↦
          let within = ltb-true first (length names) below in
          let equal = (bytes_eq-Decides name (get_or names first [])).0 (passes_at_first (bytes_eq name) names [] within) in
          ap (slice_get names) (sym (same_some first place same)) ∙ slice_get-get_or names first [] within
          ∙ ap (λ (n : List ℕ). Some n) (sym equal)
    ]

pub within_names : (names : Names) (name : List ℕ) (place : ℕ) → slice_get names place ≡ Some name → place < length names
within_names [] name place is = cc
within_names (first ∷ names) name zero is = omega arith
within_names (first ∷ names) name (suc place) is = omega (arith, within_names names name place is)

place_found : (names : Names) (name : List ℕ) (place : ℕ) → AllPairs Differ names → slice_get names place ≡ Some name
    → position (bytes_eq name) names ≡ Some place
place_found names name place differ is =
    let within = within_names names name place is in
    let read : get_or names place [] ≡ name = get_or_from_slice_get names place name [] is in
    let first = position_or_len_is (bytes_eq name) names place [] (omega arith)
    (λ k below. unequal name (get_or names k []) (λ same. differ k place [] below within (same ∙ sym read)))
    (λ _. (bytes_eq-Decides name (get_or names place [])).1 (sym read))
    in
    ap (λ k. cond (nat_lt k (length names)) (Some k) None) first
    ∙ ap (λ b. cond b (Some place) None) (lt-ltb place (length names) within)

-- The first place that versions give

module _ (place : ℕ → Option ℕ) where
  -- no greater version than this one gives a place
  abbrev pub IsGreatest : List ℕ → ℕ → Type 0
  IsGreatest versions version = (other at : ℕ) → Contains versions other → place other ≡ Some at → other ≤ version

  pub first_found : (vs : List ℕ) (at : ℕ) → AllPairs (λ v w. w < v) vs → first_place place vs ≡ Some at
      → (v : ℕ) × Contains vs v × (place v ≡ Some at) × IsGreatest vs v
  first_found [] at fall is = cc
  first_found (v ∷ vs) at fall is = go (place v) refl is (λ later. first_found vs at (pairs_tail (λ v w. w < v) v vs fall) later)
    where
      go : (o : Option ℕ) → place v ≡ o → option_or o (first_place place vs) ≡ Some at
          → (first_place place vs ≡ Some at → (w : ℕ) × Contains vs w × (place w ≡ Some at) × IsGreatest vs w)
          → (w : ℕ) × Contains (v ∷ vs) w × (place w ≡ Some at) × IsGreatest (v ∷ vs) w
      go (Some one) e is rest = (
        v,
        contains_here v vs,
        e ∙ is,
        λ other k there gives. elim (contains_cases v vs other there) [
          | inl same ↦ omega arith
          | inr later ↦ let below = All-contains (λ w. w < v) vs other (pairs_head (λ v w. w < v) v vs fall) later in omega arith
        ],
      )
      go None e is rest = let from = rest is in (
        from.0,
        contains_later v vs from.0 from.1,
        from.2,
        λ other k there gives. elim (contains_cases v vs other there) [
          | inl same ↦ absurd (none_some k (sym e ∙ ap place same ∙ gives))
          | inr later ↦ from.3 other k later gives
        ],
      )
        where
          none_some : (k : ℕ) → ◌≡◌ {A = Option ℕ} None (Some k) → ⊥
          none_some k is = cc

  first_is : (vs : List ℕ) (v at : ℕ) → AllPairs (λ v w. w < v) vs → Contains vs v → place v ≡ Some at → IsGreatest vs v
      → first_place place vs ≡ Some at
  first_is [] v at fall there gives greatest = absurd (contains_none v there)
  first_is (w ∷ vs) v at fall there gives greatest = go (place w) refl (contains_cases w vs v there)
      (λ later. first_is vs v at (pairs_tail (λ v w. w < v) w vs fall) later gives
      (λ other k among is. greatest other k (contains_later w vs other among) is))
    where
      go : (o : Option ℕ) → place w ≡ o → (w ≡ v) ⊎ Contains vs v → (Contains vs v → first_place place vs ≡ Some at)
          → option_or o (first_place place vs) ≡ Some at
      go o e (inl same) rest = let is : o ≡ Some at = sym e ∙ ap place same ∙ gives in rw is refl
      go None e (inr later) rest = rest later
      go (Some k) e (inr later) rest =
          let below = All-contains (λ u. u < w) vs v (pairs_head (λ v w. w < v) w vs fall) later in
          let most = greatest w k (contains_here w vs) e in
          absurd (omega arith)

one_falls : (v : ℕ) → AllPairs (λ v w. w < v) (v ∷ [])
one_falls v = AllPairs-cons (λ v w. w < v) v [] (All-nil (λ w. w < v)) (pairs_none (λ v w. w < v))

pub versions_of_fall : (kind : ArchiveKind) (path : List ℕ) → AllPairs (λ v w. w < v) (versions_of kind path)
versions_of_fall Jmod path = one_falls 0
versions_of_fall Jar path = one_falls 0
versions_of_fall (MultiRelease release) path = go (is_versioned path) (is_meta path)
  where
    go : (b m : Bool) → AllPairs (λ v w. w < v) (cond b [] (cond m (0 ∷ []) (versions release ++ 0 ∷ [])))
    go true m = pairs_none (λ v w. w < v)
    go false true = one_falls 0
    go false false =
        pairs_append (λ v w. w < v) (versions release) (0 ∷ []) (versions_fall release) (one_falls 0)
        (λ v w among last. elim (contains_cases 0 [] w last) [
          | inl same ↦ omega (arith, (from_versions release v among).0)
          | inr later ↦ absurd (contains_none w later)
        ])

-- Candidates of names

module _ (kind : ArchiveKind) (names : Names) (small : IsSmall kind) (differ : AllPairs Differ names) where
  -- the place of the entry of a path for a version
  abbrev pub at_version : List ℕ → ℕ → Option ℕ
  at_version path version = file_named names (entry_name kind path version)

  candidate_taken : (c : Candidate) → Contains (candidates kind names) c → Contains (versions_of kind c.path) c.version
      × (at_version c.path c.version ≡ Some c.place)
  candidate_taken c there =
      let from = from_filter_map (λ place. option_and_then (cut_of kind place) (slice_get names place)) _ c there in
      option_and_then_some (cut_of kind from.0) (slice_get names from.0) c from.2
      (λ name read cut.
      let is = cut_named kind from.0 name c cut in
      let found = place_found names name c.place differ (ap (slice_get names) is.place ∙ read) in
      (is.taken, ap (file_named names) is.named ∙ ap (λ b. cond b None (position (bytes_eq name) names)) is.file ∙ found))

  pub taken_candidate : (path : List ℕ) (version place : ℕ) → Contains (versions_of kind path) version
      → at_version path version ≡ Some place
      → Contains (candidates kind names) (record { path = path; version = version; place = place })
  taken_candidate path version place taken gives =
      let name = entry_name kind path version in
      elim (chosen (is_folder name) None (position (bytes_eq name) names) (Some place) gives) [
        | inl (folder, none) ↦ absurd (cc)
        | inr (file, same) ↦
            let read = position_found names name place same in
            let within = within_names names name place read in
            contains_filter_map (λ place. option_and_then (cut_of kind place) (slice_get names place)) _ place
            (record { path = path; version = version; place = place }) (contains_range 0 (length names) place (omega arith) (omega arith))
            (ap (option_and_then (cut_of kind place)) read ∙ named_cut kind place path version name small file taken refl)
      ]

-- The best of them

-- of candidates that rise by path no two have one path
rising_once : (best : List Candidate) (b d : Candidate) → AllPairs Before best → Contains best b → Contains best d → d.path ≡ b.path → d ≡ b
rising_once [] b d rises there too same = absurd (contains_none b there)
rising_once (x ∷ best) b d rises there too same = go (contains_cases x best b there) (contains_cases x best d too)
    (λ one other. rising_once best b d (pairs_tail Before x best rises) one other same)
  where
    above : (y : Candidate) → Contains best y → Before x y
    above y among = All-contains (Before x) best y (pairs_head Before x best rises) among

    go : (x ≡ b) ⊎ Contains best b → (x ≡ d) ⊎ Contains best d → (Contains best b → Contains best d → d ≡ b) → d ≡ b
    go (inl is) (inl also) rest = sym also ∙ is
    go (inl is) (inr later) rest =
        absurd (before_other b.path (subst (λ p. is_before b.path p ≡ true) same (subst (λ (y : Candidate). Before y d) is (above d later))))
    go (inr later) (inl is) rest =
        absurd (before_other b.path (subst (λ p. is_before p b.path ≡ true) same (subst (λ (y : Candidate). Before y b) is (above b later))))
    go (inr later) (inr too) rest = rest later too

-- the file of a candidate
abbrev pub plain_file : Candidate → ArchiveFile
plain_file c = record { path = c.path; place = c.place }

module _ (kind : ArchiveKind) (names : Names) (small : IsSmall kind) (differ : AllPairs Differ names) (all best : List Candidate)
    (moved : IsPermutation (candidates kind names) all) (is : AreBest all best) where
  among_all : (c : Candidate) → Contains (candidates kind names) c → Contains all c
  among_all c there = Contains-permutation (candidates kind names) all c moved there

  best_taken : (b : Candidate) → Contains best b → Contains (versions_of kind b.path) b.version
      × (at_version kind names small differ b.path b.version ≡ Some b.place)
  best_taken b there =
      candidate_taken kind names small differ b
      (Contains-permutation all (candidates kind names) b (IsPermutation-sym (candidates kind names) all moved) (is.from b there))

  best_there : (b : Candidate) → Contains best b → file_at kind names b.path ≡ Some b.place
  best_there b there =
      let taken = best_taken b there in
      first_is (at_version kind names small differ b.path) (versions_of kind b.path) b.version b.place (versions_of_fall kind b.path)
      taken.0 taken.1 (λ other at among gives.
      let covered = is.covers _ (among_all _ (taken_candidate kind names small differ b.path other at among gives)) in
      let same = rising_once best b covered.0 is.rising there covered.1 covered.2 in
      omega (arith, covered.3, ap (λ (c : Candidate). c.version) same))

  one_place : (at : ℕ → Option ℕ) (v w p q : ℕ) → v ≡ w → at v ≡ Some p → at w ≡ Some q → p ≡ q
  one_place at v w p q same one other = same_some p q (sym one ∙ ap at same ∙ other)

  there_best : (path : List ℕ) (place : ℕ) → file_at kind names path ≡ Some place
      → Contains (map plain_file best) (record { path = path; place = place })
  there_best path place gives =
      let found = first_found (at_version kind names small differ path) (versions_of kind path) place (versions_of_fall kind path) gives in
      let covered = is.covers _ (among_all _ (taken_candidate kind names small differ path found.0 place found.1 found.2)) in
      let b = covered.0 in
      let taken = rw covered.2 at (best_taken b covered.1) in
      let most = found.3 b.version b.place taken.0 taken.1 in
      let version : b.version ≡ found.0 = omega (arith, covered.3) in
      let same = one_place (at_version kind names small differ path) b.version found.0 b.place place version taken.1 found.2 in
      let file : plain_file b ≡ record { path = path; place = place } = rw (covered.2, same) refl in
      subst (Contains (map plain_file best)) file (contains_map plain_file best b covered.1)

  pub best_files : AreFiles kind names (map plain_file best)
  best_files = record {
    rising = pairs_map (λ (file later : ArchiveFile). is_before file.path later.path ≡ true) plain_file best is.rising;
    exact = λ file. (
      λ there. let from = from_map plain_file best file there in
          subst (λ (f : ArchiveFile). file_at kind names f.path ≡ Some f.place) from.2 (best_there from.0 from.1),
      λ gives. there_best file.path file.place gives,
    );
  }

-- There is one such list

pub one_answer : (kind : ArchiveKind) (names : Names) (files others : List ArchiveFile) → AreFiles kind names files
    → AreFiles kind names others → files ≡ others
one_answer kind names files others one other =
    same_order (λ (file later : ArchiveFile). is_before file.path later.path ≡ true) (λ file later. one_way file.path later.path)
    files others one.rising other.rising (λ file there. (other.exact file).1 ((one.exact file).0 there))
    (λ file there. (one.exact file).1 ((other.exact file).0 there))
