-- A cut is of the path and the version of which the name is that of an entry, and each such name is cut so.
use Rattle.std.proofs.Common.{◌≡◌, ℕ, suc, ◌+◌, ◌^◌, ◌<◌, nat_eq, ◌==◌, ◌&&◌, ◌||◌, not, Bool, true, false, cond}
use Rattle.std.proofs.Common.{List, [], ◌∷◌, ◌++◌, length, take, drop, codes, Contains, Option, Some, None, option_map}
use Rattle.std.proofs.Common.{refl, sym, ap, ◌∙◌, subst, arith, inl, inr}
use Rattle.std.proofs.lemmas.Bool.{and_parts, eqb-true, false≢true, false_from_ne_true, not-true}
use Rattle.std.proofs.lemmas.Bool.Decides.{Decides-eqb, nat_tests}
use Rattle.std.proofs.lemmas.Fmt.{decimal_is_IsNumeral}
use Rattle.std.proofs.lemmas.List.{take_at}
use Rattle.std.proofs.lemmas.List.Elements.{Contains-append_cases, Contains-append_left, Contains-append_right}
use Rattle.std.proofs.lemmas.Slice.Eq.{bytes_eq-Decides, starts_is}
use Rattle.std.proofs.lemmas.Str.Parse.{digit_from_value}
use Rattle.std.specs.Fmt.{decimal}
use Rattle.std.specs.List.{after_first, before_first, list_any, position_or_len, starts_with}
use Rattle.std.specs.Str.{bytes_eq}
use Rattle.std.specs.Str.Parse.{AllDigits}
use Rattle.jm_names.specs.Names.{is_slash}
use Rattle.jm_form.proofs.ListLaws.{any_behind, drop_front}
use Rattle.jm_bytes.proofs.Choice.{chosen, mapped_some, same_some}
use Rattle.jm_bytes.proofs.Cuts.{first_parts}
use Rattle.jm_bytes.proofs.Finds.{find_found}
use Rattle.jm_bytes.proofs.Members.{contains_cases, contains_here, contains_none}
use Rattle.jm_archive.specs.Cuts.{Candidate, IsSmall, behind, cut_of, name_cut, plain, released_cut, version_cut, version_of}
use Rattle.jm_archive.specs.Files.{entry_name, is_folder, is_meta, is_versioned, versioned_name, versions, versions_of}
use Rattle.jm_archive.specs.declared.kinds.ArchiveKind.{ArchiveKind}
use Rattle.jm_archive.specs.declared.kinds.ArchiveKind.TheVariants.{Jmod, Jar, MultiRelease}
use Rattle.jm_archive.proofs.VersionLaws.{from_versions, version_is}

-- Fronts

begun : (name front : List ℕ) → starts_with nat_eq name front ≡ true → name ≡ front ++ drop (length front) name
begun name front begins = (starts_is Decides-eqb name front (starts_with nat_eq name front) refl).0 begins

begins_with : (name front rest : List ℕ) → name ≡ front ++ rest → starts_with nat_eq name front ≡ true
begins_with name front rest is = (starts_is Decides-eqb name front (starts_with nat_eq name front) refl).1 rest is

behind_some : (front name rest : List ℕ) → behind front name ≡ Some rest → name ≡ front ++ rest
behind_some front name rest is =
    elim (chosen (starts_with nat_eq name front) (Some (drop (length front) name)) None (Some rest) is) [
      | inl (begins, same) ↦ begun name front begins ∙ ap (λ r. front ++ r) (same_some (drop (length front) name) rest same)
      | inr (other, none) ↦ absurd (cc)
    ]

behind_none : (front name : List ℕ) → behind front name ≡ None → starts_with nat_eq name front ≡ false
behind_none front name is =
    elim (chosen (starts_with nat_eq name front) (Some (drop (length front) name)) None None is) [
      | inl (begins, same) ↦ absurd (cc)
      | inr (other, none) ↦ other
    ]

-- what stands below the versions stands below META-INF
versioned_meta : (path : List ℕ) → is_meta path ≡ false → is_versioned path ≡ false
versioned_meta path other = false_from_ne_true (is_versioned path) (λ yes. false≢true (sym other
    ∙ begins_with path (codes "META-INF/") (codes "versions/" ++ drop 18 path) (begun path (codes "META-INF/versions/") yes)))

-- A text in which the first byte that passes a test is known

module _ (p : ℕ → Bool) where
  position_at : (xs : List ℕ) (x : ℕ) (ys : List ℕ) → list_any p xs ≡ false → p x ≡ true → position_or_len p (xs ++ x ∷ ys) ≡ length xs
  position_at [] x ys none passes = rw passes refl
  position_at (y ∷ xs) x ys none passes = go (p y) refl none (λ rest. position_at xs x ys rest passes)
    where
      go : (b : Bool) → p y ≡ b → (b || list_any p xs) ≡ false → (list_any p xs ≡ false → position_or_len p (xs ++ x ∷ ys) ≡ length xs)
          → position_or_len p (y ∷ xs ++ x ∷ ys) ≡ suc (length xs)
      go true e none rest = absurd (cc)
      go false e none rest = rw e (omega (arith, rest none))

  before_at : (xs : List ℕ) (x : ℕ) (ys : List ℕ) → list_any p xs ≡ false → p x ≡ true → before_first p (xs ++ x ∷ ys) ≡ xs
  before_at xs x ys none passes =
      ap (λ n. take n (xs ++ x ∷ ys)) (position_at xs x ys none passes) ∙ take_at xs (x ∷ ys) (length xs) refl

  after_at : (xs : List ℕ) (x : ℕ) (ys : List ℕ) → list_any p xs ≡ false → p x ≡ true → after_first p (xs ++ x ∷ ys) ≡ ys
  after_at xs x ys none passes =
      ap (λ n. drop (n + 1) (xs ++ x ∷ ys)) (position_at xs x ys none passes) ∙ drop_front xs (x ∷ ys) 1

digits_no_slash : (digits : List ℕ) → AllDigits 10 digits → list_any is_slash digits ≡ false
digits_no_slash [] all = refl
digits_no_slash (c ∷ cs) all =
    let low = digit_from_value c all.0 in
    let other : is_slash c ≡ false = grind (arith, nat_tests) in
    rw other (digits_no_slash cs all.1)

-- What is cut

-- a candidate is a path, a version and a place of which the name is that of an entry that is no folder
pub record IsCut (kind : ArchiveKind) (at : ℕ) (name : List ℕ) (c : Candidate) : Type 0 where
  pub file : is_folder name ≡ false
  pub taken : Contains (versions_of kind c.path) c.version
  pub named : entry_name kind c.path c.version ≡ name
  pub place : c.place ≡ at

-- what a path has besides its versions is taken
plain_taken : (release : ℕ) (path : List ℕ) → is_versioned path ≡ false → Contains (versions_of (MultiRelease release) path) 0
plain_taken release path other = rw other (go (is_meta path))
  where
    go : (b : Bool) → Contains (cond b (0 ∷ []) (versions release ++ 0 ∷ [])) 0
    go true = contains_here 0 []
    go false = Contains-append_right (versions release) (0 ∷ []) 0 (contains_here 0 [])

version_named : (place release : ℕ) (name rest : List ℕ) (c : Candidate) → is_folder name ≡ false
    → name ≡ codes "META-INF/versions/" ++ rest → version_cut place release rest ≡ Some c → IsCut (MultiRelease release) place name c
version_named place release name rest c file is cut =
    elim (chosen (list_any is_slash rest && not (is_meta (after_first is_slash rest))) (option_map (λ version. record {
      path = after_first is_slash rest;
      version = version;
      place = place;
    }) (version_of release (before_first is_slash rest))) None
    (Some c) cut) [
      | inr (other, none) ↦ absurd (cc)
      | inl (tests, same) ↦
          let both = and_parts (list_any is_slash rest) (not (is_meta (after_first is_slash rest))) tests in
          let path = after_first is_slash rest in
          let meta : is_meta path ≡ false = not-true (is_meta path) both.1 in
          let made = mapped_some (λ version. record { path = path; version = version; place = place })
          (version_of release (before_first is_slash rest)) c same
          in
          let v = made.0 in
          let found = find_found (λ version. bytes_eq (decimal version) (before_first is_slash rest)) (versions release) v made.1 in
          let digits = (bytes_eq-Decides (decimal v) (before_first is_slash rest)).0 found.1 in
          let parts = first_parts is_slash rest 0 both.0 in
          let slash = eqb-true parts.0 47 parts.1 in
          let from = (from_versions release v found.0).0 in
          let some : (v == 0) ≡ false = grind (arith, nat_tests) in
          let whole : decimal v ++ 47 ∷ path ≡ rest = ap (λ ds. ds ++ 47 ∷ path) digits ∙ ap (λ x. before_first is_slash rest ++ x ∷ path)
          (sym slash) ∙ parts.2
          in
          subst (IsCut (MultiRelease release) place name) made.2 (record {
            file = file;
            taken = rw (versioned_meta path meta, meta) (Contains-append_left (versions release) (0 ∷ []) v found.0);
            named = rw some (ap (λ r. codes "META-INF/versions/" ++ r) whole ∙ sym is);
            place = refl;
          })
    ]

name_named : (kind : ArchiveKind) (place : ℕ) (name : List ℕ) (c : Candidate) → is_folder name ≡ false → name_cut kind place name ≡ Some c
    → IsCut kind place name c
name_named Jmod place name c file cut =
    let made = mapped_some (plain place) (behind (codes "classes/") name) c cut in
    subst (IsCut Jmod place name) made.2 (record {
      file = file;
      taken = contains_here 0 [];
      named = sym (behind_some (codes "classes/") name made.0 made.1);
      place = refl;
    })
name_named Jar place name c file cut =
    subst (IsCut Jar place name) (same_some (plain place name) c cut)
    (record { file = file; taken = contains_here 0 []; named = refl; place = refl })
name_named (MultiRelease release) place name c file cut = go (behind (codes "META-INF/versions/") name) refl cut
  where
    go : (o : Option (List ℕ)) → behind (codes "META-INF/versions/") name ≡ o → released_cut place release name o ≡ Some c
        → IsCut (MultiRelease release) place name c
    go None e cut =
        subst (IsCut (MultiRelease release) place name) (same_some (plain place name) c cut) (record {
          file = file;
          taken = plain_taken release name (behind_none (codes "META-INF/versions/") name e);
          named = refl;
          place = refl;
        })
    go (Some rest) e cut = version_named place release name rest c file (behind_some (codes "META-INF/versions/") name rest e) cut

pub cut_named : (kind : ArchiveKind) (place : ℕ) (name : List ℕ) (c : Candidate) → cut_of kind place name ≡ Some c → IsCut kind place name c
cut_named kind place name c cut =
    elim (chosen (is_folder name) None (name_cut kind place name) (Some c) cut) [
      | inl (folder, none) ↦ absurd (cc)
      | inr (file, same) ↦ name_named kind place name c file same
    ]

-- What is named is cut

only_zero : (version : ℕ) → Contains (0 ∷ []) version → version ≡ 0
only_zero version there =
    elim (contains_cases 0 [] version there) [
      | inl same ↦ sym same
      | inr later ↦ absurd (contains_none version later)
    ]

-- the candidate of a path, a version and a place
abbrev candidate : ℕ → List ℕ → ℕ → Candidate
candidate place path version = record { path = path; version = version; place = place }

plain_cut : (place release : ℕ) (path : List ℕ) (version : ℕ) (name : List ℕ) → is_versioned path ≡ false → version ≡ 0
    → versioned_name path version ≡ name → name_cut (MultiRelease release) place name ≡ Some (candidate place path version)
plain_cut place release path version name other first is =
    let own : path ≡ name = ap (versioned_name path) (sym first) ∙ is in
    let front : behind (codes "META-INF/versions/") path ≡ None = rw other refl in
    rw (← own, front, first) refl

digits_cut : (place release : ℕ) (path : List ℕ) (version : ℕ) (name : List ℕ) → release < 2 ^ 32 → is_meta path ≡ false
    → Contains (versions release) version → versioned_name path version ≡ name
    → name_cut (MultiRelease release) place name ≡ Some (candidate place path version)
digits_cut place release path version name small other there is =
    let within = from_versions release version there in
    let from = within.0 in
    let some : (version == 0) ≡ false = grind (arith, nat_tests) in
    let whole : codes "META-INF/versions/" ++ (decimal version ++ 47 ∷ path) ≡ name = rw some at is in
    let none = digits_no_slash (decimal version) (decimal_is_IsNumeral version (omega (arith, within.1))).0.1 in
    let found = version_is release version (decimal version) small refl within.0 within.1 in
    rw (
      ← whole,
      any_behind is_slash (decimal version) (47 ∷ path) refl,
      after_at is_slash (decimal version) 47 path none refl,
      before_at is_slash (decimal version) 47 path none refl,
      other,
      found,
    ) refl

named_name : (kind : ArchiveKind) (place : ℕ) (path : List ℕ) (version : ℕ) (name : List ℕ) → IsSmall kind
    → Contains (versions_of kind path) version → entry_name kind path version ≡ name
    → name_cut kind place name ≡ Some (candidate place path version)
named_name Jmod place path version name small there is =
    rw (← is, only_zero version there) refl
named_name Jar place path version name small there is = rw (← is, only_zero version there) refl
named_name (MultiRelease release) place path version name small there is = go (is_versioned path) refl (is_meta path) refl there
  where
    go : (b : Bool) → is_versioned path ≡ b → (m : Bool) → is_meta path ≡ m
        → Contains (cond b [] (cond m (0 ∷ []) (versions release ++ 0 ∷ []))) version
        → name_cut (MultiRelease release) place name ≡ Some (candidate place path version)
    go true e m f there = absurd (contains_none version there)
    go false e true f there = plain_cut place release path version name e (only_zero version there) is
    go false e false f there =
        elim (Contains-append_cases (versions release) (0 ∷ []) version there) [
          | inl among ↦ digits_cut place release path version name small f among is
          | inr last ↦ plain_cut place release path version name e (only_zero version last) is
        ]

pub named_cut : (kind : ArchiveKind) (place : ℕ) (path : List ℕ) (version : ℕ) (name : List ℕ) → IsSmall kind → is_folder name ≡ false
    → Contains (versions_of kind path) version → entry_name kind path version ≡ name
    → cut_of kind place name ≡ Some (record { path = path; version = version; place = place })
named_cut kind place path version name small file there is = rw file (named_name kind place path version name small there is)
