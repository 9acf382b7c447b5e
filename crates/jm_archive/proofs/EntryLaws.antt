-- What the entry of a file is: it is one of the directory, and its path is text where its name is.
use Rattle.std.proofs.Common.{◌≡◌, inl, inr, ℕ, zero, suc, ◌^◌, ◌<◌, ◌==◌, Bool, true, false, cond, List, [], ◌∷◌}
use Rattle.std.proofs.Common.{◌++◌, length, length-append, append_assoc, codes, slice_get, All, Contains, IsUtf8}
use Rattle.std.proofs.Common.{Option, Some, None, refl, sym, ◌∙◌, subst, arith}
use Rattle.std.proofs.lemmas.Fmt.{IsAscii-decimal}
use Rattle.std.proofs.lemmas.List.{drop_at, take_at}
use Rattle.std.proofs.lemmas.List.Elements.{All-contains, Contains-append_cases}
use Rattle.std.proofs.lemmas.Str.{IsCharBoundary-from_take, IsUtf8-append, IsUtf8-drop, IsUtf8-from_ascii}
use Rattle.std.specs.Fmt.{decimal}
use Rattle.std.specs.List.{position}
use Rattle.std.specs.Option.{option_or}
use Rattle.std.specs.Str.{bytes_eq}
use Rattle.jm_bytes.proofs.ByteOrderLaws.{ascii_all}
use Rattle.jm_bytes.proofs.Choice.{chosen}
use Rattle.jm_bytes.proofs.Members.{all_from_contains, contains_cases, contains_here, contains_later, contains_none}
use Rattle.jm_archive.specs.Cuts.{IsSmall}
use Rattle.jm_archive.specs.Files.{AreFiles, entry_name, file_at, file_named, first_place, is_folder, is_meta, is_versioned}
use Rattle.jm_archive.specs.Files.{versioned_name, versions, versions_of}
use Rattle.jm_archive.specs.declared.files.ArchiveFile.{ArchiveFile}
use Rattle.jm_archive.specs.declared.kinds.ArchiveKind.{ArchiveKind}
use Rattle.jm_archive.specs.declared.kinds.ArchiveKind.TheVariants.{Jmod, Jar, MultiRelease}
use Rattle.jm_archive.proofs.FileLaws.{position_found, within_names}
use Rattle.jm_archive.proofs.VersionLaws.{from_versions}

-- one of the versions gives the place
one_gives : (place : ℕ → Option ℕ) (vs : List ℕ) (at : ℕ) → first_place place vs ≡ Some at → (v : ℕ) × Contains vs v × (place v ≡ Some at)
one_gives place [] at is = cc
one_gives place (v ∷ vs) at is = go (place v) refl is (one_gives place vs at)
  where
    go : (o : Option ℕ) → place v ≡ o → option_or o (first_place place vs) ≡ Some at
        → (first_place place vs ≡ Some at → (w : ℕ) × Contains vs w × (place w ≡ Some at))
        → (w : ℕ) × Contains (v ∷ vs) w × (place w ≡ Some at)
    go (Some one) e is rest = (v, contains_here v vs, e ∙ is)
    go None e is rest = let from = rest is in (from.0, contains_later v vs from.0 from.1, from.2)

-- the entry of a file: its name is that of one of the versions of its path, and no folder's
pub record HasEntry (kind : ArchiveKind) (names : List (List ℕ)) (path : List ℕ) (place : ℕ) : Type 0 where
  pub version : ℕ
  pub taken : Contains (versions_of kind path) version
  pub file : is_folder (entry_name kind path version) ≡ false
  pub there : slice_get names place ≡ Some (entry_name kind path version)

pub entry_of : (kind : ArchiveKind) (names : List (List ℕ)) (path : List ℕ) (place : ℕ) → file_at kind names path ≡ Some place
    → HasEntry kind names path place
entry_of kind names path place is =
    let one = one_gives (λ version. file_named names (entry_name kind path version)) (versions_of kind path) place is in
    let name = entry_name kind path one.0 in
    elim (chosen (is_folder name) None (position (bytes_eq name) names) (Some place) one.2) [
      | inl (folder, none) ↦ absurd (cc)
      | inr (own, same) ↦ record { version = one.0; taken = one.1; file = own; there = position_found names name place same }
    ]

-- the place of a file is one in the directory
pub files_within : (kind : ArchiveKind) (names : List (List ℕ)) (files : List ArchiveFile) → AreFiles kind names files
    → All (λ (file : ArchiveFile). file.place < length names) files
files_within kind names files are = all_from_contains (λ (file : ArchiveFile). file.place < length names) files (λ file there.
    let entry = entry_of kind names file.path file.place ((are.exact file).0 there) in
    within_names names (entry_name kind file.path entry.version) file.place entry.there)

-- Texts

-- what follows a front that is text in a text is text
rest_is_text : (front rest : List ℕ) → IsUtf8 front → IsUtf8 (front ++ rest) → IsUtf8 rest
rest_is_text front rest first whole =
    let cut = IsCharBoundary-from_take (front ++ rest) (length front) whole (omega (arith, length-append front rest))
    (rw (take_at front rest (length front) refl) first)
    in
    rw (drop_at front rest (length front) refl) at (IsUtf8-drop (front ++ rest) (length front) whole cut)

classes : IsUtf8 (codes "classes/")
classes = IsUtf8-from_ascii (codes "classes/") (ascii_all (codes "classes/") refl)

below_versions : IsUtf8 (codes "META-INF/versions/")
below_versions = IsUtf8-from_ascii (codes "META-INF/versions/") (ascii_all (codes "META-INF/versions/") refl)

version_folder : (version : ℕ) → version < 2 ^ 64 → IsUtf8 (decimal version ++ 47 ∷ [])
version_folder version small =
    IsUtf8-append (decimal version) (47 ∷ []) (IsUtf8-from_ascii (decimal version) (IsAscii-decimal version small))
    (IsUtf8-from_ascii (47 ∷ []) (ascii_all (47 ∷ []) refl))

versioned_text : (path : List ℕ) (version : ℕ) → version < 2 ^ 64 → IsUtf8 (versioned_name path version) → IsUtf8 path
versioned_text path version small text = go (version == 0) text
  where
    go : (b : Bool) → IsUtf8 (cond b path (codes "META-INF/versions/" ++ (decimal version ++ 47 ∷ path))) → IsUtf8 path
    go true text = text
    go false text =
        let below = rest_is_text (codes "META-INF/versions/") (decimal version ++ 47 ∷ path) below_versions text in
        rest_is_text (decimal version ++ 47 ∷ []) path (version_folder version small)
        (subst IsUtf8 (sym (append_assoc (decimal version) (47 ∷ []) path)) below)

-- a version that is taken is a number of 32 bits
taken_small : (release : ℕ) (path : List ℕ) (version : ℕ) → release < 2 ^ 32 → Contains (versions_of (MultiRelease release) path) version
    → version < 2 ^ 64
taken_small release path version small there = go (is_versioned path) (is_meta path) there
  where
    none_other : Contains (0 ∷ []) version → version < 2 ^ 64
    none_other there = elim (contains_cases 0 [] version there) [
      | inl same ↦ omega arith
      | inr later ↦ absurd (contains_none version later)
    ]

    go : (b m : Bool) → Contains (cond b [] (cond m (0 ∷ []) (versions release ++ 0 ∷ []))) version → version < 2 ^ 64
    go true m there = absurd (contains_none version there)
    go false true there = none_other there
    go false false there = elim (Contains-append_cases (versions release) (0 ∷ []) version there) [
      | inl among ↦ omega (arith, (from_versions release version among).1)
      | inr last ↦ none_other last
    ]

path_text : (kind : ArchiveKind) (path : List ℕ) (version : ℕ) → IsSmall kind → Contains (versions_of kind path) version
    → IsUtf8 (entry_name kind path version) → IsUtf8 path
path_text Jmod path version small there text = rest_is_text (codes "classes/") path classes text
path_text Jar path version small there text = text
path_text (MultiRelease release) path version small there text =
    versioned_text path version (taken_small release path version small there) text

contained : (names : List (List ℕ)) (place : ℕ) (name : List ℕ) → slice_get names place ≡ Some name → Contains names name
contained [] place name is = cc
contained (first ∷ names) zero name is = (0, omega arith, cc)
contained (first ∷ names) (suc place) name is = contains_later first names name (contained names place name is)

-- where the names are text, the paths are
pub files_texts : (kind : ArchiveKind) (names : List (List ℕ)) (files : List ArchiveFile) → IsSmall kind → All IsUtf8 names
    → AreFiles kind names files → All (λ (file : ArchiveFile). IsUtf8 file.path) files
files_texts kind names files small texts are = all_from_contains (λ (file : ArchiveFile). IsUtf8 file.path) files (λ file there.
    let entry = entry_of kind names file.path file.place ((are.exact file).0 there) in
    let name = entry_name kind file.path entry.version in
    path_text kind file.path entry.version small entry.taken
    (All-contains IsUtf8 names name texts (contained names file.place name entry.there)))
