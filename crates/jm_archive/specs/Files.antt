-- Which files an archive has, by the names of its entries: a jmod (JEP 220, JEP 261), a JAR, and a
-- multi-release JAR as it is read for a release (JAR File Specification of Java SE, "Multi-release
-- JAR Files"; JEP 238).
use Rattle.std.specs.Prelude.{ℕ, zero, suc, ◌≡◌, ◌↔◌, nat_eq, nat_le, ◌==◌, Bool, if◌then◌else◌}
use Rattle.std.specs.Prelude.{List, [], ◌∷◌, ◌++◌, codes, AllPairs, Contains, IsTrue}
use Rattle.std.specs.Prelude.{Option, Some, None}
use Rattle.std.specs.Fmt.{decimal}
use Rattle.std.specs.List.{ends_with, position, starts_with}
use Rattle.std.specs.Option.{option_or}
use Rattle.std.specs.Str.{bytes_eq}
use Rattle.jm_bytes.specs.ByteOrder.{is_before}
use Rattle.jm_archive.specs.declared.files.ArchiveFile.{ArchiveFile}
use Rattle.jm_archive.specs.declared.kinds.ArchiveKind.{ArchiveKind}
use Rattle.jm_archive.specs.declared.kinds.ArchiveKind.TheVariants.{Jmod, Jar, MultiRelease}

-- the name of a folder ends in a slash
abbrev pub is_folder : List ℕ → Bool
is_folder name = ends_with nat_eq name (47 ∷ [])

-- the place of a name among those of the entries, where it is there and no folder's
abbrev pub file_named : List (List ℕ) → List ℕ → Option ℕ
file_named names name = if is_folder name then None else position (bytes_eq name) names

-- a path stands below `META-INF/`
abbrev pub is_meta : List ℕ → Bool
is_meta path = starts_with nat_eq path (codes "META-INF/")

-- a path stands below `META-INF/versions/`
abbrev pub is_versioned : List ℕ → Bool
is_versioned path = starts_with nat_eq path (codes "META-INF/versions/")

-- the versions for a release, the greatest first: from the release down to 9
abbrev pub versions : ℕ → List ℕ
versions zero = []
versions (suc n) = if nat_le 9 (suc n) then suc n ∷ versions n else []

-- the versions by which a path is looked for, the greatest first; 0 stands for the path without a
-- version. In a multi-release JAR nothing below `META-INF/versions/` is a file of its own, and what
-- else is below `META-INF/` has no versions
abbrev pub versions_of : ArchiveKind → List ℕ → List ℕ
versions_of Jmod path = 0 ∷ []
versions_of Jar path = 0 ∷ []
versions_of (MultiRelease release) path =
    if is_versioned path then []
    else if is_meta path then 0 ∷ []
    else versions release ++ 0 ∷ []

-- the name of the entry of a version of a path: the path itself, or in the folder of the version,
-- whose name is decimal without a leading zero
abbrev pub versioned_name : List ℕ → ℕ → List ℕ
versioned_name path version =
    if version == 0 then path
    else codes "META-INF/versions/" ++ (decimal version ++ 47 ∷ path)

-- the name of the entry of a version of a path, which for a jmod is below `classes/`
abbrev pub entry_name : ArchiveKind → List ℕ → ℕ → List ℕ
entry_name Jmod path version = codes "classes/" ++ path
entry_name Jar path version = path
entry_name (MultiRelease release) path version = versioned_name path version

-- the first place that one of the versions gives
abbrev pub first_place : (ℕ → Option ℕ) → List ℕ → Option ℕ
first_place place [] = None
first_place place (version ∷ later) = option_or (place version) (first_place place later)

-- the place of the entry that an archive has for a path, where it has a file there
abbrev pub file_at : ArchiveKind → List (List ℕ) → List ℕ → Option ℕ
file_at kind names path =
    first_place (λ version. file_named names (entry_name kind path version)) (versions_of kind path)

-- the rule: the files rise by path, and a path and a place are a file exactly where the archive has
-- that path, with the entry at that place
pub record AreFiles (kind : ArchiveKind) (names : List (List ℕ)) (files : List ArchiveFile)
    : Type 0 where
  pub rising : AllPairs (λ file later. IsTrue (is_before file.path later.path)) files
  pub exact : (file : ArchiveFile) → Contains files file ↔ (file_at kind names file.path
      ≡ Some file.place)
