-- What the name of an entry is cut to: the path and the version of which it is the name. It is the
-- computed form of `entry_name`, the other way round.
use Rattle.std.specs.Prelude.{ℕ, ◌≡◌, ◌<◌, ◌≤◌, ◌^◌, nat_eq, nat_le, not, Bool, ◌&&◌}
use Rattle.std.specs.Prelude.{if◌then◌else◌, List, [], length, drop, AllPairs, Contains, IsTrue}
use Rattle.std.specs.Prelude.{codes, Option, Some, None, option_map, slice_get, slice_index}
use Rattle.std.specs.Fmt.{decimal}
use Rattle.std.specs.List.{after_first, before_first, filter_map, find, list_any, range_with_len}
use Rattle.std.specs.List.{starts_with}
use Rattle.std.specs.Option.{option_and_then}
use Rattle.std.specs.Str.{bytes_eq}
use Rattle.jm_bytes.specs.ByteOrder.{is_before}
use Rattle.jm_names.specs.ByName.{Named}
use Rattle.jm_names.specs.Names.{is_slash}
use Rattle.jm_archive.specs.Files.{is_folder, is_meta, versions}
use Rattle.jm_archive.specs.declared.cuts.Cut.{Cut}
use Rattle.jm_archive.specs.declared.files.ArchiveFile.{ArchiveFile}
use Rattle.jm_archive.specs.declared.kinds.ArchiveKind.{ArchiveKind}
use Rattle.jm_archive.specs.declared.kinds.ArchiveKind.TheVariants.{Jmod, Jar, MultiRelease}

-- a path, a version of it, and the place of the entry that it has
pub record Candidate : Type 0 where
  pub path : List ℕ
  pub version : ℕ
  pub place : ℕ

-- what stands behind a front
abbrev pub behind : List ℕ → List ℕ → Option (List ℕ)
behind front name = if starts_with nat_eq name front then Some (drop (length front) name) else None

-- a digit but zero stands first
abbrev pub leads : List ℕ → Bool
leads digits = nat_le 49 (slice_index digits 0) && nat_le (slice_index digits 0) 57

-- the version whose digits these are, of those for a release
abbrev pub version_of : ℕ → List ℕ → Option ℕ
version_of release digits = find (λ version. bytes_eq (decimal version) digits) (versions release)

-- what a name is cut to by what stands below `META-INF/versions/` in it
abbrev pub version_cut : ℕ → ℕ → List ℕ → Option Candidate
version_cut place release rest =
    if list_any is_slash rest && not (is_meta (after_first is_slash rest))
    then option_map
    (λ version. record { path = after_first is_slash rest; version = version; place = place })
    (version_of release (before_first is_slash rest))
    else None

-- what the name of a path without a version is cut to
abbrev pub plain : ℕ → List ℕ → Candidate
plain place path = record { path = path; version = 0; place = place }

-- what a name in a multi-release JAR is cut to, by what stands behind `META-INF/versions/` if it
-- begins so
abbrev pub released_cut : ℕ → ℕ → List ℕ → Option (List ℕ) → Option Candidate
released_cut place release name None = Some (plain place name)
released_cut place release name (Some rest) = version_cut place release rest

-- what the name of the entry at a place is cut to, where it is no folder's
abbrev pub name_cut : ArchiveKind → ℕ → List ℕ → Option Candidate
name_cut Jmod place name = option_map (plain place) (behind (codes "classes/") name)
name_cut Jar place name = Some (plain place name)
name_cut (MultiRelease release) place name =
    released_cut place release name (behind (codes "META-INF/versions/") name)

-- what any name of an entry at a place is cut to; that of a folder to nothing
abbrev pub cut_of : ArchiveKind → ℕ → List ℕ → Option Candidate
cut_of kind place name = if is_folder name then None else name_cut kind place name

-- what all names are cut to, in the directory's order
abbrev pub candidates : ArchiveKind → List (List ℕ) → List Candidate
candidates kind names =
    filter_map (λ place. option_and_then (cut_of kind place) (slice_get names place))
    (range_with_len 0 (length names))

-- the release for which an archive is read
abbrev pub release_of : ArchiveKind → Option ℕ
release_of Jmod = None
release_of Jar = None
release_of (MultiRelease release) = Some release

-- the release is a number of 32 bits
abbrev pub IsSmall : ArchiveKind → Type 0
IsSmall Jmod = Unit {0}
IsSmall Jar = Unit {0}
IsSmall (MultiRelease release) = release < 2 ^ 32

-- a cut of the code, as plain data
abbrev pub candidate_of : Cut → Candidate
candidate_of cut = record { path = cut.path.now; version = cut.version; place = cut.place }

-- a cut by its path, as an item with a name
abbrev pub named_of : Cut → Named
named_of cut = (cut.path.now, [])

-- the file of a cut
abbrev pub file_of : Cut → ArchiveFile
file_of cut = record { path = cut.path.now; place = cut.place }

-- one candidate stands before another by its path
abbrev pub Before : Candidate → Candidate → Type 0
Before one other = IsTrue (is_before one.path other.path)

-- a candidate is among some, or another one of its path and of no smaller version
abbrev pub Covers : List Candidate → Candidate → Type 0
Covers best one =
    (other : Candidate) × Contains best other × (other.path ≡ one.path)
    × (one.version ≤ other.version)

-- of all candidates, for each path one of the greatest version, rising by path
pub record AreBest (all best : List Candidate) : Type 0 where
  pub rising : AllPairs Before best
  pub from : (one : Candidate) → Contains best one → Contains all one
  pub covers : (one : Candidate) → Contains all one → Covers best one
