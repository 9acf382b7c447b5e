-- The computed files of an archive are those of the rule, and no others.
use Rattle.std.proofs.Common.{◌≡◌, ℕ, List, map, AllPairs, Contains, Some, true, refl, ap, ◌∙◌, subst}
use Rattle.std.specs.Ordering.{is_lt}
use Rattle.jm_bytes.proofs.Choice.{mapped_some}
use Rattle.jm_bytes.proofs.Members.{contains_filter_map, contains_map, from_filter_map}
use Rattle.jm_bytes.proofs.Pairs.{pairs_filter_map}
use Rattle.jm_bytes.specs.ByteOrder.{is_before}
use Rattle.jm_form.proofs.RisingLaws as risen
use Rattle.jm_archive.specs.ComputedFiles.{file_of_path, files_of, paths_of}
use Rattle.jm_archive.specs.Cuts.{Candidate, IsSmall, candidates}
use Rattle.jm_archive.specs.Files.{AreFiles, file_at, versions_of}
use Rattle.jm_archive.specs.declared.files.ArchiveFile.{ArchiveFile}
use Rattle.jm_archive.specs.declared.kinds.ArchiveKind.{ArchiveKind}
use Rattle.jm_archive.proofs.FileLaws.{Differ, at_version, first_found, one_answer, taken_candidate, versions_of_fall}

-- a file that comes of a path has it
same_path : (kind : ArchiveKind) (names : List (List ℕ)) (path : List ℕ) (file : ArchiveFile) → file_of_path kind names path ≡ Some file
    → (path ≡ file.path) × (file_at kind names path ≡ Some file.place)
same_path kind names path file gives =
    let made = mapped_some (λ place. record { path = path; place = place }) (file_at kind names path) file gives in (
      ap (λ (f : ArchiveFile). f.path) made.2,
      made.1 ∙ ap (λ (f : ArchiveFile). Some f.place) made.2,
    )

-- each path at which there is a file is that of a candidate
path_there : (kind : ArchiveKind) (names : List (List ℕ)) (path : List ℕ) (place : ℕ) → IsSmall kind → AllPairs Differ names
    → file_at kind names path ≡ Some place → Contains (paths_of kind names) path
path_there kind names path place small differ gives =
    let found = first_found (at_version kind names small differ path) (versions_of kind path) place (versions_of_fall kind path) gives in
    let there = taken_candidate kind names small differ path found.0 place found.1 found.2 in
    risen.contains_rising (map (λ (c : Candidate). c.path) (candidates kind names)) path
    (contains_map (λ (c : Candidate). c.path) (candidates kind names) _ there)

pub computed_are : (kind : ArchiveKind) (names : List (List ℕ)) → IsSmall kind → AllPairs Differ names
    → AreFiles kind names (files_of kind names)
computed_are kind names small differ = record {
  rising = pairs_filter_map risen.Before (λ (file later : ArchiveFile). is_before file.path later.path ≡ true) (file_of_path kind names)
      (λ path later before file other gives also.
      let own = (same_path kind names path file gives).0 in
      let its = (same_path kind names later other also).0 in
      subst (λ p. is_before p other.path ≡ true) own (subst (λ p. is_before path p ≡ true) its (ap is_lt before))) (paths_of kind names)
      (risen.rising_rises (map (λ (c : Candidate). c.path) (candidates kind names)));
  exact = λ file. (
    λ there.
        let from = from_filter_map (file_of_path kind names) (paths_of kind names) file there in
        let same = same_path kind names from.0 file from.2 in
        subst (λ p. file_at kind names p ≡ Some file.place) same.0 same.1,
    λ gives. contains_filter_map (file_of_path kind names) (paths_of kind names) file.path file
        (path_there kind names file.path file.place small differ gives) (rw gives refl),
  );
}

pub are_computed : (kind : ArchiveKind) (names : List (List ℕ)) (files : List ArchiveFile) → IsSmall kind → AllPairs Differ names
    → AreFiles kind names files → files ≡ files_of kind names
are_computed kind names files small differ are = one_answer kind names files (files_of kind names) are (computed_are kind names small differ)
