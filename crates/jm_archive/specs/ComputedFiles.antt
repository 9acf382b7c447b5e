-- The files of an archive as a value: the computed form of `AreFiles`.
use Rattle.std.specs.Prelude.{List, map, Option, option_map, ℕ}
use Rattle.std.specs.List.{filter_map}
use Rattle.jm_form.specs.Rising.{rising}
use Rattle.jm_archive.specs.Cuts.{Candidate, candidates}
use Rattle.jm_archive.specs.Files.{file_at}
use Rattle.jm_archive.specs.declared.files.ArchiveFile.{ArchiveFile}
use Rattle.jm_archive.specs.declared.kinds.ArchiveKind.{ArchiveKind}

-- the paths that entries may be of, each once, rising
abbrev pub paths_of : ArchiveKind → List (List ℕ) → List (List ℕ)
paths_of kind names = rising (map (λ (c : Candidate). c.path) (candidates kind names))

-- the file at a path, where the archive has one
abbrev pub file_of_path : ArchiveKind → List (List ℕ) → List ℕ → Option ArchiveFile
file_of_path kind names path =
    option_map (λ place. record { path = path; place = place }) (file_at kind names path)

-- the files, rising by path
abbrev pub files_of : ArchiveKind → List (List ℕ) → List ArchiveFile
files_of kind names = filter_map (file_of_path kind names) (paths_of kind names)
