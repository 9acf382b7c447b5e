-- Where the files of a module path lie, and how many bytes its descriptors have (this project's
-- rule).
use Rattle.std.specs.Prelude.{ℕ, ◌≡◌, List, length, Contains}
use Rattle.std.specs.List.{sum_by}
use Rattle.jm_outside.specs.Files.{Files}
use Rattle.jm_modpath.specs.Modules.{bytes_at, folders_in, info_path, inside}

-- Paths

-- a path lies in a directory, to any depth
abbrev pub IsInside : List ℕ → List ℕ → Type 0
IsInside directory path = (name : List ℕ) × (path ≡ inside directory name)

-- a path lies in one of some directories, to any depth
abbrev pub IsBelow : List (List ℕ) → List ℕ → Type 0
IsBelow directories path =
    (directory : List ℕ) × Contains directories directory × IsInside directory path

-- Lengths

-- how many bytes the `module-info.class` of a folder of a directory has
abbrev pub info_size : Files → List ℕ → List ℕ → ℕ
info_size files directory folder =
    length (bytes_at files (info_path (inside directory folder)))

-- how many bytes those of all folders of a directory have together
abbrev pub infos_size : Files → List ℕ → ℕ
infos_size files directory = sum_by (info_size files directory) (folders_in files directory)

-- how many bytes those of all folders of some directories have together
abbrev pub all_infos_size : Files → List (List ℕ) → ℕ
all_infos_size files directories = sum_by (infos_size files) directories
