-- Where the manifest of a JAR is (JAR File Specification of Java SE, "The META-INF directory"; in any
-- case of letters, and the last of several, as OpenJDK's `ZipFile` has it), and when it is asked
-- for.
use Rattle.std.specs.Prelude.{ℕ, ◌+◌, nat_lt, Bool, ◌&&◌, if◌then◌else◌, List, [], ◌∷◌, length}
use Rattle.std.specs.Prelude.{codes, Option, Some, None}
use Rattle.std.specs.List.{list_any}
use Rattle.std.specs.Option.{option_or}
use Rattle.std.specs.Str.{bytes_eq}
use Rattle.jm_archive.specs.Files.{is_versioned}
use Rattle.jm_archive.specs.Manifest.{lowered}

-- a name stands below META-INF/versions/, a folder's too, but for that folder itself
abbrev pub is_of_versions : List ℕ → Bool
is_of_versions name = is_versioned name && nat_lt 18 (length name)

-- a name is `META-INF/MANIFEST.MF`, in any case of letters
abbrev pub is_manifest : List ℕ → Bool
is_manifest name = bytes_eq (lowered name) (codes "meta-inf/manifest.mf")

-- the place of the last name that passes, where the first stands at a place
abbrev pub last_place : (List ℕ → Bool) → ℕ → List (List ℕ) → Option ℕ
last_place test place [] = None
last_place test place (name ∷ names) =
    option_or (last_place test (place + 1) names) (if test name then Some place else None)

-- the place of the manifest, where an entry stands below META-INF/versions/
abbrev pub manifest_place : List (List ℕ) → Option ℕ
manifest_place names =
    if list_any is_of_versions names then last_place is_manifest 0 names else None
