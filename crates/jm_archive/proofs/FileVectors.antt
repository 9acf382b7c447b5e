-- The files of small archives, and the places of their manifests.
use Rattle.std.proofs.Common.{◌≡◌, ℕ, List, [], ◌∷◌, map, codes, Some, None, refl}
use Rattle.std.specs.Fmt.{digits}
use Rattle.jm_archive.specs.ComputedFiles.{files_of}
use Rattle.jm_archive.specs.Places.{manifest_place}
use Rattle.jm_archive.specs.declared.files.ArchiveFile.{ArchiveFile}
use Rattle.jm_archive.specs.declared.kinds.ArchiveKind.TheVariants.{Jmod, Jar, MultiRelease}

abbrev file : List ℕ → ℕ → ArchiveFile
file path place = record { path = path; place = place }

-- A jmod: what stands below `classes/`

jmod : files_of Jmod (
    codes "classes/"
    ∷ codes "classes/p/A.class"
    ∷ codes "bin/tool"
    ∷ codes "classes/p/"
    ∷ codes "classes/module-info.class"
    ∷ codes "module-info.class"
    ∷ []
    )
    ≡ file (codes "module-info.class") 4 ∷ file (codes "p/A.class") 1 ∷ []
jmod = refl

-- A JAR with entries of versions

abbrev names : List (List ℕ)
names =
    codes "META-INF/MANIFEST.MF"
    ∷ codes "META-INF/versions/"
    ∷ codes "META-INF/versions/9/a"
    ∷ codes "a"
    ∷ codes "b/"
    ∷ codes "b/c"
    ∷ codes "META-INF/versions/11/a"
    ∷ codes "META-INF/versions/10/d"
    ∷ codes "META-INF/versions/09/b/c"
    ∷ codes "META-INF/versions/9/META-INF/x"
    ∷ codes "META-INF/versions/12/b/c"
    ∷ codes "META-INF/versions/8/e"
    ∷ codes "META-INF/versions/x"
    ∷ codes "META-INF/versions/9/f/"
    ∷ []

-- read for 11, version 11 of `a` counts, version 12 of `b/c` doesn't, and `d` has a version alone
for_11 : files_of (MultiRelease 11) names
    ≡ file (codes "META-INF/MANIFEST.MF") 0 ∷ file (codes "a") 6 ∷ file (codes "b/c") 5 ∷ file (codes "d") 7 ∷ []
unfolding digits
for_11 = refl

for_9 : files_of (MultiRelease 9) names ≡ file (codes "META-INF/MANIFEST.MF") 0 ∷ file (codes "a") 2 ∷ file (codes "b/c") 5 ∷ []
unfolding digits
for_9 = refl

-- where it isn't multi-release each entry is a file, but for folders
not_multi_release : map (λ (f : ArchiveFile). f.place) (files_of Jar names)
    ≡ 0 ∷ 8 ∷ 7 ∷ 6 ∷ 10 ∷ 11 ∷ 9 ∷ 2 ∷ 12 ∷ 3 ∷ 5 ∷ []
not_multi_release = refl

-- The manifest

last_manifest : manifest_place (
    codes "META-INF/manifest.mf" ∷ codes "meta-inf/MANIFEST.MF" ∷ codes "MANIFEST.MF" ∷ codes "META-INF/versions/9/" ∷ []
    )
    ≡ Some 1
last_manifest = refl

not_asked_for : manifest_place (codes "META-INF/MANIFEST.MF" ∷ codes "META-INF/versions/" ∷ []) ≡ None
not_asked_for = refl
