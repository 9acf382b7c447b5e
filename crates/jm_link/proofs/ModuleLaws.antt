-- The modules that a link finds, and the files of those that are linked, from what the steps answered.
use Rattle.std.proofs.Common.{◌≡◌, ◌++◌, inr, ℕ, suc, Bool, List, [], ◌∷◌, length, map, Option, Some, None}
use Rattle.std.proofs.Common.{Ok, Err, refl, sym, ap, ◌∙◌}
use Rattle.std.specs.List.{zip}
use Rattle.jm_bytes.specs.Results.{IfAnswered}
use Rattle.jm_bytes.specs.declared.faults.Or.{Or}
use Rattle.jm_bytes.specs.declared.faults.Or.TheVariants as or
use Rattle.jm_bytes.proofs.SameOrder.{mapped_twice}
use Rattle.jm_closure.specs.declared.candidate.Candidate.{Candidate}
use Rattle.jm_closure.specs.Modules as closure
use Rattle.jm_modpath.specs.declared.visible.VisibleModule.{VisibleModule}
use Rattle.jm_modpath.specs.Modules.{candidates, visible}
use Rattle.jm_modset.specs.declared.set.ModuleFiles.{ModuleFiles}
use Rattle.jm_modset.specs.declared.set.ModuleFiles.TheVariants as of
use Rattle.jm_modset.specs.declared.set.ModuleSet.{ModuleSet}
use Rattle.jm_modset.specs.Files.{AreFilesOf}
use Rattle.jm_modset.specs.Found.{ImageShows, found_of, roots_among}
use Rattle.jm_modset.specs.Found.{unhidden_by}
use Rattle.jm_modset.specs.Set.{image_in, set_in, shown_by}
use Rattle.jm_modset.specs.Shown.{Shown, candidates_of, gathered, name_of, of_entries, of_folder}
use Rattle.jm_outside.specs.Files.{Files}
use Rattle.jm_outside.specs.Outcome.{Shows}
use Rattle.jm_relink.specs.declared.modules.ImageFile.{ImageFile}
use Rattle.jm_relink.specs.declared.modules.ImageModules.{ImageModules}
use Rattle.jm_relink.specs.Files.{files_in}
use Rattle.jm_relink.specs.Modules.{HoldsModules, SeenModule}
use Rattle.jm_texts.specs.declared.refusal.Refusal.{Refusal}
use Rattle.jm_link.specs.declared.finding.FoundModules.{FoundModules}
use Rattle.jm_link.specs.declared.linking.LinkStop.{LinkStop}
use Rattle.jm_link.specs.declared.linking.LinkStop.TheVariants as stop
use Rattle.jm_link.specs.Closing.{ClosesAmong}
use Rattle.jm_link.specs.Linked.{Request}
use Rattle.jm_link.specs.ModuleSteps.{FindsSet, HasImage, LinksSet, PathGives, bytes_of, named_of, sources}
use Rattle.jm_link.specs.Steps.{stop_of_fault}

-- Files

-- a name of the files is refused, or there was no memory
pub names_refused : (set : ModuleSet) (roots : List (List ℕ)) (bind : Bool) (files : Files) (b : List ℕ) (places : List ℕ)
    → ClosesAmong set.candidates roots bind (Ok places) → (given : Or Refusal)
    → IfAnswered (AreFilesOf (gathered (set_in files b set) places) files b) (Err given)
    → LinksSet set roots bind files b (Err (stop_of_fault (λ refusal. refusal) given))
names_refused set roots bind files b places closes (or.Fault refusal) bad = inr (places, closes, bad)
names_refused set roots bind files b places closes or.Memory bad = tt

-- Modules

suc_same : (n m : ℕ) → suc n ≡ suc m → n ≡ m
suc_same n m same = cc

-- the modules of a set say what stands beside their files
pub set_candidates : (files : Files) (b : List ℕ) (set : ModuleSet) → length set.candidates ≡ length set.files
    → candidates_of (set_in files b set) ≡ set.candidates
set_candidates files b set long = go set.candidates set.files long
  where
    said : (c : Candidate) (m : ModuleFiles) → (shown_by files b c m).candidate ≡ c
    said c (of.Folder folder) = refl
    said c (of.Image entries) = refl

    go : (cs : List Candidate) (ms : List ModuleFiles) → length cs ≡ length ms
        → candidates_of (map (λ m. shown_by files b m.0 m.1) (zip cs ms)) ≡ cs
    go [] ms long = refl
    go (c ∷ cs) [] long = cc
    go (c ∷ cs) (m ∷ ms) long =
        ap (λ d. d ∷ candidates_of (map (λ m. shown_by files b m.0 m.1) (zip cs ms))) (said c m) ∙ ap (λ ds. c ∷ ds) (go cs ms (suc_same (length cs) (length ms) long))

-- lists with the same first element and the same others
head_same : {X : Type 0} (x y : X) (xs ys : List X) → x ∷ xs ≡ y ∷ ys → x ≡ y
head_same x y xs ys same = cc

tail_same : {X : Type 0} (x y : X) (xs ys : List X) → x ∷ xs ≡ y ∷ ys → xs ≡ ys
tail_same x y xs ys same = cc

-- the modules of an image as they were seen
pub seen_in : (b : List ℕ) (modules : ImageModules) (seen : List SeenModule) → HoldsModules b modules seen
    → image_in b modules ≡ map of_entries seen
seen_in b modules seen holds = go modules.candidates modules.files seen holds.candidates holds.files
  where
    go : (cs : List Candidate) (fs : List (List ImageFile)) (seen : List SeenModule) → cs ≡ map (λ s. s.candidate) seen
        → map (files_in b) fs ≡ map (λ s. s.files) seen
        → map (λ m. of_entries (record { candidate = m.0; files = files_in b m.1 })) (zip cs fs) ≡ map of_entries seen
    go [] fs [] same files = refl
    go [] fs (s ∷ seen) same files = cc
    go (c ∷ cs) fs [] same files = cc
    go (c ∷ cs) [] (s ∷ seen) same files = cc
    go (c ∷ cs) (f ∷ fs) (s ∷ seen) same files =
        let one : c ≡ s.candidate = head_same c s.candidate cs (map (λ s. s.candidate) seen) same in
        let own : files_in b f ≡ s.files = head_same (files_in b f) s.files (map (files_in b) fs) (map (λ s. s.files) seen) files in
        ap (λ m. m ∷ map (λ m. of_entries (record { candidate = m.0; files = files_in b m.1 })) (zip cs fs))
        (λ i. of_entries (record { candidate = one i; files = own i }))
        ∙ ap (λ ms. of_entries s ∷ ms) (go cs fs seen (tail_same c s.candidate cs (map (λ s. s.candidate) seen) same)
        (tail_same (files_in b f) s.files (map (files_in b) fs) (map (λ s. s.files) seen) files))

-- and what they say
image_candidates : (b : List ℕ) (modules : ImageModules) → length modules.candidates ≡ length modules.files
    → candidates_of (image_in b modules) ≡ modules.candidates
image_candidates b modules long = go modules.candidates modules.files long
  where
    go : (cs : List Candidate) (fs : List (List ImageFile)) → length cs ≡ length fs
        → candidates_of (map (λ m. of_entries (record { candidate = m.0; files = files_in b m.1 })) (zip cs fs)) ≡ cs
    go [] fs long = refl
    go (c ∷ cs) [] long = cc
    go (c ∷ cs) (f ∷ fs) long = ap (λ ds. c ∷ ds) (go cs fs (suc_same (length cs) (length fs) long))

-- the modules of a module path as they are found
path_candidates : (files : Files) (path : List VisibleModule) → candidates_of (map (of_folder files) path) ≡ candidates path
path_candidates files path = mapped_twice (λ (m : Shown). m.candidate) (of_folder files) path

names_are : (found : List Shown) → map name_of found ≡ map closure.name_of (candidates_of found)
names_are found = sym (mapped_twice closure.name_of (λ (m : Shown). m.candidate) found)

-- What is found

-- the modules of a path are visible, where files are told
pub path_visible : (release : ℕ) (directories : List (List ℕ)) (path : List VisibleModule) (told : Option Files)
    → Shows told (λ files. PathGives release files directories (Ok path)) → Shows told (λ files. path ≡ visible release files directories)
path_visible release directories path None shows = tt
path_visible release directories path (Some files) shows = shows.1

module _ (asked : Request) (directories : List (List ℕ)) (bytes : Option (List ℕ)) (modules : ImageModules)
    (has : HasImage asked.release bytes modules) where
  abbrev image : List Shown
  image = image_in (bytes_of bytes) modules

  image_shown : ImageShows asked.release bytes (Ok image)
  image_shown = go bytes has
    where
      go : (o : Option (List ℕ)) → HasImage asked.release o modules → ImageShows asked.release o (Ok (image_in (bytes_of o) modules))
      go None is = rw is refl
      go (Some b) is = (Ok is.finds.0, is.finds.1, ap (λ ms. Ok ms) (seen_in b modules is.finds.0 is.finds.2))

  -- the modules of the path weren't had
  pub path_stopped : (told : Option Files) (given : LinkStop)
      → Shows told (λ files. PathGives asked.release files directories (Err given))
      → Shows told (λ files. FindsSet (sources bytes directories files) asked (Err given))
  path_stopped None given shows = tt
  path_stopped (Some files) given shows = stopped given shows
    where
      stopped : (given : LinkStop) → PathGives asked.release files directories (Err given)
          → FindsSet (sources bytes directories files) asked (Err given)
      stopped (stop.Refused r) is = (Ok image, image_shown, rw is refl)
      stopped (stop.NotThere path) is = is
      stopped stop.Outside is = tt
      stopped stop.Memory is = tt

  -- they were had, and put together with those of the image
  pub set_found : length modules.candidates ≡ length modules.files → (told : Option Files) (path : List VisibleModule) (all : FoundModules)
      → Shows told (λ files. PathGives asked.release files directories (Ok path))
      → ((files : Files) (b : List ℕ) → set_in files b all.set ≡ image_in b modules
      ++ unhidden_by (image_in b modules) (map (of_folder files) path))
      → all.roots ≡ roots_among (map closure.name_of (named_of directories modules.candidates (candidates path))) asked.roots
      → Shows told (λ files. FindsSet (sources bytes directories files) asked (Ok all))
  set_found long None path all shows set roots = tt
  set_found long (Some files) path all (free, is) set roots = record {
    found = found_of directories image (map (of_folder files) path);
    finds = (Ok image, image_shown, rw (free, sym is) refl);
    modules = sym (set files (bytes_of bytes));
    roots = roots ∙ ap (λ named. roots_among named asked.roots) (named directories);
  }
    where
      named : (directories : List (List ℕ)) → map closure.name_of (named_of directories modules.candidates (candidates path))
          ≡ (found_of directories image (map (of_folder files) path)).named
      named [] = ap (map closure.name_of) (sym (image_candidates (bytes_of bytes) modules long)) ∙ sym (names_are image)
      named (directory ∷ directories) =
          ap (map closure.name_of) (sym (path_candidates files path)) ∙ sym (names_are (map (of_folder files) path))
