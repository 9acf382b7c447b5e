-- Where the files of a module path lie, and what is taken for its descriptors.
use Rattle.std.proofs.Common.{◌≡◌, ℕ, ◌+◌, ◌<◌, ◌≤◌, ◌⊎◌, inl, inr, List, [], ◌∷◌, append_assoc, length, drop, get_or, All, Contains}
use Rattle.std.proofs.Common.{Option, Some, None, Result, Ok, unwrap_or, ◌∙◌, ap, sym, subst, arith}
use Rattle.std.proofs.lemmas.List.{drop_more}
use Rattle.std.proofs.lemmas.List.Elements.{All-contains, Contains-append_cases, Contains-get_or}
use Rattle.std.proofs.lemmas.List.Sums.{sum_by-drop_more}
use Rattle.std.specs.List.{sum_by}
use Rattle.jm_bytes.proofs.Members.{all_from_contains}
use Rattle.jm_bytes.specs.Results.{followed}
use Rattle.jm_form.specs.ModuleFiles.{info_name}
use Rattle.jm_outside.specs.Files.{Files, file, names_below}
use Rattle.jm_outside.specs.Outcome.{Shows}
use Rattle.jm_modpath.specs.declared.refusal.PathRefusal.{PathRefusal}
use Rattle.jm_modpath.specs.declared.refusal.PathStop.{PathStop}
use Rattle.jm_modpath.specs.declared.refusal.PathStop.TheVariants as stop
use Rattle.jm_modpath.specs.declared.visible.VisibleModule.{VisibleModule}
use Rattle.jm_modpath.specs.Finding.{LacksBy, folders_among, with_unhidden}
use Rattle.jm_modpath.specs.Listed.{IsBelow, IsInside, info_size, infos_size}
use Rattle.jm_modpath.specs.Modules.{bytes_at, info_path, inside, unhidden}
use Rattle.jm_modpath.proofs.StepLaws.{from_unhidden, told_both, told_more}

-- Paths

-- the descriptor of a folder lies in the folder's directory
pub info_inside : (directory folder path : List ℕ) → path ≡ info_path (inside directory folder) → IsInside directory path
info_inside directory folder path is = rw is (inside folder info_name, append_assoc directory (47 ∷ folder) (47 ∷ info_name))

-- what holds of each path that is such a one holds of the one that isn't there
pub lacks_so : (Such Also : List ℕ → Type 0) (given : PathStop) → ((path : List ℕ) → Such path → Also path) → LacksBy Such given
    → LacksBy Also given
lacks_so Such Also (stop.Refused r) more lacks = tt
lacks_so Such Also (stop.NotThere path) more lacks = more path lacks
lacks_so Such Also stop.Outside more lacks = tt
lacks_so Such Also stop.Memory more lacks = tt

-- a directory that stands among others
pub below_of : (directories : List (List ℕ)) (i : ℕ) (directory given path : List ℕ) → i < length directories → directory
    ≡ get_or directories i directory → given ≡ directory → IsInside given path → IsBelow directories path
below_of directories i directory given path below is read within =
    (given, rw (read, is) (Contains-get_or directories i directory below), within)

-- modules, and those of a directory that they don't hide
pub with_from : (found ms : List VisibleModule) (Is : VisibleModule → Type 0) → All Is ms → (m : VisibleModule)
    → Contains (with_unhidden found ms) m → Contains found m ⊎ Is m
with_from found ms Is all m there =
    elim (Contains-append_cases found (unhidden found ms) m there) [
      | inl one ↦ inl one
      | inr other ↦ inr (All-contains Is ms m all (from_unhidden found ms m other))
    ]

-- modules that lie below some directories, and those of one more of these
pub below_more : (directories : List (List ℕ)) (i : ℕ) (directory given : List ℕ) (found more : List VisibleModule)
    → i < length directories → directory ≡ get_or directories i directory → given ≡ directory
    → All (λ m. IsBelow directories m.folder) found
    → ((m : VisibleModule) → Contains more m → Contains found m ⊎ IsInside given m.folder) → All (λ m. IsBelow directories m.folder) more
below_more directories i directory given found more below is read all from =
    all_from_contains (λ m. IsBelow directories m.folder) more (λ m there.
    elim (from m there) [
      | inl before ↦ All-contains (λ m. IsBelow directories m.folder) found m all before
      | inr within ↦ below_of directories i directory given m.folder below is read within
    ])

-- What is due

-- what is due for a list is, after the step of one of its items, what is due for those that are left
pub due_more : (told now : Option Files) (step : Files → List ℕ → Result (List VisibleModule) PathRefusal)
    (due : Files → List VisibleModule → List (List ℕ) → Result (List VisibleModule) PathRefusal)
    (all : Files → Result (List VisibleModule) PathRefusal) (found more : List VisibleModule) (items : List (List ℕ)) (i : ℕ)
    (item given : List ℕ)
    → ((files : Files) (x : List ℕ) (xs : List (List ℕ)) → due files found (x ∷ xs) ≡ followed (step files x) (λ ms. due files ms xs))
    → now ≡ told → given ≡ item → i < length items → item ≡ get_or items i item
    → Shows told (λ files. due files found (drop i items) ≡ all files) → Shows now (λ files. step files given ≡ Ok more)
    → Shows told (λ files. due files more (drop (i + 1) items) ≡ all files)
due_more told now step due all found more items i item given first same read below is so_far did =
    told_both told _ _ _
    (λ files before one.
    let next : step files (get_or items i item) ≡ Ok more = ap (step files) (sym (read ∙ is)) ∙ one in
    sym (ap (due files found) (drop_more items i item below) ∙ first files (get_or items i item) (drop (i + 1) items)
    ∙ ap (λ r. followed r (λ ms. due files ms (drop (i + 1) items))) next) ∙ before) so_far
    (subst (λ t. Shows t (λ files. step files given ≡ Ok more)) same did)

-- What is taken

-- the bytes that were read are those of the file
pub read_taken : (told : Option Files) (folder path bytes : List ℕ) (old new : ℕ) → path ≡ info_path folder
    → Shows told (λ files. Some bytes ≡ file files path) → new ≡ old + length bytes
    → Shows told (λ files. new ≤ old + length (bytes_at files (info_path folder)))
read_taken None folder path bytes old new is read handed = tt
read_taken (Some files) folder path bytes old new is read handed =
    let long : length bytes ≡ length (bytes_at files path) = ap (λ o. length (unwrap_or o [])) read in
    let same : length (bytes_at files path) ≡ length (bytes_at files (info_path folder)) = ap (λ p. length (bytes_at files p)) is in
    omega (arith, handed, long, same)

-- what is taken for one thing more of a list is within what is taken for all that is left of it
pub taken_more : (told now : Option Files) (f : Files → List ℕ → ℕ) (most : Files → ℕ) (items : List (List ℕ)) (i : ℕ) (item given : List ℕ)
    (old mid new : ℕ) → now ≡ told → given ≡ item → i < length items → item ≡ get_or items i item
    → Shows told (λ files. mid + sum_by (f files) (drop i items) ≤ old + most files) → Shows now (λ files. new ≤ mid + f files given)
    → Shows told (λ files. new + sum_by (f files) (drop (i + 1) items) ≤ old + most files)
taken_more told now f most items i item given old mid new same read below is so_far one =
    told_both told _ _ _
    (λ files before cost.
    let here : f files given ≡ f files (get_or items i item) = ap (f files) (read ∙ is) in
    omega (arith, before, cost, here, sum_by-drop_more (f files) items i item below)) so_far
    (subst (λ t. Shows t (λ files. new ≤ mid + f files given)) same one)

pub taken_within : (told : Option Files) (more most : Files → ℕ) (old new : ℕ) → Shows told (λ files. new + more files ≤ old + most files)
    → Shows told (λ files. new ≤ old + most files)
taken_within told more most old new taken = told_more told _ _ (λ files all. omega (arith, all)) taken

-- the folders of a listing are those of the directory
pub taken_listed : (told : Option Files) (names items : List (List ℕ)) (directory : List ℕ) (old new : ℕ) → items ≡ folders_among names
    → Shows told (λ files. names ≡ names_below directory files)
    → Shows told (λ files. new ≤ old + sum_by (info_size files directory) items)
    → Shows told (λ files. new ≤ old + infos_size files directory)
taken_listed told names items directory old new are listed taken =
    told_both told _ _ _
    (λ files is all.
    subst (λ fs. new ≤ old + sum_by (info_size files directory) fs) (are ∙ ap folders_among is) all) listed taken
