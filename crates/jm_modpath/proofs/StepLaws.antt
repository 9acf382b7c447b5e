-- The steps that look for modules: what each comes to, from what its calls answered.
use Rattle.std.proofs.Common.{◌≡◌, ℕ, Bool, true, false, cond, ◌&&◌, not, List, [], ◌∷◌, ◌++◌, rules}
use Rattle.std.proofs.Common.{append_assoc, IsUtf8, Contains, Option, Some, None}
use Rattle.std.proofs.Common.{unwrap_or, option_and_then, Result, Ok, Err, refl, sym, ap, ◌∙◌, subst}
use Rattle.std.proofs.Common.{filter_map, inl, inr}
use Rattle.std.proofs.lemmas.Bool.{eqb-true, false≢true}
use Rattle.std.proofs.lemmas.Str.{IsUtf8-from_ascii}
use Rattle.std.proofs.lemmas.Slice.Eq.{bytes_eq-Decides}
use Rattle.std.specs.List.{before_first, after_first, cons_option, list_any}
use Rattle.std.specs.Option.{is_some}
use Rattle.std.specs.Str.{bytes_eq}
use Rattle.jm_bytes.specs.Results.{followed}
use Rattle.jm_bytes.proofs.ByteOrderLaws.{ascii_all}
use Rattle.jm_bytes.proofs.Choice.{same_some}
use Rattle.jm_bytes.proofs.Cuts.{first_parts}
use Rattle.jm_bytes.proofs.Members.{any_contains, contains_cases, contains_here, contains_later, from_filter_map}
use Rattle.jm_modpath.specs.declared.directory.Described.{Described}
use Rattle.jm_names.specs.Names.{is_empty, is_slash}
use Rattle.jm_outside.specs.Files.{Files, after_front, file, names_below}
use Rattle.jm_outside.specs.Outcome.{Shows}
use Rattle.jm_outside.proofs.Laws.{names_below-exact}
use Rattle.jm_outside.proofs.Names.{after_front-join}
use Rattle.jm_modpath.specs.declared.refusal.PathStop.{PathStop}
use Rattle.jm_modpath.specs.declared.refusal.PathStop.TheVariants as stop
use Rattle.jm_modpath.specs.declared.refusal.PathRefusal.{PathRefusal}
use Rattle.jm_modpath.specs.declared.refusal.PathRefusal.TheVariants as refusal
use Rattle.jm_modpath.specs.declared.visible.VisibleModule.{VisibleModule}
use Rattle.jm_modpath.specs.Finding.{Comes, folder_due, folders_among, info_due}
use Rattle.jm_modpath.specs.Finding.{names_within, refused_at, shown_due}
use Rattle.jm_form.specs.ModuleFiles.{info_name}
use Rattle.jm_modinfo.specs.Descriptions.{info_for}
use Rattle.jm_modpath.specs.Modules.{bytes_at, folder_with_info, info_path, inside, is_named, module_with, name_of, unhidden}
use Rattle.jm_form.proofs.RisingLaws.{from_rising}

pub info_is_text : IsUtf8 info_name
info_is_text = IsUtf8-from_ascii info_name (ascii_all info_name refl)

-- Steps

pub comes_weaker : {A : Type 0} {P Q : Type 0} (due : Result A PathRefusal) (r : Result A PathStop) → (P → Q) → Comes P due r
    → Comes Q due r
comes_weaker due (Ok x) more h = h
comes_weaker due (Err (stop.Refused e)) more h = h
comes_weaker due (Err (stop.NotThere path)) more h = more h
comes_weaker due (Err stop.Outside) more h = h
comes_weaker due (Err stop.Memory) more h = h

-- a step that went on, and what came of the next one
pub comes_next : {A B : Type 0} (due : Result A PathRefusal) (next : A → Result B PathRefusal) (x : A) (r : Result B PathStop) → due
    ≡ Ok x → Comes ⊥ (next x) r → Comes ⊥ (followed due next) r
comes_next due next x r is h = rw is h

-- a step that ended the work
pub comes_ended : {A B : Type 0} (due : Result A PathRefusal) (next : A → Result B PathRefusal) (e : PathStop) → Comes ⊥ due (Err e)
    → Comes ⊥ (followed due next) (Err e)
comes_ended due next (stop.Refused r) h = rw h refl
comes_ended due next (stop.NotThere path) h = h
comes_ended due next stop.Outside h = tt
comes_ended due next stop.Memory h = tt

-- Told

-- without memory nothing is said
pub out_of_memory : {A : Type 0} (told : Option Files) (due : Files → Result A PathRefusal)
    → Shows told (λ files. Comes ⊥ (due files) (Err stop.Memory))
out_of_memory None due = tt
out_of_memory (Some files) due = tt

pub told_more : (told : Option Files) (P Q : Files → Type 0) → ((files : Files) → P files → Q files) → Shows told P → Shows told Q
told_more None P Q more h = tt
told_more (Some files) P Q more h = more files h

pub told_both : (told : Option Files) (P Q R : Files → Type 0) → ((files : Files) → P files → Q files → R files) → Shows told P
    → Shows told Q → Shows told R
told_both None P Q R more h k = tt
told_both (Some files) P Q R more h k = more files h k

-- The file of a folder

pub read_told : (release : ℕ) (told : Option Files) (folder path bytes : List ℕ) (r : Result Described PathStop)
    → path ≡ info_path folder → Shows told (λ files. Some bytes ≡ file files path)
    → Comes ⊥ (refused_at path bytes (info_for release bytes)) r
    → Shows told (λ files. Comes (file files (info_path folder) ≡ None)
    (info_due release folder (bytes_at files (info_path folder))) r)
read_told release told folder path bytes r is read comes = search (rules, unwrap_or, comes_weaker, told_more)

-- a told shelf has the file of a folder with one
folder_is : (name folder : List ℕ) → folder_with_info name ≡ Some folder → name ≡ folder ++ 47 ∷ info_name
folder_is name folder found = go (list_any is_slash name) refl found
  where
    parts : (full same : Bool) (before : List ℕ) → cond (full && same) (Some before) None ≡ Some folder → (before ≡ folder) × (same ≡ true)
    parts true true before h = (same_some before folder h, refl)
    parts true false before h = cc
    parts false same before h = cc

    go : (b : Bool) → list_any is_slash name ≡ b → folder_with_info name ≡ Some folder → name ≡ folder ++ 47 ∷ info_name
    go true has h =
        let cut = first_parts is_slash name 0 has in
        let both = parts (not (is_empty (before_first is_slash name))) (bytes_eq (after_first is_slash name) info_name)
        (before_first is_slash name) (rw has at h) in
        let last = (bytes_eq-Decides (after_first is_slash name) info_name).0 both.1 in
        sym cut.2 ∙ ap (λ f. f ++ cut.0 ∷ after_first is_slash name) both.0 ∙ ap (λ x. folder ++ x ∷ after_first is_slash name)
        (eqb-true cut.0 47 cut.1) ∙ ap (λ rest. folder ++ 47 ∷ rest) last
    go false has h =
        let nothing : ◌≡◌ {A = Option (List ℕ)} None (Some folder) = rw has at h in
        cc

-- a file that is listed is there
pub listed_there : (files : Files) (directory name : List ℕ) → Contains (names_below directory files) name
    → file files (inside directory name) ≡ None → ⊥
listed_there files directory name listed none =
    let found = any_contains (bytes_eq name) (names_below directory files) name listed ((bytes_eq-Decides name name).1 refl) in
    false≢true (sym (ap is_some none) ∙ sym (names_below-exact directory name files) ∙ found)

pub info_there : (files : Files) (directory folder : List ℕ) → Contains (folders_among (names_below directory files)) folder
    → file files (info_path (inside directory folder)) ≡ None → ⊥
info_there files directory folder listed none =
    let from = from_filter_map folder_with_info (names_below directory files) folder
    (from_rising (filter_map folder_with_info (names_below directory files)) folder listed) in
    let name = folder_is from.0 folder from.2 in
    let path : info_path (inside directory folder) ≡ inside directory (folder ++ 47 ∷ info_name) =
    append_assoc directory (47 ∷ folder) (47 ∷ info_name) in
    listed_there files directory (folder ++ 47 ∷ info_name) (subst (Contains (names_below directory files)) name from.1) (rw path at none)

-- the names below a folder of a directory
pub below_within : (files : Files) (directory folder : List ℕ) → names_below (inside directory folder) files
    ≡ names_within folder (names_below directory files)
below_within [] directory folder = refl
below_within (f ∷ files) directory folder =
    let join = after_front-join (directory ++ 47 ∷ []) (folder ++ 47 ∷ []) f.0 in
    let front : inside directory folder ++ 47 ∷ [] ≡ (directory ++ 47 ∷ []) ++ (folder ++ 47 ∷ []) =
    append_assoc directory (47 ∷ folder) (47 ∷ []) ∙ sym (append_assoc directory (47 ∷ []) (folder ++ 47 ∷ [])) in
    rw (ap (λ a. after_front a f.0) front ∙ join, below_within files directory folder) (go (after_front (directory ++ 47 ∷ []) f.0))
  where
    go : (o : Option (List ℕ)) → cons_option (option_and_then (after_front (folder ++ 47 ∷ [])) o)
        (names_within folder (names_below directory files)) ≡ names_within folder (cons_option o (names_below directory files))
    go None = refl
    go (Some name) = refl

-- A folder

-- a folder whose module has the name of an earlier one
pub shown_twice : (directory : List ℕ) (earlier : List VisibleModule) (folder : List ℕ) (d : Described) (paths : List (List ℕ))
    (r : Result VisibleModule PathStop) (name : List ℕ) → is_named earlier d.descriptor.name ≡ true → name ≡ d.descriptor.name
    → Comes ⊥ (Err (refusal.TwoModules directory name)) r → Comes ⊥ (shown_due directory earlier folder d paths) r
shown_twice directory earlier folder d paths r name again is comes = rw (again, ← is) comes

-- one whose module has a new name
pub shown_new : (directory : List ℕ) (earlier : List VisibleModule) (folder : List ℕ) (d : Described) (paths : List (List ℕ))
    (m : VisibleModule) → is_named earlier d.descriptor.name ≡ false → m ≡ module_with folder d.descriptor d.bytes paths
    → Comes ⊥ (shown_due directory earlier folder d paths) (Ok m)
shown_new directory earlier folder d paths m new is = rw (new, is) refl

pub folder_shown : (release : ℕ) (told : Option Files) (directory folder path : List ℕ) (names : List (List ℕ))
    (earlier : List VisibleModule)
    (d : Described) (r : Result VisibleModule PathStop) → path ≡ inside directory folder
    → Shows told (λ files. names ≡ names_below directory files) → Shows told (λ files. Comes (file files (info_path path) ≡ None)
    (info_due release path (bytes_at files (info_path path))) (Ok d))
    → Comes ⊥ (shown_due directory earlier path d (names_within folder names)) r
    → Shows told (λ files. Comes ⊥ (folder_due release files directory earlier folder) r)
folder_shown release told directory folder path names earlier d r is listed read shown = search (rules, comes_next, told_both, below_within)

pub folder_ended : (release : ℕ) (told : Option Files) (directory folder path : List ℕ) (names : List (List ℕ))
    (earlier : List VisibleModule)
    (e : PathStop) → path ≡ inside directory folder → Contains (folders_among names) folder
    → Shows told (λ files. names ≡ names_below directory files) → Shows told (λ files. Comes (file files (info_path path) ≡ None)
    (info_due release path (bytes_at files (info_path path))) (Err e))
    → Shows told (λ files. Comes ⊥ (folder_due release files directory earlier folder) (Err e))
folder_ended release told directory folder path names earlier e is among listed read = search (rules, comes_weaker, comes_ended, told_both, info_there)

pub read_none : (told : Option Files) (folder path : List ℕ) → path ≡ info_path folder
    → Shows told (λ files. None ≡ file files path) → Shows told (λ files. file files (info_path folder) ≡ None)
read_none told folder path is read = told_more told _ _ (λ files found. ap (file files) (sym is) ∙ sym found) read

-- The folders of a directory

-- a module that is not hidden is one of those that were found
pub from_unhidden : (earlier ms : List VisibleModule) (m : VisibleModule) → Contains (unhidden earlier ms) m → Contains ms m
from_unhidden earlier [] m there = there
from_unhidden earlier (k ∷ ms) m there = go (is_named earlier (name_of k)) there (from_unhidden earlier ms m)
    (from_unhidden (earlier ++ k ∷ []) ms m)
  where
    go : (hidden : Bool) → Contains (cond hidden (unhidden earlier ms) (k ∷ unhidden (earlier ++ k ∷ []) ms)) m
        → (Contains (unhidden earlier ms) m → Contains ms m) → (Contains (unhidden (earlier ++ k ∷ []) ms) m → Contains ms m)
        → Contains (k ∷ ms) m
    go true there one other = contains_later k ms m (one there)
    go false there one other = elim (contains_cases k (unhidden (earlier ++ k ∷ []) ms) m there) [
      | inl same ↦ subst (Contains (k ∷ ms)) same (contains_here k ms)
      | inr later ↦ contains_later k ms m (other later)
    ]
