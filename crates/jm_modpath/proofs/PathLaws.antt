-- The modules of directories and of a module path, as the steps find them.
use Rattle.std.proofs.Common.{◌≡◌, ℕ, ◌<◌, ◌≤◌, Bool, true, false, cond, List, [], ◌∷◌, ◌++◌, append-nil, rules}
use Rattle.std.proofs.Common.{append_assoc, length, drop, get_or, Option, Some, None}
use Rattle.std.proofs.Common.{Result, Ok, Err, refl, sym, ap, ◌∙◌, subst, arith}
use Rattle.std.proofs.lemmas.List.{at_drop_all, drop_more}
use Rattle.std.proofs.lemmas.List.Elements.{filter_map-append}
use Rattle.std.specs.List.{cons_option, flat_map}
use Rattle.jm_bytes.proofs.Choice.{same_err, same_ok}
use Rattle.jm_bytes.proofs.CheckLaws.{first_fault_append_none, first_fault_append_some}
use Rattle.jm_bytes.specs.Results.{followed}
use Rattle.jm_bytes.specs.Checks.{fault_if, first_fault, unless_fault}
use Rattle.jm_modinfo.specs.declared.descriptor.Descriptor.{Descriptor}
use Rattle.jm_modinfo.specs.declared.faults.DescriptorFault.{DescriptorFault}
use Rattle.jm_outside.specs.Files.{Files, names_below}
use Rattle.jm_outside.specs.Outcome.{Shows}
use Rattle.jm_modpath.specs.declared.refusal.PathStop.{PathStop}
use Rattle.jm_modpath.specs.declared.refusal.PathStop.TheVariants as stop
use Rattle.jm_modpath.specs.declared.refusal.PathRefusal.{PathRefusal}
use Rattle.jm_modpath.specs.declared.refusal.PathRefusal.TheVariants as refusal
use Rattle.jm_modpath.specs.declared.visible.VisibleModule.{VisibleModule}
use Rattle.jm_modpath.specs.Finding.{Comes, ShowsModules, directories_due, directory_due, folders_among}
use Rattle.jm_modpath.specs.Finding.{folders_due, refused_at, shown_due, shown_more, with_unhidden}
use Rattle.jm_modpath.specs.Modules.{bytes_at, checks_after, directory_checks, folder_checks, folder_info, folders_in, info_path}
use Rattle.jm_modpath.specs.Modules.{inside, is_named, module_in, module_of, module_with, modules_among, modules_in, name_of}
use Rattle.jm_modpath.specs.Modules.{path_refusal, unhidden, visible}
use Rattle.jm_modpath.proofs.StepLaws.{comes_ended, told_both, told_more}

-- The folders of a directory

module _ (release : ℕ) (files : Files) (directory : List ℕ) where
  abbrev shown : List (List ℕ) → List VisibleModule
  shown folders = modules_among release files directory folders

  abbrev whole : List (List ℕ) → List (List ℕ) → Result (List VisibleModule) PathRefusal
  whole front back = unless_fault (first_fault (checks_after release files directory front back)) (shown (front ++ back))

  pub folders_law : (front back : List (List ℕ)) → folders_due release files directory (shown front) back ≡ whole front back
  folders_law front [] = ap (λ fs. Ok (shown fs)) (sym (append-nil front))
  folders_law front (folder ∷ back) = go (folders_law (front ++ folder ∷ []) back)
    where
      all : List (List ℕ)
      all = front ++ folder ∷ back

      at : List ℕ
      at = inside directory folder

      of : Descriptor → VisibleModule
      of d = module_with at d (bytes_at files (info_path at)) (names_below at files)

      later : List (Option PathRefusal)
      later = checks_after release files directory (front ++ folder ∷ []) back

      moved : whole (front ++ folder ∷ []) back ≡ unless_fault (first_fault later) (shown all)
      moved = ap (λ fs. unless_fault (first_fault later) (shown fs)) (append_assoc front (folder ∷ []) back)

      one_more : (d : Descriptor) → folder_info release files at ≡ Ok d → shown (front ++ folder ∷ []) ≡ shown front ++ of d ∷ []
      one_more d is =
          let m : module_in release files at ≡ Some (of d) = ap (module_of files at) is in
          filter_map-append (λ f. module_in release files (inside directory f)) front (folder ∷ [])
          ∙ ap (λ o. shown front ++ cons_option o []) m

      named : (d : Descriptor) (b : Bool) → folders_due release files directory (shown front ++ of d ∷ []) back
          ≡ unless_fault (first_fault later) (shown all)
          → followed (followed (cond b (Err (refusal.TwoModules directory d.name)) (Ok (of d))) (λ m. Ok (shown front ++ m ∷ [])))
          (λ ms. folders_due release files directory ms back)
          ≡ unless_fault (first_fault (fault_if b (refusal.TwoModules directory d.name) ∷ later)) (shown all)
      named d true rest = refl
      named d false rest = rest

      by_info : (info : Result Descriptor DescriptorFault) → folder_info release files at ≡ info
          → folders_due release files directory (shown (front ++ folder ∷ [])) back ≡ whole (front ++ folder ∷ []) back
          → followed (followed (followed (refused_at (info_path at) (bytes_at files (info_path at)) info) (λ d. shown_due directory
          (shown front) at d (names_below at files))) (λ m. Ok (shown front ++ m ∷ [])))
          (λ ms. folders_due release files directory ms back)
          ≡ unless_fault (first_fault (folder_checks directory (shown front) at info ++ later)) (shown all)
      by_info (Err fault) is rest = refl
      by_info (Ok d) is rest =
          named d (is_named (shown front) d.name)
          (ap (λ ms. folders_due release files directory ms back) (sym (one_more d is)) ∙ rest ∙ moved)

      go : folders_due release files directory (shown (front ++ folder ∷ [])) back ≡ whole (front ++ folder ∷ []) back
          → folders_due release files directory (shown front) (folder ∷ back) ≡ whole front (folder ∷ back)
      go rest = by_info (folder_info release files at) refl rest

  pub directory_law : folders_due release files directory [] (folders_in files directory) ≡ directory_due release files directory
  directory_law = folders_law [] (folders_in files directory)

-- Hiding

pub unhidden-append : (earlier xs ys : List VisibleModule) → unhidden earlier (xs ++ ys) ≡ unhidden earlier xs
    ++ unhidden (with_unhidden earlier xs) ys
unhidden-append earlier [] ys = ap (λ e. unhidden e ys) (sym (append-nil earlier))
unhidden-append earlier (m ∷ xs) ys = go (is_named earlier (name_of m)) (unhidden-append earlier xs ys)
    (unhidden-append (earlier ++ m ∷ []) xs ys)
  where
    go : (b : Bool) → unhidden earlier (xs ++ ys) ≡ unhidden earlier xs ++ unhidden (with_unhidden earlier xs) ys
        → unhidden (earlier ++ m ∷ []) (xs ++ ys) ≡ unhidden (earlier ++ m ∷ []) xs ++ unhidden (with_unhidden (earlier ++ m ∷ []) xs) ys
        → cond b (unhidden earlier (xs ++ ys)) (m ∷ unhidden (earlier ++ m ∷ []) (xs ++ ys))
        ≡ cond b (unhidden earlier xs) (m ∷ unhidden (earlier ++ m ∷ []) xs)
        ++ unhidden (earlier ++ cond b (unhidden earlier xs) (m ∷ unhidden (earlier ++ m ∷ []) xs)) ys
    go true h k = h
    go false h k = ap (λ l. m ∷ l) (k ∙ ap (λ e. unhidden (earlier ++ m ∷ []) xs ++ unhidden e ys) (append_assoc earlier (m ∷ [])
        (unhidden (earlier ++ m ∷ []) xs)))

-- some modules, and then others
pub with_both : (earlier xs ys : List VisibleModule) → with_unhidden (with_unhidden earlier xs) ys ≡ with_unhidden earlier (xs ++ ys)
with_both earlier xs ys = search (rules, append_assoc, unhidden-append)

-- The directories of a path

pub directories_law : (release : ℕ) (files : Files) (found : List VisibleModule) (directories : List (List ℕ))
    → directories_due release files found directories
    ≡ unless_fault (first_fault (flat_map (directory_checks release files) directories))
    (with_unhidden found (flat_map (modules_in release files) directories))
directories_law release files found [] = ap Ok (sym (append-nil found))
directories_law release files found (directory ∷ directories) =
    go (first_fault (directory_checks release files directory)) refl
    (directories_law release files (with_unhidden found (modules_in release files directory)) directories)
  where
    later : List (Option PathRefusal)
    later = flat_map (directory_checks release files) directories

    others : List VisibleModule
    others = flat_map (modules_in release files) directories

    go : (o : Option PathRefusal) → first_fault (directory_checks release files directory) ≡ o
        → directories_due release files (with_unhidden found (modules_in release files directory)) directories
        ≡ unless_fault (first_fault later)
        (with_unhidden (with_unhidden found (modules_in release files directory)) others)
        → followed (followed (unless_fault o (modules_in release files directory)) (λ ms. Ok (with_unhidden found ms)))
        (λ ms. directories_due release files ms directories)
        ≡ unless_fault (first_fault (directory_checks release files directory ++ later))
        (with_unhidden found (modules_in release files directory ++ others))
    go None is rest =
        rest ∙ ap (unless_fault (first_fault later)) (with_both found (modules_in release files directory) others)
        ∙ ap (λ o. unless_fault o (with_unhidden found (modules_in release files directory ++ others)))
        (sym (first_fault_append_none (directory_checks release files directory) later is))
    go (Some r) is rest =
        ap (λ o. unless_fault o (with_unhidden found (modules_in release files directory ++ others)))
        (sym (first_fault_append_some (directory_checks release files directory) later r is))

-- what a path comes to, in the words of its refusal and its modules
-- the same, of a refusal and modules
abbrev Shows_as : Option PathRefusal → List VisibleModule → Result (List VisibleModule) PathStop → Type 0
Shows_as o found (Ok other) = (o ≡ None) × (other ≡ found)
Shows_as o found (Err (stop.Refused e)) = o ≡ Some e
Shows_as o found (Err (stop.NotThere path)) = ⊥
Shows_as o found (Err stop.Outside) = Unit {0}
Shows_as o found (Err stop.Memory) = Unit {0}

by_result : (release : ℕ) (files : Files) (directories : List (List ℕ)) (r : Result (List VisibleModule) PathStop)
    → Shows_as (path_refusal release files directories) (visible release files directories) r
    → ShowsModules release files directories r
by_result release files directories (Ok other) h = h
by_result release files directories (Err (stop.Refused e)) h = h
by_result release files directories (Err (stop.NotThere path)) h = h
by_result release files directories (Err stop.Outside) h = h
by_result release files directories (Err stop.Memory) h = h

shows_of : (o : Option PathRefusal) (found : List VisibleModule) (r : Result (List VisibleModule) PathStop)
    → Comes ⊥ (unless_fault o found) r → Shows_as o found r
shows_of None found (Ok other) h = (refl, sym (same_ok found other h))
shows_of (Some e) found (Ok other) h = cc
shows_of None found (Err (stop.Refused e)) h = cc
shows_of (Some d) found (Err (stop.Refused e)) h = ap Some (same_err d e h)
shows_of o found (Err (stop.NotThere path)) h = h
shows_of o found (Err stop.Outside) h = tt
shows_of o found (Err stop.Memory) h = tt

pub path_shown : (release : ℕ) (told : Option Files) (directories : List (List ℕ)) (r : Result (List VisibleModule) PathStop)
    → Shows told (λ files. Comes ⊥ (directories_due release files [] directories) r)
    → Shows told (λ files. ShowsModules release files directories r)
path_shown release told directories r comes = search (rules, told_more, directories_law, by_result, shows_of)

-- Loops

pub directories_ended : (release : ℕ) (files : Files) (directories : List (List ℕ)) (i : ℕ) (directory : List ℕ)
    (found : List VisibleModule)
    (e : PathStop) → i < length directories → directory ≡ get_or directories i directory
    → Comes ⊥ (shown_more release files found directory) (Err e)
    → Comes ⊥ (directories_due release files found (drop i directories)) (Err e)
directories_ended release files directories i directory found e below is comes = search (rules, drop_more, comes_ended)

pub found_told : (release : ℕ) (told : Option Files) (directory : List ℕ) (names : List (List ℕ))
    (r : Result (List VisibleModule) PathStop)
    → Shows told (λ files. names ≡ names_below directory files)
    → Shows told (λ files. Comes ⊥ (folders_due release files directory [] (folders_among names)) r)
    → Shows told (λ files. Comes ⊥ (directory_due release files directory) r)
found_told release told directory names r listed comes = search (rules, told_both, directory_law)

pub with_none : (found : List VisibleModule) → with_unhidden found [] ≡ found
with_none found = append-nil found

pub path_ended : (release : ℕ) (told now : Option Files) (directories : List (List ℕ)) (i : ℕ) (directory given : List ℕ)
    (found : List VisibleModule) (e : PathStop) → now ≡ told → given ≡ directory → i < length directories → directory
    ≡ get_or directories i directory
    → Shows told (λ files. directories_due release files found (drop i directories) ≡ directories_due release files [] directories)
    → Shows now (λ files. Comes ⊥ (shown_more release files found given) (Err e))
    → Shows told (λ files. ShowsModules release files directories (Err e))
path_ended release told now directories i directory given found e same read below is so_far comes =
    path_shown release told directories (Err e)
    (told_both told _ _ _
    (λ files left h. subst (λ due. Comes ⊥ due (Err e)) left
    (directories_ended release files directories i directory found e below is
    (subst (λ d. Comes ⊥ (shown_more release files found d) (Err e)) read h))) so_far
    (subst (λ t. Shows t (λ files. Comes ⊥ (shown_more release files found given) (Err e))) same comes))

pub path_done : (release : ℕ) (told : Option Files) (directories : List (List ℕ)) (i : ℕ) (found : List VisibleModule)
    → length directories ≤ i
    → Shows told (λ files. directories_due release files found (drop i directories) ≡ directories_due release files [] directories)
    → Shows told (λ files. ShowsModules release files directories (Ok found))
path_done release told directories i found all so_far =
    path_shown release told directories (Ok found)
    (told_more told _ _ (λ files left. sym left ∙ at_drop_all (directories_due release files found) directories i all) so_far)

pub nothing_left : {X : Type 0} (xs : List X) (n : ℕ) → n ≡ length xs → n ≡ 0 → xs ≡ []
nothing_left [] n is none = refl
nothing_left (x ∷ xs) n is none = absurd (omega (arith, is, none))
