-- The names of all files that are linked: they differ, and none is a node's.
use Rattle.std.proofs.Common.{◌≡◌, ◌≢◌, ◌∷◌, ℕ, true, false, List, [], map}
use Rattle.std.proofs.Common.{All, AllPairs, Contains, None, Some, option_map, slice_get, refl, sym, ap, subst, ◌∙◌}
use Rattle.std.proofs.lemmas.List.Elements.{All-contains, All-head, All-map, All-tail, All-weaker}
use Rattle.std.proofs.lemmas.Option.{slice_get-map}
use Rattle.std.proofs.lemmas.Slice.Zip.{firsts-zip}
use Rattle.std.specs.List.{filter_map, flat_map, list_any}
use Rattle.jm_bytes.specs.ByteOrder.{is_before}
use Rattle.jm_bytes.proofs.ByteOrderLaws.{before_apart}
use Rattle.jm_bytes.proofs.Members.{all_filter_map, all_from_contains, contains_map, from_map}
use Rattle.jm_bytes.proofs.Pairs.{pairs_append, pairs_filter_map, pairs_head, pairs_map, pairs_none, pairs_tail, pairs_weaker}
use Rattle.jm_bytes.proofs.SameOrder.{from_flat_map, mapped_twice}
use Rattle.jm_bytes.specs.Checks.{first_fault}
use Rattle.jm_closure.specs.declared.candidate.Candidate.{Candidate}
use Rattle.jm_closure.specs.Modules as closure
use Rattle.jm_closure.specs.Names.{NamesDiffer}
use Rattle.jm_form.specs.Layout.{Written}
use Rattle.jm_modpath.specs.declared.visible.ModuleFolder.{ModuleFolder}
use Rattle.jm_modpath.specs.Finding.{HasTexts}
use Rattle.jm_modpath.specs.Modules.{bytes_at}
use Rattle.jm_modpath.specs.ModulesView.{module_with_folder}
use Rattle.jm_names.specs.ByName.{Named}
use Rattle.jm_names.specs.NameFaults.{IsSound}
use Rattle.jm_names.specs.Names.{is_node, is_slash}
use Rattle.jm_names.specs.UtfForms.{modified}
use Rattle.jm_names.proofs.NameOrder.{Differ, by_name_rises, from_by_name}
use Rattle.jm_outside.specs.Files.{Files}
use Rattle.jm_relink.specs.declared.modules.ImageFile.{ImageFile}
use Rattle.jm_relink.specs.Files.{file_in, file_name, files_in}
use Rattle.jm_relink.specs.Gathering.{resource_of}
use Rattle.jm_relink.proofs.GatherLaws.{all_got}
use Rattle.jm_relink.proofs.NameLaws.{names_tell}
use Rattle.jm_texts.specs.NameRefusals.{first_bad_name, name_refusal}
use Rattle.jm_modset.specs.declared.files.LinkFile.{LinkFile}
use Rattle.jm_modset.specs.declared.set.EntryFiles.{EntryFiles}
use Rattle.jm_modset.specs.declared.set.ModuleFiles.{ModuleFiles}
use Rattle.jm_modset.specs.declared.set.ModuleFiles.TheVariants as of
use Rattle.jm_modset.specs.declared.set.ModuleSet.{ModuleSet}
use Rattle.jm_modset.specs.Files.{AreTakenAt, IsTakenFrom, IsTakenOf, file_names, pair_of, written_in}
use Rattle.jm_modset.specs.Found.{reserved}
use Rattle.jm_modset.specs.Set.{AreSet, IsItem, items, set_in, shown_by}
use Rattle.jm_modset.specs.Shown.{AreFit, Shown, candidates_of, gathered, module_files, name_of}
use Rattle.jm_modset.proofs.FileLaws.{folder_differ, named_file}
use Rattle.jm_modset.proofs.NameLaws.{free_no_node, legal_plain}

-- The resources of one module

-- a name is that of a file of a module
abbrev pub IsIn : List ℕ → Written → Type 0
IsIn m r = (path : List ℕ) × (r.0 ≡ file_name m path)

-- a module has no `/` in its name, which the names of its resources begin with, and these differ
pub record IsNamed (m : Shown) : Type 0 where
  pub whole : list_any is_slash (name_of m) ≡ false
  pub each : All (IsIn (name_of m)) m.resources
  pub differ : AllPairs Differ m.resources

folder_named : (files : Files) (c : Candidate) (folder : ModuleFolder) → HasTexts (module_with_folder (c, folder))
    → IsNamed (shown_by files [] c (of.Folder folder))
folder_named files c folder has = record {
  whole = legal_plain (closure.name_of c) has.legal;
  each = All-map (IsIn (closure.name_of c)) (λ (f : Named). (f.0, bytes_at files f.1)) names
      (all_from_contains (IsIn (closure.name_of c)) names
      (λ e there.
      let from = from_map (named_file c folder) folder.files e (from_by_name (map (named_file c folder) folder.files) e there) in
      (modified from.0, ap (λ (p : Named). p.0) (sym from.2))));
  differ = pairs_map Differ (λ (f : Named). (f.0, bytes_at files f.1)) names
      (pairs_weaker (λ (e f : Named). is_before e.0 f.0 ≡ true) Differ (λ e f before. before_apart e.0 f.0 before) names
      (by_name_rises (map (named_file c folder) folder.files) (folder_differ c folder has)));
}
  where
    names : List Named
    names = module_files (module_with_folder (c, folder))

entries_named : (files : Files) (b : List ℕ) (c : Candidate) (entries : EntryFiles) → IsItem c (of.Image entries)
    → IsNamed (shown_by files b c (of.Image entries))
entries_named files b c entries is = record {
  whole = is.0;
  each = All-map (IsIn m) (resource_of m) (files_in b entries.files)
      (all_from_contains (λ r. IsIn m (resource_of m r)) (files_in b entries.files) (λ r there. (r.0, refl)));
  differ = pairs_map Differ (resource_of m) (files_in b entries.files)
      (pairs_map (λ (r s : Named). Differ (resource_of m r) (resource_of m s)) (file_in b) entries.files
      (pairs_weaker (λ (e f : ImageFile). e.path ≢ f.path) (λ e f. Differ (resource_of m (file_in b e)) (resource_of m (file_in b f)))
      (λ e f apart same. apart (names_tell m m e.path f.path is.0 is.0 same).1) entries.files is.1));
}
  where
    m : List ℕ
    m = closure.name_of c

item_named : (files : Files) (b : List ℕ) (c : Candidate) (m : ModuleFiles) → IsItem c m → IsNamed (shown_by files b c m)
item_named files b c (of.Folder folder) is = folder_named files c folder is
item_named files b c (of.Image entries) is = entries_named files b c entries is

-- The resources of modules with different names

modules_apart : (ms : List Shown) → All IsNamed ms → AllPairs (λ m k. name_of m ≢ name_of k) ms
    → AllPairs Differ (flat_map (λ m. m.resources) ms)
modules_apart [] named apart = pairs_none Differ
modules_apart (m ∷ ms) named apart =
    let has = All-head IsNamed m ms named in
    let later = All-tail IsNamed m ms named in
    let others = pairs_head (λ (k l : Shown). name_of k ≢ name_of l) m ms apart in
    pairs_append Differ m.resources (flat_map (λ (k : Shown). k.resources) ms) has.differ
    (modules_apart ms later (pairs_tail (λ (k l : Shown). name_of k ≢ name_of l) m ms apart))
    (λ r s there too same.
    let from = from_flat_map (λ (k : Shown). k.resources) ms s too in
    let other = All-contains IsNamed ms from.0 later from.1 in
    let one = All-contains (IsIn (name_of m)) m.resources r has.each there in
    let two = All-contains (IsIn (name_of from.0)) from.0.resources s other.each from.2 in
    All-contains (λ (k : Shown). name_of m ≢ name_of k) ms from.0 others from.1
    (names_tell (name_of m) (name_of from.0) one.0 two.0 has.whole other.whole (sym one.1 ∙ same ∙ two.1)).0)

shown_candidate : (files : Files) (b : List ℕ) (c : Candidate) (m : ModuleFiles) → (shown_by files b c m).candidate ≡ c
shown_candidate files b c (of.Folder folder) = refl
shown_candidate files b c (of.Image entries) = refl

-- modules of a set, as they are shown, say what they say in the set
pub candidates_in : (files : Files) (b : List ℕ) (set : ModuleSet) → AreSet set → candidates_of (set_in files b set) ≡ set.candidates
candidates_in files b set are = go (items set) ∙ firsts-zip set.candidates set.files (sym are.long)
  where
    go : (ms : List (Candidate × ModuleFiles)) → candidates_of (map (λ m. shown_by files b m.0 m.1) ms)
        ≡ map (λ (m : Candidate × ModuleFiles). m.0) ms
    go [] = refl
    go (m ∷ ms) =
        ap (λ (c : Candidate). c ∷ candidates_of (map (λ m. shown_by files b m.0 m.1) ms)) (shown_candidate files b m.0 m.1)
        ∙ ap (λ (cs : List Candidate). m.0 ∷ cs) (go ms)

chosen_apart : (found : List Shown) (places : List ℕ) → NamesDiffer (candidates_of found) → AllPairs (λ p q. p ≢ q) places
    → AllPairs (λ m k. name_of m ≢ name_of k) (filter_map (slice_get found) places)
chosen_apart found places differ apart =
    pairs_filter_map (λ (p q : ℕ). p ≢ q) (λ m k. name_of m ≢ name_of k) (slice_get found)
    (λ p q other m k one two same. other (differ p q (name_of m) (m.candidate, at p m one, refl) (k.candidate, at q k two, sym same)))
    places apart
  where
    at : (p : ℕ) (m : Shown) → slice_get found p ≡ Some m → slice_get (candidates_of found) p ≡ Some m.candidate
    at p m is = slice_get-map (λ (k : Shown). k.candidate) found p ∙ ap (option_map (λ (k : Shown). k.candidate)) is

-- the resources that are gathered have names that differ
pub gathered_apart : (files : Files) (b : List ℕ) (set : ModuleSet) (places : List ℕ) → AreSet set
    → AllPairs (λ p q. p ≢ q) places → AllPairs Differ (gathered (set_in files b set) places)
gathered_apart files b set places are apart =
    modules_apart (filter_map (slice_get found) places)
    (all_filter_map (λ (p : ℕ). Unit {0}) IsNamed (slice_get found) (λ p m within is. all_got IsNamed found p m named is) places
    (λ i d below. tt))
    (chosen_apart found places (subst NamesDiffer (sym (candidates_in files b set are)) are.differ) apart)
  where
    found : List Shown
    found = set_in files b set

    named : All IsNamed found
    named =
        All-map IsNamed (λ (m : Candidate × ModuleFiles). shown_by files b m.0 m.1) (items set)
        (All-weaker (λ (m : Candidate × ModuleFiles). IsItem m.0 m.1) (λ m. IsNamed (shown_by files b m.0 m.1))
        (λ m is. item_named files b m.0 m.1 is) (items set) are.each)

-- Files that are linked

-- a file that may not stand in an image is refused by its name
pub same_bad : (files : Files) (b : List ℕ) (fs : List LinkFile) → first_bad_name (map pair_of fs)
    ≡ first_bad_name (map (written_in files b) fs)
same_bad files b fs =
    ap first_fault (mapped_twice name_refusal pair_of fs ∙ sym (mapped_twice name_refusal (written_in files b) fs))

names_apart : (fs : List LinkFile) (rs : List Written) → map (written_in [] []) fs ≡ rs → AllPairs Differ rs
    → AllPairs (λ a b. a ≢ b) (file_names fs)
names_apart fs rs is apart =
    subst (AllPairs (λ (a b : List ℕ). a ≢ b)) (ap (map (λ (r : Written). r.0)) (sym is) ∙ mapped_twice (λ (r : Written). r.0)
    (written_in [] []) fs)
    (pairs_map (λ (a b : List ℕ). a ≢ b) (λ (r : Written). r.0) rs apart)

named_of : (c : Candidate) (m : ModuleFiles) (f : LinkFile) → IsTakenOf c m f → (path : List ℕ)
    × (f.name ≡ file_name (closure.name_of c) path)
named_of c (of.Folder folder) f (path, there, is) = (modified path, ap (λ (g : LinkFile). g.name) is)
named_of c (of.Image entries) f (file, there, is) = (file.path, ap (λ (g : LinkFile). g.name) is)

item_whole : (c : Candidate) (m : ModuleFiles) → IsItem c m → list_any is_slash (closure.name_of c) ≡ false
item_whole c (of.Folder folder) is = legal_plain (closure.name_of c) is.legal
item_whole c (of.Image entries) is = is.0

-- no file has the name of a node
plain_name : (set : ModuleSet) → AreSet set → reserved set.candidates ≡ None → (f : LinkFile) → IsTakenFrom set f
    → is_node f.name ≡ false
plain_name set are free f from =
    let named = named_of from.candidate from.files f from.of in
    let whole = item_whole from.candidate from.files
    (All-contains (λ m. IsItem m.0 m.1) (items set) (from.candidate, from.files) are.each from.there) in
    let among = subst (λ cs. Contains cs from.candidate) (firsts-zip set.candidates set.files (sym are.long))
    (contains_map (λ (m : Candidate × ModuleFiles). m.0) (items set) (from.candidate, from.files) from.there) in
    ap is_node named.1 ∙ free_no_node set.candidates from.candidate named.0 free among whole

-- their names are fit
pub files_fit : (set : ModuleSet) (places : List ℕ) (fs : List LinkFile) → AreSet set → reserved set.candidates ≡ None
    → AllPairs (λ p q. p ≢ q) places → AreTakenAt set places fs → All (λ f. IsSound f.name) fs → AreFit (file_names fs)
files_fit set places fs are free apart taken sound = record {
  differ = names_apart fs (gathered (set_in [] [] set) places) (taken.shown [] []) (gathered_apart [] [] set places are apart);
  sound = All-map IsSound (λ f. f.name) fs sound;
  plain = All-map (λ name. is_node name ≡ false) (λ f. f.name) fs
      (All-weaker (IsTakenFrom set) (λ f. is_node f.name ≡ false) (plain_name set are free) fs taken.taken);
}

-- the first refused name of the files is that of their resources
pub bad_gathered : (set : ModuleSet) (places : List ℕ) (fs : List LinkFile) → AreTakenAt set places fs → (files : Files) (b : List ℕ)
    → first_bad_name (gathered (set_in files b set) places) ≡ first_bad_name (map pair_of fs)
bad_gathered set places fs taken files b = ap first_bad_name (sym (taken.shown files b)) ∙ sym (same_bad files b fs)
