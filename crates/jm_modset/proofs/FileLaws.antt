-- The files of one module: those of a folder sorted by name, those of an image in their order.
use Rattle.std.proofs.Common.{◌≡◌, ◌≢◌, ℕ, List, [], ◌∷◌, map, All, AllPairs, Contains, IsPermutation, IsUtf8}
use Rattle.std.proofs.Common.{refl, sym, ap, subst, ◌∙◌}
use Rattle.std.proofs.lemmas.List.Elements.{All-contains, All-head, All-tail}
use Rattle.std.proofs.lemmas.List.Sorted.{Contains-permutation, IsPermutation-sym}
use Rattle.jm_bytes.proofs.Members.{all_from_contains, from_map}
use Rattle.jm_bytes.proofs.Pairs.{pairs_among, pairs_map}
use Rattle.jm_bytes.proofs.SameOrder.{mapped_twice}
use Rattle.jm_closure.specs.declared.candidate.Candidate.{Candidate}
use Rattle.jm_closure.specs.Modules.{name_of}
use Rattle.jm_form.specs.Layout.{Written}
use Rattle.jm_modpath.specs.declared.visible.ModuleFolder.{ModuleFolder}
use Rattle.jm_modpath.specs.Finding.{HasTexts}
use Rattle.jm_modpath.specs.Modules.{bytes_at, inside, resource_name}
use Rattle.jm_modpath.specs.ModulesView.{module_with_folder}
use Rattle.jm_names.specs.ByName.{Named, NeverFalls}
use Rattle.jm_names.specs.UtfForms.{modified}
use Rattle.jm_names.proofs.NameOrder.{Differ, items_sorted}
use Rattle.jm_outside.specs.Files.{Files}
use Rattle.jm_relink.specs.Files.{file_in}
use Rattle.jm_relink.specs.Gathering.{resource_of}
use Rattle.jm_relink.proofs.NameLaws.{names_tell}
use Rattle.jm_modset.specs.declared.files.LinkFile.{LinkFile}
use Rattle.jm_modset.specs.declared.set.EntryFiles.{EntryFiles}
use Rattle.jm_modset.specs.declared.set.ModuleFiles.TheVariants as of
use Rattle.jm_modset.specs.Files.{AreTakenOf, IsTakenOf, entry_file, folder_file, pair_of, path_of, written_in}
use Rattle.jm_modset.specs.Shown.{module_files, resources_of}
use Rattle.jm_modset.proofs.NameLaws.{legal_plain, modified_tells}

-- Files of a folder

-- a file's name as a resource, and its path on the shelf
abbrev pub named_file : Candidate → ModuleFolder → List ℕ → Named
named_file c folder path = (resource_name (name_of c) path, inside folder.path path)

-- their names differ, as their paths do
pub folder_differ : (c : Candidate) (folder : ModuleFolder) → HasTexts (module_with_folder (c, folder))
    → AllPairs Differ (map (named_file c folder) folder.files)
folder_differ c folder has =
    let whole = legal_plain (name_of c) has.legal in
    pairs_map Differ (named_file c folder) folder.files
    (pairs_among (λ (path other : List ℕ). path ≢ other) (λ path other. Differ (named_file c folder path) (named_file c folder other))
    folder.files
    (λ path other there too apart same. apart (modified_tells path other (All-contains IsUtf8 folder.files path has.files there)
    (All-contains IsUtf8 folder.files other has.files too)
    (names_tell (name_of c) (name_of c) (modified path) (modified other) whole whole same).1))
    has.differ)

module _ (c : Candidate) (folder : ModuleFolder) (ts us : List LinkFile)
    (are : ts ≡ map (folder_file (name_of c) folder) folder.files) (moved : IsPermutation ts us) where
  all_taken : All (IsTakenOf c (of.Folder folder)) us
  all_taken = all_from_contains (IsTakenOf c (of.Folder folder)) us one
    where
      one : (f : LinkFile) → Contains us f → IsTakenOf c (of.Folder folder) f
      one f there =
          let from = from_map (folder_file (name_of c) folder) folder.files f (subst (λ fs. Contains fs f) are
          (Contains-permutation us ts f (IsPermutation-sym ts us moved) there)) in
          (from.0, from.1, sym from.2)

  -- the bytes of such files are those at their paths
  written_files : (files : Files) (b : List ℕ) (fs : List LinkFile) → All (IsTakenOf c (of.Folder folder)) fs
      → map (written_in files b) fs ≡ resources_of files (map pair_of fs)
  written_files files b [] all = refl
  written_files files b (f ∷ fs) all =
      let of_file = All-head (IsTakenOf c (of.Folder folder)) f fs all in
      let one : written_in files b f ≡ (f.name, bytes_at files (path_of f.content)) = subst As (sym of_file.2) refl in
      let rest = written_files files b fs (All-tail (IsTakenOf c (of.Folder folder)) f fs all) in
      ap (λ (r : Written). r ∷ map (written_in files b) fs) one
      ∙ ap (λ rs. (f.name, bytes_at files (path_of f.content)) ∷ rs) rest
    where
      As : LinkFile → Type 0
      As g = written_in files b g ≡ (g.name, bytes_at files (path_of g.content))

  -- the files of a folder, sorted
  pub folder_taken : HasTexts (module_with_folder (c, folder)) → NeverFalls (map pair_of us) → AreTakenOf c (of.Folder folder) us
  folder_taken has sorted = record { shown = shown; taken = all_taken }
    where
      names : map pair_of us ≡ module_files (module_with_folder (c, folder))
      names =
          items_sorted pair_of (map (named_file c folder) folder.files) ts us
          (ap (map pair_of) are ∙ mapped_twice pair_of (folder_file (name_of c) folder) folder.files)
          moved sorted (folder_differ c folder has)

      shown : (files : Files) (b : List ℕ) → map (written_in files b) us
          ≡ resources_of files (module_files (module_with_folder (c, folder)))
      shown files b = written_files files b us all_taken ∙ ap (resources_of files) names

-- Files of an image

pub entries_taken : (c : Candidate) (entries : EntryFiles) (fs : List LinkFile)
    → fs ≡ map (entry_file (name_of c) entries.info) entries.files → AreTakenOf c (of.Image entries) fs
entries_taken c entries fs are = record {
  shown = λ files b.
      ap (map (written_in files b)) are ∙ mapped_twice (written_in files b) (entry_file (name_of c) entries.info) entries.files
      ∙ sym (mapped_twice (resource_of (name_of c)) (file_in b) entries.files);
  taken = subst (All (IsTakenOf c (of.Image entries))) (sym are)
      (all_from_contains (IsTakenOf c (of.Image entries)) (map (entry_file (name_of c) entries.info) entries.files)
      (λ f there. let from = from_map (entry_file (name_of c) entries.info) entries.files f there in (from.0, from.1, sym from.2)));
}
