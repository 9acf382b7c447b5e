-- The files of a module set, one by one: where each comes from, and what its content is.
use Rattle.std.proofs.Common.{◌≡◌, ◌≢◌, ◌∙◌, ℕ, zero, suc, Bool, true, false, List, [], ◌∷◌, length, AllPairs, Contains, Option}
use Rattle.std.proofs.Common.{Some, None, option_map, slice_get, IfSome, IsUtf8, Result, Ok, Err, inl, inr, cond, append_assoc, refl, sym, ap, subst}
use Rattle.std.proofs.lemmas.List.Elements.{All-contains}
use Rattle.std.proofs.lemmas.Option.{slice_get-map}
use Rattle.std.proofs.lemmas.Slice.Eq.{bytes_eq-Decides}
use Rattle.std.specs.List.{flat_map, zip}
use Rattle.std.specs.Str.{bytes_eq}
use Rattle.jm_bytes.proofs.Choice.{mapped_some, same_some}
use Rattle.jm_bytes.proofs.Members.{contains_cases, contains_map, contains_none, from_filter_map}
use Rattle.jm_bytes.proofs.SameOrder.{from_flat_map}
use Rattle.jm_closure.specs.declared.candidate.Candidate.{Candidate}
use Rattle.jm_closure.specs.Modules as closure
use Rattle.jm_filed.specs.declared.extent.Extent.{Extent}
use Rattle.jm_filed.specs.Filed.{IsWithin, content_at}
use Rattle.jm_form.specs.ModuleFiles.{info_name}
use Rattle.jm_modinfo.specs.declared.descriptor.Descriptor.{Descriptor}
use Rattle.jm_modinfo.specs.declared.faults.DescriptorFault.{DescriptorFault}
use Rattle.jm_modpath.specs.declared.visible.VisibleModule.{VisibleModule}
use Rattle.jm_modpath.specs.Finding.{HasTexts}
use Rattle.jm_modpath.specs.Listed.{IsBelow, IsInside}
use Rattle.jm_modpath.specs.Modules.{bytes_at, folder_info, folders_in, info_path, inside, module_in, module_of, modules_in, visible}
use Rattle.jm_modpath.specs.ModulesView.{module_with_folder}
use Rattle.jm_modpath.proofs.StepLaws.{from_unhidden, listed_there}
use Rattle.jm_modpath.proofs.TextCuts.{inside_is_text}
use Rattle.jm_modset.specs.declared.files.Content.{Content}
use Rattle.jm_modset.specs.declared.files.Content.TheVariants as content
use Rattle.jm_modset.specs.declared.files.LinkFile.{LinkFile}
use Rattle.jm_modset.specs.declared.set.EntryFiles.{EntryFiles}
use Rattle.jm_modset.specs.declared.set.ModuleFiles.{ModuleFiles}
use Rattle.jm_modset.specs.declared.set.ModuleFiles.TheVariants as of
use Rattle.jm_modset.specs.declared.set.ModuleSet.{ModuleSet}
use Rattle.jm_modset.specs.Files.{IsTakenFrom, IsTakenOf, described_of}
use Rattle.jm_modset.specs.Infos.{has_info_path, is_info}
use Rattle.jm_modset.specs.Parts.{IsToldIn, PathIsText}
use Rattle.jm_modset.specs.Set.{AreSet, IsFrom, IsItem, items}
use Rattle.jm_names.specs.ByName.{Named}
use Rattle.jm_outside.specs.Files.{Files, file, names_below}
use Rattle.jm_outside.specs.Outcome.{Shows}
use Rattle.jm_relink.specs.declared.modules.ImageFile.{ImageFile}
use Rattle.jm_relink.specs.declared.modules.ImageModules.{ImageModules}
use Rattle.jm_relink.specs.Choosing.{WasRead}
use Rattle.jm_relink.specs.Files.{AllWithin, file_in, file_name, files_in, resources_of}
use Rattle.jm_relink.specs.Groups.{info_content}
use Rattle.jm_relink.specs.Modules.{IsSeenIn, SeenModule}
use Rattle.jm_relink.proofs.AskedLaws.{visible_in}
use Rattle.jm_relink.proofs.ChoosingLaws.{descriptor_read}
use Rattle.jm_relink.proofs.NameLaws.{parts_of_file}
use Rattle.jm_link.specs.ImageSteps.{HasModules}
use Rattle.jm_link.specs.Links.{path_files}
use Rattle.jm_link.specs.ModuleSteps.{ComeFrom, HasImage, bytes_of}
use Rattle.jm_modset.proofs.ItemLaws.{got}

-- Two lists side by side

-- what stands at one place of two lists
pub record StandAt {X Y : Type 0} (xs : List X) (ys : List Y) (p : X × Y) : Type 0 where
  pub place : ℕ
  pub first : slice_get xs place ≡ Some p.0
  pub second : slice_get ys place ≡ Some p.1

pub zip_at : {X Y : Type 0} (xs : List X) (ys : List Y) (p : X × Y) → Contains (zip xs ys) p → StandAt xs ys p
zip_at [] ys p there = absurd (contains_none p there)
zip_at (x ∷ xs) [] p there = absurd (contains_none p there)
zip_at (x ∷ xs) (y ∷ ys) p there = elim (contains_cases (x, y) (zip xs ys) p there) [
  | inl same ↦ record { place = 0; first = ap (λ q. Some q.0) same; second = ap (λ q. Some q.1) same }
  | inr later ↦
      let at = zip_at xs ys p later in
      record { place = suc at.place; first = at.first; second = at.second }
]

-- Files of a module path

-- what a folder with told files shows of itself
abbrev IsAsTold : Files → VisibleModule → Type 0
IsAsTold files m = (m.files ≡ names_below m.folder files) × (m.info ≡ bytes_at files (info_path m.folder))

told_in : (files : Files) (folder : List ℕ) (said : Result Descriptor DescriptorFault) (m : VisibleModule)
    → module_of files folder said ≡ Some m → IsAsTold files m
told_in files folder (Err fault) m is = cc
told_in files folder (Ok d) m is = subst (IsAsTold files) (same_some _ m is) (refl, refl)

-- a visible module has the files below its folder, and the bytes of its descriptor
visible_told : (release : ℕ) (files : Files) (directories : List (List ℕ)) (m : VisibleModule)
    → Contains (visible release files directories) m → IsAsTold files m
visible_told release files directories m there =
    let one = from_flat_map (modules_in release files) directories m (from_unhidden [] (flat_map (modules_in release files)
    directories) m there) in
    let folder = from_filter_map (λ folder. module_in release files (inside one.0 folder)) (folders_in files one.0) m one.2 in
    told_in files (inside one.0 folder.0) (folder_info release files (inside one.0 folder.0)) m folder.2

-- what was described of a file is what it has
described_told : (files : Files) (m : VisibleModule) (path : List ℕ) → m.info ≡ bytes_at files (info_path m.folder)
    → IfSome (described_of m.info path) (λ bytes. bytes ≡ bytes_at files (inside m.folder path))
described_told files m path is = go (bytes_eq path info_name) refl
  where
    go : (same : Bool) → bytes_eq path info_name ≡ same
        → IfSome (cond same (Some m.info) None) (λ bytes. bytes ≡ bytes_at files (inside m.folder path))
    go true same = is ∙ ap (λ p. bytes_at files (inside m.folder p)) (sym ((bytes_eq-Decides path info_name).0 same))
    go false same = tt

-- Files of a set

module _ (told : Option Files) (release : ℕ) (directories : List (List ℕ)) (image : ImageModules) (set : ModuleSet)
    (come : ComeFrom told release directories image set) (f : LinkFile) (taken : IsTakenFrom set f) where
  from : IsFrom image come.path taken.candidate taken.files
  from = All-contains (λ (m : Candidate × ModuleFiles). IsFrom image come.path m.0 m.1) (items set)
      (taken.candidate, taken.files) come.from taken.there

  -- the path of a file is text
  pub file_text : PathIsText f.content
  file_text = go taken.files taken.of from
    where
      go : (files : ModuleFiles) → IsTakenOf taken.candidate files f → IsFrom image come.path taken.candidate files
          → PathIsText f.content
      go (of.Folder folder) (path, there, is) among =
          let texts = All-contains HasTexts come.path (module_with_folder (taken.candidate, folder)) come.texts among in
          subst (λ (g : LinkFile). PathIsText g.content) (sym is)
          (inside_is_text folder.path path texts.folder (All-contains IsUtf8 folder.files path texts.files there))
      go (of.Image entries) (file, there, is) among = subst (λ (g : LinkFile). PathIsText g.content) (sym is) tt

  -- and lies below a directory
  pub file_below : (path : List ℕ) → f.content ≡ content.File path → IsBelow directories path
  file_below path at = go taken.files taken.of from
    where
      same_path : (one other : List ℕ) → ◌≡◌ {A = Content} (content.File one) (content.File other) → one ≡ other
      same_path one other same = cc

      no_part : (one : List ℕ) (x : Extent) → ◌≡◌ {A = Content} (content.Part x) (content.File one) → ⊥
      no_part one x same = cc

      deeper : (directory folder name : List ℕ) → IsInside directory folder → IsInside directory (inside folder name)
      deeper directory folder name (rest, is) =
          (inside rest name, ap (λ f. inside f name) is ∙ append_assoc directory (47 ∷ rest) (47 ∷ name))

      go : (files : ModuleFiles) → IsTakenOf taken.candidate files f → IsFrom image come.path taken.candidate files
          → IsBelow directories path
      go (of.Folder folder) (name, there, is) among =
          let below = All-contains (λ (m : VisibleModule). IsBelow directories m.folder) come.path
          (module_with_folder (taken.candidate, folder)) come.below among in
          let own : inside folder.path name ≡ path =
          same_path (inside folder.path name) path (sym (ap (λ (g : LinkFile). g.content) is) ∙ at) in
          (below.0, below.1, subst (IsInside below.0) own (deeper below.0 folder.path name below.2))
      go (of.Image entries) (file, there, is) among =
          absurd (no_part path file.content (sym (ap (λ (g : LinkFile). g.content) is) ∙ at))

  -- it is told, where files are told
  pub file_told : (files : Files) → told ≡ Some files → IsToldIn files f.content f.described
  file_told files some = go taken.files taken.of from
    where
      shown : (directories : List (List ℕ)) → ((path : List ℕ) → f.content ≡ content.File path → IsBelow directories path)
          → Shows (path_files directories told) (λ files. come.path ≡ visible release files directories)
          → (m : VisibleModule) → Contains come.path m → (path : List ℕ) → f.content ≡ content.File path → IsAsTold files m
      shown [] below shows m among path at = let none = below path at in absurd (contains_none none.0 none.1)
      shown (d ∷ ds) below shows m among path at =
          let same = subst (λ (t : Option Files). Shows t (λ files. come.path ≡ visible release files (d ∷ ds))) some shows in
          visible_told release files (d ∷ ds) m (subst (λ (ms : List VisibleModule). Contains ms m) same among)

      go : (mine : ModuleFiles) → IsTakenOf taken.candidate mine f → IsFrom image come.path taken.candidate mine
          → IsToldIn files f.content f.described
      go (of.Folder folder) (name, there, is) among =
          let m = module_with_folder (taken.candidate, folder) in
          let has = shown directories file_below come.shown m among (inside folder.path name) (ap (λ (g : LinkFile). g.content) is) in
          subst (λ (g : LinkFile). IsToldIn files g.content g.described) (sym is) (
            listed_there files folder.path name (subst (λ (names : List (List ℕ)). Contains names name) has.0 there),
            described_told files m name has.1,
          )
      go (of.Image entries) (file, there, is) among =
          subst (λ (g : LinkFile). IsToldIn files g.content g.described) (sym is) tt

-- Files of an image

-- a file of a module stands in an image
pub record StandsIn (b name : List ℕ) (described : Option (List ℕ)) (x : Extent) : Type 0 where
  pub there : Contains (resources_of b) (name, content_at b x)
  pub within : IsWithin (length b) x
  pub info : IfSome described (λ text. text ≡ content_at b x)

module _ (release : ℕ) (b : List ℕ) (modules : ImageModules) (has : HasModules release b modules) (c : Candidate)
    (info : List ℕ) (files : List ImageFile) (from : Contains (zip modules.candidates (zip modules.infos modules.files)) (c, (info, files)))
  where
    abbrev first : StandAt modules.candidates (zip modules.infos modules.files) (c, (info, files))
    first = zip_at modules.candidates (zip modules.infos modules.files) (c, (info, files)) from

    both_at : {X Y : Type 0} (xs : List X) (ys : List Y) (i : ℕ) (p : X × Y) → slice_get (zip xs ys) i ≡ Some p
        → (slice_get xs i ≡ Some p.0) × (slice_get ys i ≡ Some p.1)
    both_at [] ys i p is = cc
    both_at (x ∷ xs) [] i p is = cc
    both_at (x ∷ xs) (y ∷ ys) zero p is =
        let same = same_some (x, y) p is in (ap (λ q. Some q.0) same, ap (λ q. Some q.1) same)
    both_at (x ∷ xs) (y ∷ ys) (suc i) p is = both_at xs ys i p is

    abbrev i : ℕ
    i = first.place

    abbrev second : (slice_get modules.infos i ≡ Some info) × (slice_get modules.files i ≡ Some files)
    second = both_at modules.infos modules.files i (info, files) first.second

    abbrev seen : List SeenModule
    seen = has.finds.0

    one : (s : SeenModule) × (slice_get seen i ≡ Some s) × (s.candidate ≡ c)
    one = mapped_some (λ (s : SeenModule). s.candidate) (slice_get seen i) c
        (sym (slice_get-map (λ (s : SeenModule). s.candidate) seen i)
        ∙ ap (λ cs. slice_get cs i) (sym has.finds.2.candidates) ∙ first.first)

    own_files : files_in b files ≡ one.0.files
    own_files = same_some (files_in b files) one.0.files
        (sym (ap (option_map (files_in b)) second.1) ∙ sym (slice_get-map (files_in b) modules.files i)
        ∙ ap (λ (fs : List (List Named)). slice_get fs i) has.finds.2.files
        ∙ slice_get-map (λ (s : SeenModule). s.files) seen i ∙ ap (option_map (λ (s : SeenModule). s.files)) one.1)

    info_is : info_content (files_in b files) ≡ Some info
    info_is = same_some (info_content (files_in b files)) (Some info)
        (sym (ap (option_map (λ (fs : List ImageFile). info_content (files_in b fs))) second.1)
        ∙ sym (slice_get-map (λ (fs : List ImageFile). info_content (files_in b fs)) modules.files i)
        ∙ ap (λ xs. slice_get xs i) has.stand.infos ∙ slice_get-map (λ (text : List ℕ). Some text) modules.infos i
        ∙ ap (option_map (λ (text : List ℕ). Some text)) second.0)

    pub image_file : (file : ImageFile) → Contains files file
        → StandsIn b (file_name (closure.name_of c) file.path) (described_of info file.path) file.content
    image_file file there = record {
      there = subst (λ (d : Candidate). Contains (resources_of b) (file_name (closure.name_of d) file.path, content_at b file.content))
          one.2 ((seen_is.files.each file.path (content_at b file.content)).0 among);
      within = All-contains (λ (f : ImageFile). IsWithin (length b) f.content) files file
          (All-contains (AllWithin (length b)) modules.files files has.stand.within (got modules.files i files second.1)) there;
      info = go (bytes_eq file.path info_name) refl;
    }
      where
        seen_is : IsSeenIn release (resources_of b) one.0
        seen_is = All-contains (IsSeenIn release (resources_of b)) seen one.0 (visible_in release b seen has.finds.1).each
            (got seen i one.0 one.1)

        among : Contains one.0.files (file.path, content_at b file.content)
        among = subst (λ (fs : List Named). Contains fs (file.path, content_at b file.content)) own_files
            (contains_map (file_in b) files file there)

        apart : AllPairs (λ (e f : ImageFile). e.path ≢ f.path) files
        apart = All-contains (λ (fs : List ImageFile). AllPairs (λ (e f : ImageFile). e.path ≢ f.path) fs) modules.files files
            has.are.apart (got modules.files i files second.1)

        go : (same : Bool) → bytes_eq file.path info_name ≡ same
            → IfSome (cond same (Some info) None) (λ text. text ≡ content_at b file.content)
        go true same =
            All-contains (WasRead b info) files file (descriptor_read b info files apart info_is) there
            ((bytes_eq-Decides file.path info_name).0 same)
        go false same = tt

-- a part of an image stands in each that has the modules
module _ (told : Option Files) (release : ℕ) (directories : List (List ℕ)) (image : ImageModules) (set : ModuleSet)
    (come : ComeFrom told release directories image set) (f : LinkFile) (taken : IsTakenFrom set f) (x : Extent)
    (part : f.content ≡ content.Part x) where
  same_part : (one other : Extent) → ◌≡◌ {A = Content} (content.Part one) (content.Part other) → one ≡ other
  same_part one other same = cc

  no_file : (path : List ℕ) (y : Extent) → ◌≡◌ {A = Content} (content.File path) (content.Part y) → ⊥
  no_file path y same = cc

  own_from : IsFrom image come.path taken.candidate taken.files
  own_from = All-contains (λ (m : Candidate × ModuleFiles). IsFrom image come.path m.0 m.1) (items set)
      (taken.candidate, taken.files) come.from taken.there

  pub part_stands : (bytes : Option (List ℕ)) → HasImage release bytes image → StandsIn (bytes_of bytes) f.name f.described x
  part_stands bytes has = go taken.files taken.of own_from
    where
      stands : (bytes : Option (List ℕ)) → HasImage release bytes image → (entries : EntryFiles) (file : ImageFile)
          → Contains entries.files file
          → Contains (zip image.candidates (zip image.infos image.files)) (taken.candidate, (entries.info, entries.files))
          → StandsIn (bytes_of bytes) (file_name (closure.name_of taken.candidate) file.path) (described_of entries.info file.path) file.content
      stands None none entries file there among =
          absurd (contains_none (taken.candidate, (entries.info, entries.files))
          (subst (λ (m : ImageModules). Contains (zip m.candidates (zip m.infos m.files)) (taken.candidate, (entries.info, entries.files)))
          none among))
      stands (Some b) has entries file there among =
          image_file release b image has taken.candidate entries.info entries.files among file there

      go : (mine : ModuleFiles) → IsTakenOf taken.candidate mine f → IsFrom image come.path taken.candidate mine
          → StandsIn (bytes_of bytes) f.name f.described x
      go (of.Folder folder) (path, there, is) among =
          absurd (no_file (inside folder.path path) x (sym (ap (λ (g : LinkFile). g.content) is) ∙ part))
      go (of.Image entries) (file, there, is) among =
          let own : file.content ≡ x = same_part file.content x (sym (ap (λ (g : LinkFile). g.content) is) ∙ part) in
          subst (λ (y : Extent). StandsIn (bytes_of bytes) f.name f.described y) own
          (subst (λ (g : LinkFile). StandsIn (bytes_of bytes) g.name g.described file.content) (sym is)
          (stands bytes has entries file there among))

  -- without an image there is none
  pub part_nowhere : HasImage release None image → ⊥
  part_nowhere none = go taken.files taken.of own_from
    where
      go : (mine : ModuleFiles) → IsTakenOf taken.candidate mine f → IsFrom image come.path taken.candidate mine → ⊥
      go (of.Folder folder) (path, there, is) among = no_file (inside folder.path path) x (sym (ap (λ (g : LinkFile). g.content) is) ∙ part)
      go (of.Image entries) (file, there, is) among =
          contains_none (taken.candidate, (entries.info, entries.files))
          (subst (λ (m : ImageModules). Contains (zip m.candidates (zip m.infos m.files)) (taken.candidate, (entries.info, entries.files)))
          none among)

  -- one that wasn't described is no descriptor
  pub part_plain : AreSet set → f.described ≡ None → (text : List ℕ) → is_info (f.name, text) ≡ false
  part_plain are none text = go taken.files taken.of
      (All-contains (λ (m : Candidate × ModuleFiles). IsItem m.0 m.1) (items set) (taken.candidate, taken.files) are.each taken.there)
    where
      go : (mine : ModuleFiles) → IsTakenOf taken.candidate mine f → IsItem taken.candidate mine → is_info (f.name, text) ≡ false
      go (of.Folder folder) (path, there, is) item =
          absurd (no_file (inside folder.path path) x (sym (ap (λ (g : LinkFile). g.content) is) ∙ part))
      go (of.Image entries) (file, there, is) item =
          ap (λ (g : LinkFile). is_info (g.name, text)) is
          ∙ ap has_info_path (parts_of_file (closure.name_of taken.candidate) file.path item.0)
          ∙ other (bytes_eq file.path info_name) refl (sym (ap (λ (g : LinkFile). g.described) is) ∙ none)
        where
          other : (same : Bool) → bytes_eq file.path info_name ≡ same → cond same (Some entries.info) None ≡ None
              → bytes_eq file.path info_name ≡ false
          other true same never = cc
          other false same never = same
