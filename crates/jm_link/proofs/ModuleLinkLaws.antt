-- A link of the modules of an image and of a module path, from what was found, linked, read and written.
use Rattle.std.proofs.Common.{◌≡◌, ◌∙◌, ◌≤◌, ◌+◌, inl, inr, ℕ, false, List, [], ◌∷◌, length, All, Contains, Option}
use Rattle.std.proofs.Common.{Some, None, Result, Ok, Err, refl, sym, subst, arith}
use Rattle.std.proofs.lemmas.List.Elements.{All-contains}
use Rattle.jm_bytes.proofs.Members.{all_from_contains, contains_none, from_map}
use Rattle.jm_closure.specs.declared.candidate.Candidate.{Candidate}
use Rattle.jm_filed.specs.declared.extent.Extent.{Extent}
use Rattle.jm_form.specs.Layout.{Written}
use Rattle.jm_modpath.specs.Listed.{IsBelow, all_infos_size}
use Rattle.jm_modset.specs.declared.contents.ReadStop.{ReadStop}
use Rattle.jm_modset.specs.declared.contents.ReadStop.TheVariants as read_stop
use Rattle.jm_modset.specs.declared.files.Content.{Content}
use Rattle.jm_modset.specs.declared.files.Content.TheVariants as content
use Rattle.jm_modset.specs.declared.files.LinkFile.{LinkFile}
use Rattle.jm_modset.specs.Files.{IsTakenFrom, file_names}
use Rattle.jm_modset.specs.Infos.{is_info, sizes}
use Rattle.jm_modset.specs.Parts.{AreReadAs, IsSizedBy, IsToldIn, OnlyLacks, PathIsText, TellsNothing, read_sizes}
use Rattle.jm_modset.specs.Set.{AreSet, set_in}
use Rattle.jm_modset.specs.Shown.{AreFit, Shown, awaited_at, candidates_of, gathered}
use Rattle.jm_outside.specs.Files.{Files}
use Rattle.jm_outside.specs.Outcome.{Shows}
use Rattle.jm_outside.specs.Shelves.{ShelfFailed, ShelfSeen}
use Rattle.jm_relink.specs.declared.modules.ImageModules.{ImageModules}
use Rattle.jm_texts.specs.declared.refusal.Refusal.{Refusal}
use Rattle.jm_texts.specs.NameRefusals.{first_bad_name}
use Rattle.jm_link.specs.declared.finding.FoundModules.{FoundModules}
use Rattle.jm_link.specs.declared.linking.LinkStop.{LinkStop}
use Rattle.jm_link.specs.declared.linking.Summary.{Summary}
use Rattle.jm_link.specs.declared.modules.LinkedFiles.{LinkedFiles}
use Rattle.jm_link.specs.Closing.{ClosesAmong}
use Rattle.jm_link.specs.Linked.{LinkedImage, LinksFrom, PlugsTo, Request}
use Rattle.jm_link.specs.Links.{ComesTo, LinksBy, PoolComesTo, path_files}
use Rattle.jm_link.specs.ModuleSteps.{AreFound, AreLinked, ComeFrom, HasImage, HoldsRead, ReadLinks, bytes_of, sources}
use Rattle.jm_link.specs.Steps.{LacksBy, stop_of_read}
use Rattle.jm_link.specs.Taken.{LinkTakes, TakesOf, image_infos_size}
use Rattle.jm_link.proofs.AwaitedLaws.{awaited_most}
use Rattle.jm_link.proofs.LinkingLaws.{among_to, links_as, links_sooner, none_absent}
use Rattle.jm_link.proofs.ModuleLaws.{set_candidates}
use Rattle.jm_link.proofs.NothingRead.{as_found, nothing_had}
use Rattle.jm_link.proofs.PartsRead.{all_written, parts, parts_agree, parts_contents, parts_plain, parts_sized}
use Rattle.jm_link.proofs.SetFiles.{StandsIn, file_below, file_text, file_told, part_nowhere, part_plain, part_stands}

-- what holds of the files that are shown, and what is shown of them
shows_at : (t : Option Files) (P : Files → Type 0) → ((files : Files) → t ≡ Some files → P files) → Shows t P
shows_at None P each = tt
shows_at (Some files) P each = each files refl

shown_at : (t : Option Files) (P : Files → Type 0) (files : Files) → Shows t P → t ≡ Some files → P files
shown_at t P files shows is = subst (λ (o : Option Files). Shows o P) is shows

-- where the files of a module path are shown, they are those of each file of its own
sized_by : (directories : List (List ℕ)) (told : Option Files) (files : Files) → path_files directories told ≡ Some files → (c : Content)
    → ((path : List ℕ) → c ≡ content.File path → IsBelow directories path) → IsSizedBy told files c
sized_by directories told files is (content.Part x) below = tt
sized_by [] told files is (content.File path) below = let none = below path refl in absurd (contains_none none.0 none.1)
sized_by (d ∷ directories) told files is (content.File path) below = is

module _ (directories : List (List ℕ)) (asked : Request) (modules : ImageModules) (old : ShelfSeen) (all : FoundModules)
    (are : AreSet all.set) (come : ComeFrom old.told asked.release directories modules all.set) (linked : LinkedFiles)
    (taken : All (IsTakenFrom all.set) linked.files) where
  abbrev fs : List LinkFile
  fs = linked.files

  from : (f : LinkFile) → Contains fs f → IsTakenFrom all.set f
  from f there = All-contains (IsTakenFrom all.set) fs f taken there

  -- Before contents are read

  pub texts : All (λ f. PathIsText f.content) fs
  texts = all_from_contains (λ (f : LinkFile). PathIsText f.content) fs
      (λ f there. file_text old.told asked.release directories modules all.set come f (from f there))

  pub are_told : Shows old.told (λ files. All (λ f. IsToldIn files f.content f.described) fs)
  are_told = shows_at old.told (λ files. All (λ f. IsToldIn files f.content f.described) fs) (λ files some.
      all_from_contains (λ (f : LinkFile). IsToldIn files f.content f.described) fs
      (λ f there. file_told old.told asked.release directories modules all.set come f (from f there) files some))

  -- A listed file that isn't there lies below a directory

  pub lacks_below : (told : Option Files) (error : ReadStop) → OnlyLacks {A = List Written} told fs (Err error)
      → LacksBy (IsBelow directories) (stop_of_read error)
  lacks_below told (read_stop.NotThere path) lacks =
      let one = from_map (λ (f : LinkFile). f.content) fs (content.File path) lacks.1 in
      file_below old.told asked.release directories modules all.set come one.0 (from one.0 one.1) path one.2
  lacks_below told read_stop.Outside lacks = tt
  lacks_below told read_stop.Memory lacks = tt

  -- An image that has the modules

  module _ (image : Option (List ℕ)) (has : HasImage asked.release image modules) where
    stands : (f : LinkFile) → Contains fs f → (x : Extent) → f.content ≡ content.Part x
        → StandsIn (bytes_of image) f.name f.described x
    stands f there x part =
        part_stands old.told asked.release directories modules all.set come f (from f there) x part image has

  plain : (f : LinkFile) → Contains fs f → (x : Extent) → f.content ≡ content.Part x → f.described ≡ None → (text : List ℕ)
      → is_info (f.name, text) ≡ false
  plain f there x part none text =
      part_plain old.told asked.release directories modules all.set come f (from f there) x part are none text

  sized : (files : Files) → path_files directories old.told ≡ Some files → (f : LinkFile) → Contains fs f
      → IsSizedBy old.told files f.content
  sized files some f there =
      sized_by directories old.told files some f.content
      (file_below old.told asked.release directories modules all.set come f (from f there))

  module _ (finds : (image : Option (List ℕ)) → HasImage asked.release image modules
      → Shows (path_files directories old.told) (λ files. AreFound (sources image directories files) asked all))
      (links : (files : Files) (b : List ℕ) → AreLinked all.set all.roots asked.bind files b linked) (fit : AreFit (file_names fs)) where
    -- How much is taken

    module _ (handed mid new_handed : ℕ)
        (infos : Shows (path_files directories old.told) (λ files. mid ≤ handed + all_infos_size files directories))
        (most : (files : Files) → All (λ f. IsSizedBy old.told files f.content) fs → new_handed ≤ mid + read_sizes files fs) where
      pub takes : (image : Option (List ℕ)) → HasImage asked.release image modules → (first : ℕ)
          → handed ≤ first + image_infos_size image → LinkTakes old.told image directories asked first new_handed
      takes image has first sooner =
          shows_at (path_files directories old.told) (λ files. TakesOf (sources image directories files) asked first new_handed) go
        where
          go : (files : Files) → path_files directories old.told ≡ Some files
              → TakesOf (sources image directories files) asked first new_handed
          go files some = inr (
            awaited_at found.found.modules is.places,
            record {
              found = found.found;
              finds = found.finds;
              places = is.places;
              closes =
                  subst (λ (roots : List (List ℕ)). ClosesAmong (candidates_of found.found.modules) roots asked.bind (Ok is.places))
                  found.roots
                  (subst (λ (ms : List Shown). ClosesAmong (candidates_of ms) all.roots asked.bind (Ok is.places)) (sym found.modules)
                  (subst (λ (cs : List Candidate). ClosesAmong cs all.roots asked.bind (Ok is.places))
                  (sym (set_candidates files b all.set are.long)) is.closes));
              fit = subst (λ (ms : List Shown). first_bad_name (gathered ms is.places) ≡ None) (sym found.modules) is.are.0;
              are = refl;
            },
            (let within = shown_at (path_files directories old.told) (λ files. mid ≤ handed + all_infos_size files directories) files
                infos some in
                let read = most files (all_from_contains (λ (f : LinkFile). IsSizedBy old.told files f.content) fs (sized files some)) in
                let awaited = subst (λ (ms : List Shown). read_sizes files fs ≤ sizes (awaited_at ms is.places)) (sym found.modules) own in
                omega (arith, within, read, awaited, sooner)),
          )
            where
              b : List ℕ
              b = bytes_of image

              found : AreFound (sources image directories files) asked all
              found = shown_at (path_files directories old.told) (λ files. AreFound (sources image directories files) asked all) files
                  (finds image has) some

              is : AreLinked all.set all.roots asked.bind files b linked
              is = links files b

              own : read_sizes files fs ≤ sizes (awaited_at (set_in files b all.set) is.places)
              own = awaited_most files b all.set are fs taken fit.differ plain
                  (λ f there x part. (stands image has f there x part).within) is.places is.are.1

      -- Contents weren't read

      pub read_stopped : (path output : List ℕ) (now : Option Files) → now ≡ old.told → (new : ShelfSeen) → new.told ≡ old.told
          → (error : ReadStop) → OnlyLacks {A = List Written} now fs (Err error) → (error ≡ read_stop.Outside → ShelfFailed old new)
          → ReadLinks path directories asked modules output (Err (stop_of_read error)) old new handed new_handed
      read_stopped path output now since new same error lacks failed =
          nothing_had path directories asked modules output (Err (stop_of_read error)) old new handed new_handed
          (λ image has. go image error lacks failed) takes
        where
          go : (image : Option (List ℕ)) (error : ReadStop) → OnlyLacks {A = List Written} now fs (Err error)
              → (error ≡ read_stop.Outside → ShelfFailed old new)
              → LinksBy (ComesTo old.told image directories asked) (TellsNothing old.told) output (Err (stop_of_read error)) old new
          go image (read_stop.NotThere listed) lacks failed = (subst TellsNothing since lacks.0, same)
          go image read_stop.Outside lacks failed = (inl same, failed refl)
          go image read_stop.Memory lacks failed = inl same

      -- They were, and the link came to what they come to

      module _ (path output : List ℕ) (pool : List Written) (read : AreReadAs old.told path fs pool) where
        to : (image : Option (List ℕ)) → HasImage asked.release image modules → HoldsRead image (parts fs pool)
            → (r : Result LinkedImage Refusal) → PoolComesTo asked linked.modules pool r → ComesTo old.told image directories asked r
        to image has held r (comes, laid) =
            (shows_at (path_files directories old.told) (λ files. LinksFrom (sources image directories files) asked r) go, laid)
          where
            nowhere : image ≡ None → (f : LinkFile) → Contains fs f → (x : Extent) → f.content ≡ content.Part x → ⊥
            nowhere none f there x part =
                part_nowhere old.told asked.release directories modules all.set come f (from f there) x part
                (subst (λ (o : Option (List ℕ)). HasImage asked.release o modules) none has)

            go : (files : Files) → path_files directories old.told ≡ Some files → LinksFrom (sources image directories files) asked r
            go files some =
                let b = bytes_of image in
                let is = links files b in
                let found = shown_at (path_files directories old.told) (λ files. AreFound (sources image directories files) asked all)
                files (finds image has) some in
                let same : gathered (set_in files b all.set) is.places ≡ pool =
                sym is.are.1 ∙ all_written old.told path fs pool read image files held nowhere (stands image has) (sized files some) in
                let plugged = subst (λ (rs : List Written). PlugsTo asked (length is.places) rs r) (sym same)
                (subst (λ (n : ℕ). PlugsTo asked n pool r) is.modules comes) in
                as_found (sources image directories files) asked all are.long found r
                (among_to asked all.roots all.set.candidates (gathered (set_in files b all.set)) is.places is.closes r
                (rw is.are.0 plugged))

        pub modules_read : (now new : ShelfSeen) → now.told ≡ old.told → now.faults ≡ old.faults → (answer : Result Summary LinkStop)
            → LinksBy (PoolComesTo asked linked.modules pool) ⊥ output answer now new
            → ReadLinks path directories asked modules output answer old new handed new_handed
        modules_read now new same kept answer did = record {
          read = parts fs pool;
          agree = parts_agree old.told path fs pool read fit.differ;
          plain = parts_plain old.told path fs pool read plain;
          sized = λ b has. parts_sized old.told path fs pool read b (stands (Some b) has);
          contents = λ b has. parts_contents old.told path fs pool read b (stands (Some b) has);
          links = λ image has held.
              links_sooner (ComesTo old.told image directories asked) (TellsNothing old.told) output old now new same kept answer
              (links_as (PoolComesTo asked linked.modules pool) (ComesTo old.told image directories asked) ⊥ (TellsNothing old.told)
              output answer now new (to image has held) (none_absent old.told) did);
          takes = λ image has held. takes image has;
        }
