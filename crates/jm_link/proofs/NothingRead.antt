-- A link that ended before contents were read, from what its steps answered.
use Rattle.std.proofs.Common.{◌≡◌, ◌≤◌, ◌+◌, inl, inr, ℕ, false, Bool, List, [], ◌∷◌, length, map, Contains, Option, Some, None, Result, Ok, Err, refl}
use Rattle.std.proofs.Common.{sym, subst, arith}
use Rattle.std.proofs.lemmas.List.Elements.{All-nil}
use Rattle.jm_bytes.proofs.Members.{contains_none}
use Rattle.jm_filed.specs.Parts.{HasContents, IsSizedIn, named}
use Rattle.jm_closure.specs.declared.candidate.Candidate.{Candidate}
use Rattle.jm_modpath.specs.Listed.{IsBelow, all_infos_size}
use Rattle.jm_modpath.proofs.StepLaws.{told_more}
use Rattle.jm_modset.specs.Found.{Finds, Sources}
use Rattle.jm_modset.specs.Infos.{is_info}
use Rattle.jm_modset.specs.Parts.{TellsNothing}
use Rattle.jm_modset.specs.Set.{set_in}
use Rattle.jm_modset.specs.Shown.{Shown, candidates_of, gathered}
use Rattle.jm_names.specs.ByName.{Named}
use Rattle.jm_outside.specs.Files.{Files}
use Rattle.jm_outside.specs.Outcome.{Shows}
use Rattle.jm_outside.specs.Shelves.{ShelfFailed, ShelfSeen}
use Rattle.jm_reader.specs.Walk.{entries_of}
use Rattle.jm_relink.specs.declared.modules.ImageModules.{ImageModules}
use Rattle.jm_texts.specs.declared.refusal.Refusal.{Refusal}
use Rattle.jm_link.specs.declared.finding.FoundModules.{FoundModules}
use Rattle.jm_link.specs.declared.linking.LinkStop.{LinkStop}
use Rattle.jm_link.specs.declared.linking.LinkStop.TheVariants as stop
use Rattle.jm_link.specs.declared.linking.Summary.{Summary}
use Rattle.jm_link.specs.Linked.{LinkedImage, LinksAmong, LinksFrom, Request}
use Rattle.jm_link.specs.Links.{ComesTo, LinksBy, path_files}
use Rattle.jm_link.specs.ModuleSteps.{AreFound, FindsSet, HasImage, IsUnlinked, LinksSet, ReadLinks, bytes_of, sources}
use Rattle.jm_link.specs.Steps.{LacksBy}
use Rattle.jm_link.specs.Taken.{LinkTakes, TakesOf, image_infos_size}
use Rattle.jm_link.proofs.LinkingLaws.{among_to, refused_among}
use Rattle.jm_link.proofs.ModuleLaws.{set_candidates}

-- what no told files show holds of no shelf that tells some
told_not : (directories : List (List ℕ)) (told : Option Files) → Shows (path_files directories told) (λ files. ⊥) → TellsNothing told
told_not [] told never = absurd never
told_not (d ∷ directories) told shows = shows

-- Modules, files and closures

-- a set's modules, found, with a link of them
pub as_found : (source : Sources) (asked : Request) (all : FoundModules) → length all.set.candidates ≡ length all.set.files
    → AreFound source asked all → (r : Result LinkedImage Refusal)
    → LinksAmong asked all.roots all.set.candidates (gathered (set_in source.files (bytes_of source.image) all.set)) r
    → LinksFrom source asked r
as_found source asked all long is r links = (
  Ok is.found,
  is.finds,
  subst (λ (roots : List (List ℕ)). LinksAmong asked roots (candidates_of is.found.modules) (gathered is.found.modules) r) is.roots
      (subst (λ (ms : List Shown). LinksAmong asked all.roots (candidates_of ms) (gathered ms) r) (sym is.modules)
      (subst (λ (cs : List Candidate). LinksAmong asked all.roots cs
      (gathered (set_in source.files (bytes_of source.image) all.set)) r)
      (sym (set_candidates source.files (bytes_of source.image) all.set long)) links)),
)

-- a link that had nothing of an image's contents: what it did of each image that has the modules, and took
pub nothing_had : (path : List ℕ) (directories : List (List ℕ)) (asked : Request) (modules : ImageModules) (output : List ℕ)
    (answer : Result Summary LinkStop) (old new : ShelfSeen) (handed new_handed : ℕ)
    → ((image : Option (List ℕ)) → HasImage asked.release image modules
    → LinksBy (ComesTo old.told image directories asked) (TellsNothing old.told) output answer old new)
    → ((image : Option (List ℕ)) → HasImage asked.release image modules → (first : ℕ) → handed ≤ first + image_infos_size image
    → LinkTakes old.told image directories asked first new_handed)
    → ReadLinks path directories asked modules output answer old new handed new_handed
nothing_had path directories asked modules output answer old new handed new_handed links takes = record {
  read = [];
  agree = λ p q there. absurd (contains_none p there);
  plain = All-nil (λ (r : Named). is_info r ≡ false);
  sized = λ b has. All-nil (IsSizedIn (map named (entries_of b)));
  contents = λ b has at. shown old.told b;
  links = λ image has held. links image has;
  takes = λ image has held. takes image has;
}
  where
    shown : (t : Option Files) (b : List ℕ) → Shows t (λ files. HasContents b [])
    shown None b = tt
    shown (Some files) b = All-nil (Contains (map named (entries_of b)))

module _ (path : List ℕ) (directories : List (List ℕ)) (asked : Request) (modules : ImageModules) (output : List ℕ)
    (old new : ShelfSeen) (handed new_handed : ℕ)
    (most : Shows (path_files directories old.told) (λ files. new_handed ≤ handed + all_infos_size files directories)) where
  -- by what it did of each image, with nothing read
  nothing_read : (answer : Result Summary LinkStop)
      → ((image : Option (List ℕ)) → HasImage asked.release image modules
      → LinksBy (ComesTo old.told image directories asked) (TellsNothing old.told) output answer old new)
      → ReadLinks path directories asked modules output answer old new handed new_handed
  nothing_read answer links =
      nothing_had path directories asked modules output answer old new handed new_handed links
      (λ image has first sooner.
      told_more (path_files directories old.told) (λ files. new_handed ≤ handed + all_infos_size files directories)
      (λ files. TakesOf (sources image directories files) asked first new_handed)
      (λ files below. inl (omega (arith, sooner, below))) most)

  -- no modules were found
  pub found_stopped : (given : LinkStop) → new.told ≡ old.told
      → ((image : Option (List ℕ)) → HasImage asked.release image modules
      → Shows (path_files directories old.told) (λ files. FindsSet (sources image directories files) asked (Err given)))
      → (given ≡ stop.Outside → ShelfFailed old new)
      → ReadLinks path directories asked modules output (Err given) old new handed new_handed
  found_stopped given same finds failed = nothing_read (Err given) (λ image has. go given image (finds image has) failed)
    where
      go : (given : LinkStop) (image : Option (List ℕ))
          → Shows (path_files directories old.told) (λ files. FindsSet (sources image directories files) asked (Err given))
          → (given ≡ stop.Outside → ShelfFailed old new)
          → LinksBy (ComesTo old.told image directories asked) (TellsNothing old.told) output (Err given) old new
      go (stop.Refused r) image shows failed = (
        (
          told_more (path_files directories old.told) (λ files. Finds asked.release (sources image directories files) (Err r))
              (λ files. LinksFrom (sources image directories files) asked (Err r)) (λ files finds. (Err r, finds, refl)) shows,
          tt,
        ),
        same,
      )
      go (stop.NotThere listed) image shows failed = (told_not directories old.told shows, same)
      go stop.Outside image shows failed = (inl same, failed refl)
      go stop.Memory image shows failed = inl same

  -- no files are linked of those that were found
  pub links_stopped : (given : LinkStop) (all : FoundModules) → new.told ≡ old.told → length all.set.candidates ≡ length all.set.files
      → ((image : Option (List ℕ)) → HasImage asked.release image modules
      → Shows (path_files directories old.told) (λ files. FindsSet (sources image directories files) asked (Ok all)))
      → ((files : Files) (b : List ℕ) → LinksSet all.set all.roots asked.bind files b (Err given))
      → ReadLinks path directories asked modules output (Err given) old new handed new_handed
  links_stopped given all same long finds links = nothing_read (Err given) (λ image has. go given image (finds image has) links)
    where
      go : (given : LinkStop) (image : Option (List ℕ))
          → Shows (path_files directories old.told) (λ files. AreFound (sources image directories files) asked all)
          → ((files : Files) (b : List ℕ) → LinksSet all.set all.roots asked.bind files b (Err given))
          → LinksBy (ComesTo old.told image directories asked) (TellsNothing old.told) output (Err given) old new
      go (stop.Refused r) image shows links = (
        (
          told_more (path_files directories old.told) (λ files. AreFound (sources image directories files) asked all)
              (λ files. LinksFrom (sources image directories files) asked (Err r))
              (λ files found. as_found (sources image directories files) asked all long found (Err r)
              (refused files (bytes_of image) (links files (bytes_of image)))) shows,
          tt,
        ),
        same,
      )
        where
          refused : (files : Files) (b : List ℕ) → IsUnlinked all.set all.roots asked.bind files b r
              → LinksAmong asked all.roots all.set.candidates (gathered (set_in files b all.set)) (Err r)
          refused files b (inl closes) = refused_among asked all.roots all.set.candidates (gathered (set_in files b all.set)) r closes
          refused files b (inr (places, closes, bad)) =
              among_to asked all.roots all.set.candidates (gathered (set_in files b all.set)) places closes (Err r) (rw bad refl)
      go (stop.NotThere listed) image shows links = absurd (links [] [])
      go stop.Outside image shows links = absurd (links [] [])
      go stop.Memory image shows links = inl same

-- a link that ended so lacks no file
pub links_lack_nothing : (directories : List (List ℕ)) (given : LinkStop) (all : FoundModules) (bind : Bool)
    → ((files : Files) (b : List ℕ) → LinksSet all.set all.roots bind files b (Err given)) → LacksBy (IsBelow directories) given
links_lack_nothing directories (stop.Refused r) all bind links = tt
links_lack_nothing directories (stop.NotThere listed) all bind links = absurd (links [] [])
links_lack_nothing directories stop.Outside all bind links = tt
links_lack_nothing directories stop.Memory all bind links = tt
