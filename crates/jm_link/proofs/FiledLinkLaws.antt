-- A link of the modules of an image in a file, and of a module path, from what its steps read and did.
-- All that was read fits together to one file of the image's index, which is the told one where files are
-- told.
use Rattle.std.proofs.Common.{◌≡◌, ◌≤◌, ◌+◌, inl, inr, ℕ, true, false, List, ◌++◌, map, Contains, Option, Some, None}
use Rattle.std.proofs.Common.{Result, Ok, Err, refl, sym, ap, subst, ◌∙◌, arith}
use Rattle.std.proofs.lemmas.Bool.{true≢false}
use Rattle.std.proofs.lemmas.List.Elements.{All-append, All-contains, Contains-append_cases, Contains-append_right}
use Rattle.jm_bytes.proofs.Choice.{same_some}
use Rattle.jm_bytes.proofs.Members.{all_from_contains}
use Rattle.jm_filed.specs.Filed.{IsAt, IsFiled, IsIndexAt}
use Rattle.jm_filed.specs.Parts.{AreRead, HasContents, IsSizedIn, named}
use Rattle.jm_filed.proofs.FileLaws.{file_read}
use Rattle.jm_modpath.specs.Listed.{IsBelow}
use Rattle.jm_modset.specs.Infos.{infos_of, is_info, sizes}
use Rattle.jm_modset.specs.Parts.{TellsNothing}
use Rattle.jm_names.specs.ByName.{Named}
use Rattle.jm_outside.specs.Files.{Files}
use Rattle.jm_outside.specs.Outcome.{Shows}
use Rattle.jm_outside.specs.Shelves.{ShelfFailed, ShelfSeen}
use Rattle.jm_reader.specs.Walk.{entries_of}
use Rattle.jm_relink.specs.declared.modules.ImageModules.{ImageModules}
use Rattle.jm_relink.specs.Gathering.{AreModules}
use Rattle.jm_relink.proofs.ListLaws.{all_front}
use Rattle.jm_texts.specs.declared.refusal.Refusal.{Refusal}
use Rattle.jm_valid.specs.Opened.{Front}
use Rattle.jm_link.specs.declared.linking.LinkStop.{LinkStop}
use Rattle.jm_link.specs.declared.linking.LinkStop.TheVariants as stop
use Rattle.jm_link.specs.declared.linking.Summary.{Summary}
use Rattle.jm_link.specs.FiledLinked.{FiledLinks, IndexedFile}
use Rattle.jm_link.specs.ImageSteps.{HasModules, IsUnseen, ReadsModules, ShowsIn}
use Rattle.jm_link.specs.Linked.{LinkedImage, LinksFrom, Request}
use Rattle.jm_link.specs.Links.{ComesTo, LinksBy, path_files}
use Rattle.jm_link.specs.ModuleSteps.{ReadLinks, sources}
use Rattle.jm_link.specs.Steps.{Lacks, StepStops}
use Rattle.jm_link.specs.Taken.{LinkTakes, TakesOf}
use Rattle.jm_link.proofs.GivenBack.{gives_back}
use Rattle.jm_link.proofs.LinkingLaws.{links_sooner}
use Rattle.jm_link.proofs.PartLaws.{same_sizes}

-- a step ended the work with its answer, or since a call of the shelf gave up
pub stopped : (Comes : Result LinkedImage Refusal → Type 0) (Absent : Type 0) (Refuses : Refusal → Type 0) (path : List ℕ)
    (given : LinkStop) (old new : ShelfSeen) → new.told ≡ old.told → StepStops Refuses Absent (Unit {0}) given
    → ((r : Refusal) → Refuses r → Comes (Err r)) → (given ≡ stop.Outside → ShelfFailed old new)
    → LinksBy Comes Absent path (Err given) old new
stopped Comes Absent Refuses path (stop.Refused r) old new same is comes failed = (comes r is, same)
stopped Comes Absent Refuses path (stop.NotThere listed) old new same is comes failed = (is, same)
stopped Comes Absent Refuses path stop.Outside old new same is comes failed = (inl same, failed refl)
stopped Comes Absent Refuses path stop.Memory old new same is comes failed = inl same

-- a link that ended so
abbrev ends : LinkStop → Result Summary LinkStop
ends given = Err given

-- what holds of all files holds of those that are shown
all_shown : (t : Option Files) (P : Files → Type 0) → ((files : Files) → P files) → Shows t P
all_shown None P all = tt
all_shown (Some files) P all = all files

-- the same link from before some calls that changed no file, none of which failed
pub reads_sooner : (path : List ℕ) (directories : List (List ℕ)) (asked : Request) (modules : ImageModules) (output : List ℕ)
    (answer : Result Summary LinkStop) (first old new : ShelfSeen) (second last : ℕ) → old.told ≡ first.told
    → old.faults ≡ first.faults → ReadLinks path directories asked modules output answer old new second last
    → ReadLinks path directories asked modules output answer first new second last
reads_sooner path directories asked modules output answer first old new second last same kept links = record {
  read = links.read;
  agree = links.agree;
  plain = links.plain;
  sized = links.sized;
  contents = λ b has.
      subst (λ (t : Option Files). IsAt t path b → Shows t (λ files. HasContents b links.read)) same (links.contents b has);
  links = λ image has held.
      links_sooner (ComesTo first.told image directories asked) (TellsNothing first.told) output first old new same kept answer
      (subst (λ (t : Option Files). LinksBy (ComesTo t image directories asked) (TellsNothing t) output answer old new) same
      (links.links image has held));
  takes = λ image has held sooner most.
      subst (λ (t : Option Files). LinkTakes t image directories asked sooner last) same (links.takes image has held sooner most);
}

module _ (index : Front) (directories : List (List ℕ)) (asked : Request) (path output : List ℕ) (old : ShelfSeen)
    (there : IsIndexAt index old.told path) (first second : ℕ) where
  abbrev source : Option IndexedFile
  source = Some (record { index = index; path = path })

  -- of one file of the index it did what is due
  did : (b : List ℕ) → IsFiled index old.told path b → (answer : Result Summary LinkStop) (new : ShelfSeen) (last : ℕ)
      → Lacks (IsBelow directories) answer
      → LinksBy (ComesTo old.told (Some b) directories asked) (TellsNothing old.told) output answer old new
      → LinkTakes old.told (Some b) directories asked first last
      → FiledLinks source directories asked output answer old new first last
  did b filed answer new last lacks links takes = record {
    bytes = Some b;
    are = filed;
    links = links;
    gives_back = gives_back b directories asked output answer old new lacks links;
    takes = takes;
  }

  -- a file with what was read of the descriptors
  record ShownFile (answer : Result ImageModules LinkStop) : Type 0 where
    bytes : List ℕ
    filed : IsFiled index old.told path bytes
    shows : ShowsIn asked.release bytes answer
    takes : second ≤ first + sizes (infos_of bytes)

  shown_file : (answer : Result ImageModules LinkStop) → ReadsModules index old.told path asked.release answer first second
      → ShownFile answer
  shown_file answer shows =
      let is = file_read index shows.images.0 shows.images.1 old.told path there shows.read shows.are in
      record { bytes = is.0; filed = is.1; shows = shows.shows is.0 is.1.0 is.2; takes = shows.takes is.0 is.1.0 }

  -- the modules are refused
  unseen : (b : List ℕ) (r : Refusal) → IsUnseen asked.release b r → ComesTo old.told (Some b) directories asked (Err r)
  unseen b r (fault, finds, is) = (
    all_shown (path_files directories old.told) (λ files. LinksFrom (sources (Some b) directories files) asked (Err r))
        (λ files. rw is (Err _, (Err _, (Err fault, finds, refl), refl), refl)),
    tt,
  )

  lacks_not : (b : List ℕ) (given : LinkStop) → StepStops (IsUnseen asked.release b) ⊥ (Unit {0}) given
      → Lacks (IsBelow directories) (ends given)
  lacks_not b (stop.Refused r) is = tt
  lacks_not b (stop.NotThere listed) is = absurd is
  lacks_not b stop.Outside is = tt
  lacks_not b stop.Memory is = tt

  maybe_absent : (b : List ℕ) (given : LinkStop) → StepStops (IsUnseen asked.release b) ⊥ (Unit {0}) given
      → StepStops (IsUnseen asked.release b) (TellsNothing old.told) (Unit {0}) given
  maybe_absent b (stop.Refused r) is = is
  maybe_absent b (stop.NotThere listed) is = absurd is
  maybe_absent b stop.Outside is = tt
  maybe_absent b stop.Memory is = tt

  -- the modules weren't had
  pub unshown : (given : LinkStop) (new : ShelfSeen) → ReadsModules index old.told path asked.release (Err given) first second
      → new.told ≡ old.told → (given ≡ stop.Outside → ShelfFailed old new)
      → FiledLinks source directories asked output (Err given) old new first second
  unshown given new shows same failed =
      let file = shown_file (Err given) shows in
      let most = file.takes in
      did file.bytes file.filed (Err given) new second (lacks_not file.bytes given file.shows)
      (stopped (ComesTo old.told (Some file.bytes) directories asked) (TellsNothing old.told) (IsUnseen asked.release file.bytes)
      output given old new same (maybe_absent file.bytes given file.shows) (unseen file.bytes) failed)
      (all_shown (path_files directories old.told) (λ files. TakesOf (sources (Some file.bytes) directories files) asked first second)
      (λ files. inl (omega (arith, most))))

  pub lacks_unshown : (given : LinkStop) → ReadsModules index old.told path asked.release (Err given) first second
      → Lacks (IsBelow directories) (ends given)
  lacks_unshown given shows = let file = shown_file (Err given) shows in lacks_not file.bytes given file.shows

  module _ (modules : ImageModules) (shows : ReadsModules index old.told path asked.release (Ok modules) first second) where
    abbrev shown : ShownFile (Ok modules)
    shown = shown_file (Ok modules) shows

    pub are_modules : AreModules modules
    are_modules = shown.shows.are

    -- and the link did what is due
    module _ (answer : Result Summary LinkStop) (new : ShelfSeen) (last : ℕ)
        (links : ReadLinks path directories asked modules output answer old new second last) where
      abbrev others : List Named
      others = links.read

      -- what was read at first and what was read then
      all_read : AreRead index old.told path (shows.read ++ others)
      all_read = record {
        agree = λ p q there too same. elim (Contains-append_cases shows.read others p there) [
          | inl one ↦
              elim (Contains-append_cases shows.read others q too) [
                | inl other ↦ shows.are.agree p q one other same
                | inr other ↦ absurd (mixed p q one other same)
              ]
          | inr one ↦
              elim (Contains-append_cases shows.read others q too) [
                | inl other ↦ absurd (mixed q p other one (sym same))
                | inr other ↦ links.agree p q one other same
              ]
        ];
        sizes = λ b filed. All-append (IsSizedIn (map named (entries_of b))) shows.read others (shows.are.sizes b filed)
            (same_sizes index.bytes index.length shows.images.0 shows.images.1 shown.bytes b shown.filed.0 filed.0 others
            (links.sized shown.bytes shown.shows));
        contents = λ b filed. both old.told b shown.filed.1 filed.1 (shows.are.contents b filed)
            (links.contents shown.bytes shown.shows shown.filed.1);
      }
        where
          mixed : (p q : Named) → Contains shows.read p → Contains others q → p.0 ≡ q.0 → ⊥
          mixed p q one other same =
              true≢false (sym (All-contains (λ (r : Named). is_info r ≡ true) shows.read p shows.infos one)
              ∙ ap (λ n. is_info (n, q.1)) same ∙ All-contains (λ (r : Named). is_info r ≡ false) others q links.plain other)

          both : (t : Option Files) (b : List ℕ) → IsAt t path shown.bytes → IsAt t path b
              → Shows t (λ files. HasContents b shows.read) → Shows t (λ files. HasContents shown.bytes others)
              → Shows t (λ files. HasContents b (shows.read ++ others))
          both None b one at infos rest = tt
          both (Some files) b one at infos rest =
              let same : shown.bytes ≡ b = same_some shown.bytes b (one ∙ sym at) in
              All-append (Contains (map named (entries_of b))) shows.read others infos
              (subst (λ (l : List ℕ). HasContents l others) same rest)

      pub modules_linked : Lacks (IsBelow directories) answer → FiledLinks source directories asked output answer old new first last
      modules_linked lacks =
          let is = file_read index shows.images.0 shows.images.1 old.told path there (shows.read ++ others) all_read in
          let has : HasModules asked.release is.0 modules =
          shows.shows is.0 is.1.0 (all_front (Contains (map named (entries_of is.0))) shows.read others is.2) in
          let held : HasContents is.0 others = all_from_contains (Contains (map named (entries_of is.0))) others
          (λ r one. All-contains (Contains (map named (entries_of is.0))) (shows.read ++ others) r is.2
          (Contains-append_right shows.read others r one)) in
          did is.0 is.1 answer new last lacks (links.links (Some is.0) has held)
          (links.takes (Some is.0) has held first (shows.takes is.0 is.1.0))
