-- What a link does, from what its steps did.
use Rattle.std.proofs.Common.{◌≡◌, inl, inr, ℕ, Bool, true, false, List, rules}
use Rattle.std.proofs.Common.{length, Option, Some, None, Result, Ok, Err, refl, sym, ap}
use Rattle.std.proofs.Common.{subst}
use Rattle.jm_bytes.specs.declared.faults.Or.{Or}
use Rattle.jm_bytes.specs.declared.faults.Or.TheVariants as or
use Rattle.jm_bytes.specs.declared.words.Order.{Order}
use Rattle.jm_bytes.specs.Results.{IfAnswered}
use Rattle.jm_closure.specs.declared.candidate.Candidate.{Candidate}
use Rattle.jm_closure.specs.declared.fault.CloseFault.{CloseFault}
use Rattle.jm_closure.specs.Refusals.{Closes}
use Rattle.jm_form.specs.Layout.{Written, names_of}
use Rattle.jm_names.specs.NameFaults.{IsSound}
use Rattle.jm_names.specs.Names.{is_node}
use Rattle.jm_outside.specs.Files.{Files}
use Rattle.jm_outside.specs.Outcome.{Rose}
use Rattle.jm_outside.specs.Shelves.{ShelfFailed, ShelfSeen}
use Rattle.jm_plugins.specs.Plugins.{Applies}
use Rattle.jm_words.specs.declared.tasks.Plugin.{Plugin}
use Rattle.jm_plugins.specs.declared.chain.BadClass.{BadClass}
use Rattle.jm_plugins.proofs.ComputedPluginsLaws.{applies_only}
use Rattle.jm_plugins.proofs.NameLaws.{names_differ, names_kept}
use Rattle.jm_texts.specs.declared.refusal.Refusal.{Refusal}
use Rattle.jm_texts.specs.NameRefusals.{first_bad_name}
use Rattle.jm_link.specs.declared.linking.LinkStop.{LinkStop}
use Rattle.jm_link.specs.declared.linking.LinkStop.TheVariants as stop
use Rattle.jm_link.specs.declared.linking.Summary.{Summary}
use Rattle.jm_link.specs.Chosen.{Chosen}
use Rattle.jm_modset.specs.Parts.{TellsNothing}
use Rattle.jm_modset.specs.Shown.{AreFit}
use Rattle.jm_link.specs.Closing.{ClosesAmong, ClosesWith}
use Rattle.jm_link.specs.Linked.{IsGatheredTo, LinkedImage, LinksAmong, PlugsTo, Request}
use Rattle.jm_link.specs.Linked.{image_with, laid_out, layout_refusal, plugging_refusal}
use Rattle.jm_link.specs.Links.{BreaksOff, IsLaid, LinksBy, PoolComesTo}
use Rattle.jm_link.specs.Steps.{StepStops, stop_of_fault}
use Rattle.jm_link.specs.Written.{WritesImage, WritesPart}
use Rattle.jm_link.proofs.LaidLaws.{laid_free}

-- a failed link of results that are others' too
breaks_as : (One Other : Result LinkedImage Refusal → Type 0) (path : List ℕ) (old new : ShelfSeen)
    → ((r : Result LinkedImage Refusal) → One r → Other r) → BreaksOff One path old new → BreaksOff Other path old new
breaks_as One Other path old new same (inl files) = inl files
breaks_as One Other path old new same (inr (image, comes, part)) = inr (image, same (Ok image) comes, part)

-- the same of results that are others' too, and where the same isn't there
pub links_as : (One Other : Result LinkedImage Refusal → Type 0) (Absent Missing : Type 0) (path : List ℕ)
    (answer : Result Summary LinkStop) (old new : ShelfSeen) → ((r : Result LinkedImage Refusal) → One r → Other r)
    → (Absent → Missing) → LinksBy One Absent path answer old new → LinksBy Other Missing path answer old new
links_as One Other Absent Missing path (Ok summary) old new same absent (image, comes, is, stands) = search (rules)
links_as One Other Absent Missing path (Err (stop.Refused refusal)) old new same absent (comes, files) = search (rules)
links_as One Other Absent Missing path (Err (stop.NotThere listed)) old new same absent (none, files) = search (rules)
links_as One Other Absent Missing path (Err stop.Outside) old new same absent (breaks, failed) = search (rules, breaks_as)
links_as One Other Absent Missing path (Err stop.Memory) old new same absent breaks = search (rules, breaks_as)

-- the same from before some calls that changed no file, none of which failed
module _ (Comes : Result LinkedImage Refusal → Type 0) (Absent : Type 0) (path : List ℕ) (first old new : ShelfSeen)
    (files : old.told ≡ first.told) (kept : old.faults ≡ first.faults) where
  breaks_sooner : BreaksOff Comes path old new → BreaksOff Comes path first new
  breaks_sooner (inl same) = search (rules)
  breaks_sooner (inr (image, comes, part)) = search (rules)

  failed_sooner : ShelfFailed old new → ShelfFailed first new
  failed_sooner = subst (λ (n : ℕ). Rose n new.faults) kept

  pub links_sooner : (answer : Result Summary LinkStop) → LinksBy Comes Absent path answer old new
      → LinksBy Comes Absent path answer first new
  links_sooner (Ok summary) (image, comes, is, stands) = search (rules)
  links_sooner (Err (stop.Refused refusal)) (comes, same) = search (rules)
  links_sooner (Err (stop.NotThere listed)) (none, same) = search (rules)
  links_sooner (Err stop.Outside) (breaks, failed) = search (rules, breaks_sooner, failed_sooner)
  links_sooner (Err stop.Memory) breaks = search (rules, breaks_sooner)

-- A step that ended the work

module _ (Comes : Result LinkedImage Refusal → Type 0) (Absent : Type 0) (path : List ℕ) (old new : ShelfSeen) (same : new.told
    ≡ old.told) where
  -- with its answer, having read nothing
  pub ended : (Refuses : Refusal → Type 0) (given : LinkStop) → StepStops Refuses ⊥ ⊥ given → ((r : Refusal) → Refuses r
      → Comes (Err r)) → LinksBy Comes Absent path (Err given) old new
  ended Refuses (stop.Refused r) is comes = (comes r is, same)
  ended Refuses (stop.NotThere listed) is comes = absurd is
  ended Refuses stop.Outside is comes = absurd is
  ended Refuses stop.Memory is comes = inl same

  -- with the refusal of its fault, or without memory
  pub refused : {A F : Type 0} (refusal_of : F → Refusal) (Due : Result A F → Type 0) (given : Or F) → IfAnswered Due (Err given)
      → ((fault : F) → Due (Err fault) → Comes (Err (refusal_of fault)))
      → LinksBy Comes Absent path (Err (stop_of_fault refusal_of given)) old new
  refused refusal_of Due (or.Fault fault) due comes = (comes fault due, same)
  refused refusal_of Due or.Memory due comes = inl same

-- The image of resources

-- names stay fit under plug-ins
pub fit_left : (release : ℕ) (plugins : List Plugin) (before left : List Written) → Applies release plugins before (Ok left)
    → AreFit (names_of before) → AreFit (names_of left)
fit_left release plugins before left applies fit =
    let is = sym (applies_only release plugins before (Ok left) applies) in
    record {
      differ = names_differ release plugins before left is fit.differ;
      sound = names_kept IsSound release plugins before left is fit.sound;
      plain = names_kept (λ name. is_node name ≡ false) release plugins before left is fit.plain;
    }

module _ (asked : Request) (modules : ℕ) (before : List Written) where
  -- the plug-ins are refused
  pub unplugged : (fault : BadClass) → Applies asked.release asked.plugins before (Err fault)
      → PoolComesTo asked modules before (Err (plugging_refusal fault))
  unplugged fault applies = ((Err fault, applies, refl), tt)

  module _ (resources : List Written) (left : Applies asked.release asked.plugins before (Ok resources))
      (fit : AreFit (names_of resources)) where
    abbrev order : Order
    order = asked.order

    laid : (refused : Option Refusal) → layout_refusal order resources ≡ refused → IsLaid order (laid_out order modules resources refused)
    laid None is = laid_free order resources is modules fit.sound fit.plain
    laid (Some refusal) is = tt

    comes_to : (refused : Option Refusal) → layout_refusal order resources ≡ refused
        → PoolComesTo asked modules before (laid_out order modules resources refused)
    comes_to refused is = (plugged refused is, laid refused is)
      where
        plugged : (refused : Option Refusal) → layout_refusal order resources ≡ refused
            → PlugsTo asked modules before (laid_out order modules resources refused)
        plugged refused is = (Ok resources, left, rw is refl)

    abbrev image : LinkedImage
    image = image_with order modules resources

    part_written : (path : List ℕ) (old new : ShelfSeen) → WritesPart order modules resources path old new
        → BreaksOff (PoolComesTo asked modules before) path old new
    part_written path old new part = inr (image, comes_to None part.free, part.part)

    pub image_written : (path : List ℕ) (answer : Result Summary LinkStop) (old new : ShelfSeen)
        → WritesImage order modules resources path answer old new → LinksBy (PoolComesTo asked modules before) ⊥ path answer old new
    image_written path (Ok summary) old new (none, is, stands) = (image, comes_to None none, is, stands)
    image_written path (Err (stop.Refused given)) old new (is, files) = (comes_to (Some given) is, files)
    image_written path (Err (stop.NotThere listed)) old new never = absurd never
    image_written path (Err stop.Outside) old new (part, failed) = (part_written path old new part, failed)
    image_written path (Err stop.Memory) old new (inl files) = inl files
    image_written path (Err stop.Memory) old new (inr part) = part_written path old new part

-- The closure

module _ (asked : Request) (roots : List (List ℕ)) (found : List Candidate) (resources : List ℕ → List Written) where
  chosen_as : (bind : Bool) (closed : Result (List ℕ) CloseFault) → ClosesWith bind found roots closed
      → Closes found roots (Chosen bind found roots) closed
  chosen_as true closed closes = closes
  chosen_as false closed closes = closes

  -- the closure was had
  pub among_to : (places : List ℕ) → ClosesAmong found roots asked.bind (Ok places) → (r : Result LinkedImage Refusal)
      → IsGatheredTo asked (length places) (resources places) (first_bad_name (resources places)) r
      → LinksAmong asked roots found resources r
  among_to places (free, closes) r comes = rw free (Ok places, chosen_as asked.bind (Ok places) closes, comes)

  -- a reserved name, or the refusal of the closure
  pub refused_among : (given : Refusal) → ClosesAmong found roots asked.bind (Err (stop.Refused given))
      → LinksAmong asked roots found resources (Err given)
  refused_among given (inl is) = rw is refl
  refused_among given (inr (free, (fault, closes, same))) =
      rw free (Err fault, chosen_as asked.bind (Err fault) closes, ap (λ r. Err r) same)

-- reading ended the work
pub unread : (Comes : Result LinkedImage Refusal → Type 0) (path : List ℕ) (given : LinkStop) (old new : ShelfSeen) → new.told
    ≡ old.told → StepStops (λ r. ⊥) (TellsNothing old.told) (Unit {0}) given → (given ≡ stop.Outside → ShelfFailed old new)
    → LinksBy Comes (TellsNothing old.told) path (Err given) old new
unread Comes path (stop.Refused r) old new same is failed = absurd is
unread Comes path (stop.NotThere listed) old new same is failed = (is, same)
unread Comes path stop.Outside old new same is failed = (inl same, failed refl)
unread Comes path stop.Memory old new same is failed = inl same

-- nothing is absent where nothing is read
pub none_absent : (told : Option Files) → ⊥ → TellsNothing told
none_absent told never = absurd never
