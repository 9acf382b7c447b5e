-- Relinking gives back the image that a link made, wherever that took its modules from.
use Rattle.std.proofs.Common.{◌≡◌, ℕ, List, [], ◌∷◌, Some, Result, Ok, Err, refl, sym, ap, subst, ◌∙◌}
use Rattle.jm_bytes.proofs.Choice.{same_ok}
use Rattle.jm_bytes.proofs.Members.{contains_none}
use Rattle.jm_link.specs.declared.linking.LinkStop.{LinkStop}
use Rattle.jm_link.specs.declared.linking.LinkStop.TheVariants as stop
use Rattle.jm_link.specs.declared.linking.Summary.{Summary}
use Rattle.jm_link.specs.Linked.{LinkedImage, LinksFrom, Request}
use Rattle.jm_link.specs.Links.{ComesTo, LinksBy}
use Rattle.jm_link.specs.Relinked.{GivesBack, IsGivenBack, Relinks}
use Rattle.jm_link.specs.Steps.{Lacks}
use Rattle.jm_modpath.specs.Listed.{IsBelow}
use Rattle.jm_modset.specs.Found.{image_alone}
use Rattle.jm_modset.specs.Parts.{TellsNothing}
use Rattle.jm_outside.specs.Holds.{Holds}
use Rattle.jm_outside.specs.Shelves.{ShelfSeen}
use Rattle.jm_texts.specs.declared.refusal.Refusal.{Refusal}
use Rattle.jm_link.proofs.OnceLaws.{links_once}
use Rattle.jm_link.proofs.RelinkedLaws.{comes_again}

module _ (b : List ℕ) (asked : Request) (relinks : Relinks b asked) where
  abbrev again : LinkedImage
  again = relinks.was.image

  pub same_bytes : (image : LinkedImage) → LinksFrom (image_alone b) asked (Ok image) → image.bytes ≡ b
  same_bytes image links =
      let same = same_ok {E = Refusal} image again (links_once (image_alone b) asked (Ok image) (Ok again) links (comes_again b asked relinks)) in
      ap (λ (x : LinkedImage). x.bytes) same ∙ sym relinks.was.made

  pub never_refused : (refusal : Refusal) → LinksFrom (image_alone b) asked (Err refusal) → ⊥
  never_refused refusal links = not_both (links_once (image_alone b) asked (Err refusal) (Ok again) links (comes_again b asked relinks))
    where
      not_both : ◌≡◌ {A = Result LinkedImage Refusal} (Err refusal) (Ok again) → ⊥
      not_both same = cc

  given : (Absent : Type 0) (path : List ℕ) (answer : Result Summary LinkStop) (old new : ShelfSeen)
      → ((listed : List ℕ) → answer ≡ Err (stop.NotThere listed) → Absent → ⊥)
      → LinksBy (ComesTo old.told (Some b) [] asked) Absent path answer old new → IsGivenBack b path answer old.told new.told
  given Absent path (Ok summary) old new never (image, comes, is, stands) =
      subst (λ x. Holds old.told path x new.told) (same_bytes image comes.0) stands.holds
  given Absent path (Err (stop.Refused refusal)) old new never did = never_refused refusal did.0.0
  given Absent path (Err (stop.NotThere listed)) old new never did = never listed refl did.0
  given Absent path (Err stop.Outside) old new never did = tt
  given Absent path (Err stop.Memory) old new never did = tt

-- relinking gives an image back, where no listed file can be missing
pub given_back : (b : List ℕ) (asked : Request) (path : List ℕ) (answer : Result Summary LinkStop) (old new : ShelfSeen)
    → LinksBy (ComesTo old.told (Some b) [] asked) ⊥ path answer old new → GivesBack (Some b) [] asked path answer old.told new.told
given_back b asked path answer old new did = λ relinks. given b asked relinks ⊥ path answer old new (λ listed is none. none) did

-- so it does where a file that is missing lies below a directory of the module path
pub gives_back : (b : List ℕ) (directories : List (List ℕ)) (asked : Request) (path : List ℕ) (answer : Result Summary LinkStop)
    (old new : ShelfSeen) → Lacks (IsBelow directories) answer
    → LinksBy (ComesTo old.told (Some b) directories asked) (TellsNothing old.told) path answer old new
    → GivesBack (Some b) directories asked path answer old.told new.told
gives_back b [] asked path answer old new lacks did = λ relinks.
    given b asked relinks (TellsNothing old.told) path answer old new
    (λ listed is absent.
    let below : IsBelow [] listed = subst (Lacks (IsBelow [])) is lacks in
    contains_none below.0 below.1) did
gives_back b (directory ∷ directories) asked path answer old new lacks did = tt
