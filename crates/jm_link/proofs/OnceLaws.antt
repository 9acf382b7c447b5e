-- A link comes to one image or to one refusal, whatever it takes its modules from.
use Rattle.std.proofs.Common.{◌≡◌, ℕ, List, Option, Some, None, Result, Ok, Err, sym, ap, subst, ◌∙◌, rules}
use Rattle.jm_bytes.specs.declared.words.Order.{Order}
use Rattle.jm_closure.proofs.OnceLaws.{closes_once}
use Rattle.jm_closure.specs.declared.candidate.Candidate.{Candidate}
use Rattle.jm_closure.specs.declared.fault.CloseFault.{CloseFault}
use Rattle.jm_form.specs.Layout.{Written}
use Rattle.jm_modset.specs.Found.{Finds, Found, ImageShows, Sources, found_of, path_shows, reserved, seen_shows}
use Rattle.jm_modset.specs.Shown.{Shown}
use Rattle.jm_plugins.specs.declared.chain.BadClass.{BadClass}
use Rattle.jm_plugins.specs.ComputedPlugins.{apply}
use Rattle.jm_plugins.proofs.ComputedPluginsLaws.{applies_only}
use Rattle.jm_bytes.specs.Results.{followed}
use Rattle.jm_relink.proofs.OnceLaws.{modules_once}
use Rattle.jm_texts.specs.declared.refusal.Refusal.{Refusal}
use Rattle.jm_link.specs.Linked.{IsClosedTo, IsFoundTo, IsGatheredTo, IsLinkedOf, IsPluggedTo}
use Rattle.jm_link.specs.Linked.{LinkedImage, LinksAmong, LinksFound, LinksFrom, PlugsTo, Request}
use Rattle.jm_link.proofs.ChosenLaws.{chosen_below}

abbrev Answer : Type 0
Answer = Result LinkedImage Refusal

plugged_once : (order : Order) (modules : ℕ) (plugged : Result (List Written) BadClass) (a b : Answer)
    → IsPluggedTo order modules plugged a → IsPluggedTo order modules plugged b → a ≡ b
plugged_once order modules (Ok resources) a b one other = one ∙ sym other
plugged_once order modules (Err fault) a b one other = one ∙ sym other

-- what is laid out is what the plug-ins are computed to leave
pub plugs_computed : (asked : Request) (modules : ℕ) (resources : List Written) (r : Answer) → PlugsTo asked modules resources r
    → IsPluggedTo asked.order modules (apply asked.release asked.plugins resources) r
plugs_computed asked modules resources r (left, applies, is) = search (rules, applies_only)

gathered_once : (asked : Request) (modules : ℕ) (resources : List Written) (bad : Option Refusal) (a b : Answer)
    → IsGatheredTo asked modules resources bad a → IsGatheredTo asked modules resources bad b → a ≡ b
gathered_once asked modules resources (Some refusal) a b one other = one ∙ sym other
gathered_once asked modules resources None a b one other =
    plugged_once asked.order modules (apply asked.release asked.plugins resources) a b (plugs_computed asked modules resources a one)
    (plugs_computed asked modules resources b other)

closed_once : (asked : Request) (resources : List ℕ → List Written) (closed : Result (List ℕ) CloseFault) (a b : Answer)
    → IsClosedTo asked resources closed a → IsClosedTo asked resources closed b → a ≡ b
closed_once asked resources (Ok places) a b one other = search (rules, gathered_once)
closed_once asked resources (Err fault) a b one other = search (rules)

linked_once : (asked : Request) (roots : List (List ℕ)) (found : List Candidate) (resources : List ℕ → List Written) (a b : Answer)
    → IsLinkedOf asked roots found resources a → IsLinkedOf asked roots found resources b → a ≡ b
linked_once asked roots found resources a b (closed, closes, is) (closed', closes', is') =
    search (rules, closes_once, chosen_below, closed_once)

found_once : (asked : Request) (roots : List (List ℕ)) (found : List Candidate) (resources : List ℕ → List Written)
    (taken : Option Refusal) (a b : Answer) → IsFoundTo asked roots found resources taken a → IsFoundTo asked roots found resources taken b
    → a ≡ b
found_once asked roots found resources (Some refusal) a b one other = one ∙ sym other
found_once asked roots found resources None a b one other = linked_once asked roots found resources a b one other

-- what a link of modules comes to is one answer, whatever shows them
pub among_once : (asked : Request) (roots : List (List ℕ)) (found : List Candidate) (resources : List ℕ → List Written) (a b : Answer)
    → LinksAmong asked roots found resources a → LinksAmong asked roots found resources b → a ≡ b
among_once asked roots found resources a b one other = found_once asked roots found resources (reserved found) a b one other

-- What is found

image_shows_once : (release : ℕ) (image : Option (List ℕ)) (a b : Result (List Shown) Refusal) → ImageShows release image a
    → ImageShows release image b → a ≡ b
image_shows_once release None a b one other = one ∙ sym other
image_shows_once release (Some bytes) a b (seen, shows, is) (seen', shows', is') =
    is ∙ ap seen_shows (modules_once release bytes seen seen' shows shows') ∙ sym is'

-- what a link finds is one answer
pub finds_once : (release : ℕ) (source : Sources) (a b : Result Found Refusal) → Finds release source a → Finds release source b → a ≡ b
finds_once release source a b (image, shows, is) (image', shows', is') =
    is ∙ ap (λ i. followed i (λ ms. followed (path_shows release source.files source.directories) (λ ps. Ok (found_of source.directories ms ps))))
    (image_shows_once release source.image image image' shows shows') ∙ sym is'

of_found_once : (asked : Request) (found : Result Found Refusal) (a b : Answer) → LinksFound asked found a → LinksFound asked found b → a ≡ b
of_found_once asked (Ok found) a b one other = search (rules, among_once)
of_found_once asked (Err refusal) a b one other = one ∙ sym other

-- the rule of a link has one answer
pub links_once : (source : Sources) (asked : Request) (a b : Answer) → LinksFrom source asked a → LinksFrom source asked b → a ≡ b
links_once source asked a b (found, finds, is) (found', finds', is') =
    of_found_once asked found' a b
    (subst (λ f. LinksFound asked f a) (finds_once asked.release source found found' finds finds') is) is'
