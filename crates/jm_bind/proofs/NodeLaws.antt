-- The graph of modules and services, one node and one edge more.
use Rattle.std.proofs.Common.{◌≡◌, ℕ, zero, suc, ◌+◌, ◌<◌, ◌≤◌, ◌↔◌, ◌⊎◌, inl, inr, Bool, true, false, List, rules}
use Rattle.std.proofs.Common.{[], ◌∷◌, ◌++◌, length, Option, Some, None, Contains, refl, sym, ◌∙◌, subst}
use Rattle.std.proofs.Common.{arith, length-append, length-set, slice_get}
use Rattle.std.proofs.lemmas.Bool.{cases_eq}
use Rattle.std.proofs.lemmas.Slice.Eq.{bytes_eq-Decides}
use Rattle.std.proofs.lemmas.List.Elements.{Contains-push, Contains-push_cases, Contains-append_left}
use Rattle.std.specs.Str.{bytes_eq}
use Rattle.jm_bytes.proofs.Choice.{chosen, same_some}
use Rattle.jm_bytes.proofs.Members.{contains_none}
use Rattle.jm_closure.specs.declared.candidate.Candidate.{Candidate}
use Rattle.jm_closure.specs.Cycles.{IsGraphOf}
use Rattle.jm_closure.specs.Graphs.{ends_at, with_edge, EndsWithin, HasEdge}
use Rattle.jm_closure.specs.Places.{place_in, Puts}
use Rattle.jm_closure.proofs.GraphLaws.{edge_cases, edge_kept, edge_new}
use Rattle.jm_closure.proofs.NameLaws.{within_found}
use Rattle.jm_bind.specs.Binding.{provided_by, ProvidesService, UsesService}
use Rattle.jm_bind.specs.Nodes.{Below, HasNode, IsDrawn, IsStep}

-- A node more, without an edge

ends_more : (graph : List (List ℕ)) (i : ℕ) → ends_at (graph ++ [] ∷ []) i ≡ ends_at graph i
ends_more [] zero = refl
ends_more [] (suc i) = refl
ends_more (ends ∷ graph) zero = refl
ends_more (ends ∷ graph) (suc i) = ends_more graph i

module _ (services services' : List (List ℕ × ℕ)) (service : List ℕ) (node : ℕ)
    (absent : place_in services service ≡ None) (puts : Puts services services' service node) where
  -- which place a text has after a new one was put
  placed_cases : (text : List ℕ) (at : ℕ) → place_in services' text ≡ Some at
      → ((text ≡ service) × (node ≡ at)) ⊎ (place_in services text ≡ Some at)
  placed_cases text at is = search (rules, bytes_eq-Decides, chosen, same_some)

  placed_still : (text : List ℕ) (at : ℕ) → place_in services text ≡ Some at → place_in services' text ≡ Some at
  placed_still text at is = go (bytes_eq text service) refl
    where
      none_some : ◌≡◌ {A = Option ℕ} None (Some at) → ⊥
      none_some e = cc

      go : (b : Bool) → bytes_eq text service ≡ b → place_in services' text ≡ Some at
      go true same =
          absurd (none_some (sym absent ∙ subst (λ t. place_in services t ≡ Some at) ((bytes_eq-Decides text service).0 same) is))
      go false other = rw (puts text, other) is

  -- a text that had a place has it still
  placed_before : (text : List ℕ) (at : ℕ) → (old : ℕ) × (place_in services text ≡ Some old)
      → place_in services' text ≡ Some at → place_in services text ≡ Some at
  placed_before text at (old, was) is =
      was ∙ sym (placed_still text old was) ∙ is

drawn_new : (found : List Candidate) (Uses Provides : ℕ → List ℕ → Type 0) (services services' : List (List ℕ × ℕ))
    (graph : List (List ℕ)) (service : List ℕ)
    → place_in services service ≡ None → Puts services services' service (length graph)
    → IsDrawn found Uses Provides services graph
    → IsDrawn found Uses Provides services' (graph ++ [] ∷ [])
drawn_new found Uses Provides services services' graph service absent puts drawn = record {
  size = (let before = drawn.size in let more = longer in omega arith);
  behind = behind;
  apart = apart;
  used = λ i text uses. let one = drawn.used i text uses in (one.0, (one.1.0, still text one.1.0 one.1.1));
  provided = λ i text provides. let one = drawn.provided i text provides in (one.0, (one.1.0, still text one.1.0 one.1.1));
  exactly = λ i j. (
    (λ edge. later i j ((drawn.exactly i j).0 (subst (λ ends. Contains ends j) (ends_more graph i) edge))),
    (λ step. subst (λ ends. Contains ends j) (sym (ends_more graph i)) ((drawn.exactly i j).1 (earlier i j step))),
  );
}
  where
    longer : length (graph ++ [] ∷ []) ≡ length graph + 1
    longer = length-append graph ([] ∷ [])

    still : (text : List ℕ) (at : ℕ) → place_in services text ≡ Some at → place_in services' text ≡ Some at
    still = placed_still services services' service (length graph) absent puts

    cases : (text : List ℕ) (at : ℕ) → place_in services' text ≡ Some at
        → ((text ≡ service) × (length graph ≡ at)) ⊎ (place_in services text ≡ Some at)
    cases = placed_cases services services' service (length graph) absent puts

    before : (text : List ℕ) (at : ℕ) → (old : ℕ) × (place_in services text ≡ Some old)
        → place_in services' text ≡ Some at → place_in services text ≡ Some at
    before = placed_before services services' service (length graph) absent puts

    behind : (text : List ℕ) (node : ℕ) → place_in services' text ≡ Some node
        → (length found ≤ node) × (node < length (graph ++ [] ∷ []))
    behind text node is =
        let size = drawn.size in
        let more = longer in
        elim (cases text node is) [
          | inl (same, at) ↦ (omega arith, omega arith)
          | inr old ↦ (let was = drawn.behind text node old in let above = was.0 in let below = was.1 in (omega arith, omega arith))
        ]

    apart : (a b : List ℕ) (node : ℕ) → place_in services' a ≡ Some node → place_in services' b ≡ Some node → a ≡ b
    apart a b node is_a is_b = elim (cases a node is_a) [
      | inl (same_a, at_a) ↦ elim (cases b node is_b) [
        | inl (same_b, at_b) ↦ same_a ∙ sym same_b
        | inr old_b ↦ (let below = (drawn.behind b node old_b).1 in absurd (omega arith))
      ]
      | inr old_a ↦ elim (cases b node is_b) [
        | inl (same_b, at_b) ↦ (let below = (drawn.behind a node old_a).1 in absurd (omega arith))
        | inr old_b ↦ drawn.apart a b node old_a old_b
      ]
    ]

    later : (i j : ℕ) → IsStep found Uses Provides services i j → IsStep found Uses Provides services' i j
    later i j (inl requires) = inl requires
    later i j (inr (inl (text, uses, is))) = inr (inl (text, uses, still text j is))
    later i j (inr (inr (text, provides, is))) = inr (inr (text, provides, still text i is))

    earlier : (i j : ℕ) → IsStep found Uses Provides services' i j → IsStep found Uses Provides services i j
    earlier i j (inl requires) = inl requires
    earlier i j (inr (inl (text, uses, is))) = inr (inl (text, uses, before text j (drawn.used i text uses).1 is))
    earlier i j (inr (inr (text, provides, is))) = inr (inr (text, provides, before text i (drawn.provided j text provides).1 is))

pub drawn_has : (found : List Candidate) (Uses Provides : ℕ → List ℕ → Type 0) (services services' : List (List ℕ × ℕ))
    (graph graph' : List (List ℕ)) (service : List ℕ)
    → HasNode services graph services' graph' service
    → IsDrawn found Uses Provides services graph → IsDrawn found Uses Provides services' graph'
drawn_has found Uses Provides services services' graph graph' service (inl (same, stays)) drawn =
    rw (same, stays) drawn
drawn_has found Uses Provides services services' graph graph' service (inr (absent, puts, grown)) drawn =
    rw grown (drawn_new found Uses Provides services services' graph service absent puts drawn)

-- The same uses and provides, said in other words

pub drawn_as : (found : List Candidate) (Uses Uses' Provides Provides' : ℕ → List ℕ → Type 0)
    (services : List (List ℕ × ℕ)) (graph : List (List ℕ))
    → ((i : ℕ) (text : List ℕ) → Uses i text ↔ Uses' i text)
    → ((i : ℕ) (text : List ℕ) → Provides i text ↔ Provides' i text)
    → IsDrawn found Uses Provides services graph → IsDrawn found Uses' Provides' services graph
drawn_as found Uses Uses' Provides Provides' services graph uses_as provides_as drawn = record {
  size = drawn.size;
  behind = drawn.behind;
  apart = drawn.apart;
  used = λ i text uses. drawn.used i text ((uses_as i text).1 uses);
  provided = λ i text provides. drawn.provided i text ((provides_as i text).1 provides);
  exactly = λ i j. ((λ edge. to i j ((drawn.exactly i j).0 edge)), (λ step. (drawn.exactly i j).1 (from i j step)));
}
  where
    to : (i j : ℕ) → IsStep found Uses Provides services i j → IsStep found Uses' Provides' services i j
    to i j (inl requires) = inl requires
    to i j (inr (inl (text, uses, is))) = inr (inl (text, (uses_as i text).0 uses, is))
    to i j (inr (inr (text, provides, is))) = inr (inr (text, (provides_as j text).0 provides, is))

    from : (i j : ℕ) → IsStep found Uses' Provides' services i j → IsStep found Uses Provides services i j
    from i j (inl requires) = inl requires
    from i j (inr (inl (text, uses, is))) = inr (inl (text, (uses_as i text).1 uses, is))
    from i j (inr (inr (text, provides, is))) = inr (inr (text, (provides_as j text).1 provides, is))

-- An edge more

-- these, and some texts of one place besides
abbrev pub With : (ℕ → List ℕ → Type 0) → ℕ → List (List ℕ) → ℕ → List ℕ → Type 0
With Relates place texts i text = Relates i text ⊎ ((place ≡ i) × Contains texts text)

with_cases : (Relates : ℕ → List ℕ → Type 0) (place : ℕ) (front : List (List ℕ)) (x : List ℕ) (i : ℕ) (text : List ℕ)
    → With Relates place (front ++ x ∷ []) i text
    → With Relates place front i text ⊎ ((place ≡ i) × (x ≡ text))
with_cases Relates place front x i text (inl old) = inl (inl old)
with_cases Relates place front x i text (inr (here, there)) = elim (Contains-push_cases front x text there) [
  | inl old ↦ inl (inr (here, old))
  | inr same ↦ inr (here, same)
]

with_more : (Relates : ℕ → List ℕ → Type 0) (place : ℕ) (front : List (List ℕ)) (x : List ℕ) (i : ℕ) (text : List ℕ)
    → With Relates place front i text → With Relates place (front ++ x ∷ []) i text
with_more Relates place front x i text (inl old) = inl old
with_more Relates place front x i text (inr (here, there)) = inr (here, Contains-append_left front (x ∷ []) text there)

-- what has a node, with a text of one more place that has one
noded : (found : List Candidate) (services : List (List ℕ × ℕ)) (Relates : ℕ → List ℕ → Type 0) (place : ℕ)
    (front : List (List ℕ)) (x : List ℕ) (node : ℕ) → place < length found → place_in services x ≡ Some node
    → ((i : ℕ) (text : List ℕ) → With Relates place front i text
    → (i < length found) × ((at : ℕ) × (place_in services text ≡ Some at)))
    → (i : ℕ) (text : List ℕ) → With Relates place (front ++ x ∷ []) i text
    → (i < length found) × ((at : ℕ) × (place_in services text ≡ Some at))
noded found services Relates place front x node below is before i text has =
    elim (with_cases Relates place front x i text has) [
      | inl old ↦ before i text old
      | inr (here, same) ↦ (
        subst (λ k. k < length found) here below,
        (node, subst (λ t. place_in services t ≡ Some node) same is),
      )
    ]

pub uses_more : (found : List Candidate) (Uses Provides : ℕ → List ℕ → Type 0) (services : List (List ℕ × ℕ))
    (graph : List (List ℕ)) (place : ℕ) (front : List (List ℕ)) (x : List ℕ) (node : ℕ)
    → place < length found → place_in services x ≡ Some node
    → IsDrawn found (With Uses place front) Provides services graph
    → IsDrawn found (With Uses place (front ++ x ∷ [])) Provides services (with_edge graph place node)
uses_more found Uses Provides services graph place front x node below is drawn = record {
  size = rw longer drawn.size;
  behind = λ text at placed. rw longer (drawn.behind text at placed);
  apart = drawn.apart;
  used = noded found services Uses place front x node below is drawn.used;
  provided = drawn.provided;
  exactly = λ i j. ((λ edge. to i j (edge_cases graph place node within i j edge)), from i j);
}
  where
    longer : length (with_edge graph place node) ≡ length graph
    longer = length-set graph place (ends_at graph place ++ node ∷ [])

    within : place < length graph
    within = let size = drawn.size in omega arith

    to : (i j : ℕ) → HasEdge graph i j ⊎ ((i ≡ place) × (node ≡ j))
        → IsStep found (With Uses place (front ++ x ∷ [])) Provides services i j
    to i j (inl old) = later ((drawn.exactly i j).0 old)
      where
        later : IsStep found (With Uses place front) Provides services i j
            → IsStep found (With Uses place (front ++ x ∷ [])) Provides services i j
        later (inl requires) = inl requires
        later (inr (inl (text, uses, at))) = inr (inl (text, with_more Uses place front x i text uses, at))
        later (inr (inr provides)) = inr (inr provides)
    to i j (inr (from, same)) =
        inr (inl (x, inr (sym from, Contains-push front x), subst (λ k. place_in services x ≡ Some k) same is))

    from : (i j : ℕ) → IsStep found (With Uses place (front ++ x ∷ [])) Provides services i j
        → HasEdge (with_edge graph place node) i j
    from i j (inl requires) = edge_kept graph place node within i j ((drawn.exactly i j).1 (inl requires))
    from i j (inr (inl (text, uses, at))) = elim (with_cases Uses place front x i text uses) [
      | inl old ↦ edge_kept graph place node within i j ((drawn.exactly i j).1 (inr (inl (text, old, at))))
      | inr (here, same) ↦
          (let end : node ≡ j = same_some node j (sym is ∙ subst (λ t. place_in services t ≡ Some j) (sym same) at) in
          subst (λ k. HasEdge (with_edge graph place node) k j) here
          (subst (λ k. HasEdge (with_edge graph place node) place k) end (edge_new graph place node within)))
    ]
    from i j (inr (inr provides)) = edge_kept graph place node within i j ((drawn.exactly i j).1 (inr (inr provides)))

pub provides_more : (found : List Candidate) (Uses Provides : ℕ → List ℕ → Type 0) (services : List (List ℕ × ℕ))
    (graph : List (List ℕ)) (place : ℕ) (front : List (List ℕ)) (x : List ℕ) (node : ℕ)
    → place < length found → place_in services x ≡ Some node
    → IsDrawn found Uses (With Provides place front) services graph
    → IsDrawn found Uses (With Provides place (front ++ x ∷ [])) services (with_edge graph node place)
provides_more found Uses Provides services graph place front x node below is drawn = record {
  size = rw longer drawn.size;
  behind = λ text at placed. rw longer (drawn.behind text at placed);
  apart = drawn.apart;
  used = drawn.used;
  provided = noded found services Provides place front x node below is drawn.provided;
  exactly = λ i j. ((λ edge. to i j (edge_cases graph node place within i j edge)), from i j);
}
  where
    longer : length (with_edge graph node place) ≡ length graph
    longer = length-set graph node (ends_at graph node ++ place ∷ [])

    within : node < length graph
    within = (drawn.behind x node is).1

    to : (i j : ℕ) → HasEdge graph i j ⊎ ((i ≡ node) × (place ≡ j))
        → IsStep found Uses (With Provides place (front ++ x ∷ [])) services i j
    to i j (inl old) = later ((drawn.exactly i j).0 old)
      where
        later : IsStep found Uses (With Provides place front) services i j
            → IsStep found Uses (With Provides place (front ++ x ∷ [])) services i j
        later (inl requires) = inl requires
        later (inr (inl uses)) = inr (inl uses)
        later (inr (inr (text, provides, at))) = inr (inr (text, with_more Provides place front x j text provides, at))
    to i j (inr (from, same)) =
        inr (inr (x, inr (same, Contains-push front x), subst (λ k. place_in services x ≡ Some k) (sym from) is))

    from : (i j : ℕ) → IsStep found Uses (With Provides place (front ++ x ∷ [])) services i j
        → HasEdge (with_edge graph node place) i j
    from i j (inl requires) = edge_kept graph node place within i j ((drawn.exactly i j).1 (inl requires))
    from i j (inr (inl uses)) = edge_kept graph node place within i j ((drawn.exactly i j).1 (inr (inl uses)))
    from i j (inr (inr (text, provides, at))) = elim (with_cases Provides place front x j text provides) [
      | inl old ↦ edge_kept graph node place within i j ((drawn.exactly i j).1 (inr (inr (text, old, at))))
      | inr (here, same) ↦
          (let start : node ≡ i = same_some node i (sym is ∙ subst (λ t. place_in services t ≡ Some i) (sym same) at) in
          subst (λ k. HasEdge (with_edge graph node place) i k) here
          (subst (λ k. HasEdge (with_edge graph node place) k place) start (edge_new graph node place within)))
    ]

-- The modules below a place, with none of the texts of the one at that place, and with all of them

pub with_none : (Relates : ℕ → List ℕ → Type 0) (place i : ℕ) (text : List ℕ)
    → Relates i text ↔ With Relates place [] i text
with_none Relates place i text = search (rules, contains_none)

pub with_all : (Relates : ℕ → List ℕ → Type 0) (place : ℕ) (texts : List (List ℕ)) (i : ℕ) (text : List ℕ)
    → ((t : List ℕ) → Contains texts t ↔ Relates place t)
    → With (Below place Relates) place texts i text ↔ Below (place + 1) Relates i text
with_all Relates place texts i text all = (to, from)
  where
    to : With (Below place Relates) place texts i text → Below (place + 1) Relates i text
    to (inl (below, relates)) = (omega arith, relates)
    to (inr (here, there)) = (omega arith, subst (λ k. Relates k text) here ((all text).0 there))

    from : Below (place + 1) Relates i text → With (Below place Relates) place texts i text
    from (below, relates) = elim (cases_eq place i) [
      | inl here ↦ inr (here, (all text).1 (subst (λ k. Relates k text) (sym here) relates))
      | inr other ↦ inl (omega arith, relates)
    ]

as_it_is : (Relates : ℕ → List ℕ → Type 0) (i : ℕ) (text : List ℕ) → Relates i text ↔ Relates i text
as_it_is Relates i text = ((λ is. is), (λ is. is))

pub uses_begin : (found : List Candidate) (Uses Provides : ℕ → List ℕ → Type 0) (services : List (List ℕ × ℕ))
    (graph : List (List ℕ)) (place : ℕ)
    → IsDrawn found Uses Provides services graph → IsDrawn found (With Uses place []) Provides services graph
uses_begin found Uses Provides services graph place =
    drawn_as found Uses (With Uses place []) Provides Provides services graph (with_none Uses place) (as_it_is Provides)

pub uses_end : (found : List Candidate) (Uses Provides : ℕ → List ℕ → Type 0) (services : List (List ℕ × ℕ))
    (graph : List (List ℕ)) (place : ℕ) (texts : List (List ℕ))
    → ((t : List ℕ) → Contains texts t ↔ Uses place t)
    → IsDrawn found (With (Below place Uses) place texts) Provides services graph
    → IsDrawn found (Below (place + 1) Uses) Provides services graph
uses_end found Uses Provides services graph place texts all = search (rules, drawn_as, with_all, as_it_is)

pub provides_begin : (found : List Candidate) (Uses Provides : ℕ → List ℕ → Type 0) (services : List (List ℕ × ℕ))
    (graph : List (List ℕ)) (place : ℕ)
    → IsDrawn found Uses Provides services graph → IsDrawn found Uses (With Provides place []) services graph
provides_begin found Uses Provides services graph place =
    drawn_as found Uses Uses Provides (With Provides place []) services graph (as_it_is Uses) (with_none Provides place)

pub provides_end : (found : List Candidate) (Uses Provides : ℕ → List ℕ → Type 0) (services : List (List ℕ × ℕ))
    (graph : List (List ℕ)) (place : ℕ) (texts : List (List ℕ))
    → ((t : List ℕ) → Contains texts t ↔ Provides place t)
    → IsDrawn found Uses (With (Below place Provides) place texts) services graph
    → IsDrawn found Uses (Below (place + 1) Provides) services graph
provides_end found Uses Provides services graph place texts all = search (rules, drawn_as, with_all, as_it_is)

-- the services of the module at a place are those of its descriptor

pub uses_of : (found : List Candidate) (place : ℕ) (c : Candidate) → slice_get found place ≡ Some c
    → (text : List ℕ) → Contains c.descriptor.uses text ↔ UsesService found place text
uses_of found place c is text = search (rules, same_some)

pub provides_of : (found : List Candidate) (place : ℕ) (c : Candidate) → slice_get found place ≡ Some c
    → (text : List ℕ) → Contains (provided_by c) text ↔ ProvidesService found place text
provides_of found place c is text = search (rules, same_some)

-- From no module to all of them

pub drawn_none : (found : List Candidate) (Uses Provides : ℕ → List ℕ → Type 0) (graph : List (List ℕ))
    → IsGraphOf found graph → IsDrawn found (Below 0 Uses) (Below 0 Provides) [] graph
drawn_none found Uses Provides graph is = record {
  size = (let same = is.size in omega arith);
  behind = λ text node placed. absurd (none_some node placed);
  apart = λ a b node placed _. absurd (none_some node placed);
  used = λ i text uses. (let below = uses.0 in absurd (omega arith));
  provided = λ i text provides. (let below = provides.0 in absurd (omega arith));
  exactly = λ i j. (
    (λ edge. inl ((is.exactly i j).0 edge)),
    (λ step. elim step [
      | inl requires ↦ (is.exactly i j).1 requires
      | inr (inl (text, uses, placed)) ↦ absurd (none_some j placed)
      | inr (inr (text, provides, placed)) ↦ absurd (none_some i placed)
    ]),
  );
}
  where
    none_some : (node : ℕ) → ◌≡◌ {A = Option ℕ} None (Some node) → ⊥
    none_some node e = cc

-- all modules
pub drawn_all : (found : List Candidate) (services : List (List ℕ × ℕ)) (graph : List (List ℕ)) (n : ℕ)
    → length found ≤ n
    → IsDrawn found (Below n (UsesService found)) (Below n (ProvidesService found)) services graph
    → IsDrawn found (UsesService found) (ProvidesService found) services graph
drawn_all found services graph n all =
    drawn_as found (Below n (UsesService found)) (UsesService found) (Below n (ProvidesService found)) (ProvidesService found)
    services graph
    (λ i text. ((λ below. below.1), (λ uses. (let within = within_found found i uses.0 uses.1 in omega arith, uses))))
    (λ i text. ((λ below. below.1), (λ provides. (let within = within_found found i provides.0 provides.1 in omega arith, provides))))

pub drawn_within : (found : List Candidate) (Uses Provides : ℕ → List ℕ → Type 0) (services : List (List ℕ × ℕ))
    (graph : List (List ℕ)) → IsDrawn found Uses Provides services graph → EndsWithin graph
drawn_within found Uses Provides services graph drawn i j edge = go ((drawn.exactly i j).0 edge)
  where
    go : IsStep found Uses Provides services i j → j < length graph
    go (inl (name, requires, (c, is, named))) =
        let below = within_found found j c is in
        let size = drawn.size in
        omega arith
    go (inr (inl (text, uses, is))) = (drawn.behind text j is).1
    go (inr (inr (text, provides, is))) =
        let below = (drawn.provided j text provides).0 in
        let size = drawn.size in
        omega arith
