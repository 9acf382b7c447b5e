-- The four refusals, from what is computed over names, marks and edges.
use Rattle.std.proofs.Common.{◌≡◌, ℕ, zero, suc, ◌⊎◌, inl, inr, Bool, true, false, List, [], ◌∷◌, Option}
use Rattle.std.proofs.Common.{Some, None, Contains, refl, sym, ◌∙◌, ap, subst, slice_get}
use Rattle.std.specs.Prelude.{flat_map, filter, is_none, not, ◌&&◌}
use Rattle.std.specs.Str.{bytes_eq}
use Rattle.std.proofs.lemmas.Slice.Eq.{bytes_eq-Decides}
use Rattle.std.proofs.lemmas.Bool.{and_from, and_parts, false≢true}
use Rattle.std.proofs.lemmas.Option.{get_or_from_slice_get}
use Rattle.jm_bytes.proofs.Choice.{same_some}
use Rattle.jm_bytes.proofs.Members.{contains_none, contains_here, contains_later, contains_cases}
use Rattle.jm_bytes.proofs.Members.{contains_filter, from_filter, contains_map, from_map, any_contains}
use Rattle.jm_bytes.proofs.Members.{from_any}
use Rattle.jm_bytes.proofs.SameOrder.{contains_flat_map, from_flat_map}
use Rattle.jm_modinfo.specs.declared.descriptor.Need.{Need}
use Rattle.jm_modinfo.specs.Flags.{is_static}
use Rattle.jm_closure.specs.declared.candidate.Candidate.{Candidate}
use Rattle.jm_closure.specs.ComputedLeast.{chosen_of, differs, holds, is_lost, is_required, least_of, names_where}
use Rattle.jm_closure.specs.Graphs.{IsMarked}
use Rattle.jm_closure.specs.Holders.{IsHeldTwice}
use Rattle.jm_closure.specs.Least.{IsLeastOf}
use Rattle.jm_closure.specs.Modules.{name_of, required_by, HasName, HasPackage, IsFound}
use Rattle.jm_closure.specs.Names.{Indexes, NamesDiffer}
use Rattle.jm_closure.specs.Places.{place_in}
use Rattle.jm_closure.specs.Refusals.{Holds, IsLacking, IsLostRoot, IsSplit, Lacks}
use Rattle.jm_closure.proofs.LeastLaws.{least_passing, least_same}
use Rattle.jm_closure.proofs.NameLaws.{found_at, within_found}

-- The chosen modules, as a list and by their places

pub from_chosen : (flags : List Bool) (found : List Candidate) (c : Candidate) → Contains (chosen_of flags found) c
    → (i : ℕ) × IsMarked flags i × (slice_get found i ≡ Some c)
from_chosen [] found c there = absurd (contains_none c there)
from_chosen (flag ∷ flags) [] c there = absurd (contains_none c there)
from_chosen (false ∷ flags) (m ∷ found) c there = next (from_chosen flags found c there)
  where
    next : (i : ℕ) × IsMarked flags i × (slice_get found i ≡ Some c)
        → (i : ℕ) × IsMarked (false ∷ flags) i × (slice_get (m ∷ found) i ≡ Some c)
    next (i, marked, is) = (suc i, marked, is)
from_chosen (true ∷ flags) (m ∷ found) c there = go (contains_cases m (chosen_of flags found) c there) (from_chosen flags found c)
  where
    go : (m ≡ c) ⊎ Contains (chosen_of flags found) c
        → (Contains (chosen_of flags found) c → (i : ℕ) × IsMarked flags i × (slice_get found i ≡ Some c))
        → (i : ℕ) × IsMarked (true ∷ flags) i × (slice_get (m ∷ found) i ≡ Some c)
    go (inl same) later = (0, refl, ap (λ x. Some x) same)
    go (inr rest) later = let one = later rest in (suc one.0, one.1, one.2)

pub to_chosen : (flags : List Bool) (found : List Candidate) (c : Candidate) (i : ℕ)
    → IsMarked flags i → slice_get found i ≡ Some c → Contains (chosen_of flags found) c
to_chosen [] found c i marked is = absurd (false≢true marked)
to_chosen (flag ∷ flags) [] c i marked is = absurd (no is)
  where
    no : ◌≡◌ {A = Option Candidate} None (Some c) → ⊥
    no e = cc
to_chosen (true ∷ flags) (m ∷ found) c zero marked is =
    subst (Contains (m ∷ chosen_of flags found)) (same_some m c is) (contains_here m (chosen_of flags found))
to_chosen (false ∷ flags) (m ∷ found) c zero marked is = absurd (false≢true marked)
to_chosen (true ∷ flags) (m ∷ found) c (suc i) marked is =
    contains_later m (chosen_of flags found) c (to_chosen flags found c i marked is)
to_chosen (false ∷ flags) (m ∷ found) c (suc i) marked is = to_chosen flags found c i marked is

pub from_names : (p : Candidate → Bool) (flags : List Bool) (found : List Candidate) (text : List ℕ)
    → Contains (names_where p (chosen_of flags found)) text
    → (i : ℕ) × (c : Candidate) × IsMarked flags i × (slice_get found i ≡ Some c) × (name_of c ≡ text) × (p c ≡ true)
from_names p flags found text there =
    let one = from_map name_of (filter p (chosen_of flags found)) text there in
    let kept = from_filter p (chosen_of flags found) one.0 one.1 in
    let at = from_chosen flags found one.0 kept.0 in
    (at.0, one.0, at.1, at.2, one.2, kept.1)

pub to_names : (p : Candidate → Bool) (flags : List Bool) (found : List Candidate) (i : ℕ) (c : Candidate) (text : List ℕ)
    → IsMarked flags i → slice_get found i ≡ Some c → name_of c ≡ text → p c ≡ true
    → Contains (names_where p (chosen_of flags found)) text
to_names p flags found i c text marked is named passes =
    subst (Contains (names_where p (chosen_of flags found))) named
    (contains_map name_of (filter p (chosen_of flags found)) c
    (contains_filter p (chosen_of flags found) c (to_chosen flags found c i marked is) passes))

-- What isn't found has no place

pub found_name : (found : List Candidate) (name : List ℕ) (i : ℕ) → HasName found i name → IsFound found name
found_name found name i (c, is, named) =
    subst (IsFound found) named (contains_map name_of found c
    (i, within_found found i c is, get_or_from_slice_get found i c c is))

named_found : (found : List Candidate) (name : List ℕ) → IsFound found name → (i : ℕ) × HasName found i name
named_found found name there =
    let one = from_map name_of found name there in
    (one.1.0, (one.0, found_at found one.1.0 one.0 one.1.1 (sym one.1.2), one.2))

pub lost_from : (found : List Candidate) (names : List (List ℕ × ℕ)) (name : List ℕ) → Indexes found names
    → is_lost names name ≡ true → ¬ IsFound found name
lost_from found names name indexed lost there =
    let at = named_found found name there in
    let placed = (indexed name at.0).1 at.1 in
    false≢true (sym (ap (λ (o : Option ℕ). is_none o) placed) ∙ lost)

pub lost_to : (found : List Candidate) (names : List (List ℕ × ℕ)) (name : List ℕ) → Indexes found names
    → ¬ IsFound found name → is_lost names name ≡ true
lost_to found names name indexed missing = go (place_in names name) refl
  where
    go : (o : Option ℕ) → place_in names name ≡ o → is_none o ≡ true
    go None e = refl
    go (Some i) e = absurd (missing (found_name found name i ((indexed name i).0 e)))

-- 1

pub least_lost : (found : List Candidate) (names : List (List ℕ × ℕ)) (roots : List (List ℕ)) → Indexes found names
    → IsLeastOf (IsLostRoot found roots) (least_of (is_lost names) None roots)
least_lost found names roots indexed =
    least_passing (is_lost names) (IsLostRoot found roots) roots
    (λ text there lost. (there, lost_from found names text indexed lost))
    (λ text is. (is.0, lost_to found names text indexed is.1))

-- 2

pub least_lacked : (found : List Candidate) (names : List (List ℕ × ℕ)) (flags : List Bool) → Indexes found names
    → IsLeastOf (IsLacking found (IsMarked flags)) (least_of (is_lost names) None (flat_map required_by (chosen_of flags found)))
least_lacked found names flags indexed =
    least_passing (is_lost names) (IsLacking found (IsMarked flags)) (flat_map required_by (chosen_of flags found))
    (λ text there lost.
    let one = from_flat_map required_by (chosen_of flags found) text there in
    let at = from_chosen flags found one.0 one.1 in
    (name_of one.0, (at.0, at.1, (one.0, at.2, refl), (one.0, at.2, one.2), lost_from found names text indexed lost)))
    (λ text is.
    let requiring = is.1.3 in (
      contains_flat_map required_by (chosen_of flags found) requiring.0 text
          (to_chosen flags found requiring.0 is.1.0 is.1.1 requiring.1) requiring.2,
      lost_to found names text indexed is.1.4,
    ))

required_from : (name : List ℕ) (c : Candidate) → is_required name c ≡ true → Contains (required_by c) name
required_from name c is =
    let one = from_any (λ (need : Need). not (is_static need.flags) && bytes_eq need.name name) c.descriptor.needs is in
    let parts = and_parts (not (is_static one.0.flags)) (bytes_eq one.0.name name) one.2 in
    subst (Contains (required_by c)) ((bytes_eq-Decides one.0.name name).0 parts.1)
    (contains_map (λ (need : Need). need.name) (filter (λ need. not (is_static need.flags)) c.descriptor.needs) one.0
    (contains_filter (λ (need : Need). not (is_static need.flags)) c.descriptor.needs one.0 one.1 parts.0))

required_to : (name : List ℕ) (c : Candidate) → Contains (required_by c) name → is_required name c ≡ true
required_to name c there =
    let one = from_map (λ (need : Need). need.name) (filter (λ need. not (is_static need.flags)) c.descriptor.needs) name there in
    let kept = from_filter (λ (need : Need). not (is_static need.flags)) c.descriptor.needs one.0 one.1 in
    any_contains (λ (need : Need). not (is_static need.flags) && bytes_eq need.name name) c.descriptor.needs one.0 kept.0
    (and_from (not (is_static one.0.flags)) (bytes_eq one.0.name name) kept.1 ((bytes_eq-Decides one.0.name name).1 one.2))

pub least_lacker : (found : List Candidate) (flags : List Bool) (name : List ℕ) → ¬ IsFound found name
    → IsLeastOf (Lacks found (IsMarked flags) name)
    (least_of (λ _. true) None (names_where (is_required name) (chosen_of flags found)))
least_lacker found flags name missing =
    least_passing (λ _. true) (Lacks found (IsMarked flags) name) (names_where (is_required name) (chosen_of flags found))
    (λ text there _.
    let one = from_names (is_required name) flags found text there in
    (one.0, one.2, (one.1, one.3, one.4), (one.1, one.3, required_from name one.1 one.5), missing))
    (λ text is.
    let named = is.2 in
    let requiring = is.3 in
    let same : requiring.0 ≡ named.0 = same_some requiring.0 named.0 (sym requiring.1 ∙ named.1) in (
      to_names (is_required name) flags found is.0 named.0 text is.1 named.1 named.2
          (required_to name named.0 (subst (λ m. Contains (required_by m) name) same requiring.2)),
      refl,
    ))

-- 4

holds_from : (shared : List ℕ) (c : Candidate) → holds shared c ≡ true → Contains c.packages shared
holds_from shared c is =
    let one = from_any (λ held. bytes_eq held shared) c.packages is in
    subst (Contains c.packages) ((bytes_eq-Decides one.0 shared).0 one.2) one.1

holds_to : (shared : List ℕ) (c : Candidate) → Contains c.packages shared → holds shared c ≡ true
holds_to shared c there =
    any_contains (λ held. bytes_eq held shared) c.packages shared there ((bytes_eq-Decides shared shared).1 refl)

pub least_holding : (found : List Candidate) (flags : List Bool) (shared : List ℕ) (but : Option (List ℕ))
    → IsLeastOf (λ name. (differs but name ≡ true) × Holds found (IsMarked flags) shared name)
    (least_of (differs but) None (names_where (holds shared) (chosen_of flags found)))
least_holding found flags shared but =
    least_passing (differs but) (λ name. (differs but name ≡ true) × Holds found (IsMarked flags) shared name)
    (names_where (holds shared) (chosen_of flags found))
    (λ text there passes.
    let one = from_names (holds shared) flags found text there in
    (passes, (one.0, one.2, (one.1, one.3, one.4), (one.1, one.3, holds_from shared one.1 one.5))))
    (λ text is.
    let named = is.1.2 in
    let having = is.1.3 in
    let same : having.0 ≡ named.0 = same_some having.0 named.0 (sym having.1 ∙ named.1) in (
      to_names (holds shared) flags found is.1.0 named.0 text is.1.1 named.1 named.2
          (holds_to shared named.0 (subst (λ (m : Candidate). Contains m.packages shared) same having.2)),
      is.0,
    ))

-- a package that two chosen places have is one that modules of two names have
pub least_shared : (found : List Candidate) (flags : List Bool) (least : Option (List ℕ)) → NamesDiffer found
    → IsLeastOf (IsHeldTwice (λ i text. IsMarked flags i × HasPackage found i text)) least
    → IsLeastOf (IsSplit found (IsMarked flags)) least
least_shared found flags least differ =
    least_same (IsHeldTwice (λ i text. IsMarked flags i × HasPackage found i text)) (IsSplit found (IsMarked flags)) least
    (λ text (i, j, apart, first, second). (
      name_of first.1.0,
      (
        name_of second.1.0,
        (λ same. apart (differ i j (name_of second.1.0) (first.1.0, first.1.1, same) (second.1.0, second.1.1, refl))),
        (i, first.0, (first.1.0, first.1.1, refl), first.1),
        (j, second.0, (second.1.0, second.1.1, refl), second.1),
      ),
    ))
    (λ text (name, (other, apart, first, second)). (
      first.0,
      second.0,
      (λ same.
          let at : first.2.0 ≡ second.2.0 = same_some first.2.0 second.2.0
          (sym first.2.1 ∙ ap (slice_get found) same ∙ second.2.1) in
          apart (sym first.2.2 ∙ ap name_of at ∙ second.2.2)),
      (first.1, first.3),
      (second.1, second.3),
    ))
