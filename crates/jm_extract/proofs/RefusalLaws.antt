-- The refusal of entries, from those of their names and of their clashes.
use Rattle.std.proofs.Common.{◌≡◌, ◌≤◌, ◌<◌, ℕ, true, ◌||◌, nat_eq, List, [], ◌∷◌, drop, get_or, length, map, rules}
use Rattle.std.proofs.Common.{Option, Some, None, refl, sym, subst, ap, ◌∙◌}
use Rattle.std.proofs.lemmas.List.{drop_all, drop_more}
use Rattle.std.specs.List.{starts_with}
use Rattle.jm_bytes.proofs.Pairs.{pairs_map}
use Rattle.jm_bytes.specs.ByteOrder.{is_before}
use Rattle.jm_bytes.specs.Checks.{first_fault}
use Rattle.jm_names.specs.ByName.{Named, RisesByName}
use Rattle.jm_names.specs.ComputedFault.{name_fault}
use Rattle.jm_names.specs.declared.check.NameFault.{NameFault}
use Rattle.jm_texts.specs.NameRefusals.{first_bad_name, name_refusal}
use Rattle.jm_texts.specs.declared.refusal.Refusal.{Refusal}
use Rattle.jm_texts.specs.declared.refusal.Refusal.TheVariants as refusal
use Rattle.jm_filed.specs.declared.taking.TakenEntry.{TakenEntry}
use Rattle.jm_extract.specs.Extracted.{begins, clash_refusal, first_clash, refusal_of}
use Rattle.jm_filed.specs.Taken.{name_alone, taken_as}

-- Names alone

-- pairs without what stands under their names
abbrev bare : Named → Named
bare e = (e.0, [])

bare_names : (b : List ℕ) (ts : List TakenEntry) → map name_alone ts ≡ map bare (map (taken_as b) ts)
bare_names b [] = refl
bare_names b (t ∷ ts) = ap (λ es. name_alone t ∷ es) (bare_names b ts)

pub rises_alone : (b : List ℕ) (ts : List TakenEntry) → RisesByName (map (taken_as b) ts) → RisesByName (map name_alone ts)
rises_alone b ts rises =
    subst RisesByName (sym (bare_names b ts)) (pairs_map (λ (e f : Named). is_before e.0 f.0 ≡ true) bare (map (taken_as b) ts) rises)

bad_bare : (es : List Named) → map name_refusal (map bare es) ≡ map name_refusal es
bad_bare [] = refl
bad_bare (e ∷ es) = ap (λ os. name_refusal e ∷ os) (bad_bare es)

begins_bare : (front : List ℕ) (es : List Named) → begins (map bare es) front ≡ begins es front
begins_bare front [] = refl
begins_bare front (e ∷ es) = ap (λ o. starts_with nat_eq e.0 front || o) (begins_bare front es)

clash_bare : (all es : List Named) → map (clash_refusal (map bare all)) (map bare es) ≡ map (clash_refusal all) es
clash_bare all [] = search (rules)
clash_bare all (e ∷ es) = search (rules, begins_bare, (clash_bare all es))

-- the refusal hangs on the names alone
pub refused_alone : (b : List ℕ) (ts : List TakenEntry) → refusal_of (map name_alone ts) ≡ refusal_of (map (taken_as b) ts)
unfolding refusal_of
refused_alone b ts =
    let es = map (taken_as b) ts in
    ap refusal_of (bare_names b ts)
    ∙ ap (λ os. first_fault (first_fault os ∷ first_clash (map bare es) ∷ [])) (bad_bare es)
    ∙ ap (λ os. first_fault (first_bad_name es ∷ first_fault os ∷ [])) (clash_bare es es)

-- The first refusal

-- a bad name comes first, after names that may stand
pub bad_name : (ts : List TakenEntry) (i : ℕ) (t : TakenEntry) (name : List ℕ) (fault : NameFault) → i < length ts
    → get_or ts i t ≡ t → name ≡ t.name → Some fault ≡ name_fault name
    → first_bad_name (map name_alone (drop i ts)) ≡ first_bad_name (map name_alone ts)
    → Some (refusal.BadName name fault) ≡ refusal_of (map name_alone ts)
unfolding refusal_of
bad_name ts i t name fault within is own bad so_far = search (rules, drop_more)

alone : (o : Option Refusal) → o ≡ first_fault (o ∷ [])
alone None = refl
alone (Some refused) = refl

-- without one the first clash decides, when all entries were looked at
pub refused_clash : (ts : List TakenEntry) (i : ℕ) (o : Option Refusal) → length ts ≤ i
    → first_bad_name (map name_alone ts) ≡ None
    → first_fault (o ∷ map (clash_refusal (map name_alone ts)) (map name_alone (drop i ts))) ≡ first_clash (map name_alone ts)
    → o ≡ refusal_of (map name_alone ts)
unfolding refusal_of
refused_clash ts i o all none so_far = search (rules, drop_all, alone)
