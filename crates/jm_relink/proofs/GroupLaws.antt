-- Files module by module: they are the same files, and where those are sorted the modules rise.
use Rattle.std.proofs.Common.{◌≡◌, ◌≢◌, ℕ, Bool, true, false, cond, List, [], ◌∷◌, ◌++◌, append_assoc, All, rules}
use Rattle.std.proofs.Common.{AllPairs, Contains, refl, sym, ap, subst, ◌∙◌}
use Rattle.std.proofs.lemmas.Bool.{false≢true, false_from_ne_true}
use Rattle.std.proofs.lemmas.List.{map-append}
use Rattle.std.proofs.lemmas.List.Elements.{All-cons, All-contains, All-head, All-nil, All-tail}
use Rattle.std.proofs.lemmas.List.Kept.{AllPairs-cons}
use Rattle.std.proofs.lemmas.Slice.Eq.{bytes_eq-Decides}
use Rattle.std.specs.Cmp.Lexicographic.{slice_cmp}
use Rattle.std.specs.List.{flat_map}
use Rattle.std.specs.Ordering.{is_lt, nat_cmp, ordering_then}
use Rattle.std.specs.Str.{bytes_eq}
use Rattle.std.specs.declared.cmp.Ordering.{Ordering}
use Rattle.std.specs.declared.cmp.Ordering.TheVariants.{Less, Equal, Greater}
use Rattle.jm_bytes.proofs.Members.{all_from_contains, contains_map, from_map}
use Rattle.jm_bytes.proofs.Pairs.{pairs_head, pairs_none, pairs_tail, pairs_weaker}
use Rattle.jm_bytes.proofs.SameOrder.{contains_flat_map, from_flat_map}
use Rattle.jm_bytes.specs.ByteOrder.{is_before}
use Rattle.jm_relink.specs.Files.{Filed, NeverFalls, file_name, filed_cmp}
use Rattle.jm_names.specs.ByName.{Named, RisesByName}
use Rattle.jm_relink.specs.Groups.{Group, begun_as, groups, groups_from, ungrouped}
use Rattle.jm_relink.proofs.ListLaws.{one_of, pairs_each, pairs_unmap}
use Rattle.jm_bytes.proofs.ByteOrderLaws.{before_apart, before_further, cmp_self, stand}
use Rattle.jm_bytes.proofs.ByteOrderLaws.Stand.{stands_before, is_one, stands_behind}

-- The same files

ungrouped_from : (g : Group) (es : List Filed) → flat_map ungrouped (groups_from g es) ≡ ungrouped g ++ es
ungrouped_from g [] = refl
ungrouped_from g (e ∷ es) = go (bytes_eq g.0 e.0) refl (ungrouped_from (g.0, g.1 ++ e.1 ∷ []) es) (ungrouped_from (begun_as e) es)
  where
    go : (b : Bool) → bytes_eq g.0 e.0 ≡ b → flat_map ungrouped (groups_from (g.0, g.1 ++ e.1 ∷ []) es)
        ≡ ungrouped (g.0, g.1 ++ e.1 ∷ []) ++ es → flat_map ungrouped (groups_from (begun_as e) es) ≡ ungrouped (begun_as e) ++ es
        → flat_map ungrouped (cond b (groups_from (g.0, g.1 ++ e.1 ∷ []) es) (g ∷ groups_from (begun_as e) es)) ≡ ungrouped g ++ e ∷ es
    go true is one other =
        let name : g.0 ≡ e.0 = (bytes_eq-Decides g.0 e.0).0 is in
        let pair : ◌≡◌ {A = Filed} (g.0, e.1) e = ap (λ (n : List ℕ). (n, e.1)) name in
        one ∙ ap (λ fs. fs ++ es) (map-append (λ (f : Named). (g.0, f)) g.1 (e.1 ∷ []))
        ∙ append_assoc (ungrouped g) ((g.0, e.1) ∷ []) es ∙ ap (λ (f : Filed). ungrouped g ++ f ∷ es) pair
    go false is one other = ap (λ fs. ungrouped g ++ fs) other

pub groups_whole : (es : List Filed) → flat_map ungrouped (groups es) ≡ es
groups_whole [] = refl
groups_whole (e ∷ es) = ungrouped_from (begun_as e) es

pub in_group : (es : List Filed) (g : Group) (f : Named) → Contains (groups es) g → Contains g.1 f → Contains es (g.0, f)
in_group es g f there among =
    let beside : Contains (ungrouped g) (g.0, f) = contains_map (λ (x : Named). (g.0, x)) g.1 f among in
    subst (λ fs. Contains fs (g.0, f)) (groups_whole es) (contains_flat_map ungrouped (groups es) g (g.0, f) there beside)

-- a file stands in the group of its module
pub record HasGroup (es : List Filed) (m : List ℕ) (f : Named) : Type 0 where
  pub group : Group
  pub there : Contains (groups es) group
  pub name : group.0 ≡ m
  pub among : Contains group.1 f

pub of_group : (es : List Filed) (m : List ℕ) (f : Named) → Contains es (m, f) → HasGroup es m f
of_group es m f there =
    let from = from_flat_map ungrouped (groups es) (m, f) (subst (λ fs. Contains fs (m, f)) (sym (groups_whole es)) there) in
    let g = from.0 in
    let one = from_map (λ (x : Named). (g.0, x)) g.1 (m, f) from.2 in
    record {
      group = g;
      there = from.1;
      name = ap (λ (e : Filed). e.0) one.2;
      among = subst (λ (x : Named). Contains g.1 x) (ap (λ (e : Filed). e.1) one.2) one.1;
    }

-- The modules rise

abbrev pub Falls : Filed → Filed → Type 0
Falls e f = is_lt (filed_cmp f e) ≡ false

abbrev Before : Group → Group → Type 0
Before g h = is_before g.0 h.0 ≡ true

lesser_first : (o p : Ordering) → is_lt o ≡ true → is_lt (ordering_then o p) ≡ true
lesser_first Less p h = refl
lesser_first Equal p h = cc
lesser_first Greater p h = cc

-- no module stands before that of an earlier file
no_lesser : (e f : Filed) → is_lt (filed_cmp f e) ≡ false → is_before f.0 e.0 ≡ false
no_lesser e f falls = search (rules, false≢true, false_from_ne_true, lesser_first)

-- what holds of the modules of all files
modules_in : (P : List ℕ → Type 0) (g : Group) (es : List Filed) → P g.0 → All (λ e. P e.0) es → All (λ h. P h.0) (groups_from g es)
modules_in P g [] this all = All-cons (λ (h : Group). P h.0) g [] this (All-nil (λ (h : Group). P h.0))
modules_in P g (e ∷ es) this all =
    go (bytes_eq g.0 e.0)
    (modules_in P (g.0, g.1 ++ e.1 ∷ []) es this (All-tail (λ (f : Filed). P f.0) e es all))
    (modules_in P (begun_as e) es (All-head (λ (f : Filed). P f.0) e es all) (All-tail (λ (f : Filed). P f.0) e es all))
  where
    go : (b : Bool) → All (λ (h : Group). P h.0) (groups_from (g.0, g.1 ++ e.1 ∷ []) es)
        → All (λ (h : Group). P h.0) (groups_from (begun_as e) es)
        → All (λ (h : Group). P h.0) (cond b (groups_from (g.0, g.1 ++ e.1 ∷ []) es) (g ∷ groups_from (begun_as e) es))
    go true one other = one
    go false one other = All-cons (λ (h : Group). P h.0) g (groups_from (begun_as e) es) this other

before_or : (n m : List ℕ) → is_before m n ≡ false → n ≢ m → is_before n m ≡ true
before_or n m behind_not differ = search (rules, false≢true, stand, stands_before, is_one, stands_behind)

rises_from : (g : Group) (es : List Filed) → All (λ e. is_before e.0 g.0 ≡ false) es → AllPairs Falls es
    → AllPairs Before (groups_from g es)
rises_from g [] least sorted = AllPairs-cons Before g [] (All-nil (Before g)) (pairs_none Before)
rises_from g (e ∷ es) least sorted =
    go (bytes_eq g.0 e.0) refl
    (rises_from (g.0, g.1 ++ e.1 ∷ []) es (All-tail (λ (f : Filed). is_before f.0 g.0 ≡ false) e es least) (pairs_tail Falls e es sorted))
    (rises_from (begun_as e) es later (pairs_tail Falls e es sorted))
  where
    later : All (λ (f : Filed). is_before f.0 e.0 ≡ false) es
    later = all_from_contains (λ (f : Filed). is_before f.0 e.0 ≡ false) es (λ f there. no_lesser e f (All-contains (Falls e) es f
        (pairs_head Falls e es sorted) there))

    go : (b : Bool) → bytes_eq g.0 e.0 ≡ b → AllPairs Before (groups_from (g.0, g.1 ++ e.1 ∷ []) es)
        → AllPairs Before (groups_from (begun_as e) es)
        → AllPairs Before (cond b (groups_from (g.0, g.1 ++ e.1 ∷ []) es) (g ∷ groups_from (begun_as e) es))
    go true is one other = one
    go false is one other =
        AllPairs-cons Before g (groups_from (begun_as e) es)
        (modules_in (λ n. is_before g.0 n ≡ true) (begun_as e) es first
        (all_from_contains (λ (f : Filed). is_before g.0 f.0 ≡ true) es further))
        other
      where
        first : is_before g.0 e.0 ≡ true
        first =
            before_or g.0 e.0 (All-head (λ (f : Filed). is_before f.0 g.0 ≡ false) e es least)
            (λ equal. false≢true (sym is ∙ (bytes_eq-Decides g.0 e.0).1 equal))

        further : (f : Filed) → Contains es f → is_before g.0 f.0 ≡ true
        further f there =
            elim (stand e.0 f.0) [
              | stands_before h ↦ before_further g.0 e.0 f.0 first h
              | is_one h ↦ subst (λ n. is_before g.0 n ≡ true) h first
              | stands_behind h ↦ absurd (false≢true (sym (All-contains (λ (x : Filed). is_before x.0 e.0 ≡ false) es f later there) ∙ h))
            ]

pub groups_rise : (es : List Filed) → NeverFalls es → AllPairs (λ g h. is_before g.0 h.0 ≡ true) (groups es)
groups_rise [] sorted = pairs_none Before
groups_rise (e ∷ es) sorted =
    rises_from (begun_as e) es
    (all_from_contains (λ (f : Filed). is_before f.0 e.0 ≡ false) es (λ f there. no_lesser e f (All-contains (Falls e) es f
    (pairs_head Falls e es sorted) there)))
    (pairs_tail Falls e es sorted)

-- groups of one module are one
pub one_group : (es : List Filed) (g h : Group) → NeverFalls es → Contains (groups es) g → Contains (groups es) h → g.0 ≡ h.0 → g ≡ h
one_group es g h sorted there too name =
    one_of (λ (x : Group). x.0) (groups es) g h
    (pairs_weaker Before (λ x y. x.0 ≢ y.0) (λ x y lesser. before_apart x.0 y.0 lesser) (groups es) (groups_rise es sorted))
    there too name

-- The files of a module rise

pub second_decides : (o p : Ordering) → o ≡ Equal → is_lt (ordering_then o p) ≡ is_lt p
second_decides o p is = ap (λ q. is_lt (ordering_then q p)) is

abbrev Both : Filed → Filed → Type 0
Both e f = Falls e f × (file_name e.0 e.1.0 ≢ file_name f.0 f.1.0)

pub files_rise : (es : List Filed) (g : Group) → NeverFalls es → AllPairs (λ e f. file_name e.0 e.1.0 ≢ file_name f.0 f.1.0) es
    → Contains (groups es) g → RisesByName g.1
files_rise es g sorted differ there =
    pairs_weaker (λ (e f : Named). Both (g.0, e) (g.0, f)) (λ e f. is_before e.0 f.0 ≡ true)
    (λ e f two.
    before_or e.0 f.0
    (sym (second_decides (slice_cmp nat_cmp g.0 g.0) (slice_cmp nat_cmp f.0 e.0) (cmp_self g.0)) ∙ two.0)
    (λ equal. two.1 (ap (file_name g.0) equal)))
    g.1 (pairs_unmap Both (λ (f : Named). (g.0, f)) g.1 here)
  where
    all : AllPairs Both es
    all i j d before inside = (sorted i j d before inside, differ i j d before inside)

    here : AllPairs Both (ungrouped g)
    here = pairs_each Both ungrouped (groups es) g (subst (AllPairs Both) (sym (groups_whole es)) all) there
