-- Groups joined end to end: where their modules rise, they are the groups of their files, of which none falls.
use Rattle.std.proofs.Common.{◌≡◌, ◌≢◌, ℕ, Bool, true, false, cond, List, [], ◌∷◌, ◌++◌, All, AllPairs, Contains}
use Rattle.std.proofs.Common.{refl, sym, ap, ap₂, ◌∙◌, append_assoc, append-nil}
use Rattle.std.proofs.lemmas.List.Elements.{All-cons, All-contains, All-head, All-nil, All-tail}
use Rattle.std.proofs.lemmas.Slice.Eq.{bytes_eq-Decides}
use Rattle.std.specs.Cmp.Lexicographic.{slice_cmp, nat_list_cmp_total}
use Rattle.std.specs.List.{flat_map}
use Rattle.std.specs.Ordering.{is_lt, nat_cmp, ordering_reverse, ordering_then}
use Rattle.std.specs.Str.{bytes_eq}
use Rattle.std.specs.declared.cmp.Ordering.TheVariants.{Greater}
use Rattle.jm_bytes.proofs.ByteOrderLaws.{before_less, cmp_self, unequal}
use Rattle.jm_bytes.proofs.Members.{from_map}
use Rattle.jm_bytes.proofs.Pairs.{pairs_append, pairs_head, pairs_map, pairs_none, pairs_tail, pairs_weaker}
use Rattle.jm_bytes.proofs.SameOrder.{from_flat_map}
use Rattle.jm_bytes.specs.ByteOrder.{is_before}
use Rattle.jm_names.specs.ByName.{Named}
use Rattle.jm_relink.specs.Files.{Filed, filed_cmp}
use Rattle.jm_relink.specs.Groups.{Group, begun_as, groups, groups_from, ungrouped}
use Rattle.jm_relink.proofs.GroupLaws.{Falls, second_decides}

-- A group has a file

abbrev pub HasFiles : Group → Type 0
HasFiles g = g.1 ≢ []

pushed_some : {X : Type 0} (xs : List X) (x : X) → xs ++ x ∷ [] ≢ []
pushed_some [] x h = cc
pushed_some (y ∷ xs) x h = cc

have_files_from : (g : Group) (es : List Filed) → HasFiles g → All HasFiles (groups_from g es)
have_files_from g [] this = All-cons HasFiles g [] this (All-nil HasFiles)
have_files_from g (e ∷ es) this =
    go (bytes_eq g.0 e.0) (have_files_from (g.0, g.1 ++ e.1 ∷ []) es (pushed_some g.1 e.1))
    (have_files_from (begun_as e) es (pushed_some [] e.1))
  where
    go : (b : Bool) → All HasFiles (groups_from (g.0, g.1 ++ e.1 ∷ []) es) → All HasFiles (groups_from (begun_as e) es)
        → All HasFiles (cond b (groups_from (g.0, g.1 ++ e.1 ∷ []) es) (g ∷ groups_from (begun_as e) es))
    go true one other = one
    go false one other = All-cons HasFiles g (groups_from (begun_as e) es) this other

pub have_files : (es : List Filed) → All HasFiles (groups es)
have_files [] = All-nil HasFiles
have_files (e ∷ es) = have_files_from (begun_as e) es (pushed_some [] e.1)

-- The groups of their files

abbrev Apart : Group → Group → Type 0
Apart g h = g.0 ≢ h.0

pub file_joins : (m : List ℕ) (xs : List Named) (f : Named) (es : List Filed) → groups_from (m, xs) ((m, f) ∷ es)
    ≡ groups_from (m, xs ++ f ∷ []) es
file_joins m xs f es =
    ap (λ b. cond b (groups_from (m, xs ++ f ∷ []) es) ((m, xs) ∷ groups_from (m, f ∷ []) es)) ((bytes_eq-Decides m m).1 refl)

files_join : (m : List ℕ) (xs fs : List Named) (es : List Filed) → groups_from (m, xs) (ungrouped (m, fs) ++ es)
    ≡ groups_from (m, xs ++ fs) es
files_join m xs [] es = ap (λ ys. groups_from (m, ys) es) (sym (append-nil xs))
files_join m xs (f ∷ fs) es =
    file_joins m xs f (ungrouped (m, fs) ++ es) ∙ files_join m (xs ++ f ∷ []) fs es
    ∙ ap (λ ys. groups_from (m, ys) es) (append_assoc xs (f ∷ []) fs)

again_from : (g : Group) (gs : List Group) → AllPairs Apart (g ∷ gs) → All HasFiles gs → groups_from g (flat_map ungrouped gs)
    ≡ g ∷ gs
again_from g [] apart filled = refl
again_from g ((m, []) ∷ gs) apart filled = absurd (All-head HasFiles (m, []) gs filled refl)
again_from g ((m, f ∷ fs) ∷ gs) apart filled =
    let other = unequal g.0 m (λ same. All-head (Apart g) (m, f ∷ fs) gs (pairs_head Apart g ((m, f ∷ fs) ∷ gs) apart) (sym same)) in
    let rest = ungrouped (m, fs) ++ flat_map ungrouped gs in
    ap (λ b. cond b (groups_from (g.0, g.1 ++ f ∷ []) rest) (g ∷ groups_from (m, f ∷ []) rest)) other
    ∙ ap (λ hs. g ∷ hs) (files_join m (f ∷ []) fs (flat_map ungrouped gs)
    ∙ again_from (m, f ∷ fs) gs (pairs_tail Apart g ((m, f ∷ fs) ∷ gs) apart) (All-tail HasFiles (m, f ∷ fs) gs filled))

pub groups_again : (gs : List Group) → AllPairs Apart gs → All HasFiles gs → groups (flat_map ungrouped gs) ≡ gs
groups_again [] apart filled = refl
groups_again ((m, []) ∷ gs) apart filled = absurd (All-head HasFiles (m, []) gs filled refl)
groups_again ((m, f ∷ fs) ∷ gs) apart filled =
    files_join m (f ∷ []) fs (flat_map ungrouped gs)
    ∙ again_from (m, f ∷ fs) gs apart (All-tail HasFiles (m, f ∷ fs) gs filled)

-- No file stands before an earlier one

abbrev Before : Group → Group → Type 0
Before g h = is_before g.0 h.0 ≡ true

abbrev pub PathsRise : Group → Type 0
PathsRise g = AllPairs (λ (e f : Named). is_before f.0 e.0 ≡ false) g.1

later_module : (g h : Group) (e f : Named) → Before g h → Falls (g.0, e) (h.0, f)
later_module g h e f before =
    let behind : slice_cmp nat_cmp h.0 g.0 ≡ Greater =
    nat_list_cmp_total.antisymm h.0 g.0 ∙ ap ordering_reverse (before_less g.0 h.0 before) in
    ap (λ o. is_lt (ordering_then o (slice_cmp nat_cmp f.0 e.0))) behind

pub joined_falls : (gs : List Group) → AllPairs Before gs → All PathsRise gs → AllPairs Falls (flat_map ungrouped gs)
joined_falls [] rises paths = pairs_none Falls
joined_falls (g ∷ gs) rises paths =
    pairs_append Falls (ungrouped g) (flat_map ungrouped gs) own
    (joined_falls gs (pairs_tail Before g gs rises) (All-tail PathsRise g gs paths)) across
  where
    own : AllPairs Falls (ungrouped g)
    own =
        pairs_map Falls (λ (f : Named). (g.0, f)) g.1
        (pairs_weaker (λ (e f : Named). is_before f.0 e.0 ≡ false) (λ (e f : Named). Falls (g.0, e) (g.0, f))
        (λ e f up. second_decides (slice_cmp nat_cmp g.0 g.0) (slice_cmp nat_cmp f.0 e.0) (cmp_self g.0) ∙ up)
        g.1 (All-head PathsRise g gs paths))

    across : (e f : Filed) → Contains (ungrouped g) e → Contains (flat_map ungrouped gs) f → Falls e f
    across e f here later =
        let from = from_flat_map ungrouped gs f later in
        let h = from.0 in
        let one = from_map (λ (x : Named). (g.0, x)) g.1 e here in
        let other = from_map (λ (x : Named). (h.0, x)) h.1 f from.2 in
        sym (ap₂ (λ (x y : Filed). is_lt (filed_cmp y x)) one.2 other.2)
        ∙ later_module g h one.0 other.0 (All-contains (Before g) gs h (pairs_head Before g gs rises) from.1)
