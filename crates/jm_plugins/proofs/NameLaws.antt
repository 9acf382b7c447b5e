-- Plug-ins give no resource a new name: what holds of each name still does, and names that differ
-- still differ.
use Rattle.std.proofs.Common.{◌≡◌, ◌≢◌, ℕ, List, [], ◌∷◌, Bool, true, false, cond, not, All, AllPairs, Result}
use Rattle.std.proofs.Common.{map, Ok, Err, refl, sym, ap, subst, ◌∙◌}
use Rattle.std.proofs.lemmas.Bool.{false≢true}
use Rattle.std.proofs.lemmas.List.{map-append}
use Rattle.std.proofs.lemmas.List.Elements.{All-append, All-contains, All-filter, filter_passes}
use Rattle.std.proofs.lemmas.List.Kept.{AllPairs-filter}
use Rattle.std.specs.List.{filter}
use Rattle.std.specs.Str.{bytes_eq}
use Rattle.jm_bytes.proofs.Choice.{same_ok}
use Rattle.jm_bytes.proofs.Pairs.{pairs_append}
use Rattle.jm_class.specs.Classes.{ClassData}
use Rattle.jm_class.specs.Releases.{class_for}
use Rattle.jm_class.specs.declared.class.ClassFault.{ClassFault}
use Rattle.jm_pattern.specs.ComputedMatching.{matches}
use Rattle.jm_compact.specs.Compact.{compact_text}
use Rattle.jm_pool.specs.Pairs.{names_of}
use Rattle.jm_words.specs.declared.tasks.Plugin.{Plugin}
use Rattle.jm_words.specs.declared.tasks.Plugin.TheVariants as plugin
use Rattle.jm_plugins.specs.declared.chain.BadClass.{BadClass}
use Rattle.jm_pattern.specs.ComputedMatching.{matches_any}
use Rattle.jm_plugins.specs.Matching.{excluded, kept, ordered, ranked}
use Rattle.jm_bytes.specs.Results.{followed}
use Rattle.jm_plugins.specs.Packaging.{is_descriptor, listing_text}
use Rattle.jm_plugins.specs.ComputedPlugins.{act, apply, remade, remade_pair, remade_pairs, stripped_text}
use Rattle.jm_plugins.specs.Plugins.{is_class}
use Rattle.jm_plugins.specs.SystemModules.{is_system_modules, map_name, plain_map_text}
use Rattle.jm_plugins.specs.SystemModules.{with_plain_map, without_system_modules}

-- Names of what a plug-in leaves

pub names_filter : (test : List ℕ → Bool) (pairs : List (List ℕ × List ℕ)) → names_of (filter (λ pair. test pair.0) pairs)
    ≡ filter test (names_of pairs)
names_filter test [] = refl
names_filter test (pair ∷ pairs) = go (test pair.0) (names_filter test pairs)
  where
    go : (b : Bool) → names_of (filter (λ p. test p.0) pairs) ≡ filter test (names_of pairs)
        → names_of (cond b (pair ∷ filter (λ p. test p.0) pairs) (filter (λ p. test p.0) pairs))
        ≡ cond b (pair.0 ∷ filter test (names_of pairs)) (filter test (names_of pairs))
    go true rest = ap (λ l. pair.0 ∷ l) rest
    go false rest = rest

names_plain : (pairs : List (List ℕ × List ℕ)) → names_of (map with_plain_map pairs) ≡ names_of pairs
names_plain [] = refl
names_plain (pair ∷ pairs) = go (bytes_eq pair.0 map_name) (names_plain pairs)
  where
    go : (b : Bool) → names_of (map with_plain_map pairs) ≡ names_of pairs
        → names_of (cond b (pair.0, plain_map_text) pair ∷ map with_plain_map pairs) ≡ pair.0 ∷ names_of pairs
    go true rest = ap (λ l. pair.0 ∷ l) rest
    go false rest = ap (λ l. pair.0 ∷ l) rest

name_remade : (release : ℕ) (takes : List ℕ → Bool) (text : List ℕ → ClassData → List ℕ) (pair first : List ℕ × List ℕ)
    → remade_pair release takes text pair ≡ Ok first → first.0 ≡ pair.0
name_remade release takes text pair first is = go (takes pair.0) (class_for release pair.1) is
  where
    go : (b : Bool) (r : Result ClassData ClassFault) → cond b (remade (text pair.0) pair.0 r) (Ok pair) ≡ Ok first → first.0 ≡ pair.0
    go false r same = ap (λ (p : List ℕ × List ℕ). p.0) (sym (same_ok pair first same))
    go true (Ok c) same = ap (λ (p : List ℕ × List ℕ). p.0) (sym (same_ok (pair.0, text pair.0 c) first same))
    go true (Err fault) same = cc

names_remade : (release : ℕ) (takes : List ℕ → Bool) (text : List ℕ → ClassData → List ℕ) (pairs left : List (List ℕ × List ℕ))
    → remade_pairs release takes text pairs ≡ Ok left → names_of left ≡ names_of pairs
names_remade release takes text [] left is = ap names_of (sym (same_ok [] left is))
names_remade release takes text (pair ∷ pairs) left is =
    go (remade_pair release takes text pair) (remade_pairs release takes text pairs) refl refl is
    (λ rest gives. names_remade release takes text pairs rest gives)
  where
    go : (o : Result (List ℕ × List ℕ) BadClass) (r : Result (List (List ℕ × List ℕ)) BadClass) → remade_pair release takes text pair
        ≡ o → remade_pairs release takes text pairs ≡ r → followed o (λ first. followed r (λ rest. Ok (first ∷ rest))) ≡ Ok left
        → ((rest : List (List ℕ × List ℕ)) → remade_pairs release takes text pairs ≡ Ok rest → names_of rest ≡ names_of pairs)
        → names_of left ≡ pair.0 ∷ names_of pairs
    go (Ok first) (Ok rest) one others same later =
        ap names_of (sym (same_ok (first ∷ rest) left same)) ∙ ap (λ name. name ∷ names_of rest) (name_remade release takes text pair first
        one) ∙ ap (λ l. pair.0 ∷ l) (later rest others)
    go (Ok first) (Err refusal) one others same later = cc
    go (Err refusal) r one others same later = cc

-- What is said of a list of names, where it stays true of fewer of them and of them in another order

module _ (release : ℕ) (Says : List (List ℕ) → Type 0) (fewer : (test : List ℕ → Bool) (names : List (List ℕ)) → Says names
    → Says (filter test names)) (turned : (tests : List (List ℕ → Bool)) (pairs : List (List ℕ × List ℕ)) → Says (names_of pairs)
    → Says (names_of (ranked tests pairs))) where
  acted_on : (one : Plugin) (pairs left : List (List ℕ × List ℕ)) → act release one pairs ≡ Ok left → Says (names_of pairs)
      → Says (names_of left)
  acted_on (plugin.Exclude patterns) pairs left is says =
      let test = λ (name : List ℕ). not (matches_any patterns name) in
      let names : names_of (excluded patterns pairs) ≡ filter test (names_of pairs) = names_filter test pairs in
      subst (λ l. Says (names_of l)) (same_ok (excluded patterns pairs) left is) (subst Says (sym names) (fewer test (names_of pairs) says))
  acted_on (plugin.Order patterns) pairs left is says =
      subst (λ l. Says (names_of l)) (same_ok (ordered patterns pairs) left is) (turned (map matches patterns) pairs says)
  acted_on (plugin.KeepOrder names) pairs left is says =
      subst (λ l. Says (names_of l)) (same_ok (kept names pairs) left is) (turned (map bytes_eq names) pairs says)
  acted_on plugin.Strip pairs left is says =
      subst Says (sym (names_remade release is_class (λ name. stripped_text) pairs left is)) says
  acted_on plugin.Compact pairs left is says =
      subst Says (sym (names_remade release is_class (λ name. compact_text) pairs left is)) says
  acted_on plugin.Packages pairs left is says =
      subst Says (sym (names_remade release is_descriptor (listing_text (names_of pairs)) pairs left is)) says
  acted_on plugin.DropSystemModules pairs left is says =
      let test = λ (name : List ℕ). not (is_system_modules name) in
      let names : names_of (without_system_modules pairs) ≡ filter test (names_of pairs) =
      names_plain (filter (λ pair. test pair.0) pairs) ∙ names_filter test pairs in
      subst (λ l. Says (names_of l)) (same_ok (without_system_modules pairs) left is) (subst Says (sym names) (fewer test
      (names_of pairs) says))

  applied_to : (plugins : List Plugin) (before after : List (List ℕ × List ℕ)) → apply release plugins before ≡ Ok after
      → Says (names_of before) → Says (names_of after)
  applied_to [] before after is says = subst (λ l. Says (names_of l)) (same_ok before after is) says
  applied_to (one ∷ later) before after is says =
      go (act release one before) refl is (λ left gives. applied_to later left after gives)
    where
      go : (o : Result (List (List ℕ × List ℕ)) BadClass) → act release one before ≡ o → followed o (apply release later) ≡ Ok after
          → ((left : List (List ℕ × List ℕ)) → apply release later left ≡ Ok after → Says (names_of left) → Says (names_of after))
          → Says (names_of after)
      go (Ok left) acts rest onward = onward left rest (acted_on one before left acts says)
      go (Err refusal) acts rest onward = cc

-- Each name

module _ (P : List ℕ → Type 0) where
  all_fewer : (test : List ℕ → Bool) (names : List (List ℕ)) → All P names → All P (filter test names)
  all_fewer test names all = All-filter test P names all

  all_turned : (tests : List (List ℕ → Bool)) (pairs : List (List ℕ × List ℕ)) → All P (names_of pairs)
      → All P (names_of (ranked tests pairs))
  all_turned [] pairs all = all
  all_turned (own ∷ tests) pairs all =
      let test = λ (name : List ℕ). not (own name) in
      let front = filter (λ (pair : List ℕ × List ℕ). own pair.0) pairs in
      let behind = filter (λ (pair : List ℕ × List ℕ). not (own pair.0)) pairs in
      let first = subst (All P) (sym (names_filter own pairs)) (all_fewer own (names_of pairs) all) in
      let others = subst (All P) (sym (names_filter test pairs)) (all_fewer test (names_of pairs) all) in
      subst (All P) (sym (map-append (λ (pair : List ℕ × List ℕ). pair.0) front (ranked tests behind)))
      (All-append P (names_of front) (names_of (ranked tests behind)) first (all_turned tests behind others))

  -- what holds of each name still does
  pub names_kept : (release : ℕ) (plugins : List Plugin) (before after : List (List ℕ × List ℕ)) → apply release plugins before
      ≡ Ok after → All P (names_of before) → All P (names_of after)
  names_kept release = applied_to release (All P) all_fewer all_turned

-- Names that differ

abbrev Differ : List (List ℕ) → Type 0
Differ names = AllPairs (λ one other. one ≢ other) names

differ_turned : (tests : List (List ℕ → Bool)) (pairs : List (List ℕ × List ℕ)) → Differ (names_of pairs)
    → Differ (names_of (ranked tests pairs))
differ_turned [] pairs differ = differ
differ_turned (own ∷ tests) pairs differ =
    let test = λ (name : List ℕ). not (own name) in
    let front = filter (λ (pair : List ℕ × List ℕ). own pair.0) pairs in
    let behind = filter (λ (pair : List ℕ × List ℕ). not (own pair.0)) pairs in
    let first = subst Differ (sym (names_filter own pairs)) (AllPairs-filter (λ one other. one ≢ other)
    own (names_of pairs) differ) in
    let others = subst Differ (sym (names_filter test pairs)) (AllPairs-filter (λ one other. one ≢ other) test (names_of pairs) differ) in
    let match = subst (All (λ name. own name ≡ true)) (sym (names_filter own pairs))
    (filter_passes own (names_of pairs)) in
    let none = all_turned (λ name. test name ≡ true) tests behind (subst (All (λ name. test name ≡ true))
    (sym (names_filter test pairs)) (filter_passes test (names_of pairs))) in
    subst Differ (sym (map-append (λ (pair : List ℕ × List ℕ). pair.0) front (ranked tests behind)))
    (pairs_append (λ one other. one ≢ other) (names_of front) (names_of (ranked tests behind)) first
    (differ_turned tests behind others)
    (λ one other here there same.
    let matched = All-contains (λ name. own name ≡ true) (names_of front) one match here in
    let unmatched = All-contains (λ name. test name ≡ true) (names_of (ranked tests behind)) other none there in
    false≢true (sym (ap not matched) ∙ ap test same ∙ unmatched)))

-- names that differ still do
pub names_differ : (release : ℕ) (plugins : List Plugin) (before after : List (List ℕ × List ℕ)) → apply release plugins before
    ≡ Ok after → AllPairs (λ one other. one ≢ other) (names_of before) → AllPairs (λ one other. one ≢ other) (names_of after)
names_differ release = applied_to release Differ
    (λ test names differ. AllPairs-filter (λ one other. one ≢ other) test names differ) differ_turned
