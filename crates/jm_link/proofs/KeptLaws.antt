-- What plug-ins leave that have no order: resources that were there, in their order, and what each
-- descriptor says.
use Rattle.std.proofs.Common.{◌≡◌, ℕ, inl, inr, Bool, true, List, [], ◌∷◌, All, AllPairs, Contains, filter, rules}
use Rattle.std.proofs.Common.{cond, false, map, Result, Ok, Err, refl, sym, ap, subst, ◌∙◌, not, suc, arith}
use Rattle.std.proofs.lemmas.Bool.{false≢true}
use Rattle.std.proofs.lemmas.Slice.Eq.{bytes_eq-Decides}
use Rattle.std.specs.Str.{bytes_eq}
use Rattle.std.proofs.lemmas.List.Kept.{AllPairs-cons, AllPairs-filter}
use Rattle.jm_bytes.proofs.Choice.{chosen, same_ok}
use Rattle.jm_bytes.proofs.Members.{all_from_contains, contains_cases, contains_here, contains_later, from_filter}
use Rattle.jm_bytes.proofs.Pairs.{pairs_head, pairs_tail}
use Rattle.std.proofs.lemmas.List.Elements.{All-contains}
use Rattle.jm_class.specs.Classes.{ClassData}
use Rattle.jm_class.specs.Releases.{ReadsFor, class_for}
use Rattle.jm_class.specs.declared.class.ClassFault.{ClassFault}
use Rattle.jm_class.proofs.ReleaseLaws.{reads-class_for}
use Rattle.jm_compact.specs.Compact.{compact_text}
use Rattle.jm_form.specs.Layout.{Written}
use Rattle.jm_form.specs.ModuleFiles.{info_name}
use Rattle.jm_form.specs.Trees.{module_of, path_of}
use Rattle.jm_modinfo.specs.declared.descriptor.Descriptor.{Descriptor}
use Rattle.jm_modinfo.specs.ComputedInfo.{info_of}
use Rattle.jm_words.specs.declared.tasks.Plugin.{Plugin}
use Rattle.jm_words.specs.declared.tasks.Plugin.TheVariants as plugin
use Rattle.jm_plugins.specs.declared.chain.BadClass.{BadClass}
use Rattle.jm_pattern.specs.ComputedMatching.{matches_any}
use Rattle.jm_bytes.specs.Results.{followed}
use Rattle.jm_plugins.specs.Packaging.{is_descriptor, listing_text, packages_of}
use Rattle.jm_plugins.specs.ComputedPlugins.{act, apply, remade, remade_pair, remade_pairs, stripped_text}
use Rattle.jm_plugins.specs.Plugins.{is_class}
use Rattle.jm_plugins.specs.SystemModules.{is_system_modules, map_name, plain_map_text, with_plain_map}
use Rattle.jm_pool.specs.Pairs.{names_of}
use Rattle.jm_link.specs.Relinked.{leaves_order}
use Rattle.jm_link.proofs.SaidLaws.{Says, compacted_says, packaged_says, stripped_says}

-- a resource that has the name of one that was there, and if that is a descriptor's, says as a class
-- of a release what that one said
pub record IsKept (release : ℕ) (old : List Written) (r : Written) : Type 0 where
  pub was : Written
  pub there : Contains old was
  pub name : was.0 ≡ r.0
  pub says : path_of was.0 ≡ info_name → (d : Descriptor) → Says release was.1 d → Says release r.1 d

followed_ok : {A B : Type 0} (r : Result A BadClass) (next : A → Result B BadClass) (b : B) → followed r next ≡ Ok b → (a : A)
    × (r ≡ Ok a) × (next a ≡ Ok b)
followed_ok (Ok a) next b is = (a, refl, is)
followed_ok (Err refusal) next b is = cc

remade_ok : (text : ClassData → List ℕ) (name : List ℕ) (r : Result ClassData ClassFault) (q : Written) → remade text name r ≡ Ok q
    → (c : ClassData) × (r ≡ Ok c) × ((name, text c) ≡ q)
remade_ok text name (Ok c) q is = (c, refl, same_ok {E = BadClass} (name, text c) q is)
remade_ok text name (Err fault) q is = cc

-- the class that bytes are which say a descriptor
class_says : (release : ℕ) (bytes : List ℕ) (c : ClassData) (d : Descriptor) → class_for release bytes ≡ Ok c → Says release bytes d
    → ReadsFor release bytes c × (info_of c ≡ Ok d)
class_says release bytes c d computed says =
    let same : says.class ≡ c = same_ok {E = ClassFault} says.class c (sym (reads-class_for release bytes says.class says.reads)
    ∙ computed) in
    (subst (ReadsFor release bytes) same says.reads, subst (λ k. info_of k ≡ Ok d) same says.info)

module _ (release : ℕ) (R : List ℕ → List ℕ → Type 0) where
  abbrev pub Ordered : List Written → Type 0
  Ordered rs = AllPairs (λ (e f : Written). R e.0 f.0) rs

  -- each is kept, and what stood in an order stands in it
  pub record AreKept (old new : List Written) : Type 0 where
    pub each : (r : Written) → Contains new r → IsKept release old r
    pub order : Ordered old → Ordered new

  same_kept : (rs : List Written) → AreKept rs rs
  same_kept rs = search (rules)

  further : (one two three : List Written) → AreKept one two → AreKept two three → AreKept one three
  further one two three first second = record {
    each = λ r there.
        let after = second.each r there in
        let before = first.each after.was after.there in
        record {
          was = before.was;
          there = before.there;
          name = before.name ∙ after.name;
          says =
              λ named d says. after.says (ap path_of (sym before.name) ∙ named) d (before.says named d says);
        };
    order = λ ordered. second.order (first.order ordered);
  }

  filtered : (p : Written → Bool) (rs : List Written) → AreKept rs (filter p rs)
  filtered p rs = record {
    each = λ r there. record { was = r; there = (from_filter p rs r there).0; name = refl; says = λ named d says. says };
    order = λ ordered. AllPairs-filter (λ (e f : Written). R e.0 f.0) p rs ordered;
  }

  -- one more in front
  more_kept : (p q : Written) (old new : List Written) → p.0 ≡ q.0 → (path_of p.0 ≡ info_name → (d : Descriptor)
      → Says release p.1 d → Says release q.1 d) → AreKept old new → AreKept (p ∷ old) (q ∷ new)
  more_kept p q old new name says kept = record {
    each = λ r there.
        elim (contains_cases q new r there) [
          | inl same ↦ record {
            was = p;
            there = contains_here p old;
            name = name ∙ ap (λ (x : Written). x.0) same;
            says =
                λ named d was. subst (λ (x : Written). Says release x.1 d) same (says named d was);
          }
          | inr later ↦
              let one = kept.each r later in
              record { was = one.was; there = contains_later p old one.was one.there; name = one.name; says = one.says }
        ];
    order = λ ordered.
        AllPairs-cons (λ (e f : Written). R e.0 f.0) q new
        (all_from_contains (λ (f : Written). R q.0 f.0) new
        (λ f there.
        let one = kept.each f there in
        let before = All-contains (λ (g : Written). R p.0 g.0) old one.was (pairs_head (λ (e g : Written). R e.0 g.0) p old ordered)
        one.there in
        subst (λ n. R q.0 n) one.name (subst (λ n. R n one.was.0) name before)))
        (kept.order (pairs_tail (λ (e g : Written). R e.0 g.0) p old ordered));
  }

  -- classes of another text

  module _ (takes : List ℕ → Bool) (text : List ℕ → ClassData → List ℕ) (keeps : (name bytes : List ℕ) (c : ClassData)
      (d : Descriptor) → ReadsFor release bytes c → info_of c ≡ Ok d → Says release (text name c) d) where
    remade_one : (p q : Written) → remade_pair release takes text p ≡ Ok q → (p.0 ≡ q.0)
        × ((d : Descriptor) → Says release p.1 d → Says release q.1 d)
    remade_one p q is =
        elim (chosen (takes p.0) (remade (text p.0) p.0 (class_for release p.1)) (Ok p) (Ok q) is) [
          | inl class ↦
              let made = remade_ok (text p.0) p.0 (class_for release p.1) q class.1 in (
                ap (λ (x : Written). x.0) made.2,
                λ d was. subst (λ (x : Written). Says release x.1 d) made.2
                    (let says = class_says release p.1 made.0 d made.1 was in keeps p.0 p.1 made.0 d says.0 says.1),
              )
          | inr other ↦
              let same = same_ok {E = BadClass} p q other.1 in
              (ap (λ (x : Written). x.0) same, λ d was. subst (λ (x : Written). Says release x.1 d) same was)
        ]

    remade_all : (old new : List Written) → remade_pairs release takes text old ≡ Ok new → AreKept old new
    remade_all [] new is = subst (AreKept []) (same_ok {E = BadClass} [] new is) (same_kept [])
    remade_all (p ∷ old) new is =
        let one = followed_ok (remade_pair release takes text p) (λ first. followed (remade_pairs release takes text old)
        (λ behind. Ok (first ∷ behind))) new is in
        let rest = followed_ok (remade_pairs release takes text old) (λ behind. Ok (one.0 ∷ behind)) new one.2 in
        let same = remade_one p one.0 one.1 in
        subst (AreKept (p ∷ old)) (same_ok {E = BadClass} (one.0 ∷ rest.0) new rest.2) (more_kept p one.0 old rest.0 same.0
        (λ named. same.1) (remade_all old rest.0 rest.1))

  -- the plain map, which is no descriptor

  plain_one : (p : Written) → (p.0 ≡ (with_plain_map p).0) × (path_of p.0 ≡ info_name → (d : Descriptor) → Says release p.1 d
      → Says release (with_plain_map p).1 d)
  plain_one p = go (bytes_eq p.0 map_name) refl
    where
      other_path : path_of p.0 ≡ info_name → p.0 ≡ map_name → ⊥
      other_path named same = false≢true ((bytes_eq-Decides (path_of map_name) info_name).1 (ap path_of (sym same) ∙ named))

      go : (b : Bool) → bytes_eq p.0 map_name ≡ b → (p.0 ≡ (cond b (p.0, plain_map_text) p).0) × (path_of p.0 ≡ info_name
          → (d : Descriptor) → Says release p.1 d → Says release (cond b (p.0, plain_map_text) p).1 d)
      go true is = (refl, λ named d says. absurd (other_path named ((bytes_eq-Decides p.0 map_name).0 is)))
      go false is = (refl, λ named d says. says)

  with_plain : (rs : List Written) → AreKept rs (map with_plain_map rs)
  with_plain [] = search (rules, same_kept)
  with_plain (p ∷ rs) = search (rules, more_kept, plain_one, (with_plain rs))

  acted : (one : Plugin) (old new : List Written) → leaves_order one ≡ true → act release one old ≡ Ok new → AreKept old new
  acted (plugin.Exclude patterns) old new leaves is =
      subst (AreKept old) (same_ok {E = BadClass} _ new is) (filtered (λ r. not (matches_any patterns r.0)) old)
  acted (plugin.Order patterns) old new leaves is = absurd (false≢true leaves)
  acted (plugin.KeepOrder names) old new leaves is = absurd (false≢true leaves)
  acted plugin.Strip old new leaves is = remade_all is_class (λ name. stripped_text) (λ name. stripped_says release) old new is
  acted plugin.Compact old new leaves is = remade_all is_class (λ name. compact_text) (λ name. compacted_says release) old new is
  acted plugin.Packages old new leaves is = remade_all is_descriptor (listing_text (names_of old))
      (λ name. packaged_says release (packages_of (names_of old) (module_of name))) old new is
  acted plugin.DropSystemModules old new leaves is =
      let left = filter (λ (r : Written). not (is_system_modules r.0)) old in
      subst (AreKept old) (same_ok {E = BadClass} _ new is) (further old left (map with_plain_map left)
      (filtered (λ r. not (is_system_modules r.0)) old) (with_plain left))

  pub applied : (plugins : List Plugin) (old new : List Written) → All (λ one. leaves_order one ≡ true) plugins
      → apply release plugins old ≡ Ok new → AreKept old new
  applied [] old new leave is = subst (AreKept old) (same_ok {E = BadClass} old new is) (same_kept old)
  applied (one ∷ later) old new leave is =
      let first = followed_ok (act release one old) (apply release later) new is in
      further old first.0 new (acted one old first.0 (leave 0 one (omega arith)) first.1)
      (applied later first.0 new (λ i d below. leave (suc i) d (omega arith)) first.2)
