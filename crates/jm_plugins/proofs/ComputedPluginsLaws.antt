-- What plug-ins make by the rules is what is computed, and nothing else.
use Rattle.std.proofs.Common.{◌≡◌, ℕ, ◌+◌, ◌<◌, ◌≤◌, Bool, true, false, cond, List, [], ◌∷◌, rules}
use Rattle.std.proofs.Common.{◌++◌, All, drop, length, get_or, Some, Result, Ok, Err, refl, sym, ap, subst}
use Rattle.std.proofs.Common.{◌∙◌}
use Rattle.std.proofs.lemmas.Bool.{false≢true}
use Rattle.std.proofs.lemmas.List.{drop_all, drop_more}
use Rattle.std.proofs.lemmas.List.Elements.{All-nil, All-cons, All-head, All-tail}
use Rattle.std.specs.List.{AllZip}
use Rattle.jm_bytes.specs.declared.faults.Or.{Or}
use Rattle.jm_bytes.specs.declared.faults.Or.TheVariants.{Fault, Memory}
use Rattle.jm_bytes.specs.Results.{followed, IfAnswered}
use Rattle.jm_class.specs.Classes.{ClassData, class_text, IsClass}
use Rattle.jm_class.specs.Layouts.{fault_of}
use Rattle.jm_class.specs.Releases.{ReadsFor, class_for, fault_for}
use Rattle.jm_class.specs.declared.class.ClassFault.{ClassFault}
use Rattle.jm_class.proofs.ReleaseLaws.{reads-class_for}
use Rattle.jm_compact.specs.Compact.{IsCompact, compact_text}
use Rattle.jm_compact.proofs.WholeText.{rule, rule_only}
use Rattle.jm_pool.specs.Pairs.{names_of}
use Rattle.jm_strip.specs.Strip.{strip}
use Rattle.jm_words.specs.declared.tasks.Plugin.{Plugin}
use Rattle.jm_words.specs.declared.tasks.Plugin.TheVariants as plugin
use Rattle.jm_plugins.specs.declared.chain.BadClass.{BadClass}
use Rattle.jm_plugins.specs.ComputedPlugins.{act, apply, bad_class, remade, remade_pair, remade_pairs, stripped_text}
use Rattle.jm_plugins.specs.Packaging.{is_descriptor, listing_text}
use Rattle.jm_plugins.specs.Plugins.{Applies, AreMadeAnew, GoesOn, IsMadeAnew, Makes, Pairs, Taken, Untaken, is_class}
use Rattle.jm_plugins.specs.Steps.{ReadsByRule, TakenRead}
use Rattle.jm_plugins.proofs.ClassLaws.{fault_computed}

-- Classes made anew

module _ (release : ℕ) (takes : List ℕ → Bool) (IsRight : List ℕ → ClassData → List ℕ → Type 0) (text : List ℕ → ClassData → List ℕ) where
  abbrev Reads : List ℕ × List ℕ → Type 0
  Reads pair = takes pair.0 ≡ true → (c : ClassData) × ReadsFor release pair.1 c

  abbrev Read : List ℕ × List ℕ → Type 0
  Read pair = takes pair.0 ≡ true → ReadsByRule release pair.1

  -- a first pair that is made anew, and what the rest comes to
  one_more : (pair first : List ℕ × List ℕ) (pairs : Pairs) → IsMadeAnew release takes IsRight pair first → Reads pair
      → (rest : Result Pairs BadClass) → AreMadeAnew release takes IsRight pairs rest → AreMadeAnew release takes IsRight (pair ∷ pairs)
      (followed rest (λ made. Ok (first ∷ made)))
  one_more pair first pairs own reads (Ok made) later = (own, later)
  one_more pair first pairs own reads (Err refusal) later = record {
    before = pair ∷ later.before;
    bytes = later.bytes;
    behind = later.behind;
    is = ap (λ l. pair ∷ l) later.is;
    read = All-cons Reads pair later.before reads later.read;
    taken = later.taken;
    bad = later.bad;
  }

  -- what is computed is by the rule, where the computed texts are right
  pub made_anew : ((name : List ℕ) (c : ClassData) → IsClass c → IsRight name c (text name c)) → (pairs : Pairs)
      → TakenRead release takes pairs → AreMadeAnew release takes IsRight pairs (remade_pairs release takes text pairs)
  made_anew right [] read = tt
  made_anew right (pair ∷ pairs) read =
      go (takes pair.0) refl (class_for release pair.1) refl (remade_pairs release takes text pairs)
      (made_anew right pairs (All-tail Read pair pairs read))
    where
      own : Read pair
      own = All-head Read pair pairs read

      go : (b : Bool) → takes pair.0 ≡ b → (r : Result ClassData ClassFault) → class_for release pair.1 ≡ r
          → (rest : Result Pairs BadClass) → AreMadeAnew release takes IsRight pairs rest
          → AreMadeAnew release takes IsRight (pair ∷ pairs) (followed (cond b (remade (text pair.0) pair.0 r) (Ok pair))
          (λ first. followed rest (λ made. Ok (first ∷ made))))
      go false is r computed rest later =
          one_more pair pair pairs (Untaken is refl) (λ taken. absurd (false≢true (sym is ∙ taken))) rest later
      go true is (Ok c) computed rest later =
          let reads = own is c computed in
          one_more pair (pair.0, text pair.0 c) pairs (Taken is c reads (text pair.0 c) (right pair.0 c reads.reads.well_formed) refl)
          (λ taken. (c, reads)) rest later
      go true is (Err fault) computed rest later = record {
        before = [];
        bytes = pair.1;
        behind = pairs;
        is = refl;
        read = All-nil Reads;
        taken = is;
        bad = ap fault_of computed;
      }

  module _ (only : (name : List ℕ) (c : ClassData) (own : List ℕ) → IsClass c → IsRight name c own → own ≡ text name c) where
    -- what a first pair and the rest come to
    abbrev onward : Pairs → Result (List ℕ × List ℕ) BadClass → Result Pairs BadClass
    onward rest o = followed o (λ first. followed (remade_pairs release takes text rest) (λ made. Ok (first ∷ made)))

    pair_only : (pair made : List ℕ × List ℕ) → IsMadeAnew release takes IsRight pair made → remade_pair release takes text pair ≡ Ok made
    pair_only pair made (Untaken is same) =
        ap (λ b. cond b (remade (text pair.0) pair.0 (class_for release pair.1)) (Ok pair)) is ∙ ap (λ p. Ok p) (sym same)
    pair_only pair made (Taken is c reads own right same) =
        ap (λ b. cond b (remade (text pair.0) pair.0 (class_for release pair.1)) (Ok pair)) is
        ∙ ap (remade (text pair.0) pair.0) (reads-class_for release pair.1 c reads)
        ∙ ap (λ t. Ok (pair.0, t)) (sym (only pair.0 c own reads.reads.well_formed right)) ∙ ap (λ p. Ok p) (sym same)

    pairs_only : (pairs made : Pairs) → AllZip (IsMadeAnew release takes IsRight) pairs made
        → remade_pairs release takes text pairs ≡ Ok made
    pairs_only [] [] zipped = refl
    pairs_only [] (m ∷ made) zipped = absurd zipped
    pairs_only (pair ∷ pairs) [] zipped = absurd zipped
    pairs_only (pair ∷ pairs) (m ∷ made) zipped =
        ap (onward pairs) (pair_only pair m zipped.0) ∙ ap (λ o. followed o (λ rest. Ok (m ∷ rest))) (pairs_only pairs made zipped.1)

    pair_read : (pair : List ℕ × List ℕ) → Reads pair → (first : List ℕ × List ℕ) × (remade_pair release takes text pair ≡ Ok first)
    pair_read pair reads = go (takes pair.0) refl
      where
        go : (b : Bool) → takes pair.0 ≡ b → (first : List ℕ × List ℕ) × (cond b (remade (text pair.0) pair.0 (class_for release pair.1))
            (Ok pair) ≡ Ok first)
        go false is = (pair, refl)
        go true is =
            let own = reads is in
            ((pair.0, text pair.0 own.0), ap (remade (text pair.0) pair.0) (reads-class_for release pair.1 own.0 own.1))

    bad_only : (before behind : Pairs) (name bytes : List ℕ) (fault : ClassFault) → All Reads before → takes name ≡ true
        → fault_for release bytes ≡ Some fault → remade_pairs release takes text (before ++ (name, bytes) ∷ behind)
        ≡ Err (bad_class name fault)
    bad_only [] behind name bytes fault read taken bad =
        ap (onward behind)
        (ap (λ b. cond b (remade (text name) name (class_for release bytes)) (Ok (name, bytes))) taken
        ∙ ap (remade (text name) name) (fault_computed release bytes fault bad))
    bad_only (pair ∷ before) behind name bytes fault read taken bad =
        let first = pair_read pair (All-head Reads pair before read) in
        ap (onward (before ++ (name, bytes) ∷ behind)) first.1
        ∙ ap (λ o. followed o (λ rest. Ok (first.0 ∷ rest))) (bad_only before behind name bytes fault (All-tail Reads pair before
        read) taken bad)

    -- what is by the rule is computed, where no other texts are right
    pub anew_only : (pairs : Pairs) (result : Result Pairs BadClass) → AreMadeAnew release takes IsRight pairs result → result
        ≡ remade_pairs release takes text pairs
    anew_only pairs (Ok made) are = sym (pairs_only pairs made are)
    anew_only pairs (Err refusal) are =
        sym (subst (λ ps. remade_pairs release takes text ps ≡ Err refusal) (sym are.is) (bad_only are.before are.behind refusal.name
        are.bytes refusal.fault are.read are.taken are.bad))

-- One plug-in

-- the classes that it takes read by the rule
abbrev pub TakenBy : ℕ → Plugin → Pairs → Type 0
TakenBy release (plugin.Exclude patterns) pairs = Unit {0}
TakenBy release (plugin.Order patterns) pairs = Unit {0}
TakenBy release (plugin.KeepOrder names) pairs = Unit {0}
TakenBy release plugin.Strip pairs = TakenRead release is_class pairs
TakenBy release plugin.Compact pairs = TakenRead release is_class pairs
TakenBy release plugin.Packages pairs = TakenRead release is_descriptor pairs
TakenBy release plugin.DropSystemModules pairs = Unit {0}

pub makes_computed : (release : ℕ) (one : Plugin) (pairs : Pairs) → TakenBy release one pairs
    → Makes release one pairs (act release one pairs)
makes_computed release (plugin.Exclude patterns) pairs read = search (rules)
makes_computed release (plugin.Order patterns) pairs read = search (rules)
makes_computed release (plugin.KeepOrder names) pairs read = search (rules)
makes_computed release plugin.Strip pairs read = search (rules, made_anew)
makes_computed release plugin.Compact pairs read = search (rules, rule, made_anew)
makes_computed release plugin.Packages pairs read = search (rules, made_anew)
makes_computed release plugin.DropSystemModules pairs read = search (rules)

pub makes_only : (release : ℕ) (one : Plugin) (pairs : Pairs) (result : Result Pairs BadClass) → Makes release one pairs result
    → result ≡ act release one pairs
makes_only release (plugin.Exclude patterns) pairs result is = is
makes_only release (plugin.Order patterns) pairs result is = is
makes_only release (plugin.KeepOrder names) pairs result is = is
makes_only release plugin.Strip pairs result are =
    anew_only release is_class (λ name c text. text ≡ class_text (strip c)) (λ name. stripped_text)
    (λ name c own fits is. is) pairs result are
makes_only release plugin.Compact pairs result are =
    anew_only release is_class (λ name. IsCompact) (λ name. compact_text) (λ name c own fits is. rule_only c fits own is) pairs result are
makes_only release plugin.Packages pairs result are =
    anew_only release is_descriptor (λ name c text. text ≡ listing_text (names_of pairs) name c) (listing_text (names_of pairs))
    (λ name c own fits is. is) pairs result are
makes_only release plugin.DropSystemModules pairs result is = is

-- what is computed is by the rule
pub makes_due : (release : ℕ) (one : Plugin) (pairs : Pairs) (result : Result Pairs (Or BadClass))
    → IfAnswered (λ r. r ≡ act release one pairs) result → IfAnswered (λ _. TakenBy release one pairs) result
    → IfAnswered (Makes release one pairs) result
makes_due release one pairs (Ok made) is read = subst (Makes release one pairs) (sym is) (makes_computed release one pairs read)
makes_due release one pairs (Err (Fault refusal)) is read = subst (Makes release one pairs) (sym is) (makes_computed release one pairs read)
makes_due release one pairs (Err Memory) is read = tt

-- One after another

goes_only : (release : ℕ) (later : List Plugin) (result : Result Pairs BadClass)
    → ((pairs : Pairs) → Applies release later pairs result → result ≡ apply release later pairs)
    → (made : Result Pairs BadClass) → GoesOn (Applies release later) made result → result ≡ followed made (apply release later)
goes_only release later result only (Ok made) on = only made on
goes_only release later result only (Err refusal) on = on

-- what plug-ins make by the rule is what is computed
pub applies_only : (release : ℕ) (plugins : List Plugin) (pairs : Pairs) (result : Result Pairs BadClass)
    → Applies release plugins pairs result → result ≡ apply release plugins pairs
applies_only release [] pairs result is = is
applies_only release (one ∷ later) pairs result (made, makes, on) =
    goes_only release later result (λ others. applies_only release later others result) made on
    ∙ ap (λ r. followed r (apply release later)) (makes_only release one pairs made makes)

-- Plug-ins that have acted, up to a number

module _ (release : ℕ) (plugins : List Plugin) (first : Pairs) (number : ℕ) (pairs : Pairs) (so_far : (result : Result Pairs BadClass)
    → Applies release (drop number plugins) pairs result → Applies release plugins first result) where
  -- the next one, and those after it
  next_applies : (one : Plugin) (made result : Result Pairs BadClass) → number < length plugins → one ≡ get_or plugins number one
      → Makes release one pairs made → GoesOn (Applies release (drop (number + 1) plugins)) made result
      → Applies release plugins first result
  next_applies one made result below is makes on = search (rules, drop_more)

  pub one_acted : (one : Plugin) (made : Pairs) → number < length plugins → one ≡ get_or plugins number one
      → Makes release one pairs (Ok made) → (result : Result Pairs BadClass) → Applies release (drop (number + 1) plugins) made result
      → Applies release plugins first result
  one_acted one made below is makes result later = next_applies one (Ok made) result below is makes later

  pub one_refused : (one : Plugin) (refusal : Or BadClass) → number < length plugins → one ≡ get_or plugins number one
      → IfAnswered (Makes release one pairs) (Err refusal) → IfAnswered (Applies release plugins first) (Err refusal)
  one_refused one (Fault refusal) below is makes = next_applies one (Err refusal) (Err refusal) below is makes refl
  one_refused one Memory below is makes = tt

  pub all_acted : length plugins ≤ number → Applies release plugins first (Ok pairs)
  all_acted past = so_far (Ok pairs) (subst (λ ps. Applies release ps pairs (Ok pairs)) (sym (drop_all number plugins past)) refl)
