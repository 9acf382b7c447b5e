-- Patterns and lists of patterns, as they are computed, by the rules.
use Rattle.std.proofs.Common.{◌≡◌, ◌≢◌, ◌<◌, ◌+◌, [], ◌∷◌, ℕ, zero, suc, Bool, true, false}
use Rattle.std.proofs.Common.{cond, List, Some, Result, Ok, Err, IfErr, slice_get, refl, sym, ap, ◌∙◌, subst}
use Rattle.std.proofs.Common.{arith}
use Rattle.std.specs.List.{AllZip}
use Rattle.jm_bytes.specs.Results.{IfAnswered}
use Rattle.jm_bytes.specs.declared.faults.Or.{Or}
use Rattle.jm_bytes.specs.declared.faults.Or.TheVariants.{Fault, Memory}
use Rattle.jm_bytes.proofs.Choice.{same_err, same_ok, same_some}
use Rattle.jm_pattern.specs.ComputedReading.{pattern_of, signs_from, with_front}
use Rattle.jm_pattern.specs.ItemRules.{IsFirstItemFault, IsItemFault, IsListFault, ItemReads}
use Rattle.jm_pattern.specs.Items.{is_refused, item_pattern, items_of, list_of, patterns_from, with_first, without_glob}
use Rattle.jm_pattern.specs.Reading.{EndsEscaped, IsFaultOf, Reads}
use Rattle.jm_pattern.specs.declared.signs.Sign.{Sign}
use Rattle.jm_pattern.specs.declared.signs.PatternFault.{PatternFault}
use Rattle.jm_pattern.specs.declared.signs.PatternFault.TheVariants.{BadEscape, Empty, Prefix}
use Rattle.jm_pattern.proofs.ComputedReadingLaws.{escaped-signs_from, reads-signs_from}

-- A pattern

pub pattern_reads : (text : List ℕ) (signs : List Sign) → pattern_of text ≡ Ok signs → (text ≢ []) × Reads text signs
pattern_reads [] signs e = cc
pattern_reads (b ∷ text) signs e = ((λ none. cc), reads-signs_from 0 (b ∷ text) signs e)

pub pattern_fault : (text : List ℕ) (fault : PatternFault) → pattern_of text ≡ Err fault → IsFaultOf text fault
pattern_fault [] fault e = subst (IsFaultOf []) (same_err Empty fault e) refl
pattern_fault (b ∷ text) fault e =
    let escaped = escaped-signs_from 0 (b ∷ text) fault e in
    let place : 0 + escaped.place ≡ escaped.place = omega arith in
    subst (IsFaultOf (b ∷ text)) (sym escaped.is) (subst (EndsEscaped (b ∷ text)) (sym place) escaped.ends)

-- what is read of a text's signs
pub parsed_reads : (text : List ℕ) (signs : List Sign) → ◌≡◌ {A = Result (List Sign) PatternFault} (Ok signs) (signs_from 0 text)
    → Reads text signs
parsed_reads text signs read = reads-signs_from 0 text signs (sym read)

pub parsed_fault : (text : List ℕ) (result : Result (List Sign) (Or PatternFault)) → IfAnswered (λ r. r ≡ pattern_of text) result
    → IfAnswered (λ r. IfErr r (IsFaultOf text)) result
parsed_fault text (Ok signs) read = tt
parsed_fault text (Err (Fault fault)) read = pattern_fault text fault (sym read)
parsed_fault text (Err Memory) read = tt

-- The items of a list

item_reads : (number : ℕ) (item : List ℕ) (signs : List Sign) → item_pattern number item ≡ Ok signs → ItemReads item signs
item_reads number item signs e = go (is_refused item) refl e
  where
    go : (b : Bool) → is_refused item ≡ b → cond b (Err (Prefix number)) (pattern_of (without_glob item)) ≡ Ok signs → ItemReads item signs
    go true refused e = cc
    go false fine e = let reads = pattern_reads (without_glob item) signs e in (fine, reads.0, reads.1)

item_fault : (number : ℕ) (item : List ℕ) (fault : PatternFault) → item_pattern number item ≡ Err fault → IsItemFault number item fault
item_fault number item fault e = go (is_refused item) refl e
  where
    behind : (f : PatternFault) → is_refused item ≡ false → IsFaultOf (without_glob item) f → IsItemFault number item f
    behind (BadEscape at) fine is = (fine, is)
    behind Empty fine is = (fine, is)
    behind (Prefix n) fine is = absurd is

    go : (b : Bool) → is_refused item ≡ b → cond b (Err (Prefix number)) (pattern_of (without_glob item)) ≡ Err fault
        → IsItemFault number item fault
    go true refused e = subst (IsItemFault number item) (same_err (Prefix number) fault e) (refl, refused)
    go false fine e = behind fault fine (pattern_fault (without_glob item) fault e)

-- a first item and the rest give a list, or the fault of one of them
first_given : {A : Type 0} (first : Result A PatternFault) (rest : Result (List A) PatternFault) (all : List A)
    → with_first first rest ≡ Ok all → (x : A) × (xs : List A) × (first ≡ Ok x) × (rest ≡ Ok xs) × (x ∷ xs ≡ all)
first_given (Ok x) (Ok xs) all e = (x, xs, refl, refl, same_ok (x ∷ xs) all e)
first_given (Ok x) (Err fault) all e = cc
first_given (Err fault) rest all e = cc

pub items_read : (number : ℕ) (items : List (List ℕ)) (patterns : List (List Sign)) → patterns_from number items ≡ Ok patterns
    → AllZip ItemReads items patterns
items_read number [] patterns e = subst (AllZip ItemReads []) (same_ok [] patterns e) tt
items_read number (item ∷ items) patterns e =
    let given = first_given (item_pattern number item) (patterns_from (number + 1) items) patterns e in
    subst (AllZip ItemReads (item ∷ items)) given.4
    (item_reads number item given.0 given.2, items_read (number + 1) items given.1 given.3)

here : (number : ℕ) (item : List ℕ) (items : List (List ℕ)) (fault : PatternFault) → IsItemFault number item fault
    → IsFirstItemFault number (item ∷ items) fault
here number item items fault faulty =
    let at : number ≡ number + 0 = omega arith in
    record {
      place = 0;
      item = item;
      there = refl;
      before = λ k other below is. absurd (omega (arith, below));
      faulty = subst (λ n. IsItemFault n item fault) at faulty;
    }

later : (number : ℕ) (item : List ℕ) (items : List (List ℕ)) (signs : List Sign) (fault : PatternFault) → ItemReads item signs
    → IsFirstItemFault (number + 1) items fault → IsFirstItemFault number (item ∷ items) fault
later number item items signs fault reads first =
    let at : number + 1 + first.place ≡ number + suc first.place = omega arith in
    record {
      place = suc first.place;
      item = first.item;
      there = first.there;
      before = go;
      faulty = subst (λ n. IsItemFault n first.item fault) at first.faulty;
    }
  where
    go : (k : ℕ) (other : List ℕ) → k < suc first.place → slice_get (item ∷ items) k ≡ Some other → (given : List Sign)
        × ItemReads other given
    go zero other below is = (signs, subst (λ i. ItemReads i signs) (same_some item other is) reads)
    go (suc k) other below is = first.before k other (omega (arith, below)) is

pub items_fault : (number : ℕ) (items : List (List ℕ)) (fault : PatternFault) → patterns_from number items ≡ Err fault
    → IsFirstItemFault number items fault
items_fault number [] fault e = cc
items_fault number (item ∷ items) fault e = go (item_pattern number item) refl e (λ rest. items_fault (number + 1) items fault rest)
  where
    behind : (o : Result (List (List Sign)) PatternFault) (signs : List Sign) → with_front (signs ∷ []) o ≡ Err fault → o ≡ Err fault
    behind (Ok rest) signs e = cc
    behind (Err own) signs e = e

    go : (o : Result (List Sign) PatternFault) → item_pattern number item ≡ o → with_first o (patterns_from (number + 1) items)
        ≡ Err fault → (patterns_from (number + 1) items ≡ Err fault → IsFirstItemFault (number + 1) items fault)
        → IsFirstItemFault number (item ∷ items) fault
    go (Ok signs) is e rest = later number item items signs fault (item_reads number item signs is)
        (rest (behind (patterns_from (number + 1) items) signs e))
    go (Err own) is e rest = here number item items fault (item_fault number item fault (is ∙ ap (λ f. Err f) (same_err own fault e)))

pub list_reads : (text : List ℕ) (patterns : List (List Sign)) → ◌≡◌ {A = Result (List (List Sign)) PatternFault} (Ok patterns)
    (list_of text) → AllZip ItemReads (items_of text) patterns
list_reads text patterns read = items_read 0 (items_of text) patterns (sym read)

pub list_fault : (text : List ℕ) (result : Result (List (List Sign)) (Or PatternFault)) → IfAnswered (λ r. r ≡ list_of text) result
    → IfAnswered (λ r. IfErr r (IsListFault text)) result
list_fault text (Ok patterns) read = tt
list_fault text (Err (Fault fault)) read = items_fault 0 (items_of text) fault (sym read)
list_fault text (Err Memory) read = tt
