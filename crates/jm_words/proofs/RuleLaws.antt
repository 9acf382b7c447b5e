-- What stands at a place and at the next one, and how the words are read from place to place.
use Rattle.std.proofs.Common.{◌≡◌, ℕ, zero, suc, ◌+◌, ◌<◌, Bool, true, false, cond, List, [], ◌∷◌, ◌++◌, length, get_or, drop, map}
use Rattle.std.proofs.Common.{Option, Some, None, Result, Ok, Err, refl, sym, ap, ◌∙◌, subst, arith}
use Rattle.std.specs.Prelude.{count_by, option_map}
use Rattle.std.specs.Option.{option_or}
use Rattle.std.specs.List.{filter_map, cons_option, find, range_with_len}
use Rattle.std.proofs.lemmas.List.{drop-drop, get_or-map, length-map}
use Rattle.std.proofs.lemmas.List.Elements.{filter_map-append}
use Rattle.std.proofs.lemmas.List.Folds.{find-append}
use Rattle.std.proofs.lemmas.List.FromFn.{map-range_with_len_more}
use Rattle.std.proofs.lemmas.List.Sums.{fold-append}
use Rattle.std.proofs.lemmas.Option.{unwrap_or-slice_get}
use Rattle.jm_bytes.proofs.CheckLaws.{first_fault_append_none, first_fault_least, no_fault_between}
use Rattle.jm_bytes.proofs.Pairs.{range_with_len-append}
use Rattle.jm_bytes.specs.Checks.{first_fault, unless_fault}
use Rattle.jm_bytes.specs.Results.{IfAnswered}
use Rattle.jm_bytes.specs.declared.faults.Or.{Or}
use Rattle.jm_bytes.specs.declared.faults.Or.TheVariants.{Fault, Memory}
use Rattle.jm_words.specs.declared.drafts.Draft.{Draft}
use Rattle.jm_words.specs.declared.errors.WordsFault.{WordsFault}
use Rattle.jm_words.specs.declared.tables.Verb.{Verb}
use Rattle.jm_words.specs.Drafts.{asks_order, draft_of, kept_with}
use Rattle.jm_words.specs.Givens.{Given}
use Rattle.jm_words.specs.Reading.{Standing, after_role, after_sound, left_behind, pending_at, standing_at, with_word}
use Rattle.jm_words.specs.Roles.{Role, Unknown, Flag, Waits, WithValue, ValueFor, AsArgument, is_argument, role_of}
use Rattle.jm_words.specs.Rule.{draft_before, draft_given, fault_before, fault_of, given_at, givens_before, kept_before, left_at}
use Rattle.jm_words.specs.Rule.{role_at}
use Rattle.jm_words.specs.Rule.{roles_before, word_at}
use Rattle.jm_words.specs.Tables.{Row, arguments, options}
use Rattle.jm_words.proofs.DraftLaws.{draft_of_more}

-- Lists

counted : {X : Type 0} (p : X → Bool) (xs : List X) (x : X) → count_by p (xs ++ x ∷ []) ≡ count_by p xs + cond (p x) 1 0
counted p xs x = fold-append (λ a y. a + cond (p y) 1 0) 0 xs (x ∷ [])

ranged : {X : Type 0} (f : ℕ → X) (i : ℕ) → map f (range_with_len 0 (suc i)) ≡ map f (range_with_len 0 i) ++ f i ∷ []
ranged f i =
    let one : i + 1 ≡ suc i = omega arith in
    subst (λ n. map f (range_with_len 0 n) ≡ map f (range_with_len 0 i) ++ f i ∷ []) one (map-range_with_len_more f 0 i i (omega arith))

module _ (verb : Verb) (words : List (List ℕ)) where
  -- One place further

  givens_more : (i : ℕ) → givens_before verb words (suc i) ≡ givens_before verb words i ++ cons_option (given_at verb words i) []
  givens_more i =
      let one : suc i ≡ i + 1 = omega arith in
      let same : 0 + i ≡ i = omega arith in
      ap (λ n. filter_map (given_at verb words) (range_with_len 0 n)) one
      ∙ ap (filter_map (given_at verb words)) (range_with_len-append 0 i 1)
      ∙ ap (λ (j : ℕ). filter_map (given_at verb words) (range_with_len 0 i ++ range_with_len j 1)) same
      ∙ filter_map-append (given_at verb words) (range_with_len 0 i) (i ∷ [])

  asks : ℕ → Bool
  asks j = asks_order (given_at verb words j)

  -- the first place that asks, or this one
  first_more : (i : ℕ) (found : Option ℕ) → option_map (λ j. j + 2) (option_or found (find asks (i ∷ [])))
      ≡ kept_with (i + 2) (given_at verb words i) (option_map (λ j. j + 2) found)
  unfolding asks
  first_more i (Some j) = refl
  first_more i None = go (asks i)
    where
      go : (b : Bool) → option_map (λ j. j + 2) (cond b (Some i) None) ≡ cond b (Some (i + 2)) None
      go true = refl
      go false = refl

  kept_more : (i : ℕ) → kept_before verb words (suc i) ≡ kept_with (i + 2) (given_at verb words i) (kept_before verb words i)
  unfolding asks
  kept_more i =
      let one : suc i ≡ i + 1 = omega arith in
      let same : 0 + i ≡ i = omega arith in
      ap (λ n. option_map (λ j. j + 2) (find asks (range_with_len 0 n))) one
      ∙ ap (λ places. option_map (λ j. j + 2) (find asks places)) (range_with_len-append 0 i 1)
      ∙ ap (λ (j : ℕ). option_map (λ j. j + 2) (find asks (range_with_len 0 i ++ range_with_len j 1))) same
      ∙ ap (option_map (λ j. j + 2)) (find-append asks (range_with_len 0 i) (i ∷ []))
      ∙ first_more i (find asks (range_with_len 0 i))

  draft_more : (i : ℕ) → draft_before verb words (suc i) ≡ with_word (i + 2) (draft_before verb words i) (given_at verb words i)
  draft_more i =
      ap (λ (givens : List Given). draft_of (kept_before verb words (suc i)) givens) (givens_more i)
      ∙ ap (λ (kept : Option ℕ). draft_of kept (givens_before verb words i ++ cons_option (given_at verb words i) [])) (kept_more i)
      ∙ draft_of_more (i + 2) (kept_before verb words i) (givens_before verb words i) (given_at verb words i)

  left_more : (i : ℕ) → left_at verb words (suc i) ≡ left_behind (left_at verb words i) (role_at verb words i)
  left_more i =
      ap (λ roles. drop (count_by is_argument roles) (arguments verb)) (ranged (role_at verb words) i)
      ∙ ap (λ n. drop n (arguments verb)) (counted is_argument (roles_before verb words i) (role_at verb words i))
      ∙ go (role_at verb words i)
    where
      taken : ℕ
      taken = count_by is_argument (roles_before verb words i)

      none : drop (taken + 0) (arguments verb) ≡ drop taken (arguments verb)
      none = let same : taken + 0 ≡ taken = omega arith in ap (λ n. drop n (arguments verb)) same

      go : (role : Role) → drop (taken + cond (is_argument role) 1 0) (arguments verb) ≡ left_behind (drop taken (arguments verb)) role
      go Unknown = none
      go (Flag row) = none
      go (Waits row) = none
      go (WithValue row text) = none
      go (ValueFor row text) = none
      go (AsArgument text) = sym (drop-drop 1 taken (arguments verb))

  standing_more : (i : ℕ) → after_sound (i + 2) (standing_at verb words i) (role_at verb words i) ≡ standing_at verb words (suc i)
  standing_more i = rw (draft_more i, left_more i) refl

  role_here : (i : ℕ) → role_of (options verb) (pending_at verb words i) (word_at words i) ≡ role_at verb words i
  role_here zero = refl
  role_here (suc i) = refl

  -- the word at a place is read in its role
  word_read : (i : ℕ) → after_role (i + 2) (length words + 1) (standing_at verb words i)
      (role_of (options verb) (pending_at verb words i) (word_at words i)) ≡ unless_fault (fault_of verb words i) (standing_at verb words (suc i))
  word_read i =
      ap (after_role (i + 2) (length words + 1) (standing_at verb words i)) (role_here i)
      ∙ ap (unless_fault (fault_of verb words i)) (standing_more i)

  -- The first fault

  none_more : (i : ℕ) → fault_before verb words i ≡ None → fault_of verb words i ≡ None → fault_before verb words (suc i) ≡ None
  none_more i before here =
      ap first_fault (ranged (fault_of verb words) i)
      ∙ first_fault_append_none (map (fault_of verb words) (range_with_len 0 i)) (fault_of verb words i ∷ []) before
      ∙ ap (λ (fault : Option WordsFault). first_fault (fault ∷ [])) here

  first_here : (i : ℕ) (fault : WordsFault) → i < length words → fault_before verb words i ≡ None → fault_of verb words i ≡ Some fault
      → fault_before verb words (length words) ≡ Some fault
  first_here i fault below before here =
      first_fault_least (fault_of verb words) 0 (length words) i fault (omega arith) (omega arith)
      (λ k from earlier. no_fault_between (fault_of verb words) 0 i before k from (omega arith)) here

-- what was read where no word has a fault
pub reading_ends : {S : Type 0} (text : S → List ℕ) (verb : Verb) (words : List S) (i : ℕ) (standing : Standing) → i ≡ length words
    → standing ≡ standing_at verb (map text words) i → fault_before verb (map text words) i ≡ None
    → Ok standing.draft ≡ draft_given verb (map text words)
reading_ends text verb words i standing end stands none =
    ap (λ (standing : Standing). Ok standing.draft) stands
    ∙ ap (λ (fault : Option WordsFault). unless_fault fault (draft_before verb (map text words) i)) (sym none)
    ∙ ap (λ n. unless_fault (fault_before verb (map text words) n) (draft_before verb (map text words) n))
    (end ∙ sym (length-map words text))

-- The word that is read next, of words that are seen as texts
module _ {S : Type 0} (text : S → List ℕ) (verb : Verb) (words : List S) (i : ℕ) (r : S) (word : List ℕ) (standing : Standing)
    (rows : List Row) (below : i < length words) (there : r ≡ get_or words i r) (is : word ≡ text r) (same : rows ≡ options verb)
    (stands : standing ≡ standing_at verb (map text words) i) (none : fault_before verb (map text words) i ≡ None) where
  abbrev texts : List (List ℕ)
  texts = map text words

  all : length words ≡ length texts
  all = sym (length-map words text)

  word_is : word ≡ word_at texts i
  word_is = is ∙ ap text there ∙ sym (get_or-map text words i r [] below) ∙ sym (unwrap_or-slice_get texts i [])

  next_read : after_role (i + 2) (length words + 1) standing (role_of rows standing.pending word)
      ≡ unless_fault (fault_of verb texts i) (standing_at verb texts (suc i))
  next_read =
      ap (λ n. after_role (i + 2) (n + 1) standing (role_of rows standing.pending word)) all
      ∙ ap (λ (s : Standing). after_role (i + 2) (length texts + 1) s (role_of rows s.pending word)) stands
      ∙ ap (λ (rows : List Row). after_role (i + 2) (length texts + 1) (standing_at verb texts i)
      (role_of rows (pending_at verb texts i) word)) same
      ∙ ap (λ w. after_role (i + 2) (length texts + 1) (standing_at verb texts i) (role_of (options verb) (pending_at verb texts i) w)) word_is
      ∙ word_read verb texts i

  -- the fault of a word is that of all words
  pub reading_stops : (e : Or WordsFault) → IfAnswered {A = Standing} (λ r. r ≡ after_role (i + 2) (length words + 1) standing
      (role_of rows standing.pending word)) (Err e) → IfAnswered {A = Draft} (λ r. r ≡ draft_given verb texts) (Err e)
  reading_stops Memory read = tt
  reading_stops (Fault fault) read = go (fault_of verb texts i) refl (read ∙ next_read)
    where
      go : (found : Option WordsFault) → fault_of verb texts i ≡ found
          → Err fault ≡ unless_fault found (standing_at verb texts (suc i)) → Err fault ≡ draft_given verb texts
      go None e read = absurd cc
      go (Some found) e read =
          let first = first_here verb texts i found (omega (arith, below, all)) none e in
          let same : fault ≡ found = cc in
          rw (first, same) refl

  -- what stands behind a word is read on
  pub reading_goes : (next : Standing) → Ok next ≡ after_role (i + 2) (length words + 1) standing (role_of rows standing.pending word)
      → (next ≡ standing_at verb texts (i + 1)) × (fault_before verb texts (i + 1) ≡ None)
  reading_goes next read = go (fault_of verb texts i) refl (read ∙ next_read)
    where
      one : suc i ≡ i + 1
      one = omega arith

      go : (found : Option WordsFault) → fault_of verb texts i ≡ found → ◌≡◌ {A = Result Standing WordsFault} (Ok next)
          (unless_fault found (standing_at verb texts (suc i))) → (next ≡ standing_at verb texts (i + 1))
          × (fault_before verb texts (i + 1) ≡ None)
      go None e read =
          let same : next ≡ standing_at verb texts (suc i) = cc in
          subst (λ n. (next ≡ standing_at verb texts n) × (fault_before verb texts n ≡ None)) one
          (same, none_more verb texts i none e)
      go (Some found) e read = absurd cc
