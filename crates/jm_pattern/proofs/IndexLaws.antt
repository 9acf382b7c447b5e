-- The first pattern that matches, by the first that is the name's bytes and those with a wildcard.
use Rattle.std.proofs.Common.{◌≡◌, ℕ, ◌+◌, ◌<◌, ◌≤◌, List, [], ◌∷◌, ◌++◌, Option, Some, None, Bool, true, false, cond, not}
use Rattle.std.proofs.Common.{AllPairs, Contains, ◌⊎◌, inl, inr, drop, get_or, nat_lt, take, append_assoc, length, map, option_map, is_none, refl, sym, ap, subst, ◌∙◌, arith}
use Rattle.std.specs.List.{filter, position, position_or_len, range_with_len}
use Rattle.std.specs.Option.{option_map_or}
use Rattle.std.specs.Prelude.{unwrap_or}
use Rattle.std.specs.Str.{bytes_eq}
use Rattle.std.proofs.lemmas.Bool.{cases_lt, false≢true}
use Rattle.std.proofs.lemmas.Bool.Decides.{nat_tests}
use Rattle.std.proofs.lemmas.List.{length-take-le, take_all, take_more, append-nil, drop_all, drop_more, get_or_default}
use Rattle.std.proofs.lemmas.List.Elements.{filter-append}
use Rattle.std.proofs.lemmas.List.Kept.{AllPairs-filter}
use Rattle.std.proofs.lemmas.List.Sums.{fails_before_first, passes_at_first, position_or_len_is, prefix_len-le-length}
use Rattle.std.proofs.lemmas.Slice.Eq.{bytes_eq-Decides}
use Rattle.jm_bytes.proofs.Choice.{first_or_later, mapped_some}
use Rattle.jm_bytes.proofs.Members.{contains_filter, contains_range}
use Rattle.jm_bytes.proofs.Pairs.{range_more, range_rises}
use Rattle.jm_pattern.specs.ComputedMatching.{matches}
use Rattle.jm_pattern.specs.Indexing.{is_literal, literal, IsIndexTo}
use Rattle.jm_pattern.specs.Numbers.{number_of, with_number}
use Rattle.jm_pattern.proofs.ComputedMatchingLaws.{test-matches}
use Rattle.jm_pattern.proofs.Laws.{plain-matches}
use Rattle.jm_pattern.proofs.NumberLaws.{numbered_more, or_else, position_push}
use Rattle.jm_pattern.specs.declared.signs.Sign.{Sign}
use Rattle.jm_pattern.specs.declared.signs.Sign.TheVariants.{AnyRun, Run, One, Byte}

-- A pattern of bytes alone

-- signs with one text are its bytes
literal_bytes : (p : List Sign) (text : List ℕ) → literal p ≡ Some text → p ≡ map (λ b. Byte b) text
literal_bytes [] text is = rw (← same text is) refl
  where
    same : (t : List ℕ) → ◌≡◌ {A = Option (List ℕ)} (Some []) (Some t) → [] ≡ t
    same t e = cc
literal_bytes (AnyRun ∷ p) text is = cc
literal_bytes (Run ∷ p) text is = cc
literal_bytes (One ∷ p) text is = cc
literal_bytes (Byte b ∷ p) text is =
    let rest = mapped_some (λ t. b ∷ t) (literal p) text is in
    ap (λ l. Byte b ∷ l) (literal_bytes p rest.0 rest.1) ∙ ap (map (λ c. Byte c)) rest.2

-- they match it alone
literal_matches : (p : List Sign) (text name : List ℕ) → literal p ≡ Some text → matches p name ≡ bytes_eq name text
literal_matches p text name is =
    let only = plain-matches text name in
    let same = bytes_eq-Decides name text in
    ap (λ q. matches q name) (literal_bytes p text is)
    ∙ sym (test-matches (bytes_eq name text) (map (λ b. Byte b) text) name ((λ yes. only.1 (same.0 yes)), (λ match. same.1 (only.0 match))))

-- where signs are bytes alone, whether they match a name is whether they are its bytes
literal_tested : (p : List Sign) (name : List ℕ) → is_none (literal p) ≡ false → matches p name ≡ is_literal name p
literal_tested p name some = go (literal p) refl some
  where
    go : (o : Option (List ℕ)) → literal p ≡ o → is_none o ≡ false → matches p name ≡ option_map_or (bytes_eq name) (literal p) false
    go None is none = cc
    go (Some text) is none = literal_matches p text name is ∙ sym (ap (λ o. option_map_or (bytes_eq name) o false) is)

literal_match : (p : List Sign) (name : List ℕ) → is_literal name p ≡ true → matches p name ≡ true
literal_match p name named = go (is_none (literal p)) refl
  where
    none : (o : Option (List ℕ)) → is_none o ≡ true → option_map_or (bytes_eq name) o false ≡ true → matches p name ≡ true
    none None is passes = absurd (false≢true passes)
    none (Some text) is passes = cc

    go : (b : Bool) → is_none (literal p) ≡ b → matches p name ≡ true
    go true is = none (literal p) is named
    go false is = literal_tested p name is ∙ named

-- The bytes of a pattern, from left to right

-- what stands before the rest of a text
abbrev pub after : List ℕ → Option (List ℕ) → Option (List ℕ)
after text rest = option_map (λ t. text ++ t) rest

pub after_none : (o : Option (List ℕ)) → after [] o ≡ o
after_none None = refl
after_none (Some text) = refl

pub byte_more : (p : List Sign) (i b : ℕ) (d : Sign) (text : List ℕ) → i < length p → get_or p i d ≡ Byte b
    → after text (literal (drop i p)) ≡ literal p → after (text ++ b ∷ []) (literal (drop (i + 1) p)) ≡ literal p
byte_more p i b d text inside here so_far =
    moved (literal (drop (i + 1) p))
    ∙ ap (λ q. after text (literal q)) (sym (drop_more p i d inside ∙ ap (λ s. s ∷ drop (i + 1) p) here)) ∙ so_far
  where
    moved : (o : Option (List ℕ)) → after (text ++ b ∷ []) o ≡ after text (option_map (λ t. b ∷ t) o)
    moved None = refl
    moved (Some t) = ap (λ l. Some l) (append_assoc text (b ∷ []) t)

-- a wildcard ends it
pub wild_ends : (p : List Sign) (i : ℕ) (s d : Sign) (text : List ℕ) → i < length p → get_or p i d ≡ s
    → ((rest : List Sign) → literal (s ∷ rest) ≡ None) → after text (literal (drop i p)) ≡ literal p → None ≡ literal p
wild_ends p i s d text inside here wild so_far =
    sym (ap (after text) (ap literal (drop_more p i d inside ∙ ap (λ t. t ∷ drop (i + 1) p) here) ∙ wild (drop (i + 1) p))) ∙ so_far

pub all_bytes : (p : List Sign) (i : ℕ) (text : List ℕ) → length p ≤ i → after text (literal (drop i p)) ≡ literal p
    → Some text ≡ literal p
all_bytes p i text past so_far = sym (ap (λ q. after text (literal q)) (drop_all i p past) ∙ ap (λ l. Some l) (append-nil text)) ∙ so_far

-- Patterns so far, and one more

module _ (patterns : List (List Sign)) (count : ℕ) (literals : List (List ℕ × ℕ)) (others : List ℕ) (below : count < length patterns)
    (so_far : IsIndexTo count patterns literals others) where
  abbrev is_other : ℕ → Bool
  is_other number = is_none (literal (get_or patterns number []))

  rest_more : filter is_other (range_with_len 0 (count + 1)) ≡ others ++ cond (is_other count) (count ∷ []) []
  rest_more =
      let here : 0 + count ≡ count = omega arith in
      ap (filter is_other) (range_more 0 count) ∙ filter-append is_other (range_with_len 0 count) ((0 + count) ∷ [])
      ∙ ap (λ l. l ++ filter is_other ((0 + count) ∷ [])) (sym so_far.rest) ∙ ap (λ (k : ℕ). others ++ filter is_other (k ∷ [])) here

  long : length (take count patterns) ≡ count
  long = length-take-le count patterns (omega (arith, below))

  -- one of bytes alone
  pub literal_more : (p : List Sign) (text : List ℕ) → get_or patterns count [] ≡ p → Some text ≡ literal p
      → IsIndexTo (count + 1) patterns (with_number text count literals) others
  literal_more p text here is = record {
    first = λ t. ap (λ (k : ℕ). number_of t (with_number text k literals)) (sym long)
        ∙ numbered_more is_literal (take count patterns) (get_or patterns count []) text literals
        (λ other. ap (λ q. option_map_or (bytes_eq other) (literal q) false) here
        ∙ ap (λ o. option_map_or (bytes_eq other) o false) (sym is)) so_far.first t
        ∙ ap (position (is_literal t)) (sym (take_more patterns count [] below));
    rest = sym (rest_more ∙ ap (λ q. others ++ cond (is_none (literal q)) (count ∷ []) []) here
        ∙ ap (λ o. others ++ cond (is_none o) (count ∷ []) []) (sym is) ∙ append-nil others);
  }

  -- one with a wildcard
  pub other_more : (p : List Sign) → get_or patterns count [] ≡ p → None ≡ literal p → IsIndexTo (count + 1) patterns literals (others
      ++ count ∷ [])
  other_more p here is = record {
    first = λ t. so_far.first t ∙ kept (position (is_literal t) (take count patterns))
        ∙ ap (λ b. or_else (position (is_literal t) (take count patterns)) (cond b (Some (length (take count patterns))) None))
        (sym (ap (λ q. option_map_or (bytes_eq t) (literal q) false) here ∙ ap (λ o. option_map_or (bytes_eq t) o false) (sym is)))
        ∙ sym (position_push (is_literal t) (take count patterns) (get_or patterns count []))
        ∙ ap (position (is_literal t)) (sym (take_more patterns count [] below));
    rest = sym (rest_more ∙ ap (λ q. others ++ cond (is_none (literal q)) (count ∷ []) []) here
        ∙ ap (λ o. others ++ cond (is_none o) (count ∷ []) []) (sym is));
  }
    where
      kept : (o : Option ℕ) → o ≡ or_else o None
      kept None = refl
      kept (Some n) = refl

-- no pattern yet
pub index_of_none : (patterns : List (List Sign)) → IsIndexTo 0 patterns [] []
index_of_none patterns = record { first = λ t. refl; rest = refl }

-- The first that matches

-- none of so many of the others matches
abbrev pub Failed : List (List Sign) → List ℕ → List ℕ → ℕ → Type 0
Failed patterns others name tried = (i : ℕ) → i < tried → matches (get_or patterns (get_or others i 0) []) name ≡ false

module _ (patterns : List (List Sign)) (literals : List (List ℕ × ℕ)) (others : List ℕ) (name : List ℕ)
    (index : IsIndexTo (length patterns) patterns literals others) where
  -- the number of the first that is the name's bytes
  abbrev own : ℕ
  own = position_or_len (is_literal name) patterns

  pub found_is : unwrap_or (number_of name literals) (length patterns) ≡ own
  found_is =
      ap (λ o. unwrap_or o (length patterns)) (index.first name ∙ ap (position (is_literal name)) (take_all (length patterns)
      patterns (omega arith))) ∙ given own (length patterns) (prefix_len-le-length (λ p. not (is_literal name p)) patterns)
    where
      given : (a n : ℕ) → a ≤ n → unwrap_or (cond (nat_lt a n) (Some a) None) n ≡ a
      given a n within = grind (arith, nat_tests)

  -- the others rise, and a pattern with a wildcard is one of them
  abbrev other_at : ℕ → Bool
  other_at number = is_none (literal (get_or patterns number []))

  rises : AllPairs (λ one later. one < later) others
  rises = subst (AllPairs (λ one later. one < later)) (sym index.rest) (AllPairs-filter (λ one later. one < later) other_at
      (range_with_len 0 (length patterns)) (range_rises 0 (length patterns)))

  among : (k : ℕ) → k < length patterns → other_at k ≡ true → Contains others k
  among k below other = subst (λ l. Contains l k) (sym index.rest) (contains_filter other_at (range_with_len 0 (length patterns)) k
      (contains_range 0 (length patterns) k (omega arith) (omega (arith, below))) other)

  -- none below a limit matches, where none of the others so far does, those left are not below it, and
  -- none below it is the name's bytes
  earlier : (tried limit : ℕ) → Failed patterns others name tried → (tried < length others → limit ≤ get_or others tried 0) → limit ≤ own → (k : ℕ)
      → k < limit → matches (get_or patterns k []) name ≡ false
  earlier tried limit failed past before k below = go (other_at k) refl
    where
      within : own ≤ length patterns
      within = prefix_len-le-length (λ p. not (is_literal name p)) patterns

      tested : Contains others k → matches (get_or patterns k []) name ≡ false
      tested (i, inside, is) = order (cases_lt i tried)
        where
          at : (d : ℕ) → get_or others i d ≡ k
          at d = get_or_default others i d k inside ∙ is

          order : (i < tried) ⊎ (tried ≤ i) → matches (get_or patterns k []) name ≡ false
          order (inl less) = ap (λ (n : ℕ). matches (get_or patterns n []) name) (sym (at 0)) ∙ failed i less
          order (inr behind) =
              let limits = past (omega (arith, behind, inside)) in
              let up : get_or others tried 0 ≤ get_or others i 0 = risen (first_or_later tried i behind) in
              absurd (omega (arith, limits, up, at 0, below))
            where
              risen : (tried ≡ i) ⊎ (tried + 1 ≤ i) → get_or others tried 0 ≤ get_or others i 0
              risen (inl same) = rw same (omega arith)
              risen (inr later) = let less = rises tried i 0 (omega (arith, later)) inside in omega (arith, less)

      go : (b : Bool) → other_at k ≡ b → matches (get_or patterns k []) name ≡ false
      go true is = tested (among k (omega (arith, below, before, within)) is)
      go false is =
          literal_tested (get_or patterns k []) name is
          ∙ fails_before_first (is_literal name) patterns k [] (omega (arith, below, before))

  pub own_first : (tried : ℕ) → Failed patterns others name tried → (tried < length others → own ≤ get_or others tried 0) → own
      ≡ position_or_len (λ p. matches p name) patterns
  own_first tried failed past =
      sym (position_or_len_is (λ p. matches p name) patterns own [] (prefix_len-le-length (λ p. not (is_literal name p)) patterns)
      (earlier tried own failed past (omega arith))
      (λ inside. literal_match (get_or patterns own []) name (passes_at_first (is_literal name) patterns [] inside)))

  pub other_first : (tried : ℕ) → Failed patterns others name tried → get_or others tried 0 < own
      → matches (get_or patterns (get_or others tried 0) []) name ≡ true → get_or others tried 0
      ≡ position_or_len (λ p. matches p name) patterns
  other_first tried failed before here =
      let within = prefix_len-le-length (λ p. not (is_literal name p)) patterns in
      sym (position_or_len_is (λ p. matches p name) patterns (get_or others tried 0) [] (omega (arith, before, within))
      (earlier tried (get_or others tried 0) failed (λ inside. omega arith) (omega (arith, before))) (λ inside. here))

-- one of the others more
pub failed_more : (patterns : List (List Sign)) (others name : List ℕ) (tried : ℕ) → Failed patterns others name tried
    → matches (get_or patterns (get_or others tried 0) []) name ≡ false → Failed patterns others name (tried + 1)
failed_more patterns others name tried failed here i below = go (cases_lt i tried)
  where
    go : (i < tried) ⊎ (tried ≤ i) → matches (get_or patterns (get_or others i 0) []) name ≡ false
    go (inl less) = failed i less
    go (inr more) = let same : i ≡ tried = omega (arith, below, more) in rw same here
