-- A content that tells children or owners, in a valid image, is told without a bad word: it gives
-- exactly these.
use Rattle.std.proofs.Common.{◌≡◌, ℕ, zero, suc, ◌+◌, ◌-◌, ◌*◌, ◌/◌, ◌%◌, ◌^◌, ◌<◌, ◌≤◌, ◌==◌, nat_lt, ◌&&◌}
use Rattle.std.proofs.Common.{Bool, true, false, List, [], ◌∷◌, ◌++◌, length, get_or, Some, None, Option, Ok}
use Rattle.std.proofs.Common.{refl, sym, ap, ◌∙◌, subst, arith}
use Rattle.std.specs.Prelude.{if◌then◌else◌}
use Rattle.std.specs.List.{AllZip}
use Rattle.std.proofs.lemmas.Bool.{eq-eqb, lt-ltb, ltb-true}
use Rattle.std.proofs.lemmas.Grind.{flat_map-append}
use Rattle.jm_bytes.specs.declared.words.Order.{Order}
use Rattle.jm_bytes.specs.Checks.{unless_fault}
use Rattle.jm_bytes.specs.Word.{word_bytes}
use Rattle.jm_form.specs.declared.container.Header.{Header}
use Rattle.jm_form.specs.declared.rows.Row.{Row}
use Rattle.jm_form.specs.declared.slots.SlotRow.TheVariants as slot_row
use Rattle.jm_form.specs.declared.trees.Holds.TheVariants.{Children, Owners}
use Rattle.jm_form.specs.declared.trees.Owner.{Owner}
use Rattle.jm_form.specs.ComputedRows.{row_front}
use Rattle.jm_form.specs.Entries.{row_at, row_read, row_text, spelled_row}
use Rattle.jm_form.specs.Nodes.{LeadsTo, StandsAt, Tells, empty_flag, owners_text, words_text}
use Rattle.jm_form.specs.Places.{offset_word, strings}
use Rattle.jm_form.specs.Texts.{text_at}
use Rattle.jm_form.specs.Validity.{ValidAs}
use Rattle.jm_form.proofs.EntryLaws.{entry_from}
use Rattle.jm_form.proofs.PartLaws.{length-words_text, word_alone}
use Rattle.jm_reader.specs.Look.{head}
use Rattle.jm_jrt.specs.declared.jrt_error.JrtError.{JrtError}
use Rattle.jm_jrt.specs.Told.{children_told, fits, is_child_sound, is_half_sound, is_pair_sound, is_row_sound}
use Rattle.jm_jrt.specs.Told.{name_told, names_from, names_left, owner_told, owners_from, owners_left}
use Rattle.jm_jrt.specs.Told.{owners_told, pair_count, row_told, word_count, word_of, words_fault}
use Rattle.jm_jrt.proofs.FaultLaws.{none_bad}
use Rattle.jm_jrt.proofs.ToldLaws.{entry_sound, entry_told}
use Rattle.jm_jrt.proofs.TreeWords.{zipped_each, zipped_told}

-- the places within two sections have words
pub record HasSections (h : Header) : Type 0 where
  pub locations : h.locations ≤ 2 ^ 32
  pub strings : h.strings ≤ 2 ^ 32

passed : (a b : Bool) → a ≡ true → b ≡ true → (a && b) ≡ true
passed a b one two = rw (one, two) refl

-- Children

-- the offset word of a slot that spells a row lies in the locations
word_inside : (b : List ℕ) (h : Header) (i : ℕ) (row : Row) → row_at b h i ≡ Some row → offset_word b h i < h.locations
word_inside b h i row there = go (nat_lt (offset_word b h i) h.locations) refl there
  where
    go : (inside : Bool) → nat_lt (offset_word b h i) h.locations ≡ inside
        → spelled_row (if inside then row_read (row_front (row_text b h i)) else slot_row.Outside) ≡ Some row → offset_word b h i
        < h.locations
    go true inside there = ltb-true (offset_word b h i) h.locations inside
    go false inside there = cc

-- a word that leads to an entry tells its name
pub record TellsName (b : List ℕ) (name : List ℕ) (word : ℕ) : Type 0 where
  pub inside : word < (head b).locations
  pub sound : is_row_sound (strings b (head b)) (row_told b word) ≡ true
  pub told : name_told b word ≡ name

pub tells_name : (b : List ℕ) (name : List ℕ) (word : ℕ) → ValidAs b (head b) → LeadsTo b (head b) name word → TellsName b name word
tells_name b name word valid (e, there, names, is) = record {
  inside = subst (λ (w : ℕ). w < (head b).locations) (sym is) (word_inside b (head b) e.slot e.row (entry_from b (head b) e there).row);
  sound = ap (λ (w : ℕ). is_row_sound (strings b (head b)) (row_told b w)) is ∙ entry_sound b e valid there;
  told = ap (name_told b) is ∙ entry_told b e there ∙ names;
}

-- the content that tells children gives exactly these
pub children_are_told : (b : List ℕ) (names : List (List ℕ)) (content : List ℕ) → ValidAs b (head b) → HasSections (head b)
    → Tells b (head b) (Children names) content → children_told b content ≡ Ok (Children names)
children_are_told b names content valid has (words, zipped, is) = subst (λ (c : List ℕ). children_told b c ≡ Ok (Children names))
    (sym is) whole
  where
    text : List ℕ
    text = words_text (head b).order words

    counted : word_count text ≡ length words
    counted = let size = length-words_text (head b).order words in omega arith

    there : (k : ℕ) → k < length words → word_of b text k ≡ get_or words k 0
    there k below =
        let inside = zipped_each (LeadsTo b (head b)) (λ w. w < (head b).locations)
        (λ n w leads. (tells_name b n w valid leads).inside) names words zipped k below in
        let few = has.locations in
        word_alone (head b).order words k below (omega arith)

    sound : (k : ℕ) → k < word_count text → is_child_sound b text k ≡ true
    sound k below =
        let size = length-words_text (head b).order words in
        let within : k < length words = omega (arith, counted, below) in
        let row = zipped_each (LeadsTo b (head b)) (λ w. is_row_sound (strings b (head b)) (row_told b w) ≡ true)
        (λ n w leads. (tells_name b n w valid leads).sound) names words zipped k within in
        passed (fits text k) (is_row_sound (strings b (head b)) (row_told b (word_of b text k))) (lt-ltb k (length text / 4) (omega arith))
        (ap (λ (w : ℕ). is_row_sound (strings b (head b)) (row_told b w)) (there k within) ∙ row)

    clear : words_fault (is_child_sound b text) (word_count text) ≡ None
    clear = none_bad (is_child_sound b text) (word_count text) sound

    told : names_left b text 0 ≡ names
    told =
        let all : word_count text - 0 ≡ length words = omega (arith, counted) in
        ap (names_from b text 0) all
        ∙ zipped_told (LeadsTo b (head b)) (name_told b) (word_of b text) (λ n w leads. (tells_name b n w valid leads).told) names
        words 0 zipped (λ j below. let place : 0 + j ≡ j = omega arith in ap (word_of b text) place ∙ there j below)

    whole : children_told b text ≡ Ok (Children names)
    whole = ap (λ (o : Option JrtError). unless_fault o (Children (names_left b text 0))) clear
        ∙ ap (λ (l : List (List ℕ)). Ok (Children l)) told

-- Owners

-- the flags and the places of owners, as words one behind another
abbrev pair_words : List Owner → List ℕ → List ℕ
pair_words [] places = []
pair_words (o ∷ os) [] = []
pair_words (o ∷ os) (p ∷ ps) = empty_flag o.empty ∷ p ∷ pair_words os ps

owners_are_words : (order : Order) (os : List Owner) (ps : List ℕ) → owners_text order os ps ≡ words_text order (pair_words os ps)
owners_are_words order [] ps = refl
owners_are_words order (o ∷ os) [] = refl
owners_are_words order (o ∷ os) (p ∷ ps) =
    let flag : ℕ = empty_flag o.empty in
    ap (λ l. words_text order (flag ∷ p ∷ []) ++ l) (owners_are_words order os ps) ∙ joined order flag p (pair_words os ps)
  where
    joined : (order : Order) (flag place : ℕ) (ws : List ℕ) → words_text order (flag ∷ place ∷ []) ++ words_text order ws
        ≡ words_text order (flag ∷ place ∷ ws)
    joined order flag place ws = sym (flat_map-append (word_bytes order) (flag ∷ place ∷ []) ws)

module _ (b : List ℕ) where
  length-pair_words : (os : List Owner) (ps : List ℕ) → AllZip (StandsAt b (head b)) os ps → length (pair_words os ps) ≡ 2 * length os
  length-pair_words [] ps zipped = refl
  length-pair_words (o ∷ os) [] zipped = absurd zipped
  length-pair_words (o ∷ os) (p ∷ ps) zipped = let later = length-pair_words os ps zipped.1 in omega arith

  flag_below : (empty : Bool) → empty_flag empty < 2
  flag_below true = omega arith
  flag_below false = omega arith

  flag_read : (empty : Bool) → (empty_flag empty == 1) ≡ empty
  flag_read true = refl
  flag_read false = refl

  -- each half of a pair has a word
  pair_word-lt : (os : List Owner) (ps : List ℕ) → HasSections (head b) → AllZip (StandsAt b (head b)) os ps → (j : ℕ)
      → j < 2 * length os → get_or (pair_words os ps) j 0 < 2 ^ 32
  pair_word-lt [] ps has zipped j below = absurd (omega arith)
  pair_word-lt (o ∷ os) [] has zipped j below = absurd zipped
  pair_word-lt (o ∷ os) (p ∷ ps) has zipped zero below = let flag = flag_below o.empty in omega arith
  pair_word-lt (o ∷ os) (p ∷ ps) has zipped (suc zero) below = omega arith
  pair_word-lt (o ∷ os) (p ∷ ps) has zipped (suc (suc j)) below = pair_word-lt os ps has zipped.1 j (omega arith)

  -- and is sound
  pair_word_sound : (os : List Owner) (ps : List ℕ) → AllZip (StandsAt b (head b)) os ps → (k j : ℕ) → j < 2 * length os
      → is_half_sound (strings b (head b)) (2 * k + j) (get_or (pair_words os ps) j 0) ≡ true
  pair_word_sound [] ps zipped k j below = absurd (omega arith)
  pair_word_sound (o ∷ os) [] zipped k j below = absurd zipped
  pair_word_sound (o ∷ os) (p ∷ ps) zipped k zero below =
      let even : (2 * k + 0) % 2 ≡ 0 = omega arith in
      rw (eq-eqb ((2 * k + 0) % 2) 0 even) (lt-ltb (empty_flag o.empty) 2 (flag_below o.empty))
  pair_word_sound (o ∷ os) (p ∷ ps) zipped k (suc zero) below =
      let odd : (2 * k + 1) % 2 ≡ 1 = omega arith in
      rw (ap (λ (n : ℕ). n == 0) odd) zipped.0.ends
  pair_word_sound (o ∷ os) (p ∷ ps) zipped k (suc (suc j)) below =
      let place : 2 * k + suc (suc j) ≡ 2 * (k + 1) + j = omega arith in
      ap (λ (n : ℕ). is_half_sound (strings b (head b)) n (get_or (pair_words os ps) j 0)) place ∙ pair_word_sound os ps zipped.1
      (k + 1) j (omega arith)

  -- the pairs tell the owners in turn
  pairs_told : (content : List ℕ) (os : List Owner) (ps : List ℕ) (k : ℕ) → AllZip (StandsAt b (head b)) os ps
      → ((j : ℕ) → j < 2 * length os → word_of b content (2 * k + j) ≡ get_or (pair_words os ps) j 0)
      → owners_from b content k (length os) ≡ os
  pairs_told content [] ps k zipped there = refl
  pairs_told content (o ∷ os) [] k zipped there = absurd zipped
  pairs_told content (o ∷ os) (p ∷ ps) k zipped there =
      let place : 2 * k ≡ 2 * k + 0 = omega arith in
      let flag : (word_of b content (2 * k) == 1) ≡ o.empty = ap (λ (n : ℕ). word_of b content n == 1) place
      ∙ ap (λ (n : ℕ). n == 1) (there 0 (omega arith)) ∙ flag_read o.empty in
      let text : text_at (strings b (head b)) (word_of b content (2 * k + 1)) ≡ o.«module» = ap (text_at (strings b (head b)))
      (there 1 (omega arith)) ∙ zipped.0.text in
      let first : owner_told b content k ≡ o = owner_is (word_of b content (2 * k) == 1) (text_at (strings b (head b))
      (word_of b content (2 * k + 1))) o flag text in
      let next : (j : ℕ) → j < 2 * length os → word_of b content (2 * (k + 1) + j) ≡ get_or (pair_words os ps) j 0 =
      λ j below. let on : 2 * (k + 1) + j ≡ 2 * k + suc (suc j) = omega arith in ap (word_of b content) on
      ∙ there (suc (suc j)) (omega arith) in
      let later = pairs_told content os ps (k + 1) zipped.1 next in
      ap (λ (l : List Owner). owner_told b content k ∷ l) later ∙ ap (λ (x : Owner). x ∷ os) first
    where
      owner_is : (empty : Bool) (text : List ℕ) (o : Owner) → empty ≡ o.empty → text ≡ o.«module»
          → ◌≡◌ {A = Owner} (record { empty = empty; «module» = text }) o
      owner_is empty text o one two = rw (one, two) refl

-- the content that tells owners gives exactly these
pub owners_are_told : (b : List ℕ) (owners : List Owner) (content : List ℕ) → HasSections (head b)
    → Tells b (head b) (Owners owners) content → owners_told b content ≡ Ok (Owners owners)
owners_are_told b owners content has (places, zipped, is) = subst (λ (c : List ℕ). owners_told b c ≡ Ok (Owners owners))
    (sym (is ∙ owners_are_words (head b).order owners places)) whole
  where
    words : List ℕ
    words = pair_words owners places

    text : List ℕ
    text = words_text (head b).order words

    many : length words ≡ 2 * length owners
    many = length-pair_words b owners places zipped

    counted : pair_count text ≡ length owners
    counted = let size = length-words_text (head b).order words in omega (arith, many)

    there : (j : ℕ) → j < 2 * length owners → word_of b text j ≡ get_or words j 0
    there j below = word_alone (head b).order words j (omega (arith, many)) (pair_word-lt b owners places has zipped j below)

    sound : (j : ℕ) → j < 2 * pair_count text → is_pair_sound b text j ≡ true
    sound j below =
        let size = length-words_text (head b).order words in
        let within : j < 2 * length owners = omega (arith, counted, below) in
        let place : 2 * 0 + j ≡ j = omega arith in
        let half : is_half_sound (strings b (head b)) j (get_or words j 0) ≡ true =
        ap (λ (n : ℕ). is_half_sound (strings b (head b)) n (get_or words j 0)) (sym place)
        ∙ pair_word_sound b owners places zipped 0 j within in
        passed (fits text j) (is_half_sound (strings b (head b)) j (word_of b text j)) (lt-ltb j (length text / 4) (omega (arith, many)))
        (ap (is_half_sound (strings b (head b)) j) (there j within) ∙ half)

    clear : words_fault (is_pair_sound b text) (2 * pair_count text) ≡ None
    clear = none_bad (is_pair_sound b text) (2 * pair_count text) sound

    told : owners_left b text 0 ≡ owners
    told =
        let all : pair_count text - 0 ≡ length owners = omega (arith, counted) in
        ap (owners_from b text 0) all
        ∙ pairs_told b text owners places 0 zipped
        (λ j below. let place : 2 * 0 + j ≡ j = omega arith in ap (word_of b text) place ∙ there j below)

    whole : owners_told b text ≡ Ok (Owners owners)
    whole = ap (λ (o : Option JrtError). unless_fault o (Owners (owners_left b text 0))) clear ∙ ap (λ (l : List Owner). Ok (Owners l)) told
