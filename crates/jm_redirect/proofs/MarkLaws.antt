-- Flags of slots: one name more that is sent, and marks that are set and taken away.
use Rattle.std.proofs.Common.{◌≡◌, ℕ, suc, ◌+◌, ◌-◌, ◌%◌, ◌==◌, ◌<◌, inl, inr, Bool, true, false, cond, ◌||◌}
use Rattle.std.proofs.Common.{List, [], ◌∷◌, ◌++◌, Some, length, map, set, take, drop, get_or, refl, sym, ap}
use Rattle.std.proofs.Common.{◌∙◌, arith, Bor}
use Rattle.std.proofs.lemmas.Bool.{cases_eq, eq-eqb, ne_eqb, lt-ltb}
use Rattle.std.proofs.lemmas.List.{take_more, take-map, length-map, take-append-drop, append_assoc, get_or-set_same, get_or-set_other, length-set, map-append}
use Rattle.std.proofs.lemmas.List.Elements.{filter_map-append}
use Rattle.std.specs.List.{find, range_with_len}
use Rattle.jm_names.specs.Hash.{hash}
use Rattle.jm_form.specs.declared.table.Redirect.TheVariants as redirect
use Rattle.jm_form.specs.Greedy.{is_among, are_free, slots_led}
use Rattle.jm_form.specs.Table.{slot_of}
use Rattle.jm_form.proofs.FreeLaws.{among_append, free_untaken}
use Rattle.jm_redirect.specs.Marks.{Marks, slots_sent}

-- the slot to which a seed sends one name
sent_one : (slots seed : ℕ) (name : List ℕ) → 0 < slots → slots_led slots (redirect.Seed seed) (name ∷ []) ≡ (hash seed name % slots) ∷ []
sent_one slots seed name some =
    let below : hash seed name % slots < slots = omega arith in
    rw (lt-ltb (hash seed name % slots) slots below) refl

-- one name more is sent
pub sent_more : (names : List (Bor (List ℕ))) (slots seed i : ℕ) → 0 < slots → i < length names
    → slots_sent slots seed (map (λ name. name.now) (take (i + 1) names))
    ≡ slots_sent slots seed (map (λ name. name.now) (take i names))
    ++ (hash seed (get_or (map (λ name. name.now) names) i []) % slots) ∷ []
sent_more names slots seed i some inside =
    let now : Bor (List ℕ) → List ℕ = λ name. name.now in
    let all = map now names in
    let one = get_or all i [] in
    let long = length-map names now in
    ap (slots_sent slots seed) (sym (take-map now (i + 1) names)) ∙ ap (slots_sent slots seed) (take_more all i [] (omega arith))
    ∙ filter_map-append (λ n. slot_of slots n (redirect.Seed seed)) (take i all) (one ∷ [])
    ∙ ap (λ l. slots_sent slots seed l ++ slots_led slots (redirect.Seed seed) (one ∷ [])) (take-map now i names)
    ∙ ap (λ l. slots_sent slots seed (map now (take i names)) ++ l) (sent_one slots seed one some)

-- the marks with one slot more
pub marks_more : (flags : List Bool) (taken : List ℕ) (slot : ℕ) → slot < length flags → Marks flags taken
    → Marks (set flags slot true) (slot ∷ taken)
marks_more flags taken slot inside marks = record {
  at = λ other below.
      let long = length-set flags slot true in
      elim (cases_eq slot other) [
        | inl same ↦ rw (eq-eqb slot other same) (ap (λ s. get_or (set flags slot true) s false) (sym same)
            ∙ get_or-set_same flags slot true false inside)
        | inr apart ↦ rw (ne_eqb slot other apart) (get_or-set_other flags slot other true false (λ e. apart (sym e))
            ∙ marks.at other (omega arith))
      ];
}

-- the same slots in another order
pub marks_moved : (flags : List Bool) (taken other : List ℕ) → ((slot : ℕ) → is_among taken slot ≡ is_among other slot)
    → Marks flags taken → Marks flags other
marks_moved flags taken other same marks = record { at = λ slot below. marks.at slot below ∙ same slot }

among_pushed : (sent taken : List ℕ) (slot other : ℕ) → is_among (slot ∷ (sent ++ taken)) other
    ≡ is_among ((sent ++ slot ∷ []) ++ taken) other
among_pushed sent taken slot other =
    ap (λ b. (slot == other) || b) (among_append sent taken other) ∙ turned (slot == other) (is_among sent other)
    (is_among taken other) ∙ ap (λ b. b || is_among taken other) (sym (among_append sent (slot ∷ []) other))
    ∙ sym (among_append (sent ++ slot ∷ []) taken other)
  where
    turned : (a b c : Bool) → (a || (b || c)) ≡ ((b || (a || false)) || c)
    turned true true c = refl
    turned true false c = refl
    turned false true c = refl
    turned false false c = refl

-- the marks with one slot more behind those that were sent
pub marks_pushed : (flags : List Bool) (sent taken : List ℕ) (slot : ℕ) → slot < length flags → Marks flags (sent ++ taken)
    → Marks (set flags slot true) ((sent ++ slot ∷ []) ++ taken)
marks_pushed flags sent taken slot inside marks =
    marks_moved (set flags slot true) (slot ∷ (sent ++ taken)) ((sent ++ slot ∷ []) ++ taken) (among_pushed sent taken slot)
    (marks_more flags (sent ++ taken) slot inside marks)

-- the marks of slots that were free are taken away
pub marks_back : (flags after : List Bool) (sent taken : List ℕ) → length after ≡ length flags → Marks flags (sent ++ taken)
    → are_free taken sent ≡ true → ((slot : ℕ) → slot < length flags → get_or after slot false ≡ cond (is_among sent slot) false
    (get_or flags slot false)) → Marks after taken
marks_back flags after sent taken size marks free gone = record {
  at = λ slot below.
      let inside : slot < length flags = omega arith in
      gone slot inside ∙ ap (cond (is_among sent slot) false) (marks.at slot inside ∙ among_append sent taken slot)
      ∙ go (is_among sent slot) (is_among taken slot) (free_untaken taken sent slot free);
}
  where
    go : (s t : Bool) → (s ≡ true → t ≡ false) → cond s false (s || t) ≡ t
    go true t free = sym (free refl)
    go false t free = refl

-- a number that doesn't pass is passed over
pub find_next : (p : ℕ → Bool) (i n : ℕ) → i < n → p i ≡ false → find p (range_with_len i (n - i))
    ≡ find p (range_with_len (i + 1) (n - (i + 1)))
find_next p i n below fails =
    let left : n - i ≡ suc (n - (i + 1)) = omega arith in
    ap (λ m. find p (range_with_len i m)) left ∙ ap (λ b. cond b (Some i) (find p (range_with_len (i + 1) (n - (i + 1))))) fails

-- the slots of all names, around the one at a place
pub sent_split : (names : List (Bor (List ℕ))) (slots seed i : ℕ) → 0 < slots → i < length names
    → slots_sent slots seed (map (λ name. name.now) names) ≡ slots_sent slots seed (map (λ name. name.now) (take i names))
    ++ (hash seed (get_or (map (λ name. name.now) names) i []) % slots)
    ∷ slots_sent slots seed (map (λ name. name.now) (drop (i + 1) names))
sent_split names slots seed i some inside =
    let now : Bor (List ℕ) → List ℕ = λ name. name.now in
    let send : List (List ℕ) → List ℕ = slots_sent slots seed in
    let back = map now (drop (i + 1) names) in
    let whole : map now (take (i + 1) names) ++ back ≡ map now names =
    sym (map-append now (take (i + 1) names) (drop (i + 1) names)) ∙ ap (map now) (take-append-drop (i + 1) names) in
    let front = send (map now (take i names)) in
    let slot = hash seed (get_or (map now names) i []) % slots in
    sym (ap send whole) ∙ filter_map-append (λ n. slot_of slots n (redirect.Seed seed)) (map now (take (i + 1) names)) back
    ∙ ap (λ l. l ++ send back) (sent_more names slots seed i some inside) ∙ append_assoc front (slot ∷ []) (send back)
