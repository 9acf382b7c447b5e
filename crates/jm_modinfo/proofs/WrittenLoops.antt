-- The constants and the fields of the needs, one need after another.
use Rattle.std.proofs.Common.{◌≡◌, ℕ, suc, ◌+◌, ◌-◌, ◌*◌, ◌<◌, ◌≤◌, ◌^◌, List, [], ◌∷◌, ◌++◌, get_or, length}
use Rattle.std.proofs.Common.{take, drop, sym, ap, ◌∙◌, subst, arith, append_assoc}
use Rattle.std.proofs.lemmas.List.{at_drop_more, append-nil, take_more, take_all}
use Rattle.std.proofs.lemmas.List.Elements.{All-nil, All-cons, All-append}
use Rattle.std.specs.Prelude.{All}
use Rattle.jm_class.specs.Classes.{SlotData, Constant, u2}
use Rattle.jm_modinfo.specs.declared.descriptor.Need.{Need}
use Rattle.jm_modinfo.specs.Written.{utf8, numbers_text, need_slots, needs_text}

-- The numbers

module _ (count k : ℕ) (more : k < count) where
  numbers-more : numbers_text (6 + 2 * k) (count - k) ≡ u2 (6 + 2 * k) ++ numbers_text (6 + 2 * (k + 1)) (count - (k + 1))
  numbers-more =
      let left : count - k ≡ suc (count - (k + 1)) = omega arith in
      let next : 6 + 2 * k + 2 ≡ 6 + 2 * (k + 1) = omega arith in
      ap (numbers_text (6 + 2 * k)) left ∙ ap (λ (n : ℕ). u2 (6 + 2 * k) ++ numbers_text n (count - (k + 1))) next

  pub numbers-next : (done new all : List ℕ) → done ++ numbers_text (6 + 2 * k) (count - k) ≡ all → new ≡ done ++ u2 (6 + 2 * k)
      → new ++ numbers_text (6 + 2 * (k + 1)) (count - (k + 1)) ≡ all
  numbers-next done new all e grown =
      ap (λ t. t ++ numbers_text (6 + 2 * (k + 1)) (count - (k + 1))) grown
      ∙ append_assoc done (u2 (6 + 2 * k)) (numbers_text (6 + 2 * (k + 1)) (count - (k + 1)))
      ∙ ap (λ t. done ++ t) (sym numbers-more) ∙ e

  pub numbers-front : (rest : List ℕ) → rest ≡ numbers_text (6 + 2 * k) (count - k) → take 2 rest ≡ u2 (6 + 2 * k)
  numbers-front rest e = ap (take 2) (e ∙ numbers-more)

  pub numbers-behind : (rest : List ℕ) → rest ≡ numbers_text (6 + 2 * k) (count - k) → drop 2 rest ≡ numbers_text (6 + 2 * (k + 1))
      (count - (k + 1))
  numbers-behind rest e = ap (drop 2) (e ∙ numbers-more)

-- The needs

module _ (needs : List Need) (i : ℕ) (item : Need) (more : i < length needs) (is : item ≡ get_or needs i item) where
  slots-more : need_slots (6 + 2 * i) (drop i needs) ≡ utf8 item.name ∷ Constant 19 (u2 (6 + 2 * i)) ∷ need_slots (6 + 2 * (i + 1))
      (drop (i + 1) needs)
  slots-more =
      let next : 6 + 2 * i + 2 ≡ 6 + 2 * (i + 1) = omega arith in
      at_drop_more (need_slots (6 + 2 * i)) needs i item more
      ∙ ap (λ (n : Need). utf8 n.name ∷ Constant 19 (u2 (6 + 2 * i)) ∷ need_slots (6 + 2 * i + 2) (drop (i + 1) needs)) (sym is)
      ∙ ap (λ (n : ℕ). utf8 item.name ∷ Constant 19 (u2 (6 + 2 * i)) ∷ need_slots n (drop (i + 1) needs)) next

  pub slots-next : (old new all : List SlotData) (number : List ℕ) → old ++ need_slots (6 + 2 * i) (drop i needs) ≡ all → new
      ≡ old ++ utf8 item.name ∷ Constant 19 number ∷ [] → number ≡ u2 (6 + 2 * i) → new ++ need_slots (6 + 2 * (i + 1))
      (drop (i + 1) needs) ≡ all
  slots-next old new all number e grown same =
      let rest = need_slots (6 + 2 * (i + 1)) (drop (i + 1) needs) in
      ap (λ t. t ++ rest) grown ∙ append_assoc old (utf8 item.name ∷ Constant 19 number ∷ []) rest
      ∙ ap (λ (n : List ℕ). old ++ (utf8 item.name ∷ Constant 19 n ∷ rest)) same
      ∙ ap (λ t. old ++ t) (sym slots-more) ∙ e

  needs-more : (number : ℕ) → needs_text number (drop i needs)
      ≡ u2 number ++ (u2 item.flags ++ (u2 0 ++ needs_text (number + 2) (drop (i + 1) needs)))
  needs-more number =
      at_drop_more (needs_text number) needs i item more
      ∙ ap (λ (n : Need). u2 number ++ (u2 n.flags ++ (u2 0 ++ (needs_text (number + 2) (drop (i + 1) needs) ++ [])))) (sym is)
      ∙ ap (λ t. u2 number ++ (u2 item.flags ++ (u2 0 ++ t))) (append-nil (needs_text (number + 2) (drop (i + 1) needs)))

  pub needs-next : (number : ℕ) (old one two three all : List ℕ) → old ++ needs_text number (drop i needs) ≡ all → one
      ≡ old ++ u2 number → two ≡ one ++ u2 item.flags → three ≡ two ++ u2 0 → three ++ needs_text (number + 2) (drop (i + 1) needs) ≡ all
  needs-next number old one two three all e first second third =
      let rest = needs_text (number + 2) (drop (i + 1) needs) in
      ap (λ t. t ++ rest) third ∙ append_assoc two (u2 0) rest
      ∙ ap (λ t. t ++ (u2 0 ++ rest)) second ∙ append_assoc one (u2 item.flags) (u2 0 ++ rest)
      ∙ ap (λ t. t ++ (u2 item.flags ++ (u2 0 ++ rest))) first ∙ append_assoc old (u2 number) (u2 item.flags ++ (u2 0 ++ rest))
      ∙ ap (λ t. old ++ t) (sym (needs-more number)) ∙ e

  pub flags-next : All (λ n. n.flags < 2 ^ 16) (take i needs) → item.flags < 2 ^ 16 → All (λ n. n.flags < 2 ^ 16) (take (i + 1) needs)
  flags-next before here =
      let this : (get_or needs i item).flags < 2 ^ 16 = subst (λ (n : Need). n.flags < 2 ^ 16) is here in
      subst (All (λ n. n.flags < 2 ^ 16)) (sym (take_more needs i item more))
      (All-append (λ n. n.flags < 2 ^ 16) (take i needs) (get_or needs i item ∷ []) before
      (All-cons (λ n. n.flags < 2 ^ 16) (get_or needs i item) [] this (All-nil (λ n. n.flags < 2 ^ 16))))

pub flags-all : (needs : List Need) (i : ℕ) → length needs ≤ i → All (λ n. n.flags < 2 ^ 16) (take i needs)
    → All (λ n. n.flags < 2 ^ 16) needs
flags-all needs i end all = subst (All (λ n. n.flags < 2 ^ 16)) (take_all i needs end) all
