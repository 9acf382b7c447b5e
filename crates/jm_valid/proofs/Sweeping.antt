-- One step of the sweep over ranges by rising start.
use Rattle.std.proofs.Common.{◌≡◌, ◌≢◌, ℕ, ◌+◌, ◌<◌, ◌≤◌, ◌⊎◌, inl, inr, List, [], ◌∷◌, ◌++◌, length, take}
use Rattle.std.proofs.Common.{get_or, Option, Some, None, IfSome, All, AllPairs, Contains, refl, sym, ap, ◌∙◌}
use Rattle.std.proofs.Common.{subst, add-one, arith}
use Rattle.std.proofs.lemmas.List.{take_all, take_more}
use Rattle.std.proofs.lemmas.List.Elements.{All-contains, Contains-append_left, Contains-push, Contains-push_cases}
use Rattle.jm_form.specs.declared.ranges.Range.{Range}
use Rattle.jm_form.specs.Overlap.{Meets, MeetsOne}
use Rattle.jm_valid.specs.declared.overlap.Sweep.{Sweep}
use Rattle.jm_valid.specs.Ranges.{Follows, IsLeastIfAny}
use Rattle.jm_valid.specs.Sweep.{Swept}
use Rattle.jm_valid.proofs.LeastRanges.{least_below}
use Rattle.jm_bytes.proofs.Members.{contains_cases, contains_here}
use Rattle.jm_bytes.proofs.Pairs.{pairs_before}

-- Two ranges of which one starts at or behind the start of the other

meets_later : (r t : Range) → Meets r t → t.start < r.end
meets_later r t met = omega (arith, met.second.from, met.first.to)

later_meets : (r t : Range) → Meets t r → t.start < r.end
later_meets r t met = omega (arith, met.first.from, met.second.to)

-- both have the byte at the start of the later one
meets_at : (r s : Range) (place : ℕ) → r.slot ≢ s.slot → r.start ≤ place → place < r.end → s.start ≤ place → place < s.end → Meets r s
meets_at r s place differ from to from' to' = record {
  slots = differ;
  place = place;
  first = record { from = from; to = to };
  second = record { from = from'; to = to' };
}

equal_or_not : (a b : ℕ) → (a ≡ b) ⊎ (a ≢ b)
equal_or_not a b = grind arith

meets_one_more : (rs ss : List Range) (r : Range) → ((s : Range) → Contains rs s → Contains ss s) → MeetsOne rs r → MeetsOne ss r
meets_one_more rs ss r there (s, inside, met) = (s, there s inside, met)

-- The next range t overlaps the furthest one

takes_next : (seen : List Range) (sweep : Sweep) (t m : Range) → Swept seen sweep → All (λ r. Follows r t) seen → t.start < t.end
    → t.start < sweep.furthest.end → (sweep.least ≡ Some m) ⊎ ((m ≡ sweep.furthest) ⊎ (m ≡ t))
    → IfSome sweep.least (λ r. m.slot ≤ r.slot) → m.slot ≤ sweep.furthest.slot → m.slot ≤ t.slot
    → IsLeastIfAny (MeetsOne (seen ++ t ∷ [])) (seen ++ t ∷ []) (Some m)
takes_next seen sweep t m swept follows some over from below below_furthest below_next =
    let f = sweep.furthest in
    let now = seen ++ t ∷ [] in
    let on : (s : Range) → Contains seen s → Contains now s = λ s inside. Contains-append_left seen (t ∷ []) s inside in
    let behind : (s : Range) → Contains seen s → Follows s t = λ s inside. All-contains (λ (r : Range). Follows r t) seen s follows
    inside in
    let f_behind = behind f swept.seen in
    let in_f = on f swept.seen in
    let in_t = Contains-push seen t in
    let meets_f : MeetsOne now f = (t, in_t, meets_at f t t.start f_behind.1 f_behind.0 over (omega arith) some) in
    let meets_t : MeetsOne now t = (f, in_f, meets_at t f t.start (λ same. f_behind.1 (sym same)) (omega arith) some f_behind.0 over) in
    let inside : Contains now m = elim from [
      | inl old ↦ let is = subst (IsLeastIfAny (MeetsOne seen) seen) old swept.least in on m is.inside
      | inr new ↦ elim new [
        | inl same ↦ subst (Contains now) (sym same) in_f
        | inr same ↦ subst (Contains now) (sym same) in_t
      ]
    ] in
    let has : MeetsOne now m = elim from [
      | inl old ↦ let is = subst (IsLeastIfAny (MeetsOne seen) seen) old swept.least in meets_one_more seen now m on is.has
      | inr new ↦ elim new [
        | inl same ↦ subst (MeetsOne now) (sym same) meets_f
        | inr same ↦ subst (MeetsOne now) (sym same) meets_t
      ]
    ] in
    let old_least : (s : Range) → Contains seen s → MeetsOne seen s → m.slot ≤ s.slot = λ s s_inside one. least_below
    (MeetsOne seen) seen sweep.least m.slot swept.least below s s_inside one in
    let by_next : (s : Range) → Contains seen s → Meets s t → m.slot ≤ s.slot = λ s s_inside met.
    let s_behind = behind s s_inside in
    let reaches = meets_later s t met in
    elim (equal_or_not s.slot f.slot) [
      | inl same ↦ omega arith
      | inr differ ↦ old_least s s_inside (f, swept.seen, meets_at s f t.start differ s_behind.0 reaches f_behind.0 over)
    ] in record {
      inside = inside;
      has = has;
      least = λ s s_inside one.
          elim (Contains-push_cases seen t s s_inside) [
            | inl before ↦ elim (Contains-push_cases seen t one.0 one.1) [
              | inl with ↦ old_least s before (one.0, with, one.2)
              | inr next ↦ by_next s before (subst (Meets s) (sym next) one.2)
            ]
            | inr last ↦ subst (λ (r : Range). m.slot ≤ r.slot) last below_next
          ];
    }

-- by the lesser one x of the furthest range and the next one
pub takes_lesser : (seen : List Range) (sweep : Sweep) (t x m : Range) → Swept seen sweep → All (λ r. Follows r t) seen
    → t.start < t.end → t.start < sweep.furthest.end → (x ≡ sweep.furthest) ⊎ (x ≡ t) → x.slot ≤ sweep.furthest.slot
    → x.slot ≤ t.slot → (sweep.least ≡ Some m) ⊎ (m ≡ x) → IfSome sweep.least (λ r. m.slot ≤ r.slot) → m.slot ≤ x.slot
    → IsLeastIfAny (MeetsOne (seen ++ t ∷ [])) (seen ++ t ∷ []) (Some m)
takes_lesser seen sweep t x m swept follows some over of_both x_furthest x_next from below m_lesser =
    let from_three : (sweep.least ≡ Some m) ⊎ ((m ≡ sweep.furthest) ⊎ (m ≡ t)) = elim from [
      | inl old ↦ inl old
      | inr new ↦ elim of_both [
        | inl furthest ↦ inr (inl (new ∙ furthest))
        | inr next ↦ inr (inr (new ∙ next))
      ]
    ] in
    takes_next seen sweep t m swept follows some over from_three below (omega arith) (omega arith)

-- The next range starts where the furthest one has ended

met_before : (seen : List Range) (sweep : Sweep) (t s : Range) → Swept seen sweep → All (λ r. Follows r t) seen → sweep.furthest.end
    ≤ t.start → Contains (seen ++ t ∷ []) s → MeetsOne (seen ++ t ∷ []) s → Contains seen s × MeetsOne seen s
met_before seen sweep t s swept follows clear inside one =
    let behind : (r : Range) → Contains seen r → Follows r t = λ r in_seen. All-contains (λ (u : Range). Follows u t) seen r follows
    in_seen in
    elim (Contains-push_cases seen t s inside) [
      | inl before ↦ elim (Contains-push_cases seen t one.0 one.1) [
        | inl with ↦ (before, (one.0, with, one.2))
        | inr next ↦
            let met = subst (Meets s) (sym next) one.2 in
            let reaches = meets_later s t met in
            let ends = swept.reach s before in
            absurd (omega arith)
      ]
      | inr last ↦ elim (Contains-push_cases seen t one.0 one.1) [
        | inl with ↦
            let met = subst (λ (r : Range). Meets r one.0) (sym last) one.2 in
            let reaches = later_meets one.0 t met in
            let ends = swept.reach one.0 with in
            absurd (omega arith)
        | inr next ↦
            let met = subst (λ (r : Range). Meets r one.0) (sym last) one.2 in
            let same = subst (Meets t) (sym next) met in
            absurd (same.slots refl)
      ]
    ]

pub skips_next : (seen : List Range) (sweep : Sweep) (t : Range) → Swept seen sweep → All (λ r. Follows r t) seen
    → sweep.furthest.end ≤ t.start → IsLeastIfAny (MeetsOne (seen ++ t ∷ [])) (seen ++ t ∷ []) sweep.least
skips_next seen sweep t swept follows clear = go sweep.least swept.least
  where
    go : (least : Option Range) → IsLeastIfAny (MeetsOne seen) seen least → IsLeastIfAny (MeetsOne (seen ++ t ∷ [])) (seen ++ t ∷ []) least
    go None is = λ s inside one. let old = met_before seen sweep t s swept follows clear inside one in is s old.0 old.1
    go (Some m) is =
        record {
          inside = Contains-append_left seen (t ∷ []) m is.inside;
          has = meets_one_more seen (seen ++ t ∷ []) m (λ s inside. Contains-append_left seen (t ∷ []) s inside) is.has;
          least = λ s inside one. let old = met_before seen sweep t s swept follows clear inside one in is.least s old.0 old.1;
        }

-- Both

pub swept_next : (seen : List Range) (sweep : Sweep) (t f : Range) (least : Option Range) → Swept seen sweep → (f ≡ sweep.furthest)
    ⊎ (f ≡ t) → sweep.furthest.end ≤ f.end → t.end ≤ f.end → IsLeastIfAny (MeetsOne (seen ++ t ∷ [])) (seen ++ t ∷ []) least
    → Swept (seen ++ t ∷ []) (record { furthest = f; least = least })
swept_next seen sweep t f least swept from first second is = record {
  seen = elim from [
    | inl old ↦ subst (Contains (seen ++ t ∷ [])) (sym old) (Contains-append_left seen (t ∷ []) sweep.furthest swept.seen)
    | inr new ↦ subst (Contains (seen ++ t ∷ [])) (sym new) (Contains-push seen t)
  ];
  reach = λ r inside.
      elim (Contains-push_cases seen t r inside) [
        | inl before ↦ let old = swept.reach r before in omega arith
        | inr last ↦ subst (λ (u : Range). u.end ≤ f.end) last second
      ];
  least = is;
}

only_one : (r s : Range) → Contains (r ∷ []) s → r ≡ s
only_one r s inside =
    elim (contains_cases r [] s inside) [
      | inl same ↦ same
      | inr later ↦ absurd (omega (arith, later.1))
    ]

-- the sweep behind the first range
pub swept_first : (r : Range) → Swept (r ∷ []) (record { furthest = r; least = None })
swept_first r = record {
  seen = contains_here r [];
  reach = λ s inside. subst (λ (u : Range). u.end ≤ r.end) (only_one r s inside) (omega arith);
  least = λ s inside one. one.2.slots (ap (λ (u : Range). u.slot) (sym (only_one r s inside) ∙ only_one r one.0 one.1));
}

-- Places: the range behind the first i + 1 ones is at place i of those behind the first

next_at : (rs rest : List Range) (r : Range) (i : ℕ) (d : Range) → rs ≡ r ∷ rest → get_or rs (i + 1) d ≡ get_or rest i d
next_at rs rest r i d is = rw (is, add-one) refl

inside_next : (rs rest : List Range) (r : Range) (i : ℕ) → rs ≡ r ∷ rest → i < length rest → i + 1 < length rs
inside_next rs rest r i is inside = rw is (omega arith)

pub follows_next : (rs rest : List Range) (r : Range) (i : ℕ) (d : Range) → rs ≡ r ∷ rest → i < length rest → AllPairs Follows rs
    → All (λ s. Follows s (get_or rest i d)) (take (i + 1) rs)
follows_next rs rest r i d is inside order =
    subst (λ (t : Range). All (λ s. Follows s t) (take (i + 1) rs)) (next_at rs rest r i d is) (pairs_before Follows rs (i + 1) d
    order (inside_next rs rest r i is inside))

pub some_next : (rs rest : List Range) (r : Range) (i : ℕ) (d : Range) → rs ≡ r ∷ rest → i < length rest
    → All (λ s. s.start < s.end) rs → (get_or rest i d).start < (get_or rest i d).end
some_next rs rest r i d is inside each =
    subst (λ (t : Range). t.start < t.end) (next_at rs rest r i d is) (each (i + 1) d (inside_next rs rest r i is inside))

pub swept_more : (rs rest : List Range) (r : Range) (i : ℕ) (d : Range) (sweep : Sweep) → rs ≡ r ∷ rest → i < length rest
    → Swept (take (i + 1) rs ++ get_or rest i d ∷ []) sweep → Swept (take (i + 1 + 1) rs) sweep
swept_more rs rest r i d sweep is inside swept =
    rw (take_more rs (i + 1) d (inside_next rs rest r i is inside), next_at rs rest r i d is) swept

pub swept_all : (rs rest : List Range) (r : Range) (i : ℕ) (sweep : Sweep) → rs ≡ r ∷ rest → length rest ≤ i
    → Swept (take (i + 1) rs) sweep → IsLeastIfAny (MeetsOne rs) rs sweep.least
swept_all rs rest r i sweep is end swept =
    let all : take (i + 1) rs ≡ rs = take_all (i + 1) rs (rw is (omega arith)) in
    subst (λ (ss : List Range). IsLeastIfAny (MeetsOne ss) ss sweep.least) all swept.least
