-- What is reached in a round, step by step.
use Rattle.std.proofs.Common.{◌≡◌, ◌≢◌, ℕ, zero, suc, ◌+◌, ◌<◌, ◌≤◌, ◌↔◌, ◌⊎◌, inl, inr, Bool, true, false}
use Rattle.std.proofs.Common.{cond, List, [], ◌∷◌, ◌++◌, length, replicate, All, Contains, refl, sym, ◌∙◌, ap}
use Rattle.std.proofs.Common.{subst, arith, add-one, drop, drop-cons, get_or, length-append, slice_set}
use Rattle.std.proofs.Common.{get_or-set_same, get_or-set_other, length-set}
use Rattle.std.specs.Prelude.{not}
use Rattle.std.proofs.lemmas.Bool.{cases_eq, cases_lt, false≢true, eq-eqb, eqb-true, eqb-false, ne_eqb}
use Rattle.std.proofs.lemmas.List.{get_or-replicate, get_or_past, length-replicate}
use Rattle.std.proofs.lemmas.List.Elements.{Contains-push, Contains-push_cases, Contains-append_left, All-contains}
use Rattle.std.proofs.lemmas.List.Sums.{sum_by-set}
use Rattle.std.specs.Bool.{◌==◌}
use Rattle.jm_bytes.proofs.Members.{all_from_contains, contains_none, contains_here, contains_later, contains_cases}
use Rattle.jm_closure.specs.Modules.{Leads}
use Rattle.jm_closure.specs.Graphs.{ends_at, marks_of, round_of, unreached, with_reached, with_queued}
use Rattle.jm_closure.specs.Graphs.{EndsWithin, HasEdge, InRound, IsMarked, IsReached, IsRound, LedFrom}

-- One step more at the end of a way

pub leads_more : (Step : ℕ → ℕ → Type 0) (i : ℕ) (places : List ℕ) (j k : ℕ)
    → Leads Step i places j → Step j k → Leads Step i (places ++ k ∷ []) k
leads_more Step i [] j k is step = (subst (λ x. Step x k) (sym is) step, refl)
leads_more Step i (p ∷ places) j k (first, rest) step = (first, leads_more Step p places j k rest step)

pub led_more : (graph : List (List ℕ)) (starts : List ℕ) (j k : ℕ)
    → LedFrom graph starts j → HasEdge graph j k → LedFrom graph starts k
led_more graph starts j k (i, places, there, leads) edge =
    (i, places ++ k ∷ [], there, leads_more (HasEdge graph) i places j k leads edge)

-- The rounds after one node was reached

round_same : (rounds : List ℕ) (round x : ℕ) → x < length rounds
    → round_of (slice_set rounds x round) x ≡ round
round_same rounds round x within = get_or-set_same rounds x round 0 within

round_other : (rounds : List ℕ) (round x i : ℕ) → i ≢ x
    → round_of (slice_set rounds x round) i ≡ round_of rounds i
round_other rounds round x i other = get_or-set_other rounds x i round 0 other

reached_still : (rounds : List ℕ) (round x i : ℕ) → 0 < round → x < length rounds
    → IsReached rounds i → IsReached (slice_set rounds x round) i
reached_still rounds round x i some within is =
    elim (cases_eq i x) [
      | inl same ↦ rw (same, round_same rounds round x within) some
      | inr other ↦ rw (round_other rounds round x i other) is
    ]

reached_new : (rounds : List ℕ) (round x i : ℕ) → x < length rounds
    → IsReached (slice_set rounds x round) i → (i ≡ x) ⊎ ((i ≢ x) × IsReached rounds i)
reached_new rounds round x i within is =
    elim (cases_eq i x) [
      | inl same ↦ inl same
      | inr other ↦ inr (other, rw (round_other rounds round x i other) at is)
    ]

-- One node is reached

module _ (graph : List (List ℕ)) (before starts : List ℕ) (round : ℕ) where
  put : (rounds work next : List ℕ) (x : ℕ) → 0 < round → x < length rounds
      → round_of rounds x ≡ 0
      → InRound graph before starts round rounds work (x ∷ next)
      → InRound graph before starts round (slice_set rounds x round) (work ++ x ∷ []) next
  put rounds work next x some within blank in_round = record {
    size = length-set rounds x round ∙ in_round.size;
    kept = λ i was. elim (cases_eq i x) [
      | inl same ↦ absurd (let is = in_round.kept i was in let e = ap (round_of rounds) same in omega arith)
      | inr other ↦ round_other rounds round x i other ∙ in_round.kept i was
    ];
    fresh = λ i is. elim (reached_new rounds round x i within is) [
      | inl same ↦ inr (
        ap (round_of (slice_set rounds x round)) same ∙ round_same rounds round x within,
        subst (LedFrom graph starts) (sym same) (in_round.coming x (contains_here x next)).1,
      )
      | inr (other, old) ↦ rw (round_other rounds round x i other) (in_round.fresh i old)
    ];
    queued = λ i there. elim (Contains-push_cases work x i there) [
      | inl old ↦ in_round.queued i old
      | inr same ↦ subst (λ j. (j < length graph) × LedFrom graph starts j) same (in_round.coming x (contains_here x next))
    ];
    coming = λ i there. in_round.coming i (contains_later x next i there);
    begun = λ i there. elim (in_round.begun i there) [
      | inl is ↦ inl (reached_still rounds round x i some within is)
      | inr later ↦ reached_or i later
    ];
    followed = λ i j is edge. elim (reached_new rounds round x i within is) [
      | inl same ↦ inr (inl (subst (Contains (work ++ x ∷ [])) (sym same) (Contains-push work x)))
      | inr (other, old) ↦ elim (in_round.followed i j old edge) [
        | inl earlier ↦ inl earlier
        | inr (inl waits) ↦ inr (inl (Contains-append_left work (x ∷ []) i waits))
        | inr (inr (inl there)) ↦ inr (inr (inl (reached_still rounds round x j some within there)))
        | inr (inr (inr later)) ↦ inr (inr (reached_or j later))
      ]
    ];
  }
    where
      reached_or : (i : ℕ) → Contains (x ∷ next) i → IsReached (slice_set rounds x round) i ⊎ Contains next i
      reached_or i there = elim (contains_cases x next i there) [
        | inl same ↦ inl (rw (sym same, round_same rounds round x within) some)
        | inr later ↦ inr later
      ]

  pass : (rounds work next : List ℕ) (x : ℕ) → IsReached rounds x
      → InRound graph before starts round rounds work (x ∷ next)
      → InRound graph before starts round rounds work next
  pass rounds work next x already in_round = record {
    size = in_round.size;
    kept = in_round.kept;
    fresh = in_round.fresh;
    queued = in_round.queued;
    coming = λ i there. in_round.coming i (contains_later x next i there);
    begun = λ i there. elim (in_round.begun i there) [
      | inl is ↦ inl is
      | inr later ↦ reached_or i later
    ];
    followed = λ i j is edge. elim (in_round.followed i j is edge) [
      | inl earlier ↦ inl earlier
      | inr (inl waits) ↦ inr (inl waits)
      | inr (inr (inl there)) ↦ inr (inr (inl there))
      | inr (inr (inr later)) ↦ inr (inr (reached_or j later))
    ];
  }
    where
      reached_or : (i : ℕ) → Contains (x ∷ next) i → IsReached rounds i ⊎ Contains next i
      reached_or i there = elim (contains_cases x next i there) [
        | inl same ↦ inl (subst (IsReached rounds) same already)
        | inr later ↦ inr later
      ]

  pub reach_next : (rounds work next : List ℕ) (x : ℕ) → 0 < round → x < length rounds
      → InRound graph before starts round rounds work (x ∷ next)
      → InRound graph before starts round (with_reached rounds round x) (with_queued rounds work x) next
  reach_next rounds work next x some within in_round = go (round_of rounds x == 0) refl
    where
      go : (b : Bool) → (round_of rounds x == 0) ≡ b
          → InRound graph before starts round (cond b (slice_set rounds x round) rounds) (cond b (work ++ x ∷ []) work) next
      go true is = put rounds work next x some within (eqb-true (round_of rounds x) 0 is) in_round
      go false is =
          let some_round : round_of rounds x ≡ 0 → ⊥ = eqb-false (round_of rounds x) 0 is in
          pass rounds work next x (omega arith) in_round

  -- the same in a list of nodes
  pub reach_at : (rounds work nodes : List ℕ) (at : ℕ) → 0 < round → at < length nodes
      → get_or nodes at 0 < length rounds
      → InRound graph before starts round rounds work (drop at nodes)
      → InRound graph before starts round (with_reached rounds round (get_or nodes at 0))
      (with_queued rounds work (get_or nodes at 0)) (drop (at + 1) nodes)
  reach_at rounds work nodes at some below within in_round =
      rw add-one
      (reach_next rounds work (drop (suc at) nodes) (get_or nodes at 0) some within
      (rw (drop-cons nodes at 0 below) at in_round))

  pub begin_round : length before ≡ length graph → All (λ i. i < length graph) starts
      → InRound graph before starts round before [] starts
  begin_round size within = record {
    size = size;
    kept = λ i was. refl;
    fresh = λ i is. inl refl;
    queued = λ i there. absurd (contains_none i there);
    coming = λ i there. (All-contains (λ j. j < length graph) starts i within there, (i, [], there, refl));
    begun = λ i there. inr there;
    followed = λ i j is edge. inl is;
  }

  pub follow_next : (rounds work : List ℕ) (x : ℕ) → EndsWithin graph
      → InRound graph before starts round rounds (work ++ x ∷ []) []
      → InRound graph before starts round rounds work (ends_at graph x)
  follow_next rounds work x within in_round =
      let here = in_round.queued x (Contains-push work x) in
      record {
        size = in_round.size;
        kept = in_round.kept;
        fresh = in_round.fresh;
        queued = λ i there. in_round.queued i (Contains-append_left work (x ∷ []) i there);
        coming = λ i there. (within x i there, led_more graph starts x i here.1 there);
        begun = λ i there. elim (in_round.begun i there) [
          | inl is ↦ inl is
          | inr none ↦ absurd (contains_none i none)
        ];
        followed = λ i j is edge. elim (in_round.followed i j is edge) [
          | inl earlier ↦ inl earlier
          | inr (inl waits) ↦ elim (Contains-push_cases work x i waits) [
            | inl still ↦ inr (inl still)
            | inr same ↦ inr (inr (inr (subst (λ k. HasEdge graph k j) (sym same) edge)))
          ]
          | inr (inr (inl there)) ↦ inr (inr (inl there))
          | inr (inr (inr none)) ↦ absurd (contains_none j none)
        ];
      }

  pub end_round : (rounds : List ℕ)
      → InRound graph before starts round rounds [] []
      → IsRound graph before starts round rounds
  end_round rounds in_round = record {
    size = in_round.size;
    kept = in_round.kept;
    fresh = in_round.fresh;
    begun = λ i there. elim (in_round.begun i there) [
      | inl is ↦ is
      | inr none ↦ absurd (contains_none i none)
    ];
    followed = λ i j is edge. elim (in_round.followed i j is edge) [
      | inl earlier ↦ inl earlier
      | inr (inl waits) ↦ absurd (contains_none i waits)
      | inr (inr (inl there)) ↦ inr there
      | inr (inr (inr none)) ↦ absurd (contains_none j none)
    ];
  }

pub ends_within : (graph : List (List ℕ)) (node : ℕ) → EndsWithin graph
    → All (λ j. j < length graph) (ends_at graph node)
ends_within graph node within = all_from_contains (λ j. j < length graph) (ends_at graph node) (within node)

pub length-reached : (rounds : List ℕ) (round x : ℕ) → length (with_reached rounds round x) ≡ length rounds
length-reached rounds round x = go (round_of rounds x == 0)
  where
    go : (b : Bool) → length (cond b (slice_set rounds x round) rounds) ≡ length rounds
    go true = length-set rounds x round
    go false = refl

-- A round in which nothing was reached before

not_before : (n i : ℕ) → IsReached (replicate n 0) i → ⊥
not_before n i is =
    elim (cases_lt i n) [
      | inl below ↦ (let e : round_of (replicate n 0) i ≡ 0 = get_or-replicate n i 0 0 below in omega arith)
      | inr past ↦
          (let beyond : length (replicate {A = ℕ} n 0) ≤ i = rw (length-replicate {A = ℕ} n 0) past in
          let e : round_of (replicate n 0) i ≡ 0 = get_or_past (replicate n 0) i 0 beyond in omega arith)
    ]

walked : (graph : List (List ℕ)) (starts : List ℕ) (n : ℕ) (rounds : List ℕ)
    → IsRound graph (replicate n 0) starts 1 rounds
    → (i : ℕ) (places : List ℕ) (j : ℕ) → IsReached rounds i → Leads (HasEdge graph) i places j
    → IsReached rounds j
walked graph starts n rounds round i [] j is same = subst (IsReached rounds) same is
walked graph starts n rounds round i (k ∷ places) j is (edge, rest) =
    elim (round.followed i k is edge) [
      | inl before ↦ absurd (not_before n i before)
      | inr there ↦ walked graph starts n rounds round k places j there rest
    ]

-- what is reached in the only round is what the nodes lead to
pub only_round : (graph : List (List ℕ)) (starts : List ℕ) (n : ℕ) (rounds : List ℕ)
    → IsRound graph (replicate n 0) starts 1 rounds
    → (j : ℕ) → IsReached rounds j ↔ LedFrom graph starts j
only_round graph starts n rounds round j = (
  λ is. elim (round.fresh j is) [
    | inl same ↦ absurd (not_before n j (rw same is))
    | inr (first, led) ↦ led
  ],
  λ led. walked graph starts n rounds round led.0 led.1 j (round.begun led.0 led.2) led.3,
)

-- rounds as marks

pub marked_round : (rounds : List ℕ) (j : ℕ)
    → IsMarked (marks_of rounds) j ↔ IsReached rounds j
marked_round [] j = (λ is. absurd (false≢true is), λ is. absurd (omega arith))
marked_round (r ∷ rounds) zero = (λ is. from (r == 0) refl is, λ is. rw (ne_eqb r 0 (λ e. omega arith)) refl)
  where
    from : (b : Bool) → (r == 0) ≡ b → not b ≡ true → 0 < r
    from true e is = absurd (false≢true is)
    from false e is = let no : r ≡ 0 → ⊥ = eqb-false r 0 e in omega arith
marked_round (r ∷ rounds) (suc j) = marked_round rounds j

pub round_marked : (graph : List (List ℕ)) (starts : List ℕ) (n : ℕ) (rounds : List ℕ) (flags : List Bool)
    → flags ≡ marks_of rounds
    → IsRound graph (replicate n 0) starts 1 rounds
    → (j : ℕ) → IsMarked flags j ↔ LedFrom graph starts j
round_marked graph starts n rounds flags is round j =
    let marks = marked_round rounds j in
    let law = only_round graph starts n rounds round j in
    rw is (λ m. law.0 (marks.0 m), λ led. marks.1 (law.1 led))

-- The measure: a node that is reached waits once for its edges to be followed

fewer : (rounds : List ℕ) (round x : ℕ) → 0 < round → x < length rounds → round_of rounds x ≡ 0
    → unreached (slice_set rounds x round) + 1 ≡ unreached rounds
fewer rounds round x some within blank =
    let moved = sum_by-set (λ r. cond (r == 0) 1 0) rounds x round 0 within in
    let there : (round == 0) ≡ false = ne_eqb round 0 (λ e. omega arith) in
    let exact : unreached (slice_set rounds x round) + 1 ≡ unreached rounds + 0 = rw (blank, there) at moved in
    omega arith

pub reach_measure : (rounds work : List ℕ) (round x : ℕ) → 0 < round → x < length rounds
    → unreached (with_reached rounds round x) + length (with_queued rounds work x)
    ≡ unreached rounds + length work
reach_measure rounds work round x some within = go (round_of rounds x == 0) refl
  where
    go : (b : Bool) → (round_of rounds x == 0) ≡ b
        → unreached (cond b (slice_set rounds x round) rounds) + length (cond b (work ++ x ∷ []) work)
        ≡ unreached rounds + length work
    go true is =
        let one = fewer rounds round x some within (eqb-true (round_of rounds x) 0 is) in
        omega (arith, length-append work (x ∷ []))
    go false is = refl

-- One node of a list more

-- a node that is reached now, and one that was reached before
pub reached_now : (rounds work : List ℕ) (round x : ℕ) → round_of rounds x ≡ 0
    → (slice_set rounds x round ≡ with_reached rounds round x) × (work ++ x ∷ [] ≡ with_queued rounds work x)
reached_now rounds work round x is = let test = eq-eqb (round_of rounds x) 0 is in (rw test refl, rw test refl)

pub reached_before : (rounds work : List ℕ) (round x : ℕ) → round_of rounds x ≢ 0
    → (rounds ≡ with_reached rounds round x) × (work ≡ with_queued rounds work x)
reached_before rounds work round x other = let test = ne_eqb (round_of rounds x) 0 other in (rw test refl, rw test refl)

pub record ReachesOne (rounds work nodes rounds' work' : List ℕ) (round at : ℕ) : Type 0 where
  pub reaches : (graph : List (List ℕ)) (before starts : List ℕ) → InRound graph before starts round rounds work (drop at nodes)
      → InRound graph before starts round rounds' work' (drop (at + 1) nodes)
  pub measure : unreached rounds' + length work' ≡ unreached rounds + length work
  pub size : length rounds' ≡ length rounds

pub reaches_one : (rounds work nodes rounds' work' : List ℕ) (round at : ℕ) → 0 < round → at < length nodes
    → get_or nodes at 0 < length rounds → rounds' ≡ with_reached rounds round (get_or nodes at 0)
    → work' ≡ with_queued rounds work (get_or nodes at 0) → ReachesOne rounds work nodes rounds' work' round at
reaches_one rounds work nodes rounds' work' round at some below within is also = record {
  reaches = λ graph before starts begun.
      rw (is, also) (reach_at graph before starts round rounds work nodes at some below within begun);
  measure = rw (is, also) (reach_measure rounds work round (get_or nodes at 0) some within);
  size = rw is (length-reached rounds round (get_or nodes at 0));
}
