-- Which places hold which texts, one more at a time.
use Rattle.std.proofs.Common.{◌≡◌, ◌≢◌, ℕ, ◌+◌, ◌<◌, ◌↔◌, ◌⊎◌, inl, inr, Bool, true, false, List, [], ◌∷◌}
use Rattle.std.proofs.Common.{◌++◌, length, map, Option, Some, None, Contains, sym, ◌∙◌, ap, subst, arith}
use Rattle.std.proofs.Common.{get_or, take, append_assoc, slice_get, slice_index_or}
use Rattle.std.proofs.lemmas.List.{take_more, map-append}
use Rattle.std.specs.Str.{bytes_eq}
use Rattle.std.proofs.lemmas.Slice.Eq.{bytes_eq-Decides}
use Rattle.std.proofs.lemmas.Bool.{cases_eq, false≢true}
use Rattle.std.proofs.lemmas.List.Elements.{Contains-push, Contains-push_cases, Contains-append_left}
use Rattle.std.proofs.lemmas.List.Elements.{Contains-append_right, Contains-append_cases}
use Rattle.jm_bytes.proofs.Choice.{chosen, same_some}
use Rattle.jm_bytes.proofs.Members.{contains_none, contains_map, from_map}
use Rattle.jm_closure.specs.declared.candidate.Candidate.{Candidate}
use Rattle.jm_closure.specs.Graphs.{IsMarked}
use Rattle.jm_closure.specs.Holders.{besides, IsHeldTwice, Noted, NotedBelow, Pairs}
use Rattle.jm_closure.specs.Least.{lesser, IsLeastOf}
use Rattle.jm_closure.specs.Modules.{HasPackage}
use Rattle.jm_closure.specs.Places.{place_in, Puts}
use Rattle.jm_closure.proofs.LeastLaws.{least_same, least_with}
use Rattle.jm_closure.proofs.NameLaws.{found_at}

module _ (pairs : List (ℕ × List ℕ)) (place : ℕ) (x : List ℕ) where
  abbrev pub more : List (ℕ × List ℕ)
  more = pairs ++ (place, x) ∷ []

  kept : (i : ℕ) (text : List ℕ) → Pairs pairs i text → Pairs more i text
  kept i text there = Contains-append_left pairs ((place, x) ∷ []) (i, text) there

  -- a pair is one of those before, or the new one
  either : (i : ℕ) (text : List ℕ) → Pairs more i text → Pairs pairs i text ⊎ ((i ≡ place) × (text ≡ x))
  either i text there = elim (Contains-push_cases pairs (place, x) (i, text) there) [
    | inl old ↦ inl old
    | inr same ↦ inr (sym (ap (λ (p : ℕ × List ℕ). p.0) same), sym (ap (λ (p : ℕ × List ℕ). p.1) same))
  ]

  new : Pairs more place x
  new = Contains-push pairs (place, x)

  twice_kept : (text : List ℕ) → IsHeldTwice (Pairs pairs) text → IsHeldTwice (Pairs more) text
  twice_kept text (i, j, apart, first, second) = (i, j, apart, kept i text first, kept j text second)

  -- the first place of a text
  pub noted_first : (holders holders' : List (List ℕ × ℕ)) (least : Option (List ℕ))
      → place_in holders x ≡ None → Puts holders holders' x place
      → Noted (Pairs pairs) holders least → Noted (Pairs more) holders' least
  noted_first holders holders' least none puts noted = record {
    holder = λ text i is. elim (chosen (bytes_eq text x) (Some place) (place_in holders text) (Some i) (sym (puts text) ∙ is)) [
      | inl (same, here) ↦
          (let at : place ≡ i = same_some place i here in
          let named : text ≡ x = (bytes_eq-Decides text x).0 same in
          subst (λ t. Pairs more i t) (sym named) (subst (λ k. Pairs more k x) at new))
      | inr (other, old) ↦ kept i text (noted.holder text i old)
    ];
    unheld = λ text is i held. elim (chosen (bytes_eq text x) (Some place) (place_in holders text) None (sym (puts text) ∙ is)) [
      | inl (same, here) ↦ absurd (some_none here)
      | inr (other, old) ↦ elim (either i text held) [
        | inl before ↦ noted.unheld text old i before
        | inr (at, named) ↦ absurd (false≢true (sym other ∙ (bytes_eq-Decides text x).1 named))
      ]
    ];
    least_twice = least_same (IsHeldTwice (Pairs pairs)) (IsHeldTwice (Pairs more)) least twice_kept from noted.least_twice;
  }
    where
      some_none : {n : ℕ} → ◌≡◌ {A = Option ℕ} (Some n) None → ⊥
      some_none e = cc

      from : (text : List ℕ) → IsHeldTwice (Pairs more) text → IsHeldTwice (Pairs pairs) text
      from text (i, j, apart, first, second) = elim (either i text first) [
        | inl held ↦ elim (either j text second) [
          | inl again ↦ (i, j, apart, held, again)
          | inr (at, named) ↦ absurd (noted.unheld x none i (subst (Pairs pairs i) named held))
        ]
        | inr (at, named) ↦ elim (either j text second) [
          | inl again ↦ absurd (noted.unheld x none j (subst (Pairs pairs j) named again))
          | inr (there, same) ↦ absurd (apart (at ∙ sym there))
        ]
      ]

  -- a text of the place that holds it
  pub noted_again : (holders : List (List ℕ × ℕ)) (least : Option (List ℕ))
      → place_in holders x ≡ Some place
      → Noted (Pairs pairs) holders least → Noted (Pairs more) holders least
  noted_again holders least is noted = record {
    holder = λ text i found. kept i text (noted.holder text i found);
    unheld = λ text none i held. noted.unheld text none i (back i text held);
    least_twice = least_same (IsHeldTwice (Pairs pairs)) (IsHeldTwice (Pairs more)) least twice_kept
        (λ text twice. (twice.0, twice.1, twice.2, back twice.0 text twice.3, back twice.1 text twice.4)) noted.least_twice;
  }
    where
      back : (i : ℕ) (text : List ℕ) → Pairs more i text → Pairs pairs i text
      back i text held = elim (either i text held) [
        | inl before ↦ before
        | inr (at, named) ↦ subst (λ t. Pairs pairs i t) (sym named) (subst (λ k. Pairs pairs k x) (sym at) (noted.holder x place is))
      ]

  -- a text that another place holds
  pub noted_twice : (holders : List (List ℕ × ℕ)) (least : Option (List ℕ)) (other : ℕ)
      → place_in holders x ≡ Some other → other ≢ place
      → Noted (Pairs pairs) holders least → Noted (Pairs more) holders (lesser least (Some x))
  noted_twice holders least other is apart noted = record {
    holder = λ text i found. kept i text (noted.holder text i found);
    unheld = λ text none i held. elim (either i text held) [
      | inl before ↦ noted.unheld text none i before
      | inr (at, named) ↦ absurd (some_none (sym is ∙ ap (place_in holders) (sym named) ∙ none))
    ];
    least_twice = least_with (IsHeldTwice (Pairs pairs)) (IsHeldTwice (Pairs more)) least x cases twice_kept
        (other, place, apart, kept other x (noted.holder x other is), new) noted.least_twice;
  }
    where
      some_none : {n : ℕ} → ◌≡◌ {A = Option ℕ} (Some n) None → ⊥
      some_none e = cc

      cases : (text : List ℕ) → IsHeldTwice (Pairs more) text → IsHeldTwice (Pairs pairs) text ⊎ (text ≡ x)
      cases text (i, j, differ, first, second) = elim (either i text first) [
        | inl held ↦ elim (either j text second) [
          | inl again ↦ inl (i, j, differ, held, again)
          | inr (at, named) ↦ inr named
        ]
        | inr (at, named) ↦ inr named
      ]

-- The modules in turn

module _ (Held : ℕ → List ℕ → Type 0) where
  pub none_below : NotedBelow Held 0 [] None
  none_below = (
    [],
    λ i text. (λ there. absurd (contains_none (i, text) there), λ held. absurd (omega (arith, held.0))),
    record {
      holder = λ text i is. absurd (none_some is);
      unheld = λ text is i there. contains_none (i, text) there;
      least_twice = λ text twice. contains_none (twice.0, text) twice.3;
    },
  )
    where
      none_some : {n : ℕ} → ◌≡◌ {A = Option ℕ} None (Some n) → ⊥
      none_some e = cc

  pub noted_skips : (n : ℕ) (holders : List (List ℕ × ℕ)) (least : Option (List ℕ))
      → ((text : List ℕ) → ¬ Held n text)
      → NotedBelow Held n holders least → NotedBelow Held (n + 1) holders least
  noted_skips n holders least none (pairs, exact, noted) = (
    pairs,
    λ i text. (
      λ there. (let was = (exact i text).0 there in (omega (arith, was.0), was.1)),
      λ held. elim (cases_eq i n) [
        | inl same ↦ absurd (none text (subst (λ k. Held k text) same held.1))
        | inr other ↦ (exact i text).1 (omega (arith, held.0), held.1)
      ],
    ),
    noted,
  )

  pub noted_takes : (n : ℕ) (holders holders' : List (List ℕ × ℕ)) (least least' : Option (List ℕ)) (texts : List (List ℕ))
      → ((text : List ℕ) → Held n text ↔ Contains texts text)
      → ((pairs : List (ℕ × List ℕ)) → Noted (Pairs pairs) holders least → Noted (Pairs (besides pairs n texts)) holders' least')
      → NotedBelow Held n holders least → NotedBelow Held (n + 1) holders' least'
  noted_takes n holders holders' least least' texts its notes (pairs, exact, noted) =
      (besides pairs n texts, λ i text. (to i text, from i text), notes pairs noted)
    where
      to : (i : ℕ) (text : List ℕ) → Contains (pairs ++ map (λ (t : List ℕ). (n, t)) texts) (i, text) → (i < n + 1) × Held i text
      to i text there = elim (Contains-append_cases pairs (map (λ (t : List ℕ). (n, t)) texts) (i, text) there) [
        | inl old ↦ (let was = (exact i text).0 old in (omega (arith, was.0), was.1))
        | inr later ↦
            (let one = from_map (λ (t : List ℕ). (n, t)) texts (i, text) later in
            let at : n ≡ i = ap (λ (p : ℕ × List ℕ). p.0) one.2 in
            let named : one.0 ≡ text = ap (λ (p : ℕ × List ℕ). p.1) one.2 in
            (omega arith, subst (λ k. Held k text) at ((its text).1 (subst (Contains texts) named one.1))))
      ]

      from : (i : ℕ) (text : List ℕ) → (i < n + 1) × Held i text → Contains (pairs ++ map (λ (t : List ℕ). (n, t)) texts) (i, text)
      from i text held = elim (cases_eq i n) [
        | inl same ↦ Contains-append_right pairs (map (λ (t : List ℕ). (n, t)) texts) (i, text)
            (subst (λ k. Contains {X = ℕ × List ℕ} (map (λ (t : List ℕ). (n, t)) texts) (k, text)) (sym same)
            (contains_map (λ (t : List ℕ). (n, t)) texts text ((its text).0 (subst (λ k. Held k text) same held.1))))
        | inr other ↦ Contains-append_left pairs (map (λ (t : List ℕ). (n, t)) texts) (i, text)
            ((exact i text).1 (omega (arith, held.0), held.1))
      ]

  pub noted_all : (n : ℕ) (holders : List (List ℕ × ℕ)) (least : Option (List ℕ))
      → ((i : ℕ) (text : List ℕ) → Held i text → i < n)
      → NotedBelow Held n holders least → IsLeastOf (IsHeldTwice Held) least
  noted_all n holders least below (pairs, exact, noted) =
      least_same (IsHeldTwice (Pairs pairs)) (IsHeldTwice Held) least
      (λ text twice. (twice.0, twice.1, twice.2, ((exact twice.0 text).0 twice.3).1, ((exact twice.1 text).0 twice.4).1))
      (λ text twice. (
        twice.0,
        twice.1,
        twice.2,
        (exact twice.0 text).1 (below twice.0 text twice.3, twice.3),
        (exact twice.1 text).1 (below twice.1 text twice.4, twice.4),
      ))
      noted.least_twice

-- one text more of a list of texts that a place holds
pub besides_more : (pairs : List (ℕ × List ℕ)) (place : ℕ) (texts : List (List ℕ)) (i : ℕ) (x : List ℕ)
    → i < length texts → x ≡ get_or texts i x
    → besides pairs place (take (i + 1) texts) ≡ besides (besides pairs place (take i texts)) place (x ∷ [])
besides_more pairs place texts i x below is =
    rw (take_more texts i x below, ← is, map-append {A = List ℕ} {B = ℕ × List ℕ} (λ (t : List ℕ). (place, t)) (take i texts) (x ∷ []))
    (sym (append_assoc pairs (map (λ t. (place, t)) (take i texts)) ((place, x) ∷ [])))

-- a chosen module's packages are noted
pub marked_takes : (found : List Candidate) (flags : List Bool) (n : ℕ) (c : Candidate)
    (holders holders' : List (List ℕ × ℕ)) (least least' : Option (List ℕ))
    → n < length found → c ≡ get_or found n c → slice_index_or flags n false ≡ true
    → ((pairs : List (ℕ × List ℕ)) → Noted (Pairs pairs) holders least → Noted (Pairs (besides pairs n c.packages)) holders' least')
    → NotedBelow (λ i text. IsMarked flags i × HasPackage found i text) n holders least
    → NotedBelow (λ i text. IsMarked flags i × HasPackage found i text) (n + 1) holders' least'
marked_takes found flags n c holders holders' least least' below is marked notes noted =
    noted_takes (λ i text. IsMarked flags i × HasPackage found i text) n holders holders' least least' c.packages
    (λ text. (
      λ held. (let same : held.1.0 ≡ c = same_some held.1.0 c (sym held.1.1 ∙ there) in
          subst (λ (m : Candidate). Contains m.packages text) same held.1.2),
      λ has. (marked, (c, there, has)),
    ))
    notes noted
  where
    there : slice_get found n ≡ Some c
    there = found_at found n c below is

pub marked_skips : (found : List Candidate) (flags : List Bool) (n : ℕ)
    (holders : List (List ℕ × ℕ)) (least : Option (List ℕ))
    → slice_index_or flags n false ≡ false
    → NotedBelow (λ i text. IsMarked flags i × HasPackage found i text) n holders least
    → NotedBelow (λ i text. IsMarked flags i × HasPackage found i text) (n + 1) holders least
marked_skips found flags n holders least unmarked noted =
    noted_skips (λ i text. IsMarked flags i × HasPackage found i text) n holders least
    (λ text held. false≢true (sym unmarked ∙ held.0)) noted
