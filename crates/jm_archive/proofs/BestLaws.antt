-- Candidates in order of their paths, one after another: the best of each path so far.
use Rattle.std.proofs.Common.{◌≡◌, ◌≢◌, inl, inr, ◌<◌, ◌≤◌, true, false, List, [], ◌∷◌, ◌++◌, AllPairs, Contains}
use Rattle.std.proofs.Common.{sym, ap, ◌∙◌, subst, arith}
use Rattle.std.proofs.lemmas.List.Elements.{All-nil, Contains-append_cases, Contains-append_left, Contains-append_right}
use Rattle.std.proofs.lemmas.List.Kept.{AllPairs-cons}
use Rattle.jm_bytes.specs.ByteOrder.{is_before}
use Rattle.jm_bytes.proofs.ByteOrderLaws.{before_further, before_or}
use Rattle.jm_bytes.proofs.Members.{contains_cases, contains_here, contains_none}
use Rattle.jm_bytes.proofs.Pairs.{pairs_append, pairs_none}
use Rattle.jm_archive.specs.Cuts.{AreBest, Before, Candidate, Covers}

-- the one element of a list
only : {X : Type 0} (x y : X) → Contains (x ∷ []) y → x ≡ y
only x y there = elim (contains_cases x [] y there) [
  | inl same ↦ same
  | inr later ↦ absurd (contains_none y later)
]

one_pair : (x : Candidate) → AllPairs Before (x ∷ [])
one_pair x = AllPairs-cons Before x [] (All-nil (Before x)) (pairs_none Before)

-- so far: the best of each path but the last one, and the best of the last one
pub record SoFar (done best : List Candidate) (last : Candidate) : Type 0 where
  pub rising : AllPairs Before best
  pub below : (one : Candidate) → Contains best one → Before one last
  pub from : (one : Candidate) → Contains best one → Contains done one
  pub own : Contains done last
  pub covers : (one : Candidate) → Contains done one → Covers (best ++ last ∷ []) one

-- what has the best so far has the best of all
pub so_far_all : (done best : List Candidate) (last : Candidate) → SoFar done best last → AreBest done (best ++ last ∷ [])
so_far_all done best last so = record {
  rising = pairs_append Before best (last ∷ []) so.rising (one_pair last)
      (λ one other there here. subst (Before one) (only last other here) (so.below one there));
  from = λ one there. elim (Contains-append_cases best (last ∷ []) one there) [
    | inl among ↦ so.from one among
    | inr here ↦ subst (Contains done) (only last one here) so.own
  ];
  covers = so.covers;
}

module _ (done best : List Candidate) (last next : Candidate) (so : SoFar done best last) where
  -- the next path
  pub so_far_pushed : is_before next.path last.path ≡ false → next.path ≢ last.path → SoFar (done ++ next ∷ []) (best ++ last ∷ []) next
  so_far_pushed sorted other =
      let all = so_far_all done best last so in
      let above : Before last next = before_or last.path next.path (λ same. other (sym same)) sorted in record {
        rising = all.rising;
        below = λ one there. elim (Contains-append_cases best (last ∷ []) one there) [
          | inl among ↦ before_further one.path last.path next.path (so.below one among) above
          | inr here ↦ subst (λ (c : Candidate). Before c next) (only last one here) above
        ];
        from = λ one there. Contains-append_left done (next ∷ []) one (all.from one there);
        own = Contains-append_right done (next ∷ []) next (contains_here next []);
        covers = λ one there. elim (Contains-append_cases done (next ∷ []) one there) [
          | inl among ↦ let by = so.covers one among in
              (by.0, Contains-append_left (best ++ last ∷ []) (next ∷ []) by.0 by.1, by.2, by.3)
          | inr here ↦ let same = only next one here in (
            next,
            Contains-append_right (best ++ last ∷ []) (next ∷ []) next (contains_here next []),
            ap (λ (c : Candidate). c.path) same,
            omega (arith, ap (λ (c : Candidate). c.version) same),
          )
        ];
      }

  -- a greater version of the last path
  pub so_far_greater : next.path ≡ last.path → last.version < next.version → SoFar (done ++ next ∷ []) best next
  so_far_greater same more = record {
    rising = so.rising;
    below = λ one there. subst (λ p. is_before one.path p ≡ true) (sym same) (so.below one there);
    from = λ one there. Contains-append_left done (next ∷ []) one (so.from one there);
    own = Contains-append_right done (next ∷ []) next (contains_here next []);
    covers = λ one there. elim (Contains-append_cases done (next ∷ []) one there) [
      | inl among ↦ let by = so.covers one among in
          elim (Contains-append_cases best (last ∷ []) by.0 by.1) [
            | inl kept ↦ (by.0, Contains-append_left best (next ∷ []) by.0 kept, by.2, by.3)
            | inr here ↦ let is = only last by.0 here in (
              next,
              Contains-append_right best (next ∷ []) next (contains_here next []),
              same ∙ ap (λ (c : Candidate). c.path) is ∙ by.2,
              omega (arith, ap (λ (c : Candidate). c.version) is, by.3),
            )
          ]
      | inr here ↦ let is = only next one here in (
        next,
        Contains-append_right best (next ∷ []) next (contains_here next []),
        ap (λ (c : Candidate). c.path) is,
        omega (arith, ap (λ (c : Candidate). c.version) is),
      )
    ];
  }

  -- no greater version of the last path
  pub so_far_kept : next.path ≡ last.path → next.version ≤ last.version → SoFar (done ++ next ∷ []) best last
  so_far_kept same less = record {
    rising = so.rising;
    below = so.below;
    from = λ one there. Contains-append_left done (next ∷ []) one (so.from one there);
    own = Contains-append_left done (next ∷ []) last so.own;
    covers = λ one there. elim (Contains-append_cases done (next ∷ []) one there) [
      | inl among ↦ so.covers one among
      | inr here ↦ let is = only next one here in (
        last,
        Contains-append_right best (last ∷ []) last (contains_here last []),
        sym same ∙ ap (λ (c : Candidate). c.path) is,
        omega (arith, ap (λ (c : Candidate). c.version) is),
      )
    ];
  }
