-- Cuts in order of their paths, one after another: the best of each path so far.
use Rattle.std.proofs.Common.{◌≡◌, ◌≢◌, suc, ◌+◌, ◌<◌, ◌≤◌, ℕ, not, true, false, List, ◌∷◌, [], ◌++◌, length, map, take, get_or}
use Rattle.std.proofs.Common.{Option, Some, None, append-nil, slice_get, AllPairs, sym, ap, ◌∙◌, arith, IsFalse}
use Rattle.std.proofs.lemmas.Bool.{false≢true, not-true, not-false}
use Rattle.std.proofs.lemmas.List.{get_or-map, length-map, map-append, take_more}
use Rattle.std.proofs.lemmas.List.Elements.{All-contains}
use Rattle.std.proofs.lemmas.Slice.Eq.{bytes_eq-Decides}
use Rattle.std.proofs.lemmas.List.Elements.{filter_map-append}
use Rattle.std.specs.List.{cons_option, filter_map, range_with_len}
use Rattle.std.specs.Option.{option_and_then}
use Rattle.std.specs.Str.{bytes_eq}
use Rattle.jm_bytes.specs.ByteOrder.{is_before}
use Rattle.jm_bytes.proofs.Members.{from_map}
use Rattle.jm_bytes.proofs.Pairs.{pairs_before, range_more}
use Rattle.jm_archive.specs.Cuts.{Candidate, candidate_of, cut_of}
use Rattle.jm_archive.specs.declared.cuts.Cut.{Cut}
use Rattle.jm_archive.specs.declared.kinds.ArchiveKind.{ArchiveKind}
use Rattle.jm_archive.proofs.BestLaws.{SoFar, so_far_greater, so_far_kept, so_far_pushed}

-- no path stands before an earlier one
abbrev pub NotBehind : Cut → Cut → Type 0
NotBehind cut later = IsFalse (is_before later.path.now cut.path.now)

-- pairs of what comes of a list, as pairs of the list
pub unmapped : {X Y : Type 0} (R : Y → Y → Type 0) (f : X → Y) (xs : List X) → AllPairs R (map f xs) → AllPairs (λ x y. R (f x) (f y)) xs
unmapped R f xs pairs i j d before below =
    let long : length (map f xs) ≡ length xs = length-map _ _ in
    rw (← get_or-map f xs i d (f d) (omega arith), ← get_or-map f xs j d (f d) below) (pairs i j (f d) before (omega arith))

module _ (cuts later best : List Cut) (first last d : Cut) (i : ℕ) (sorted : AllPairs NotBehind cuts) (is : cuts ≡ first ∷ later)
    (within : i < length later)
    (so : SoFar (map candidate_of (take (i + 1) cuts)) (map candidate_of best) (candidate_of last)) where
  abbrev pub next : Cut
  next = get_or later i d

  below : i + 1 < length cuts
  below = omega (arith, ap (λ (cs : List Cut). length cs) is)

  read : get_or cuts (i + 1) d ≡ next
  read =
      let place : i + 1 ≡ suc i = omega arith in
      ap (λ (cs : List Cut). get_or cs (i + 1) d) is ∙ ap (λ k. get_or (first ∷ later) k d) place

  one_more : map candidate_of (take (i + 1 + 1) cuts) ≡ map candidate_of (take (i + 1) cuts) ++ candidate_of next ∷ []
  one_more =
      ap (map candidate_of) (take_more cuts (i + 1) d below ∙ ap (λ (c : Cut). take (i + 1) cuts ++ c ∷ []) read)
      ∙ map-append candidate_of (take (i + 1) cuts) (next ∷ [])

  none_behind : is_before next.path.now last.path.now ≡ false
  none_behind =
      let from = from_map candidate_of (take (i + 1) cuts) (candidate_of last) so.own in
      let one = All-contains (λ x. NotBehind x (get_or cuts (i + 1) d)) (take (i + 1) cuts) from.0
      (pairs_before NotBehind cuts (i + 1) d sorted below) from.1
      in
      ap (λ (c : Cut). is_before c.path.now last.path.now) (sym read)
      ∙ ap (λ (l : Candidate). is_before (get_or cuts (i + 1) d).path.now l.path) (sym from.2) ∙ one

  -- the next cut has another path
  pub next_pushed : (kept : List Cut) (new : Cut) → not (bytes_eq next.path.now last.path.now) ≡ true → kept ≡ best ++ last ∷ []
      → new ≡ next → SoFar (map candidate_of (take (i + 1 + 1) cuts)) (map candidate_of kept) (candidate_of new)
  next_pushed kept new other put has =
      let apart : next.path.now ≢ last.path.now = λ same. false≢true (sym (not-true (bytes_eq next.path.now last.path.now) other)
      ∙ (bytes_eq-Decides next.path.now last.path.now).1 same)
      in
      rw (put, has, one_more, map-append candidate_of best (last ∷ []))
      (so_far_pushed (map candidate_of (take (i + 1) cuts)) (map candidate_of best) (candidate_of last) (candidate_of next) so none_behind apart)

  same_path : not (bytes_eq next.path.now last.path.now) ≡ false → next.path.now ≡ last.path.now
  same_path same = (bytes_eq-Decides next.path.now last.path.now).0 (not-false (bytes_eq next.path.now last.path.now) same)

  -- it has the same path and a greater version
  pub next_greater : (new : Cut) → not (bytes_eq next.path.now last.path.now) ≡ false → last.version < next.version → new ≡ next
      → SoFar (map candidate_of (take (i + 1 + 1) cuts)) (map candidate_of best) (candidate_of new)
  next_greater new same more has =
      rw (has, one_more)
      (so_far_greater (map candidate_of (take (i + 1) cuts)) (map candidate_of best) (candidate_of last) (candidate_of next) so
      (same_path same) more)

  -- it has the same path and no greater version
  pub next_kept : not (bytes_eq next.path.now last.path.now) ≡ false → next.version ≤ last.version
      → SoFar (map candidate_of (take (i + 1 + 1) cuts)) (map candidate_of best) (candidate_of last)
  next_kept same less =
      rw one_more
      (so_far_kept (map candidate_of (take (i + 1) cuts)) (map candidate_of best) (candidate_of last) (candidate_of next) so
      (same_path same) less)

-- The candidates of the names, one name after another

module _ (kind : ArchiveKind) (names : List (List ℕ)) (n : ℕ) (old : List Cut) (name : List ℕ) (read : slice_get names n ≡ Some name)
    (so_far : map candidate_of old ≡ filter_map (λ place. option_and_then (cut_of kind place) (slice_get names place)) (range_with_len 0 n)) where
  abbrev at_place : ℕ → Option Candidate
  at_place place = option_and_then (cut_of kind place) (slice_get names place)

  more : (new : List Candidate) → new ≡ map candidate_of old ++ filter_map at_place (n ∷ [])
      → new ≡ filter_map at_place (range_with_len 0 (n + 1))
  more new put =
      let next : 0 + n ≡ n = omega arith in
      put ∙ ap (λ cs. cs ++ filter_map at_place (n ∷ [])) so_far ∙ sym (filter_map-append at_place (range_with_len 0 n) (n ∷ []))
      ∙ ap (λ k. filter_map at_place (range_with_len 0 n ++ k ∷ [])) (sym next) ∙ ap (filter_map at_place) (sym (range_more 0 n))

  pub cut_more : (new : List Cut) (cut : Cut) → new ≡ old ++ cut ∷ [] → Some (candidate_of cut) ≡ cut_of kind n name
      → map candidate_of new ≡ filter_map at_place (range_with_len 0 (n + 1))
  cut_more new cut put is =
      let gives : at_place n ≡ Some (candidate_of cut) = ap (option_and_then (cut_of kind n)) read ∙ sym is in
      more (map candidate_of new) (ap (map candidate_of) put ∙ map-append candidate_of old (cut ∷ [])
      ∙ ap (λ o. map candidate_of old ++ cons_option o []) (sym gives))

  pub none_more : None ≡ cut_of kind n name → map candidate_of old ≡ filter_map at_place (range_with_len 0 (n + 1))
  none_more is =
      let gives : at_place n ≡ None = ap (option_and_then (cut_of kind n)) read ∙ sym is in
      more (map candidate_of old) (sym (append-nil (map candidate_of old))
      ∙ ap (λ o. map candidate_of old ++ cons_option o []) (sym gives))
