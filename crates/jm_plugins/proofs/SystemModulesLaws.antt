-- The plain map is put for the map, from the first pair to the last.
use Rattle.std.proofs.Common.{◌≡◌, ◌<◌, ◌+◌, ℕ, true, false, List, [], ◌∷◌, ◌++◌, drop, length, map, take, rules}
use Rattle.std.proofs.Common.{Some, get_or, slice_get, sym, ap, ◌∙◌, arith, append_assoc, append-nil, ◌≤◌}
use Rattle.std.proofs.lemmas.List.{drop_all, drop_more, length-map, length-take-le, map-append, take_all, take_more}
use Rattle.std.specs.Str.{bytes_eq}
use Rattle.jm_bytes.proofs.Choice.{same_some}
use Rattle.jm_pool.specs.Pairs.{with_bytes_at}
use Rattle.jm_plugins.specs.SystemModules.{map_name, plain_map_text, with_plain_map}
use Rattle.jm_plugins.proofs.Beside.{at_front}
use Rattle.jm_plugins.proofs.ClassLaws.{replaced}

abbrev Pairs : Type 0
Pairs = List (List ℕ × List ℕ)

-- the first pairs with the plain map, and the others as they were
abbrev pub partly : ℕ → Pairs → Pairs
partly place pairs = map with_plain_map (take place pairs) ++ drop place pairs

module _ (pairs pool : Pairs) (place : ℕ) (pair : List ℕ × List ℕ) (below : place < length pairs) (so_far : pool ≡ partly place pairs)
    (there : slice_get pool place ≡ Some pair) where
  abbrev front : Pairs
  front = map with_plain_map (take place pairs)

  abbrev behind : Pairs
  behind = drop (place + 1) pairs

  abbrev here : List ℕ × List ℕ
  here = get_or pairs place pair

  long : length front ≡ place
  long = length-map (take place pairs) with_plain_map ∙ length-take-le place pairs (omega (arith, below))

  parted : pool ≡ front ++ here ∷ behind
  parted = so_far ∙ ap (λ l. front ++ l) (drop_more pairs place pair below)

  same : here ≡ pair
  same = same_some here pair (sym (at_front front behind here) ∙ ap (slice_get (front ++ here ∷ behind)) long
      ∙ ap (λ l. slice_get l place) (sym parted) ∙ there)

  next : partly (place + 1) pairs ≡ front ++ with_plain_map pair ∷ behind
  next =
      ap (λ l. map with_plain_map l ++ behind) (take_more pairs place pair below)
      ∙ ap (λ l. l ++ behind) (map-append with_plain_map (take place pairs) (here ∷ []))
      ∙ append_assoc front (with_plain_map here ∷ []) behind ∙ ap (λ p. front ++ with_plain_map p ∷ behind) same

  -- the map is there
  pub map_put : bytes_eq pair.0 map_name ≡ true → (new : Pairs) → new ≡ with_bytes_at pool place plain_map_text
      → new ≡ partly (place + 1) pairs
  map_put is new puts = search (rules, replaced, long, parted, same, next)

  -- another one is there
  pub other_stays : bytes_eq pair.0 map_name ≡ false → pool ≡ partly (place + 1) pairs
  other_stays is = search (rules, parted, same, next)

-- all pairs are done
pub all_put : (pairs pool : Pairs) (place : ℕ) → length pairs ≤ place → pool ≡ partly place pairs → pool ≡ map with_plain_map pairs
all_put pairs pool place past so_far = search (rules, append-nil, drop_all, take_all)
