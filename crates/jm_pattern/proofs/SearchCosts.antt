-- What a search costs: one step of it, a try of a segment, and all tries over the lines of a name.
use Rattle.std.proofs.Common.{◌≡◌, ◌≢◌, ◌≤◌, ◌+◌, ◌-◌, ◌*◌, ◌∷◌, ◌==◌, [], ℕ, suc, Bool, true, false, cond}
use Rattle.std.proofs.Common.{List, Option, None, Some, IfNone, length, refl, ap, arith}
use Rattle.std.proofs.lemmas.Bool.{ne_eqb, eqb-false}
use Rattle.jm_pattern.specs.Matching.{StandsFor}
use Rattle.jm_pattern.specs.MatchingSteps.{NoLonger, TakesByte, IsFixed, BeginsFixed, AtRun, behind_line}
use Rattle.jm_pattern.specs.MatchingCosts.{line_places, block_length, behind_segment, segment_cost}
use Rattle.jm_pattern.proofs.LineSums.{over_lines, lines_on, places_some, places_all, places_most}
use Rattle.jm_pattern.proofs.LineSums.{behind_line-shorter, lines_add, later_none, lines_later}
use Rattle.jm_pattern.specs.declared.signs.Sign.{Sign}
use Rattle.jm_pattern.specs.declared.signs.Sign.TheVariants.{AnyRun, Run, One, Byte}

-- what holds anyway holds where there is nothing
pub none-anyway : {X P : Type 0} (o : Option X) → P → IfNone o P
none-anyway None h = h
none-anyway (Some x) h = tt

-- one place more, and one byte more in the first line
cost-place : (k : ℕ) (p : List Sign) (n : List ℕ) → segment_cost k p n + block_length p ≤ segment_cost (1 + k) p n
cost-place k [] n = omega arith
cost-place k (AnyRun ∷ p) n = omega arith
cost-place k (Run ∷ p) n = omega arith
cost-place k (One ∷ p) n = omega (arith, cost-place k p n)
cost-place k (Byte b ∷ p) n = omega (arith, cost-place k p (cond (b == 47) (behind_line n) n))

cost-byte : (k : ℕ) (p : List Sign) (b : ℕ) (n : List ℕ) → b ≢ 47 → segment_cost k p n ≤ segment_cost k p (b ∷ n)
cost-byte k [] b n h = omega arith
cost-byte k (AnyRun ∷ p) b n h = omega arith
cost-byte k (Run ∷ p) b n h = rw (ne_eqb b 47 h) (omega (arith, cost-byte (line_places n) p b n h, cost-place (line_places n) p (b ∷ n)))
cost-byte k (One ∷ p) b n h = omega (arith, cost-byte k p b n h)
cost-byte k (Byte c ∷ p) b n h = rw (ne_eqb b 47 h) (go (c == 47) (cost-byte k p b n h))
  where
    go : (slash : Bool) → segment_cost k p n ≤ segment_cost k p (b ∷ n) → k + segment_cost k p (cond slash (behind_line n) n) ≤ k
        + segment_cost k p (cond slash (behind_line n) (b ∷ n))
    go true more = omega arith
    go false more = omega (arith, more)

-- a sign for one byte that takes a byte
cost-taken : (k : ℕ) (s : Sign) (p : List Sign) (b : ℕ) (n : List ℕ) → IsFixed s → StandsFor s (b ∷ []) → segment_cost k p n + k
    ≤ segment_cost k (s ∷ p) (b ∷ n)
cost-taken k AnyRun p b n f h = absurd f
cost-taken k Run p b n f h = absurd f
cost-taken k One p b n f h = let other : b ≢ 47 = λ e. h.1 cc in omega (arith, cost-byte k p b n other)
cost-taken k (Byte c) p b n f h = let same : b ≡ c = cc in rw (← same) (go (b == 47) refl)
  where
    go : (slash : Bool) → b == 47 ≡ slash → segment_cost k p n + k ≤ k + segment_cost k p (cond slash (cond slash n (behind_line n))
        (b ∷ n))
    go true e = omega arith
    go false e = omega (arith, cost-byte k p b n (eqb-false b 47 e))

-- the signs at the front are compared once at each place
pub cost-block : (k : ℕ) (p : List Sign) (n : List ℕ) → 1 ≤ k → block_length p ≤ segment_cost k p n
cost-block k p n h =
    let one_more : 1 + (k - 1) ≡ k = omega (arith, h) in
    let more = rw one_more at (cost-place (k - 1) p n) in
    omega (arith, more)

pub cost-try : (p : List Sign) (n : List ℕ) → block_length p + 1 ≤ segment_cost 0 (Run ∷ p) n
cost-try p n = omega (arith, places_some n, cost-block (line_places n) p n (places_some n))

-- a step that takes a byte and a sign, of what was left
pub cost-takes : (k : ℕ) (signs : List Sign) (name : List ℕ) (p : List Sign) (n : List ℕ) → BeginsFixed signs
    → TakesByte signs name p n → segment_cost k p n + k ≤ segment_cost k signs name
cost-takes k signs name p n f t = rw (t.signs_are, t.name_is) (cost-taken k t.sign p t.byte n (rw t.signs_are at f) t.stands)

pub block-begins : (signs : List Sign) → BeginsFixed signs → 1 ≤ block_length signs
block-begins [] f = absurd f
block-begins (AnyRun ∷ p) f = absurd f
block-begins (Run ∷ p) f = absurd f
block-begins (One ∷ p) f = omega arith
block-begins (Byte b ∷ p) f = omega arith

block-fixed : (s : Sign) (p : List Sign) → IsFixed s → (block_length (s ∷ p) ≡ 1 + block_length p) × (behind_segment (s ∷ p)
    ≡ behind_segment p)
block-fixed AnyRun p f = absurd f
block-fixed Run p f = absurd f
block-fixed One p f = (refl, refl)
block-fixed (Byte b) p f = (refl, refl)

pub block-takes : (signs : List Sign) (name : List ℕ) (p : List Sign) (n : List ℕ) → BeginsFixed signs → TakesByte signs name p n
    → (block_length signs ≡ 1 + block_length p) × (behind_segment signs ≡ behind_segment p)
block-takes signs name p n f t = rw t.signs_are (block-fixed t.sign p (rw t.signs_are at f))

-- what is left grows no longer
pub shorter-takes : (signs : List Sign) (name : List ℕ) (q : List Sign) (o : List ℕ) (p : List Sign) (n : List ℕ)
    → NoLonger signs name q o → TakesByte q o p n → NoLonger signs name p n
shorter-takes signs name q o p n l t = record {
  in_signs = omega (arith, l.in_signs, ap length t.signs_are);
  in_name = omega (arith, l.in_name, ap length t.name_is);
}

pub shorter-further : (signs : List Sign) (name : List ℕ) (q : List Sign) (o : List ℕ) (p : List Sign) (n : List ℕ)
    → NoLonger signs name q o → NoLonger q o p n → NoLonger signs name p n
shorter-further signs name q o p n l m = record {
  in_signs = omega (arith, l.in_signs, m.in_signs);
  in_name = omega (arith, l.in_name, m.in_name);
}

-- a byte that is no `/` stands in the first line
pub line-byte : (name : List ℕ) (b : ℕ) (n : List ℕ) → name ≡ b ∷ n → b ≢ 47 → (behind_line name ≡ behind_line n)
    × (line_places name ≡ 1 + line_places n)
line-byte name b n e h = rw (e, ne_eqb b 47 h) (refl, refl)

-- a `*` that takes a byte
pub cost-run_byte : (p : List Sign) (b : ℕ) (n : List ℕ) → b ≢ 47 → segment_cost 0 (Run ∷ p) n + block_length p + 1
    ≤ segment_cost 0 (Run ∷ p) (b ∷ n)
cost-run_byte p b n h = rw (ne_eqb b 47 h) (omega (arith, cost-byte (line_places n) p b n h, cost-place (line_places n) p (b ∷ n)))

-- at a run the places of the block before it don't count
pub cost-at_run : (k j : ℕ) (p : List Sign) (n : List ℕ) → AtRun p n → segment_cost k p n ≡ segment_cost j p n
cost-at_run k j [] n e = refl
cost-at_run k j (AnyRun ∷ p) n e = refl
cost-at_run k j (Run ∷ p) n e = refl
cost-at_run k j (One ∷ p) n e = absurd (e tt)
cost-at_run k j (Byte b ∷ p) n e = absurd (e tt)

-- no name costs less than an empty one
cost-least : (k j : ℕ) (p : List Sign) (n : List ℕ) → k ≤ j → segment_cost k p [] ≤ segment_cost j p n
cost-least k j [] n h = omega arith
cost-least k j (AnyRun ∷ p) n h = omega arith
cost-least k j (Run ∷ p) n h = omega (arith, places_some n, cost-least 1 (line_places n) p n (places_some n))
cost-least k j (One ∷ p) n h = omega (arith, h, cost-least k j p n h)
cost-least k j (Byte b ∷ p) n h = go (b == 47) (λ m. cost-least k j p m h)
  where
    go : (slash : Bool) → ((m : List ℕ) → segment_cost k p [] ≤ segment_cost j p m) → k + segment_cost k p (cond slash [] []) ≤ j
        + segment_cost j p (cond slash (behind_line n) n)
    go true more = omega (arith, h, more (behind_line n))
    go false more = omega (arith, h, more n)

-- one try of a segment, at so much for each sign
pub cost-most : (most k : ℕ) (p : List Sign) (n : List ℕ) → k ≤ most → length n + 1 ≤ most → segment_cost k p n
    + length (behind_segment p) * most ≤ length p * most
cost-most most k [] n h l = omega arith
cost-most most k (AnyRun ∷ p) n h l = omega arith
cost-most most k (Run ∷ p) n h l = omega (arith, l, places_most n, cost-most most (line_places n) p n (omega (arith, l, places_most n)) l)
cost-most most k (One ∷ p) n h l = omega (arith, h, cost-most most k p n h l)
cost-most most k (Byte b ∷ p) n h l =
    let shorter : length (cond (b == 47) (behind_line n) n) + 1 ≤ most = go (b == 47) in
    omega (arith, h, cost-most most k p (cond (b == 47) (behind_line n) n) h shorter)
  where
    go : (slash : Bool) → length (cond slash (behind_line n) n) + 1 ≤ most
    go true = omega (arith, l, behind_line-shorter n)
    go false = l

-- the tries of a segment from each line on
tries-most : (most j : ℕ) (p : List Sign) (n : List ℕ) → length n + 1 ≤ most
    → over_lines (λ m. segment_cost (line_places m) p (lines_on j m)) n + length (behind_segment p) * most ≤ length p * most
tries-most most j [] n l = omega (arith, later_none n)
tries-most most j (AnyRun ∷ p) n l = omega (arith, later_none n)
tries-most most j (Run ∷ p) n l =
    let cost : List ℕ → ℕ = λ m. line_places m + segment_cost (line_places m) p m in
    let least : (m : List ℕ) → cost [] ≤ cost m = λ m. omega (arith, places_some m, cost-least 1 (line_places m) p m (places_some m)) in
    omega (
      arith,
      l,
      lines_later cost j n least,
      lines_add line_places (λ m. segment_cost (line_places m) p m) n,
      places_all n,
      tries-most most 0 p n l,
    )
tries-most most j (One ∷ p) n l =
    omega (arith, l, lines_add line_places (λ m. segment_cost (line_places m) p (lines_on j m)) n, places_all n, tries-most most j p n l)
tries-most most j (Byte b ∷ p) n l = go (b == 47) (λ i. tries-most most i p n l)
  where
    go : (slash : Bool) → ((i : ℕ) → over_lines (λ m. segment_cost (line_places m) p (lines_on i m)) n + length (behind_segment p) *
        most ≤ length p * most) → over_lines (λ m. line_places m + segment_cost (line_places m) p
        (cond slash (behind_line (lines_on j m)) (lines_on j m))) n + length (behind_segment p) * most ≤ suc (length p) * most
    go true more = omega (
      arith,
      l,
      lines_add line_places (λ m. segment_cost (line_places m) p (lines_on (suc j) m)) n,
      places_all
          n,
      more (suc j),
    )
    go false more = omega (arith, l, lines_add line_places (λ m. segment_cost (line_places m) p (lines_on j m)) n, places_all n, more j)

-- a try behind a `*` in each line, and the way to the next line
abbrev pub line_cost : List Sign → List ℕ → ℕ
line_cost p n = line_places n + segment_cost 0 (Run ∷ p) n

pub search-most : (most : ℕ) (p : List Sign) (n : List ℕ) → 2 * (length n + 1) ≤ most → over_lines (line_cost p) n
    + length (behind_segment p) * most ≤ (length p + 1) * most
search-most most p n l =
    let tries : over_lines (λ m. segment_cost (line_places m) p m) n + length (behind_segment p) * most ≤ length p * most =
    tries-most most 0 p n (omega (arith, l)) in
    omega (
      arith,
      l,
      tries,
      places_all n,
      lines_add line_places (segment_cost 0 (Run ∷ p)) n,
      lines_add line_places
          (λ m. segment_cost (line_places m) p m) n,
    )
