use Rattle.std.proofs.Common.{◌≡◌, ℕ, List, length, map}
use Rattle.std.specs.List.{find}
use Rattle.jm_form.specs.Greedy.{fits, least_seed}
use Rattle.jm_redirect.specs.Marks.{Marks}
use Rattle.jm_redirect.proofs.SeedLaws.{seeds_from}
use Rattle.jm_redirect.proofs.buckets.least_seed.Given as goal

abbrev pub invariant-loop-seed : goal.invariant-loop-seed
invariant-loop-seed l = record {
  room : length l.marked ≡ length l.fn.marked;
  marks : (before : List ℕ) → Marks l.fn.taken before → Marks l.taken before;
  left : (before : List ℕ) → Marks l.fn.taken before → least_seed l.slots before (map (λ name. name.now) l.bucket.names.now)
      ≡ find (fits l.slots before (map (λ name. name.now) l.bucket.names.now)) (seeds_from l.seed);
}
