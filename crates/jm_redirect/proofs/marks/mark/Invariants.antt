use Rattle.std.proofs.Common.{◌≡◌, ◌<◌, ℕ, ◌++◌, true, List, All, length, map, take}
use Rattle.jm_form.specs.Greedy.{are_free}
use Rattle.jm_redirect.specs.Marks.{Marks, slots_sent}
use Rattle.jm_redirect.proofs.marks.mark.Given as goal

abbrev pub invariant-loop-at : goal.invariant-loop-at
invariant-loop-at l = record {
  size : length l.taken ≡ length l.fn.taken;
  room : length l.marked ≡ length l.fn.marked;
  below : All (λ slot. slot < length l.fn.taken) (take l.at l.marked);
  kept : take l.at l.marked ≡ slots_sent l.slots l.seed (map (λ name. name.now) (take l.at l.bucket.names.now));
  free : (before : List ℕ) → Marks l.fn.taken before
      → are_free before (slots_sent l.slots l.seed (map (λ name. name.now) (take l.at l.bucket.names.now))) ≡ true;
  marks : (before : List ℕ) → Marks l.fn.taken before
      → Marks l.taken (slots_sent l.slots l.seed (map (λ name. name.now) (take l.at l.bucket.names.now)) ++ before);
}
