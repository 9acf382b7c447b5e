use Rattle.std.proofs.Common.{◌≡◌, ◌<◌, ◌≤◌, true, ℕ}
use Rattle.jm_jrt.specs.Told.{is_word_sound}
use Rattle.jm_jrt.proofs.words.first_bad_word.Given as goal

abbrev pub invariant-loop-k : goal.invariant-loop-k
invariant-loop-k g l = record {
  bytes : l.reads.bytes ≡ l.fn.reads.bytes;
  count : l.fn.reads.count ≤ l.reads.count;
  sound : (j : ℕ) → j < l.k → is_word_sound l.index.bytes l.content l.form j ≡ true;
}
