use Rattle.std.proofs.Common.{◌≡◌, ◌+◌, ◌≤◌, length, take}
use Rattle.jm_form.specs.Texts.{text_at}
use Rattle.jm_reader.proofs.compare.front_of.Given as goal

abbrev pub invariant-loop-n : goal.invariant-loop-n
invariant-loop-n g l = record {
  bytes : l.reads.bytes ≡ l.fn.reads.bytes;
  count : l.reads.count ≡ l.fn.reads.count + l.n;
  within : l.n ≤ length (text_at l.buf l.at);
  same : take l.n (text_at l.buf l.at) ≡ take l.n l.name;
}
