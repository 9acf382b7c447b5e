use Rattle.std.proofs.Common.{◌≡◌, ◌+◌, ◌<◌, ◌^◌, drop}
use Rattle.std.specs.Prelude.{sum}
use Rattle.jm_writer.proofs.entries.contents_length.Given as goal

abbrev pub invariant-loop-size : goal.invariant-loop-size
invariant-loop-size l = record {
  few : l.length < 2 ^ 63;
  all : l.length + sum (drop l.size-index l.sizes) ≡ sum l.sizes;
}
