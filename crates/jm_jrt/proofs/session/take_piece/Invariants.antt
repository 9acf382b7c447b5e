use Rattle.std.proofs.Common.{◌≡◌, ◌≤◌, ◌++◌, length}
use Rattle.jm_reader.specs.Walk.{IsLater}
use Rattle.jm_jrt.specs.Sessions.{IsOpen, Passes, moment}
use Rattle.jm_jrt.proofs.session.take_piece.Given as goal

abbrev pub invariant-loop-bytes : goal.invariant-loop-bytes
invariant-loop-bytes g l =
    let content = g.O.Sink.content in
    record {
      same : (l.answering.out.ghost_name ≡ l.fn.answering.out.ghost_name) × (l.answering.hashes.ghost_name
          ≡ l.fn.answering.hashes.ghost_name) × (l.answering.reads.ghost_name ≡ l.fn.answering.reads.ghost_name);
      metered : l.answering.reads.now.bytes ≡ l.image;
      goes_on : IsOpen l.progress.lines l.progress.part.items;
      passes : Passes l.image (l.fn.progress.part.items ++ l.piece) (moment (content l.fn.answering.out.now) l.fn.progress.lines
          l.fn.answering.hashes.now
          l.fn.answering.reads.now) (l.progress.part.items ++ l.rest) (moment (content l.answering.out.now) l.progress.lines
          l.answering.hashes.now l.answering.reads.now);
      faults : g.O.Sink.faults l.answering.out.now ≡ g.O.Sink.faults l.fn.answering.out.now;
      hashes : l.fn.answering.hashes.now ≤ l.answering.hashes.now;
      reads : IsLater l.fn.answering.reads.now l.answering.reads.now;
    }

abbrev pub decreases-loop-bytes : goal.decreases-loop-bytes
decreases-loop-bytes g l = length l.rest
