use Rattle.std.proofs.Common.{◌≡◌, ◌≤◌, ◌+◌, ◌-◌, ◌*◌, length}
use Rattle.jm_reader.specs.Walk.{IsLater}
use Rattle.jm_jrt.specs.Sessions.{Arrives, moment}
use Rattle.jm_jrt.proofs.session.serve_ended.Given as goal

abbrev pub invariant-loop-progress : goal.invariant-loop-progress
invariant-loop-progress g l =
    let content = g.O.Sink.content in
    let rest = g.I.Source.rest in
    record {
      same : (l.answering.out.ghost_name ≡ l.fn.answering.out.ghost_name) × (l.answering.hashes.ghost_name
          ≡ l.fn.answering.hashes.ghost_name) × (l.answering.reads.ghost_name ≡ l.fn.answering.reads.ghost_name);
      metered : l.answering.reads.now.bytes ≡ l.image;
      piece : length l.piece.items ≡ 65536;
      arrives : Arrives l.image (rest l.fn.input) (rest l.input) (moment (content l.fn.answering.out.now) 0 l.fn.answering.hashes.now
          l.fn.answering.reads.now)
          l.progress.part.items (moment (content l.answering.out.now) l.progress.lines l.answering.hashes.now l.answering.reads.now);
      input_faults : g.I.Source.faults l.input ≡ g.I.Source.faults l.fn.input;
      out_faults : g.O.Sink.faults l.answering.out.now ≡ g.O.Sink.faults l.fn.answering.out.now;
      hashes : l.fn.answering.hashes.now ≤ l.answering.hashes.now;
      reads : IsLater l.fn.answering.reads.now l.answering.reads.now;
    }

abbrev pub decreases-loop-progress : goal.decreases-loop-progress
decreases-loop-progress g l = 8193 * 1000001 - (8193 * l.progress.lines + length l.progress.part.items)
