use Rattle.std.proofs.Common.{◌+◌, ◌++◌, take, drop, subst, refl, ◌∙◌}
use Rattle.jm_form.specs.Layout.{contents_text}
use Rattle.jm_outside.specs.Holds.{Holds, HoldsPart}
use Rattle.jm_writer.proofs.LayoutLaws.{contents_more, contents_ends}
use Rattle.jm_bytes.proofs.ResultLaws.{on_err}
use Rattle.jm_outside.proofs.HoldsLaws.{holds_more, part_added, part_of_more}
use Rattle.jm_writer.proofs.writing.append_resources.Goals as goal

pub returns-in_err-append-clause-err : goal.returns-in_err-append-clause-err
returns-in_err-append-clause-err g c = λ base front at_first.
    let pool = c.args.pool.now in
    let place = c.loop-place.place in
    let path = c.args.path.now in
    let bytes = c.at.result.1.now in
    let new = g.S.Shelf.files c.append.new.self in
    let done = front ++ contents_text (take place pool) in
    let part = part_added base (g.S.Shelf.files c.loop-place.shelf) new path done bytes (c.loop-place.invariant.files base front
    at_first) c.in_err-append.ensures.err in
    let more = part_of_more base new path (done ++ bytes) (contents_text (drop (place + 1) pool)) part in
    let is = contents_ends pool place (c.at.result.0.now, bytes) front c.at.ensures in
    on_err (HoldsPart base path (front ++ contents_text pool) new) c.from_residual.result
    (subst (λ l. HoldsPart base path l new) is more)

pub loop-place-preserved : goal.loop-place-preserved
loop-place-preserved g c =
    let pool = c.args.pool.now in
    let place = c.loop-place.place in
    let path = c.args.path.now in
    let bytes = c.at.result.1.now in
    record {
      files = λ base front at_first.
          let done = front ++ contents_text (take place pool) in
          subst (λ l. Holds base path l (g.S.Shelf.files c.append.new.self))
          (contents_more pool place (c.at.result.0.now, bytes) front c.at.ensures)
          (holds_more base (g.S.Shelf.files c.loop-place.shelf) (g.S.Shelf.files c.append.new.self) path done bytes
          (c.loop-place.invariant.files base front at_first) c.in_ok-append.ensures.ok);
      faults = c.in_ok-append.ensures.faults.kept refl ∙ c.loop-place.invariant.faults;
      handed = c.append.ensures.handed ∙ c.loop-place.invariant.handed;
    }
