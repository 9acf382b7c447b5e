use Rattle.std.proofs.Common.{◌∙◌, ap, refl}
use Rattle.std.proofs.lemmas.Option.{slice_get_read}
use Rattle.jm_archive.specs.Cuts.{cut_of}
use Rattle.jm_archive.proofs.ChoiceLaws.{cut_more, none_more}
use Rattle.jm_archive.proofs.files.cuts_of.Goals as goal
use Rattle.jm_archive.proofs.files.cuts_of.Goals.{in-Some+in_ok-push, in_default}

pub loop-place-preserved : goal.loop-place-preserved
loop-place-preserved c =
    let kind = c.args.kind in
    let names = c.args.names.now in
    let place = c.loop-place.place in
    let name = c.index-names-place.result in
    let read = slice_get_read names _ place name refl c.loop-place-test.true c.index-names-place.is in
    let whole = ap (cut_of kind place) c.as_slice.ensures in
    elim c.match-cut_of.branch [
      | in-Some+in_ok-push w ↦ rw w.cuts-is
          (cut_more kind names place c.loop-place.cuts name read c.loop-place.invariant w.push.new.self w.in-Some.cut
          w.in_ok-push.ensures.ok (w.in-Some.ensures ∙ whole))
      | in_default w ↦ rw w.cuts-is
          (none_more kind names place c.loop-place.cuts name read c.loop-place.invariant (w.in_default.ensures ∙ whole))
    ]
