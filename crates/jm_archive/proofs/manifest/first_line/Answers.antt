use Rattle.std.proofs.Common.{◌∙◌, ap, sym}
use Rattle.std.specs.Option.{is_some}
use Rattle.jm_names.proofs.ByteSearches.{found_nowhere, first_place, found_any}
use Rattle.jm_archive.specs.Manifest.{is_end}
use Rattle.jm_archive.proofs.ManifestLaws.{lines_ended}
use Rattle.jm_archive.proofs.manifest.first_line.Goals as goal

pub returns-in-Some-clause-some : goal.returns-in-Some-clause-some
returns-in-Some-clause-some c =
    let bytes = c.args.bytes.now in
    let found = c.in-Some.ensures in
    let place = first_place is_end bytes c.in-Some.at found.0 found.1 in
    let some = sym (found_any is_end bytes c.memchr2.result c.memchr2.ensures) ∙ ap is_some c.in-Some.is in
    rw (c.split_at.ensures.front, c.after_end.ensures.rest, c.split_at.ensures.back, ← place) (lines_ended bytes some)

pub unended-requires : goal.unended-requires
unended-requires c = found_nowhere is_end c.args.bytes.now c.in-None.ensures
