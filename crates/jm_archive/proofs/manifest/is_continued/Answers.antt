use Rattle.std.proofs.Common.{◌∙◌, sym, rules}
use Rattle.jm_archive.specs.Manifest.{line_of, main_lines}
use Rattle.jm_archive.proofs.ManifestLaws.{continued_more}
use Rattle.jm_archive.proofs.manifest.is_continued.Goals as goal

pub loop-line-preserved : goal.loop-line-preserved
loop-line-preserved c =
    let line = c.in-Some.line in
    sym (continued_more (main_lines c.loop-line.rest.now) (main_lines line.rest.now) (line_of line) c.in-Some.ensures.some
    (search rules) (search rules)) ∙ c.loop-line.invariant
