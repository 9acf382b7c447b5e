use Rattle.jm_archive.specs.Manifest.{main_lines}
use Rattle.jm_archive.proofs.ManifestLaws.{says_whole}
use Rattle.jm_archive.proofs.manifest.says_multi_release.Goals as goal

pub loop-line-init : goal.loop-line-init
loop-line-init c = says_whole (main_lines c.args.manifest.now)
