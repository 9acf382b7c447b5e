use Rattle.std.proofs.Common.{rules}
use Rattle.jm_archive.proofs.ManifestLaws.{lines_unended}
use Rattle.jm_archive.proofs.manifest.unended.Goals as goal

pub returns-clause-some : goal.returns-clause-some
returns-clause-some c = lines_unended c.args.text.now (search rules) c.requires
