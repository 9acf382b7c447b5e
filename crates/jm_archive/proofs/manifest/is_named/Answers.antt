use Rattle.jm_archive.proofs.ManifestLaws.{named_front}
use Rattle.jm_archive.proofs.manifest.is_named.Goals as goal

pub returns : goal.returns
returns c = named_front c.args.text.now c.eq_ignore_ascii_case.result (rw c.split_at.ensures.front at c.eq_ignore_ascii_case.ensures.test)
