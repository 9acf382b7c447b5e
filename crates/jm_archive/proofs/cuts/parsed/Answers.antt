use Rattle.jm_archive.proofs.VersionLaws.{parsed_some, parsed_none}
use Rattle.jm_archive.proofs.cuts.parsed.Goals as goal

pub returns-clause-some : goal.returns-clause-some
returns-clause-some c = rw c.ok.ensures.value (parsed_some c.args.text.now c.parse.result c.requires c.parse.ensures.value.0)

pub returns-clause-none : goal.returns-clause-none
returns-clause-none c = rw c.ok.ensures.value (parsed_none c.args.text.now c.parse.result c.parse.ensures.value.0)
