use Rattle.jm_class.specs.Views.{plain}
use Rattle.jm_modinfo.proofs.InfoFaultLaws.{described_first, described_allowed}
use Rattle.jm_modinfo.proofs.InfoLaws.{described_only, described_sound, described_fault, described_none}
use Rattle.jm_modinfo.proofs.describing.describe.Goals as goal

pub returns-clause-only : goal.returns-clause-only
returns-clause-only c = described_only (plain c.args.class.now) c.info.result c.info.ensures.info

pub returns-clause-no_fault : goal.returns-clause-no_fault
returns-clause-no_fault c = described_sound (plain c.args.class.now) c.info.result c.info.ensures.info

pub returns-clause-fault : goal.returns-clause-fault
returns-clause-fault c = λ fault refused. described_fault (plain c.args.class.now) c.info.result fault c.info.ensures.info refused

pub returns-clause-no_info : goal.returns-clause-no_info
returns-clause-no_info c = λ fault refused d info. described_none (plain c.args.class.now) c.info.result fault d c.info.ensures.info
    refused info

pub returns-clause-allowed : goal.returns-clause-allowed
returns-clause-allowed c = described_allowed (plain c.args.class.now) c.info.result c.info.ensures.info

pub returns-clause-first : goal.returns-clause-first
returns-clause-first c = λ fault refused. described_first (plain c.args.class.now) c.info.result fault c.info.ensures.info refused
