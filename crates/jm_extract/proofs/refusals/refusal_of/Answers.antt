use Rattle.std.proofs.Common.{of_calls, rules}
use Rattle.jm_filed.specs.Taken.{name_alone}
use Rattle.jm_extract.proofs.RefusalLaws.{bad_name, refused_alone, refused_clash}
use Rattle.jm_texts.proofs.NameRefusalLaws.{all_sound, none_checked}
use Rattle.jm_extract.proofs.refusals.refusal_of.Goals as goal

pub returns-in-Err-clause-refusal : goal.returns-in-Err-clause-refusal
returns-in-Err-clause-refusal c b = search (rules, of_calls, bad_name, refused_alone)

pub returns-clause-refusal : goal.returns-clause-refusal
returns-clause-refusal c b = search (rules, refused_alone, refused_clash, none_checked)

pub returns-clause-sound : goal.returns-clause-sound
returns-clause-sound c none =
    let ts = c.args.entries.now in
    let i = c.loop-entry.entry-index in
    all_sound name_alone ts (none_checked name_alone ts i c.loop-entry-test.false c.loop-entry.invariant.sound)
