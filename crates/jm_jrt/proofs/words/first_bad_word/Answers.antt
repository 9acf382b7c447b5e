use Rattle.std.proofs.Common.{◌≡◌, false, sym, ◌∙◌, arith, rules}
use Rattle.std.proofs.lemmas.List.{length-take-le}
use Rattle.jm_form.proofs.TextLaws.{ended_length-le}
use Rattle.jm_jrt.specs.Told.{is_word_sound, words_read}
use Rattle.jm_jrt.proofs.EndLaws.{strings_part}
use Rattle.jm_jrt.proofs.FaultLaws.{first_bad, no_bad}
use Rattle.jm_jrt.proofs.words.first_bad_word.Goals as goal

pub invariant_of-ended : goal.invariant_of-ended
invariant_of-ended g c = search (rules, length-take-le, ended_length-le, strings_part)

pub returns-then-not-is_sound-clause-place : goal.returns-then-not-is_sound-clause-place
returns-then-not-is_sound-clause-place g c =
    let sound = is_word_sound c.args.index.now.bytes c.args.content.now c.args.form in
    let bad : sound c.loop-k.k ≡ false = sym c.is_sound.ensures.sound ∙ c.if-not-is_sound.true in
    sym (first_bad sound (words_read c.args.content.now c.args.form) c.loop-k.k (omega arith) c.loop-k.invariant.sound bad)

pub returns-clause-place : goal.returns-clause-place
returns-clause-place g c = search (rules, no_bad)
