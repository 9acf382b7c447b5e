use Rattle.std.proofs.Common.{take, sym, ap, ◌∙◌, arith}
use Rattle.jm_names.specs.Characters.{is_character}
use Rattle.jm_names.specs.ComputedText.{character_len}
use Rattle.jm_names.proofs.CharacterLaws.{IsText-more, IsLongestText-unique}
use Rattle.jm_names.proofs.ComputedTextLaws.{StandsInFront-found, IsLongestText-stop, text_len-longest}
use Rattle.jm_names.proofs.characters.text_len.Goals as goal

pub overflow_add-at : goal.overflow_add-at
overflow_add-at c =
    let front = StandsInFront-found c.split_at.result.1.now c.in-Some.len c.in-Some.ensures.some c.in-Some.ensures.front in
    omega (arith, front.within, c.split_at.ensures.back_len)

pub loop-len-smaller : goal.loop-len-smaller
loop-len-smaller c =
    let front = StandsInFront-found c.split_at.result.1.now c.in-Some.len c.in-Some.ensures.some c.in-Some.ensures.front in
    omega (arith, front.within, c.split_at.ensures.back_len)

pub loop-len-preserved : goal.loop-len-preserved
loop-len-preserved c =
    let front = StandsInFront-found c.split_at.result.1.now c.in-Some.len c.in-Some.ensures.some c.in-Some.ensures.front in
    record {
      within = omega (arith, front.within, c.split_at.ensures.back_len);
      text = IsText-more c.args.bytes.now c.loop-len.at c.in-Some.len c.loop-len.invariant.text
          (ap (λ xs. is_character (take c.in-Some.len xs)) (sym c.split_at.ensures.back) ∙ front.is);
    }

pub returns-in-None-clause-longest : goal.returns-in-None-clause-longest
returns-in-None-clause-longest c =
    IsLongestText-stop c.args.bytes.now c.loop-len.at c.loop-len.invariant.within c.loop-len.invariant.text
    (ap character_len (sym c.split_at.ensures.back) ∙ c.in-None.ensures.none)

pub returns-in-None-clause-value : goal.returns-in-None-clause-value
returns-in-None-clause-value c =
    IsLongestText-unique c.args.bytes.now _ _
    (IsLongestText-stop c.args.bytes.now c.loop-len.at c.loop-len.invariant.within c.loop-len.invariant.text
    (ap character_len (sym c.split_at.ensures.back) ∙ c.in-None.ensures.none))
    (text_len-longest c.args.bytes.now)
