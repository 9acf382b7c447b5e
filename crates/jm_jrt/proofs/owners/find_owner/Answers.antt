use Rattle.std.proofs.Common.{◌≡◌, ◌+◌, ◌*◌, ap, ◌∙◌, arith, rules}
use Rattle.jm_form.specs.Places.{strings}
use Rattle.jm_form.specs.Texts.{text_ends}
use Rattle.jm_reader.specs.Look.{head}
use Rattle.jm_jrt.specs.Told.{word_of}
use Rattle.jm_jrt.proofs.PairLaws.{any_later, items_more, pair_at}
use Rattle.jm_jrt.proofs.owners.find_owner.Goals as goal

pub word-place-requires : goal.word-place-requires
word-place-requires g c =
    (pair_at c.args.index.now.bytes c.args.content.now c.loop-k.k c.requires.sound (omega arith)).place_fits

pub text_if-found-requires-clause-ends : goal.text_if-found-requires-clause-ends
text_if-found-requires-clause-ends g c =
    let b = c.args.index.now.bytes in
    let place : c.word-place.result ≡ word_of b c.args.content.now (2 * c.loop-k.k + 1) = c.word-place.ensures in
    ap (text_ends (strings b (head b))) place ∙ (pair_at b c.args.content.now c.loop-k.k c.requires.sound (omega arith)).ends

pub loop-k-preserved : goal.loop-k-preserved
loop-k-preserved g c = search (rules, any_later, items_more)
