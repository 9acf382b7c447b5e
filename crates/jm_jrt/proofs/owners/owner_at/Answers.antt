use Rattle.std.proofs.Common.{◌≡◌, ◌+◌, ◌*◌, true, sym, ap, ◌∙◌, arith}
use Rattle.std.proofs.lemmas.Bool.{false≢true}
use Rattle.jm_form.specs.Places.{strings}
use Rattle.jm_form.specs.Texts.{text_ends}
use Rattle.jm_reader.specs.Look.{head}
use Rattle.jm_jrt.specs.Told.{word_of}
use Rattle.jm_reader.proofs.HeadLaws.{head_is}
use Rattle.jm_jrt.proofs.PairLaws.{pair_at}
use Rattle.jm_jrt.proofs.owners.owner_at.Goals as goal

pub word-empty-requires : goal.word-empty-requires
word-empty-requires g c =
    (pair_at c.args.index.now.bytes c.args.content.now c.args.k c.requires.sound (omega arith)).flag_fits

pub word-place-requires : goal.word-place-requires
word-place-requires g c =
    (pair_at c.args.index.now.bytes c.args.content.now c.args.k c.requires.sound (omega arith)).place_fits

pub returns-in_err-module-clause-end : goal.returns-in_err-module-clause-end
returns-in_err-module-clause-end g c =
    let b = c.args.index.now.bytes in
    let at = pair_at b c.args.content.now c.args.k c.requires.sound (omega arith) in
    let place : c.from.result ≡ word_of b c.args.content.now (2 * c.args.k + 1) = c.from.ensures ∙ c.word-place.ensures in
    let section : strings c.buf.result c.header.result ≡ strings b (head b) = ap (λ x. strings x c.header.result) c.buf.ensures
    ∙ ap (strings b) (sym (head_is b c.header.result c.header.ensures.front)) in
    let ends : text_ends (strings c.buf.result c.header.result) c.from.result ≡ true = ap (λ l. text_ends l c.from.result) section
    ∙ ap (text_ends (strings b (head b))) place ∙ at.ends in
    absurd (false≢true (c.in_err-module.ensures.ends ∙ ends))
