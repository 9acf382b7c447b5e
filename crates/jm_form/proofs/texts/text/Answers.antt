use Rattle.std.proofs.Common.{◌≡◌, ◌∙◌, drop, arith}
use Rattle.jm_form.specs.Places.{strings}
use Rattle.jm_form.proofs.SectionLaws.{strings_from}
use Rattle.jm_form.proofs.texts.text.Goals as goal

pub returns-clause-text : goal.returns-clause-text
returns-clause-text g c =
    let b = c.args.buf.now in
    let h = c.args.header.now in
    let size = c.strings_length-strings.ensures in
    let below = c.if-place-from.false in
    let from = c.from.ensures in
    let cut : c.part.result.now ≡ drop c.args.place (strings b h) = rw (c.strings_place.ensures, size) at c.part.ensures.part
    ∙ strings_from b h c.args.place (omega arith) in
    rw cut at c.front.ensures.text

pub returns-clause-ends : goal.returns-clause-ends
returns-clause-ends g c =
    let b = c.args.buf.now in
    let h = c.args.header.now in
    let size = c.strings_length-strings.ensures in
    let below = c.if-place-from.false in
    let from = c.from.ensures in
    let cut : c.part.result.now ≡ drop c.args.place (strings b h) = rw (c.strings_place.ensures, size) at c.part.ensures.part
    ∙ strings_from b h c.args.place (omega arith) in
    rw cut at c.front.ensures.ends
