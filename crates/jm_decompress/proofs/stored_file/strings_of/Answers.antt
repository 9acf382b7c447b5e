use Rattle.std.proofs.Common.{◌≡◌, ◌∙◌, ◌+◌, ◌-◌, ap, arith, drop, sym, take}
use Rattle.jm_form.specs.Places.{strings, strings_place}
use Rattle.jm_form.proofs.HeadLaws.{header_fits}
use Rattle.jm_form.proofs.LocalityLaws.{same_index}
use Rattle.jm_reader.proofs.HeadLaws.{head_is}
use Rattle.jm_decompress.proofs.stored_file.strings_of.Goals as goal

pub returns-clause-strings : goal.returns-clause-strings
returns-clause-strings g c b file =
    let f = c.args.index.now.bytes in
    let h = c.header-header.result in
    let place = strings_place h in
    let size : place + h.strings - place ≡ h.strings = omega arith in
    let same = same_index f c.args.index.now.length b h file (header_fits f h c.header-header.ensures.front) in
    let part : c.part.result.now ≡ take (place + h.strings - place) (drop place f) =
    rw (c.buf-buf.ensures, c.strings_place.ensures) at c.part.ensures.part
    in
    part ∙ ap (λ n. take n (drop place f)) size ∙ same.strings
    ∙ ap (strings b) (sym (head_is b h (c.header-header.ensures.sound b file).header))
