use Rattle.std.proofs.Common.{◌≡◌, ◌-◌, sym, ap, ◌∙◌, arith, subst}
use Rattle.jm_form.specs.Head.{IsFileOf, index_length}
use Rattle.jm_texts.specs.InfoText.{header_text, info_text}
use Rattle.jm_valid.specs.Opened.{Front}
use Rattle.jm_inspect.proofs.FrontLaws.{info_is}
use Rattle.jm_inspect.proofs.info.put_info.Goals as goal

pub returns : goal.returns
returns g c b file =
    let whole = subst (λ (f : Front). IsFileOf f.bytes f.length b) (sym c.as_index-index.ensures) file in
    let h = c.header-header.result in
    let valid = c.header-header.ensures.valid b whole in
    let size = c.as_index-index.result.now.length in
    let sizes : c.saturating_sub-contents.result ≡ size - index_length h
    = omega (arith, c.saturating_sub-contents.ensures, c.length.ensures.length, c.contents_place.ensures) in
    let text : header_text h c.saturating_sub-contents.result ≡ info_text b
    = ap (header_text h) sizes ∙ info_is b h size valid.header whole.length_is in
    rw (sym text) (c.put_text.ensures _ c.header_text.ensures)
