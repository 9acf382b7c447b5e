use Rattle.std.proofs.Common.{◌++◌, sym, ap, subst}
use Rattle.std.specs.Prelude.{codes}
use Rattle.std.specs.Fmt.{decimal}
use Rattle.jm_form.specs.Head.{IsFileOf}
use Rattle.jm_valid.specs.Opened.{Front}
use Rattle.jm_inspect.proofs.FrontLaws.{count_is}
use Rattle.jm_inspect.proofs.info.put_verified.Goals as goal

pub returns : goal.returns
returns g c b file =
    let whole = subst (λ (f : Front). IsFileOf f.bytes f.length b) (sym c.as_index.ensures) file in
    let count = count_is b c.header-count.result (c.header-count.ensures.valid b whole) in
    rw (sym (ap (λ n. codes "valid " ++ decimal n ++ codes "\n") count)) (c.put_text.ensures _ c.format.ensures.ok)
