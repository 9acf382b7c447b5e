use Rattle.std.proofs.Common.{◌∙◌, [], refl, sym, append-nil}
use Rattle.jm_reader.proofs.name_view.NameView.equals.Goals as goal

pub returns-else-takes_front : goal.returns-else-takes_front
returns-else-takes_front c =
    let differs = c.if-takes_front.ensures.no refl [] in
    let whole = c.bytes-bytes.ensures in
    ((λ yes. let no = c.if-takes_front.false in cc), (λ same. absurd (differs (whole ∙ same ∙ sym (append-nil c.args.name.now)))))
