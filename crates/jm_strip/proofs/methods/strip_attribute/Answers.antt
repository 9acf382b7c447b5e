use Rattle.std.proofs.Common.{◌≡◌, ◌++◌, true, ap, sym, ◌∙◌, Ok}
use Rattle.jm_class.specs.Classes.{u2, sized_text, code_text, is_code_name, utf8_at}
use Rattle.jm_class.specs.ClassLayout.{code_field}
use Rattle.jm_class.specs.Layouts.{reading}
use Rattle.jm_strip.specs.Strip.{strip_code}
use Rattle.jm_strip.proofs.Heads.{two_put}
use Rattle.jm_strip.proofs.Shown.{saw}
use Rattle.jm_class.specs.declared.class.ClassFault.TheVariants.{Short}
use Rattle.jm_strip.proofs.methods.strip_attribute.Goals as goal

pub returns-in_ok-strip_code : goal.returns-in_ok-strip_code
returns-in_ok-strip_code c =
    let pool = c.args.pool.now in
    let coded : is_code_name (utf8_at pool c.in_ok-name.name) ≡ true = sym c.is_code.ensures ∙ c.if-is_code.true in
    let got = saw (λ a. c.put16.new.text.items ++ sized_text (code_text (strip_code pool a))) (reading Short (code_field pool) c.name.new.cursor)
    c.strip_code.new.text.items c.strip_code.new.cursor c.in_ok-strip_code.ensures in
    let all = two_put c.args.text.now.items (u2 c.in_ok-name.name) (sized_text (code_text (strip_code pool got.first)))
    c.put16.new.text.items c.strip_code.new.text.items c.in_ok-put16.ensures got.same in
    rw (c.in_ok-name.ensures, coded, got.is) (ap (λ t. Ok (t, c.strip_code.new.cursor)) all)
