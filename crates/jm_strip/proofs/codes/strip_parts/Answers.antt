use Rattle.std.proofs.Common.{◌≡◌, ◌++◌, true, filter, [], ◌∷◌, List, ℕ, Ok, ap, refl, sym, ◌∙◌}
use Rattle.std.specs.Int.{w16}
use Rattle.jm_class.specs.Classes.{u2, OpaqueData, opaque_text, counted_text, sized_text, rows_text}
use Rattle.jm_class.specs.ClassLayout.{opaque_field, rows_field}
use Rattle.jm_class.specs.Layouts.{listed, reading}
use Rattle.jm_class.specs.Readings.{number, sized}
use Rattle.jm_class.specs.Views.{fault_at}
use Rattle.jm_classout.proofs.ClassTexts.{put_all, put_all-joined}
use Rattle.jm_strip.specs.Strip.{stays}
use Rattle.jm_strip.proofs.Shown.{saw}
use Rattle.jm_strip.proofs.codes.strip_parts.Goals as goal

pub returns : goal.returns
returns c =
    let short = fault_at c.args.missing in
    let pool = c.args.pool.now in
    let a = saw (λ n. c.args.text.now.items ++ u2 n) (number short w16 c.args.cursor.now) c.copy16.new.text.items
    c.copy16.new.cursor c.in_ok-copy16.ensures in
    let b = saw (λ n. c.copy16.new.text.items ++ u2 n) (number short w16 c.copy16.new.cursor) c.copy16-2.new.text.items
    c.copy16-2.new.cursor c.in_ok-copy16-2.ensures in
    let code = saw (λ t. c.copy16-2.new.text.items ++ sized_text t) (sized short c.copy16-2.new.cursor) c.copy_sized.new.text.items
    c.copy_sized.new.cursor c.in_ok-copy_sized.ensures in
    let rows = saw (λ t. c.copy_sized.new.text.items ++ rows_text t) (reading short rows_field c.copy_sized.new.cursor)
    c.copy_rows.new.text.items c.copy_rows.new.cursor c.in_ok-copy_rows.ensures in
    let rest = saw (λ xs. c.copy_rows.new.text.items ++ counted_text opaque_text
    (filter (λ (a : OpaqueData). stays true pool a.name) xs)) (reading short (listed (opaque_field pool))
    c.copy_rows.new.cursor) c.keep_attributes.new.text.items c.keep_attributes.new.cursor c.in_ok-keep_attributes.ensures in
    let parts : List (List ℕ) = u2 a.first ∷ u2 b.first ∷ sized_text code.first ∷ rows_text rows.first ∷ counted_text opaque_text
    (filter (λ (a : OpaqueData). stays true pool a.name) rest.first) ∷ [] in
    let all : put_all c.args.text.now.items parts ≡ c.keep_attributes.new.text.items =
    rw (a.same, b.same, code.same, rows.same, rest.same) refl in
    rw (a.is, b.is, code.is, rows.is, rest.is) (ap (λ t. Ok (t, c.keep_attributes.new.cursor))
    (sym (put_all-joined c.args.text.now.items parts) ∙ all))
