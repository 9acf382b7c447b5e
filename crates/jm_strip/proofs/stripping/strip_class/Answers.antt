use Rattle.std.proofs.Common.{◌≡◌, ℕ, [], ◌∷◌, ◌++◌, map, filter, false, true, Ok, ap, ◌∙◌, subst}
use Rattle.jm_class.specs.declared.class.ClassFault.TheVariants.{Short}
use Rattle.jm_class.specs.Classes.{AttributeData, joined, counted_text, member_text, attribute_text}
use Rattle.jm_class.specs.ClassLayout.{attribute_field, member_field}
use Rattle.jm_class.specs.Layouts.{Number, U2, listed, reading}
use Rattle.jm_class.proofs.ReadingLaws.{bytes_all}
use Rattle.jm_strip.specs.Strip.{stays, strip_method}
use Rattle.jm_strip.specs.Walks.{nothing}
use Rattle.jm_strip.proofs.Heads.{front_parts, class-front, class-magic, ahead-within, ahead-front, whole}
use Rattle.jm_strip.proofs.Shown.{saw}
use Rattle.jm_strip.proofs.stripping.strip_class.Goals as goal

pub overflow_sub-bytes : goal.overflow_sub-bytes
overflow_sub-bytes c =
    let i = saw nothing (reading Short (listed (Number U2)) c.number16-4.new.cursor) tt c.skip_interfaces.new.cursor
    c.in_ok-skip_interfaces.ensures in
    let f = saw nothing (reading Short (listed (member_field c.in_ok-pool.pool false)) c.skip_interfaces.new.cursor) tt
    c.skip_fields.new.cursor c.in_ok-skip_fields.ensures in
    let all = bytes_all c.args.bytes.now (λ i. (c.type_inv.bytes i).fits) in
    let front = class-front all c.requires c.in_ok-_magic.ensures c.in_ok-_minor.ensures c.in_ok-_major.ensures c.in_ok-pool.ensures
    c.in_ok-_access.ensures c.in_ok-_this_class.ensures c.in_ok-_super_class.ensures i.is f.is in
    ahead-within c.args.bytes.now _ c.skip_fields.new.cursor front c.len.result c.len.ensures

pub returns : goal.returns
returns c =
    let pool = c.in_ok-pool.pool in
    let i = saw nothing (reading Short (listed (Number U2)) c.number16-4.new.cursor) tt c.skip_interfaces.new.cursor
    c.in_ok-skip_interfaces.ensures in
    let f = saw nothing (reading Short (listed (member_field pool false)) c.skip_interfaces.new.cursor) tt c.skip_fields.new.cursor
    c.in_ok-skip_fields.ensures in
    let all = bytes_all c.args.bytes.now (λ i. (c.type_inv.bytes i).fits) in
    let same = class-magic all c.requires c.in_ok-_magic.ensures c.in_ok-_minor.ensures c.in_ok-_major.ensures c.in_ok-pool.ensures
    c.in_ok-_access.ensures c.in_ok-_this_class.ensures c.in_ok-_super_class.ensures i.is f.is in
    let ahead = class-front all c.requires c.in_ok-_magic.ensures c.in_ok-_minor.ensures c.in_ok-_major.ensures c.in_ok-pool.ensures
    c.in_ok-_access.ensures c.in_ok-_this_class.ensures c.in_ok-_super_class.ensures i.is f.is in
    let methods = saw (λ xs. c.extend.new.text.items ++ counted_text member_text (map (strip_method pool) xs))
    (reading Short (listed (member_field pool true)) c.skip_fields.new.cursor) c.strip_methods.new.text.items
    c.strip_methods.new.cursor c.in_ok-strip_methods.ensures in
    let rest = saw (λ xs. c.strip_methods.new.text.items ++ counted_text attribute_text
    (filter (λ (a : AttributeData). stays false pool a.name) xs)) (reading Short (listed (attribute_field pool false))
    c.strip_methods.new.cursor) c.strip_attributes.new.text.items c.strip_attributes.new.cursor c.in_ok-strip_attributes.ensures in
    let m = counted_text member_text (map (strip_method pool) methods.first) in
    let a = counted_text attribute_text (filter (λ (a : AttributeData). stays false pool a.name) rest.first) in
    let front = c.in_ok-extend.ensures.ok ∙ ap (λ t. t ++ c.split_at.result.0.now) c.in_ok-text.ensures.items
    ∙ c.split_at.ensures.front ∙ ahead-front c.args.bytes.now _ c.skip_fields.new.cursor ahead c.len.result c.len.ensures in
    let parts = λ (found : ℕ). front_parts found c.in_ok-_minor._minor c.in_ok-_major._major pool c.in_ok-_access._access
    c.in_ok-_this_class._this_class c.in_ok-_super_class._super_class i.first f.first in
    let text = whole (parts c.in_ok-_magic._magic) m a c.extend.new.text.items c.strip_methods.new.text.items
    c.strip_attributes.new.text.items front methods.same rest.same in
    rw (
      c.in_ok-_magic.ensures,
      c.in_ok-_minor.ensures,
      c.in_ok-_major.ensures,
      c.in_ok-pool.ensures,
      c.in_ok-_access.ensures,
      c.in_ok-_this_class.ensures,
      c.in_ok-_super_class.ensures,
      i.is,
      f.is,
      methods.is,
      rest.is,
    )
    (ap (λ t. Ok (t, c.strip_attributes.new.cursor)) (subst (λ n. joined (parts n ++ m ∷ a ∷ [])
    ≡ c.strip_attributes.new.text.items) same text))
