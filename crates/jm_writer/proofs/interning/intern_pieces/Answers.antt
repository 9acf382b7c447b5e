use Rattle.std.proofs.Common.{rules, ◌≡◌, ◌∷◌, ◌<◌, [], Err, Some, length, ap, ◌∙◌, sym, subst}
use Rattle.jm_bytes.specs.declared.faults.Or.TheVariants.{Fault}
use Rattle.jm_form.specs.Strings.{place_of, section_of, with_text, IsZeroFree}
use Rattle.jm_strings.specs.Limit.{limit}
use Rattle.jm_form.specs.Layout.{pieces, with_texts}
use Rattle.jm_names.specs.Pieces.{cut_of}
use Rattle.jm_writer.specs.declared.interning.TextPlaces.{TextPlaces}
use Rattle.jm_writer.specs.Parts.{StandAt}
use Rattle.jm_writer.proofs.ImageTexts.{pieces_free}
use Rattle.jm_writer.proofs.PlaceLaws.{place_stays}
use Rattle.jm_writer.proofs.StringLaws.{full_with}
use Rattle.jm_writer.proofs.interning.intern_pieces.Goals as goal

pub returns-in_err-module-clause-full : goal.returns-in_err-module-clause-full
returns-in_err-module-clause-full c = λ is.
    let was : c.intern.result ≡ Err (Fault (record {})) = search rules in
    let full = c.intern.ensures.full.0 was in
    let p = c.split-pieces.result in
    subst (λ cut. limit < length (section_of (with_texts c.args.strings.now (pieces cut)))) c.split-pieces.ensures.cut
    (full_with c.args.strings.now p.module.now (p.parent.now ∷ p.base.now ∷ p.ext.now ∷ []) full.0 full.1)

pub returns-in_err-parent-clause-full : goal.returns-in_err-parent-clause-full
returns-in_err-parent-clause-full c = λ is.
    let was : c.intern-2.result ≡ Err (Fault (record {})) = search rules in
    let full = c.intern-2.ensures.full.0 was in
    let p = c.split-pieces.result in
    subst (λ cut. limit < length (section_of (with_texts c.args.strings.now (pieces cut)))) c.split-pieces.ensures.cut
    (subst (λ held. limit < length (section_of (with_texts held (p.parent.now ∷ p.base.now ∷ p.ext.now ∷ [])))) c.in_ok-module.ensures.texts
    (full_with c.intern.new.self p.parent.now (p.base.now ∷ p.ext.now ∷ []) full.0 full.1))

pub returns-in_err-base-clause-full : goal.returns-in_err-base-clause-full
returns-in_err-base-clause-full c = λ is.
    let was : c.intern-3.result ≡ Err (Fault (record {})) = search rules in
    let full = c.intern-3.ensures.full.0 was in
    let p = c.split-pieces.result in
    subst (λ cut. limit < length (section_of (with_texts c.args.strings.now (pieces cut)))) c.split-pieces.ensures.cut
    (subst (λ held. limit < length (section_of (with_texts held (p.parent.now ∷ p.base.now ∷ p.ext.now ∷ [])))) c.in_ok-module.ensures.texts
    (subst (λ held. limit < length (section_of (with_texts held (p.base.now ∷ p.ext.now ∷ [])))) c.in_ok-parent.ensures.texts
    (full_with c.intern-2.new.self p.base.now (p.ext.now ∷ []) full.0 full.1)))

pub intern-requires : goal.intern-requires
intern-requires c = (pieces_free (cut_of c.split-pieces.result) (subst IsZeroFree (sym c.split-pieces.ensures.whole) c.requires)).module

pub intern-requires-2 : goal.intern-requires-2
intern-requires-2 c = (pieces_free (cut_of c.split-pieces.result) (subst IsZeroFree (sym c.split-pieces.ensures.whole) c.requires)).parent

pub intern-requires-3 : goal.intern-requires-3
intern-requires-3 c = (pieces_free (cut_of c.split-pieces.result) (subst IsZeroFree (sym c.split-pieces.ensures.whole) c.requires)).base

pub intern-requires-4 : goal.intern-requires-4
intern-requires-4 c = (pieces_free (cut_of c.split-pieces.result) (subst IsZeroFree (sym c.split-pieces.ensures.whole) c.requires)).ext

pub returns-clause-places : goal.returns-clause-places
returns-clause-places c =
    let p = c.split-pieces.result in
    let one = c.in_ok-module.ensures in
    let two = c.in_ok-parent.ensures in
    let three = c.in_ok-base.ensures in
    let four = c.in_ok-ext.ensures in
    let held = c.intern-4.new.self in
    let third = sym four.texts in
    let second = ap (with_text p.ext.now) (sym three.texts) ∙ third in
    let first = ap (λ s. with_text p.ext.now (with_text p.base.now s)) (sym two.texts) ∙ second in
    let m = c.in_ok-module.module in
    let n = c.in_ok-parent.parent in
    let b = c.in_ok-base.base in
    let e = c.in_ok-ext.ext in
    let places : TextPlaces = record { «module» = m; parent = n; base = b; ext = e } in
    subst (λ cut. StandAt held cut places) c.split-pieces.ensures.cut (record {
      «module» = subst (λ s. place_of p.module.now s ≡ Some m) first (place_stays p.module.now c.intern.new.self (p.parent.now
          ∷ p.base.now ∷ p.ext.now ∷ []) m one.place);
      parent = subst (λ s. place_of p.parent.now s ≡ Some n) second (place_stays p.parent.now c.intern-2.new.self (p.base.now
          ∷ p.ext.now ∷ []) n two.place);
      base = subst (λ s. place_of p.base.now s ≡ Some b) third (place_stays p.base.now c.intern-3.new.self (p.ext.now ∷ []) b three.place);
      ext = four.place;
    })
