use Rattle.std.proofs.Common.{rules, ◌≡◌, ◌+◌, ◌∷◌, ◌++◌, ◌<◌, [], List, Err, ap, ◌∙◌, sym, subst, length, drop, map, append_assoc, arith}
use Rattle.std.specs.List.{flat_map}
use Rattle.jm_names.specs.Names.{split}
use Rattle.jm_form.specs.Layout.{pieces, texts_of, with_texts}
use Rattle.jm_form.specs.Strings.{section_of, IsZeroFree}
use Rattle.jm_strings.specs.Limit.{limit}
use Rattle.jm_bytes.specs.declared.faults.Or.TheVariants.{Fault}
use Rattle.jm_writer.specs.declared.interning.TextPlaces.{TextPlaces}
use Rattle.jm_writer.specs.Parts.{StandAt, places_in}
use Rattle.jm_writer.proofs.PlaceLaws.{pieces_stay, stand_in}
use Rattle.jm_writer.proofs.StringLaws.{full_more}
use Rattle.jm_writer.proofs.ItemLaws.{drop_at_index}
use Rattle.jm_writer.proofs.interning.strings_of.Goals as goal

pub returns-in_err-places-clause-full : goal.returns-in_err-places-clause-full
returns-in_err-places-clause-full c = λ is.
    let was : c.intern_pieces.result ≡ Err (Fault (record {})) = search rules in
    let full = c.intern_pieces.ensures.full was in
    let names = c.args.names.now in
    let i = c.loop-name.name-index in
    let held = c.loop-name.interned.strings in
    let name = c.as_slice.result.now in
    let rest = flat_map (λ n. pieces (split n)) (drop (i + 1) names) in
    let there : drop i names ≡ name ∷ drop (i + 1) names =
    drop_at_index names i c.name-item.result (omega arith) ∙ ap (λ n. n ∷ drop (i + 1) names) (sym (c.as_slice.ensures ∙ c.name-item.is)) in
    let all : with_texts held (pieces (split name) ++ rest) ≡ texts_of names =
    sym (ap (λ l. with_texts held (flat_map (λ n. pieces (split n)) l)) there) ∙ c.loop-name.invariant.texts in
    subst (λ l. limit < length (section_of l)) all (full_more held (pieces (split name)) rest full)

pub intern_pieces-requires : goal.intern_pieces-requires
intern_pieces-requires c =
    let i = c.loop-name.name-index in
    subst IsZeroFree (sym (c.as_slice.ensures ∙ c.name-item.is)) (c.requires i c.name-item.result (omega arith))

pub loop-name-preserved : goal.loop-name-preserved
loop-name-preserved c =
    let names = c.args.names.now in
    let i = c.loop-name.name-index in
    let held = c.loop-name.interned.strings in
    let more = c.intern_pieces.new.strings in
    let name = c.as_slice.result.now in
    let rest = flat_map (λ n. pieces (split n)) (drop (i + 1) names) in
    let there : drop i names ≡ name ∷ drop (i + 1) names =
    drop_at_index names i c.name-item.result (omega arith) ∙ ap (λ n. n ∷ drop (i + 1) names) (sym (c.as_slice.ensures ∙ c.name-item.is)) in
    let all : with_texts held (pieces (split name) ++ rest) ≡ texts_of names =
    sym (ap (λ l. with_texts held (flat_map (λ n. pieces (split n)) l)) there) ∙ c.loop-name.invariant.texts in
    let texts : with_texts more rest ≡ texts_of names = ap (λ s. with_texts s rest) c.in_ok-places.ensures.texts ∙ all in
    let own = c.in_ok-places.places in
    let stand = subst (λ s. StandAt s (split name) own) texts (pieces_stay more rest (split name) own c.in_ok-places.ensures.places) in
    let found = stand_in (texts_of names) (split name) own stand in
    let before : List TextPlaces = c.loop-name.interned.places in
    let behind = map (λ n. places_in (texts_of names) (split n)) (drop (i + 1) names) in
    let step = sym (ap (λ l. before ++ map (λ n. places_in (texts_of names) (split n)) l) there) ∙ c.loop-name.invariant.places in
    let one = sym (ap (λ p. before ++ (p ∷ behind)) found) ∙ step in
    record {
      texts = texts;
      places = ap (λ l. l ++ behind) c.in_ok-push.ensures.ok ∙ (append_assoc before (own ∷ []) behind ∙ one);
    }
