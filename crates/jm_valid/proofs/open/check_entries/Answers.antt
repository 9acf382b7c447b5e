use Rattle.std.proofs.Common.{◌≡◌, ℕ, List, [], ◌∷◌, length, Option, Some, None, option_map, refl, sym, ap, ◌∙◌, rules, of_calls}
use Rattle.std.proofs.lemmas.Bool.{eq-eqb}
use Rattle.jm_bytes.specs.Checks.{first_fault}
use Rattle.jm_form.specs.declared.damage.Damage.{Damage}
use Rattle.jm_form.specs.declared.damage.Damage.TheVariants as damage
use Rattle.jm_form.specs.declared.rows.Compression.{Compression}
use Rattle.jm_form.specs.ComputedOverlap.{first_overlap}
use Rattle.jm_form.specs.Damages.{entries_checks}
use Rattle.jm_form.specs.Entries.{Entry, entries}
use Rattle.jm_form.specs.Overlap.{ranges_by}
use Rattle.jm_form.proofs.OverlapLaws.{first_overlap-bytes}
use Rattle.jm_valid.proofs.BodyLaws.{entries_decide}
use Rattle.jm_valid.proofs.EntryRows.{ranges_rise, ranges_some}
use Rattle.jm_valid.proofs.open.check_entries.Goals as goal

abbrev overlap_damage : Option (ℕ × ℕ) → Option Damage
overlap_damage o = option_map (λ o. damage.Overlap o.0 o.1) o

only_check : (o : Option Damage) → first_fault (o ∷ []) ≡ o
only_check None = refl
only_check (Some fault) = refl

-- where the count is right, the damage is the overlap
entries_overlap : (c : Compression) (stated : ℕ) (es : List Entry) → stated ≡ length es
    → first_fault (entries_checks c stated es) ≡ overlap_damage (first_overlap (ranges_by c es))
entries_overlap c stated es same = rw (eq-eqb stated (length es) same) (only_check (overlap_damage (first_overlap (ranges_by c es))))

pub returns-then-stated-found-clause-damaged : goal.returns-then-stated-found-clause-damaged
returns-then-stated-found-clause-damaged c = rw (entries_decide c.args.sections.now c.requires.slots) (search (rules, of_calls))

pub first_overlap-requires-clause-rising : goal.first_overlap-requires-clause-rising
first_overlap-requires-clause-rising c =
    rw (c.as_mut_slice.ensures.value ∙ c.requires.ranges) (ranges_rise c.args.sections.now.compression c.args.sections.now.bytes.now c.args.sections.now.header)

pub first_overlap-requires-clause-some : goal.first_overlap-requires-clause-some
first_overlap-requires-clause-some c =
    rw (c.as_mut_slice.ensures.value ∙ c.requires.ranges)
    (ranges_some (ranges_by c.args.sections.now.compression (entries c.args.sections.now.bytes.now c.args.sections.now.header)))

pub returns-in-Some-clause-damaged : goal.returns-in-Some-clause-damaged
returns-in-Some-clause-damaged c =
    let es = entries c.args.sections.now.bytes.now c.args.sections.now.header in
    let listed = c.as_mut_slice.ensures.value ∙ c.requires.ranges in
    entries_decide c.args.sections.now c.requires.slots ∙ entries_overlap c.args.sections.now.compression c.args.sections.now.header.count es (c.if-stated-found.false ∙ c.requires.count)
    ∙ ap overlap_damage (sym (ap first_overlap listed ∙ first_overlap-bytes (ranges_by c.args.sections.now.compression es))) ∙ sym c.first_overlap.ensures
    ∙ c.in-Some.is

pub returns-clause-sound : goal.returns-clause-sound
returns-clause-sound c =
    let es = entries c.args.sections.now.bytes.now c.args.sections.now.header in
    let listed = c.as_mut_slice.ensures.value ∙ c.requires.ranges in
    entries_decide c.args.sections.now c.requires.slots ∙ entries_overlap c.args.sections.now.compression c.args.sections.now.header.count es (c.if-stated-found.false ∙ c.requires.count)
    ∙ ap overlap_damage (sym (ap first_overlap listed ∙ first_overlap-bytes (ranges_by c.args.sections.now.compression es))) ∙ sym c.first_overlap.ensures
    ∙ c.in-None.is
