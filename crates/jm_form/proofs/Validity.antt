-- Validity and the first damage are two forms of one rule.
use Rattle.std.proofs.Common.{◌≡◌, ℕ, ◌==◌, not, List, [], ◌∷◌, ◌++◌, length, Option, Some, None, option_map}
use Rattle.std.proofs.Common.{Result, Ok, Err, refl, sym, ap, ◌∙◌, arith}
use Rattle.std.proofs.lemmas.Bool.{eqb-true, eq-eqb, not-false}
use Rattle.jm_bytes.proofs.CheckLaws.{fault_if_false, fault_if_none, first_fault_append_none}
use Rattle.jm_bytes.proofs.CheckLaws.{first_fault_append_some, no_fault_between, no_fault_cons}
use Rattle.jm_bytes.proofs.CheckLaws.{no_fault_from_between, no_fault_head, no_fault_tail}
use Rattle.jm_bytes.specs.Checks.{fault_if, first_fault}
use Rattle.jm_form.specs.declared.container.Header.{Header}
use Rattle.jm_form.specs.declared.container.HeaderFault.{HeaderFault}
use Rattle.jm_form.specs.declared.damage.Damage.TheVariants as damage
use Rattle.jm_form.specs.declared.rows.Compression.{Compression}
use Rattle.jm_form.specs.declared.rows.Compression.TheVariants.{Refused}
use Rattle.jm_form.specs.ComputedOverlap.{first_overlap}
use Rattle.jm_form.specs.Damages.{damage_by, damage_with, entries_checks, first_damage, image_checks}
use Rattle.jm_form.specs.Damages.{slot_fault_with, slot_faults}
use Rattle.jm_form.specs.Entries.{Entry, entries}
use Rattle.jm_form.specs.Head.{header_of}
use Rattle.jm_form.specs.Overlap.{Apart, ranges_by}
use Rattle.jm_form.specs.Places.{contents}
use Rattle.jm_form.specs.Validity.{SoundAs, SoundSlotsWith, Valid}
use Rattle.jm_form.proofs.OverlapNone.{apart_no_overlap, no_overlap_apart}

-- Slots

pub slots_sound : (c : Compression) (b : List ℕ) (h : Header) (size : ℕ) → first_fault (slot_faults c b h size) ≡ None → SoundSlotsWith c b h size
slots_sound c b h size clear i below = no_fault_between (slot_fault_with c b h size) 0 h.length clear i (omega arith) (omega arith)

pub sound_slots : (c : Compression) (b : List ℕ) (h : Header) (size : ℕ) → SoundSlotsWith c b h size → first_fault (slot_faults c b h size) ≡ None
sound_slots c b h size sound = no_fault_from_between (slot_fault_with c b h size) 0 h.length (λ i from to. sound i (omega arith))

-- Entries

no_overlap : (o : Option (ℕ × ℕ)) → option_map (λ o. damage.Overlap o.0 o.1) o ≡ None → o ≡ None
no_overlap None e = refl
no_overlap (Some o) e = cc

-- the count is that of the entries, and no two of their contents meet
pub record SoundEntries (c : Compression) (stated : ℕ) (es : List Entry) : Type 0 where
  pub count : stated ≡ length es
  pub apart : Apart (ranges_by c es)

pub entries_sound : (c : Compression) (stated : ℕ) (es : List Entry) → first_fault (entries_checks c stated es) ≡ None → SoundEntries c stated es
entries_sound c stated es clear =
    let count = fault_if (not (stated == length es)) (damage.Count stated (length es)) in
    let overlap = option_map (λ o. damage.Overlap o.0 o.1) (first_overlap (ranges_by c es)) in
    let counted = fault_if_none (not (stated == length es)) (damage.Count stated (length es)) (no_fault_head count (overlap ∷ []) clear) in
    let alone = no_fault_head overlap [] (no_fault_tail count (overlap ∷ []) clear) in
    record {
      count = eqb-true stated (length es) (not-false (stated == length es) counted);
      apart = no_overlap_apart (ranges_by c es) (no_overlap (first_overlap (ranges_by c es)) alone);
    }

pub sound_entries : (c : Compression) (stated : ℕ) (es : List Entry) → SoundEntries c stated es → first_fault (entries_checks c stated es) ≡ None
sound_entries c stated es sound =
    let count = fault_if (not (stated == length es)) (damage.Count stated (length es)) in
    let overlap = option_map (λ o. damage.Overlap o.0 o.1) (first_overlap (ranges_by c es)) in
    let counted = fault_if_false (not (stated == length es)) (damage.Count stated (length es))
    (ap not (eq-eqb stated (length es) sound.count)) in
    let alone = ap (option_map (λ o. damage.Overlap o.0 o.1)) (apart_no_overlap (ranges_by c es) sound.apart) in
    no_fault_cons count (overlap ∷ []) counted (no_fault_cons overlap [] alone refl)

-- Images

-- no check of the first ones finds a fault, nor one of the later ones
both_none : {F : Type 0} (xs ys : List (Option F)) → first_fault (xs ++ ys) ≡ None → (first_fault xs ≡ None) × (first_fault ys ≡ None)
both_none {F} xs ys clear = go (first_fault xs) refl
  where
    go : (o : Option F) → first_fault xs ≡ o → (first_fault xs ≡ None) × (first_fault ys ≡ None)
    go None e = (e, sym (first_fault_append_none xs ys e) ∙ clear)
    go (Some fault) e = let both = sym clear ∙ first_fault_append_some xs ys fault e in cc

pub body_valid : (c : Compression) (b : List ℕ) (h : Header) → header_of b ≡ Ok h
    → first_fault (image_checks c b h (length (contents b h))) ≡ None → SoundAs c b h
body_valid c b h header clear =
    let size = length (contents b h) in
    let both = both_none (slot_faults c b h size) (entries_checks c h.count (entries b h)) clear in
    let sound = entries_sound c h.count (entries b h) both.1 in
    record { header = header; slots = slots_sound c b h size both.0; count = sound.count; apart = sound.apart }

-- a valid image passes all checks
pub valid_body : (c : Compression) (b : List ℕ) (h : Header) → SoundAs c b h
    → first_fault (image_checks c b h (length (contents b h))) ≡ None
valid_body c b h valid =
    let size = length (contents b h) in
    let slots = sound_slots c b h size valid.slots in
    let sound = sound_entries c h.count (entries b h) (record { count = valid.count; apart = valid.apart }) in
    first_fault_append_none (slot_faults c b h size) (entries_checks c h.count (entries b h)) slots ∙ sound

-- an image in which no check finds a fault is valid
pub undamaged_valid : (c : Compression) (b : List ℕ) → damage_by c b ≡ None → (h : Header) × SoundAs c b h
undamaged_valid c b clear = go (header_of b) refl clear
  where
    go : (r : Result Header HeaderFault) → header_of b ≡ r → damage_with c b r ≡ None → (h : Header) × SoundAs c b h
    go (Ok h) header clear = (h, body_valid c b h header clear)
    go (Err fault) header clear = cc

-- a valid image has no damage
pub valid_undamaged : (c : Compression) (b : List ℕ) (h : Header) → SoundAs c b h → damage_by c b ≡ None
valid_undamaged c b h valid = ap (damage_with c b) valid.header ∙ valid_body c b h valid

-- With no content compressed

-- an image without a first damage is valid
pub sound_valid : (b : List ℕ) → first_damage b ≡ None → Valid b
sound_valid b clear = undamaged_valid Refused b clear

-- a valid image has no first damage
pub valid_sound : (b : List ℕ) → Valid b → first_damage b ≡ None
valid_sound b (h, valid) = valid_undamaged Refused b h valid
