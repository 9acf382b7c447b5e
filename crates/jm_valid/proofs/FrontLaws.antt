-- What was found of a front with the index holds of each file that begins so.
use Rattle.std.proofs.Common.{◌≡◌, ℕ, List, length, None, Ok, sym, ap, ◌∙◌}
use Rattle.jm_bytes.specs.Checks.{first_fault}
use Rattle.jm_form.specs.declared.container.Header.{Header}
use Rattle.jm_form.specs.declared.rows.Compression.{Compression}
use Rattle.jm_form.specs.declared.rows.Compression.TheVariants.{Refused}
use Rattle.jm_form.specs.Damages.{damage_by, front_damage, front_damage_with, image_checks}
use Rattle.jm_form.specs.Head.{HoldsIndex, IsFileOf, header_of}
use Rattle.jm_form.specs.Validity.{SoundAs, Valid}
use Rattle.jm_form.proofs.LocalityLaws.{damage_same, front_valid, whole_file, whole_index}
use Rattle.jm_form.proofs.Validity.{valid_sound}
use Rattle.jm_valid.specs.declared.open_error.OpenError.{OpenError}
use Rattle.jm_valid.specs.declared.open_error.OpenError.TheVariants.{Damaged, Memory}
use Rattle.jm_valid.specs.declared.sections.Sections.{Sections}
use Rattle.jm_valid.specs.Opened.{IsIndexOf, Reports}
use Rattle.jm_valid.specs.Sections.{AreSectionsOf, body_damage_in}

-- Sections

-- what is wrong behind the header of the sections is what the front tells
pub sections_damage : (f : List ℕ) (size : ℕ) (s : Sections) → AreSectionsOf f size s → body_damage_in s ≡ front_damage s.compression f size
sections_damage f size s are =
    ap (λ l. first_fault (image_checks s.compression l s.header s.size)) are.bytes ∙ ap (λ n. first_fault (image_checks s.compression f s.header n)) are.size
    ∙ sym (ap (front_damage_with s.compression f size) are.header)

pub sections_index : (f : List ℕ) (size : ℕ) (s : Sections) → HoldsIndex f size → AreSectionsOf f size s → body_damage_in s ≡ None
    → IsIndexOf s.compression f size s.header
sections_index f size s holds are none = record {
  holds = holds;
  header = are.header;
  sound = sym (sections_damage f size s are) ∙ none;
}

-- Files

-- a damage that was found behind the header is the first one of the file
pub reported : (f : List ℕ) (size : ℕ) (s : Sections) (b : List ℕ) (e : OpenError) → IsFileOf f size b → HoldsIndex f size
    → AreSectionsOf f size s → Reports (body_damage_in s) e → Reports (damage_by s.compression b) e
reported f size s b (Damaged damage) file holds are says =
    sym (damage_same s.compression f size b file holds) ∙ sym (sections_damage f size s are) ∙ says
reported f size s b Memory file holds are says = tt

-- and where none was found the file is valid
pub index_valid : (c : Compression) (f : List ℕ) (size : ℕ) (b : List ℕ) (h : Header) → IsFileOf f size b → IsIndexOf c f size h → SoundAs c b h
index_valid c f size b h file index = front_valid c f size b h file index.holds index.header index.sound

-- The whole file

-- a valid file is its own index
pub whole_index_of : (b : List ℕ) (h : Header) → Valid b → header_of b ≡ Ok h → IsIndexOf Refused b (length b) h
whole_index_of b h valid read = record {
  holds = whole_index b;
  header = read;
  sound = damage_same Refused b (length b) b (whole_file b) (whole_index b) ∙ valid_sound b valid;
}
