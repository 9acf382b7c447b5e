-- The definitions, evaluated on whole images.
use Rattle.std.proofs.Common.{◌≡◌, ℕ, [], ◌∷◌, map, take, Some, None, Ok, refl}
use Rattle.std.specs.Prelude.{slice_set, codes, option_map}
use Rattle.std.specs.Fmt.{digits}
use Rattle.jm_bytes.specs.declared.words.Order.TheVariants.{Little}
use Rattle.jm_form.specs.declared.container.Header.{Header}
use Rattle.jm_form.specs.declared.container.HeaderFault.TheVariants as fault
use Rattle.jm_form.specs.declared.damage.Damage.TheVariants as damage
use Rattle.jm_form.specs.DamageText.{damage_text}
use Rattle.jm_form.specs.Damages.{first_damage, stored_damage}
use Rattle.jm_form.specs.Entries.{entries}
use Rattle.jm_form.specs.Head.{header_of}
use Rattle.jm_form.specs.Validity.{look, resources}
use Rattle.jm_form.proofs.Vectors.{tiny, big_tiny, overlapping, side_by_side, empty, no_entries}

abbrev first_slot : ℕ
first_slot = 0

abbrev tiny_head : Header
tiny_head = record { order = Little; flags = 0; count = 1; length = 1; locations = 8; strings = 11 }

tiny_header : header_of tiny ≡ Ok tiny_head
tiny_header = refl

tiny_names : map (λ e. e.name) (entries tiny tiny_head) ≡ codes "/m/a" ∷ []
tiny_names = refl

tiny_content : option_map (λ r. r.1) (look tiny (codes "/m/a")) ≡ Some (codes "hi")
tiny_content = refl

tiny_other : option_map (λ r. r.1) (look tiny (codes "/m/b")) ≡ None
tiny_other = refl

tiny_nameless : option_map (λ r. r.1) (look tiny []) ≡ None
tiny_nameless = refl

tiny_sound : first_damage tiny ≡ None
tiny_sound = refl

big_tiny_sound : first_damage big_tiny ≡ None
big_tiny_sound = refl

big_tiny_content : option_map (λ r. r.1) (look big_tiny (codes "/m/a")) ≡ Some (codes "hi")
big_tiny_content = refl

-- Changes of it, one each

kinds_fall : first_damage (slice_set tiny 39 0x08) ≡ Some (damage.Row first_slot)
kinds_fall = refl

compressed_size : first_damage (slice_set tiny 41 0x30) ≡ Some (damage.Compressed 0)
compressed_size = refl

compressed_stored : stored_damage (slice_set tiny 41 0x30) ≡ None
compressed_stored = refl

stored_too_long : stored_damage (slice_set (slice_set tiny 41 0x30) 42 0x03) ≡ Some (damage.Range 0)
stored_too_long = refl

module_behind_strings : first_damage (slice_set tiny 38 0x0B) ≡ Some (damage.Text 0 1)
module_behind_strings = refl

base_without_end : first_damage (slice_set tiny 54 0x61) ≡ Some (damage.Text 0 3)
base_without_end = refl

name_elsewhere : first_damage (slice_set (slice_set (slice_set (slice_set tiny 28 0x00) 29 0x00) 30 0x00) 31 0x80) ≡ Some (damage.Count 1 0)
name_elsewhere = refl

offset_behind_locations : first_damage (slice_set tiny 32 0x08) ≡ Some (damage.Offset 0)
offset_behind_locations = refl

blank_row : first_damage (slice_set tiny 32 0x00) ≡ Some (damage.Count 1 0)
blank_row = refl

count_too_high : first_damage (slice_set tiny 12 0x02) ≡ Some (damage.Count 2 1)
count_too_high = refl

other_version : first_damage (slice_set tiny 4 0x01) ≡ Some (damage.Header (fault.Version 65537))
other_version = refl

no_magic : first_damage (slice_set tiny 0 0x00) ≡ Some (damage.Header fault.Magic)
no_magic = refl

cut_by_one : first_damage (take 56 tiny) ≡ Some (damage.Range 0)
cut_by_one = refl

cut_in_strings : first_damage (take 54 tiny) ≡ Some (damage.Header fault.Sizes)
cut_in_strings = refl

cut_in_header : first_damage (take 27 tiny) ≡ Some (damage.Header fault.Short)
cut_in_header = refl

any_seed : first_damage (slice_set (slice_set (slice_set (slice_set tiny 28 0xFF) 29 0xFF) 30 0xFF) 31 0x7F) ≡ None
any_seed = refl

-- Two entries

overlapping_pair : first_damage overlapping ≡ Some (damage.Overlap 0 1)
overlapping_pair = refl

empty_contents : first_damage side_by_side ≡ None
empty_contents = refl

overlapping_names : map (λ e. e.name) (entries overlapping (record {
  order = Little;
  flags = 0;
  count = 2;
  length = 2;
  locations =
      15;
  strings = 13;
})) ≡ codes "/m/b" ∷ codes "/m/a" ∷ []
overlapping_names = refl

overlapping_first : option_map (λ r. r.1) (look overlapping (codes "/m/b")) ≡ Some (codes "hi")
overlapping_first = refl

overlapping_second : option_map (λ r. r.1) (look overlapping (codes "/m/a")) ≡ Some (codes "hi")
overlapping_second = refl

overlapping_other : option_map (λ r. r.1) (look overlapping (codes "/m/c")) ≡ None
overlapping_other = refl

-- The image of no resource

abbrev empty_head : Header
empty_head = record { order = Little; flags = 0; count = 2; length = 3; locations = 7; strings = 26 }

empty_sound : first_damage empty ≡ None
empty_sound = refl

empty_names : map (λ e. e.name) (entries empty empty_head) ≡ codes "/modules" ∷ codes "/packages" ∷ []
empty_names = refl

empty_resources : resources (entries empty empty_head) ≡ []
empty_resources = refl

empty_node : option_map (λ r. r.1) (look empty (codes "/modules")) ≡ Some []
empty_node = refl

empty_other : option_map (λ r. r.1) (look empty (codes "/m/a")) ≡ None
empty_other = refl

empty_cut : first_damage (take 84 empty) ≡ Some (damage.Header fault.Sizes)
empty_cut = refl

-- No slot

no_entries_sound : first_damage no_entries ≡ None
no_entries_sound = refl

-- In print

version_printed : damage_text (damage.Header (fault.Version 65537)) ≡ codes "Header Version 65537"
unfolding digits
version_printed = refl

text_printed : damage_text (damage.Text 10 1) ≡ codes "Text 10 1"
unfolding digits
text_printed = refl
