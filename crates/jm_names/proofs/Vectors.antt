-- Worked cases of names and hashes, computed from the definitions.
use Rattle.std.proofs.Common.{Some, None, ◌≡◌, ℕ, true, false, List, [], ◌∷◌, ◌++◌, refl}
use Rattle.std.specs.Prelude.{codes}
use Rattle.jm_names.specs.Hash.{hash}
use Rattle.jm_names.specs.ComputedFault.{name_fault}
use Rattle.jm_names.specs.declared.check.NameFault.TheVariants.{Empty, EmptyPart, Dots, Zero, NotText}
use Rattle.jm_names.specs.Names.{Cut, split, is_node}
use Rattle.jm_names.specs.Shown.{shown}
use Rattle.jm_names.specs.UtfForms.{modified, utf}

-- a cut by its four texts
abbrev cut : List ℕ → List ℕ → List ℕ → List ℕ → Cut
cut text parent base ext = record { «module» = text; parent = parent; base = base; ext = ext }

hash_of_nothing : hash 0x01000193 [] ≡ 0x01000193
hash_of_nothing = refl

hash_of_a : hash 0x01000193 (codes "a") ≡ 0x26027A08
hash_of_a = refl

hash_of_modules : hash 0x01000193 (codes "/modules") ≡ 0x10294C1D
hash_of_modules = refl

hash_of_packages : hash 0x01000193 (codes "/packages") ≡ 0x0B721439
hash_of_packages = refl

cut_dot_at_the_end : split (codes "/m/x.") ≡ cut (codes "m") [] (codes "x.") []
cut_dot_at_the_end = refl

cut_dot_in_front : split (codes "/m/.x") ≡ cut (codes "m") [] [] (codes "x")
cut_dot_in_front = refl

cut_two_dots : split (codes "/m/a/x.tar.gz") ≡ cut (codes "m") (codes "a") (codes "x.tar") (codes "gz")
cut_two_dots = refl

cut_no_dot : split (codes "/m/f") ≡ cut (codes "m") [] (codes "f") []
cut_no_dot = refl

cut_node_of_modules : split (codes "/modules") ≡ cut [] [] (codes "/modules") []
cut_node_of_modules = refl

cut_below_modules : split (codes "/modules/m/a.b") ≡ cut (codes "modules") [] (codes "m/a.b") []
cut_below_modules = refl

cut_below_packages : split (codes "/packages/a.b") ≡ cut (codes "packages") [] (codes "a.b") []
cut_below_packages = refl

cut_no_module : split (codes "//a/b") ≡ cut [] [] (codes "//a/b") []
cut_no_module = refl

cut_no_second_slash : split (codes "/m") ≡ cut [] [] (codes "/m") []
cut_no_second_slash = refl

cut_no_first_slash : split (codes "m/a") ≡ cut [] [] (codes "m/a") []
cut_no_first_slash = refl

cut_slash_in_front : split (codes "/m//x") ≡ cut (codes "m") [] (codes "/x") []
cut_slash_in_front = refl

cut_slash_at_the_end : split (codes "/m/a//") ≡ cut (codes "m") (codes "a/") [] []
cut_slash_at_the_end = refl

cut_nothing_below : split (codes "/m/") ≡ cut (codes "m") [] [] []
cut_nothing_below = refl

cut_last_dot_ends : split (codes "/m/a.x.") ≡ cut (codes "m") [] (codes "a.x.") []
cut_last_dot_ends = refl

cut_nothing : split [] ≡ cut [] [] [] []
cut_nothing = refl

node_modules : is_node (codes "/modules") ≡ true
node_modules = refl

node_packages : is_node (codes "/packages") ≡ true
node_packages = refl

node_below_modules : is_node (codes "/modules/") ≡ true
node_below_modules = refl

node_below_packages : is_node (codes "/packages/a") ≡ true
node_below_packages = refl

node_longer : is_node (codes "/modulesx") ≡ false
node_longer = refl

node_shorter : is_node (codes "/module") ≡ false
node_shorter = refl

node_other : is_node (codes "/m/modules") ≡ false
node_other = refl

node_no_slash : is_node (codes "modules") ≡ false
node_no_slash = refl

node_nothing : is_node [] ≡ false
node_nothing = refl

fault_high_surrogate_alone : name_fault (0x2F ∷ 0x61 ∷ 0x2F ∷ 0xED ∷ 0xA0 ∷ 0xBD ∷ []) ≡ Some (NotText 3)
fault_high_surrogate_alone = refl

fault_four_byte_form : name_fault (0x2F ∷ 0x61 ∷ 0x2F ∷ 0xF0 ∷ 0x9F ∷ 0x98 ∷ 0x80 ∷ []) ≡ Some (NotText 3)
fault_four_byte_form = refl

fault_overlong_zero : name_fault (0x2F ∷ 0x61 ∷ 0x2F ∷ 0xC0 ∷ 0x80 ∷ []) ≡ Some (NotText 3)
fault_overlong_zero = refl

fault_two_high_surrogates : name_fault (0x2F ∷ 0x61 ∷ 0x2F ∷ 0xED ∷ 0xA0 ∷ 0xBD ∷ 0xED ∷ 0xA0 ∷ 0xBD ∷ 0xED ∷ 0xB8 ∷ 0x80 ∷ [])
    ≡ Some (NotText 3)
fault_two_high_surrogates = refl

fault_low_surrogate_alone : name_fault (0x2F ∷ 0x61 ∷ 0x2F ∷ 0xED ∷ 0xB8 ∷ 0x80 ∷ []) ≡ Some (NotText 3)
fault_low_surrogate_alone = refl

fault_pair : name_fault (0x2F ∷ 0x61 ∷ 0x2F ∷ 0xED ∷ 0xA0 ∷ 0xBD ∷ 0xED ∷ 0xB8 ∷ 0x80 ∷ []) ≡ None
fault_pair = refl

fault_cut_off : name_fault (0x2F ∷ 0x61 ∷ 0x2F ∷ 0xC3 ∷ 0xA9 ∷ 0xC3 ∷ []) ≡ Some (NotText 5)
fault_cut_off = refl

fault_two_and_three_bytes : name_fault (0x2F ∷ 0x61 ∷ 0x2F ∷ 0xC3 ∷ 0xA9 ∷ 0xE2 ∷ 0x82 ∷ 0xAC ∷ []) ≡ None
fault_two_and_three_bytes = refl

fault_nothing : name_fault [] ≡ Some Empty
fault_nothing = refl

fault_no_second_slash : name_fault (codes "/m") ≡ Some Empty
fault_no_second_slash = refl

fault_no_first_slash : name_fault (codes "m/a") ≡ Some Empty
fault_no_first_slash = refl

fault_two_slashes : name_fault (codes "//") ≡ Some EmptyPart
fault_two_slashes = refl

fault_no_module : name_fault (codes "//x") ≡ Some EmptyPart
fault_no_module = refl

fault_nothing_below : name_fault (codes "/m/") ≡ Some EmptyPart
fault_nothing_below = refl

fault_empty_before_dots : name_fault (codes "/m/..//x") ≡ Some EmptyPart
fault_empty_before_dots = refl

fault_one_dot : name_fault (codes "/m/./x") ≡ Some Dots
fault_one_dot = refl

fault_two_dots : name_fault (codes "/m/..") ≡ Some Dots
fault_two_dots = refl

fault_three_dots : name_fault (codes "/m/...") ≡ None
fault_three_dots = refl

fault_fine : name_fault (codes "/m/a/x.tar.gz") ≡ None
fault_fine = refl

fault_zero : name_fault (0x2F ∷ 0x6D ∷ 0x2F ∷ 0x00 ∷ []) ≡ Some Zero
fault_zero = refl

modified_one : modified (0x61 ∷ 0xF0 ∷ 0x9F ∷ 0x98 ∷ 0x80 ∷ 0x62 ∷ []) ≡ 0x61 ∷ 0xED ∷ 0xA0 ∷ 0xBD ∷ 0xED ∷ 0xB8 ∷ 0x80 ∷ 0x62 ∷ []
modified_one = refl

modified_last : modified (0xF4 ∷ 0x8F ∷ 0xBF ∷ 0xBF ∷ []) ≡ 0xED ∷ 0xAF ∷ 0xBF ∷ 0xED ∷ 0xBF ∷ 0xBF ∷ []
modified_last = refl

modified_beyond : modified (0xF4 ∷ 0x90 ∷ 0x80 ∷ 0x80 ∷ []) ≡ 0xF4 ∷ 0x90 ∷ 0x80 ∷ 0x80 ∷ []
modified_beyond = refl

modified_overlong : modified (0xF0 ∷ 0x8F ∷ 0xBF ∷ 0xBF ∷ []) ≡ 0xF0 ∷ 0x8F ∷ 0xBF ∷ 0xBF ∷ []
modified_overlong = refl

utf_one : utf (0xED ∷ 0xA0 ∷ 0xBD ∷ 0xED ∷ 0xB8 ∷ 0x80 ∷ []) ≡ 0xF0 ∷ 0x9F ∷ 0x98 ∷ 0x80 ∷ []
utf_one = refl

utf_behind_high : utf (0xED ∷ 0xA0 ∷ 0xBD ∷ 0xED ∷ 0xA0 ∷ 0xBD ∷ 0xED ∷ 0xB8 ∷ 0x80 ∷ []) ≡ 0xED ∷ 0xA0 ∷ 0xBD ∷ 0xF0 ∷ 0x9F ∷ 0x98
    ∷ 0x80 ∷ []
utf_behind_high = refl

utf_low_first : utf (0xED ∷ 0xB8 ∷ 0x80 ∷ 0xED ∷ 0xA0 ∷ 0xBD ∷ []) ≡ 0xED ∷ 0xB8 ∷ 0x80 ∷ 0xED ∷ 0xA0 ∷ 0xBD ∷ []
utf_low_first = refl

shown_controls : shown (0x41 ∷ 0x0A ∷ 0x00 ∷ 0x1F ∷ 0x20 ∷ 0x7E ∷ 0x7F ∷ 0xC2 ∷ 0x80 ∷ []) ≡ codes "A\\x0A\\x00\\x1F ~\\x7F" ++ 0xC2 ∷ 0x80 ∷ []
shown_controls = refl

shown_zero_of_two : shown (0xC0 ∷ 0x80 ∷ []) ≡ 0xC0 ∷ 0x80 ∷ []
shown_zero_of_two = refl

shown_written_out : shown (codes "A\\x0A") ≡ codes "A\\x0A"
shown_written_out = refl

shown_pair : shown (0x0D ∷ 0xED ∷ 0xA0 ∷ 0xBD ∷ 0xED ∷ 0xB8 ∷ 0x80 ∷ []) ≡ codes "\\x0D" ++ 0xF0 ∷ 0x9F ∷ 0x98 ∷ 0x80 ∷ []
shown_pair = refl
