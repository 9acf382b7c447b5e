-- What is put in a line, or as lines, has no control character but the newline at the end of each.
use Rattle.std.proofs.Common.{◌≡◌, ℕ, false, List, [], ◌∷◌, ◌++◌, refl, length, map, Option}
use Rattle.std.specs.Prelude.{codes, flat_map}
use Rattle.std.specs.Fmt.{decimal}
use Rattle.std.specs.List.{list_any}
use Rattle.jm_class.specs.declared.class.ClassFault.{ClassFault}
use Rattle.jm_class.specs.declared.class.ClassFault.TheVariants as class
use Rattle.jm_class.specs.FaultText.{class_fault_text}
use Rattle.jm_form.specs.declared.container.HeaderFault.{HeaderFault}
use Rattle.jm_form.specs.declared.container.HeaderFault.TheVariants as header
use Rattle.jm_form.specs.declared.damage.Damage.{Damage}
use Rattle.jm_form.specs.declared.damage.Damage.TheVariants as damage
use Rattle.jm_form.specs.DamageText.{damage_text, header_fault_text}
use Rattle.jm_jrt.specs.Framed.{AreLines}
use Rattle.jm_jrt.proofs.FramedLaws.{both_stay, more_lines, newlines_of, no_lines, one_line, plain_stays}
use Rattle.jm_modinfo.specs.declared.faults.DescriptorFault.{DescriptorFault}
use Rattle.jm_modinfo.specs.declared.faults.DescriptorFault.TheVariants as kind
use Rattle.jm_modinfo.specs.declared.faults.InfoFault.{InfoFault}
use Rattle.jm_modinfo.specs.declared.faults.InfoFault.TheVariants as info
use Rattle.jm_modinfo.specs.FaultText.{descriptor_fault_text, info_fault_text}
use Rattle.jm_names.specs.ByName.{Named}
use Rattle.jm_names.specs.declared.check.NameFault.{NameFault}
use Rattle.jm_names.specs.declared.check.NameFault.TheVariants as name_fault
use Rattle.jm_names.specs.Shown.{is_control, newlines, shown, shown_text, StaysInLine}
use Rattle.jm_names.specs.UtfForms.{utf}
use Rattle.jm_names.proofs.ShownLaws.{decimal_stays, shown_stays}
use Rattle.jm_packed.specs.declared.packed.PackedFault.{PackedFault}
use Rattle.jm_packed.specs.declared.packed.PackedFault.TheVariants as packed
use Rattle.jm_packed.specs.PackedText.{packed_fault_text}
use Rattle.jm_pattern.specs.declared.signs.Sign.{Sign}
use Rattle.jm_texts.specs.declared.refusal.Refusal.{Refusal}
use Rattle.jm_texts.specs.declared.refusal.Refusal.TheVariants as refusal
use Rattle.jm_texts.specs.RefusalText.{name_fault_text, refusal_text, spaced}
use Rattle.jm_words.specs.declared.errors.WordsFault.{WordsFault}
use Rattle.jm_words.specs.declared.errors.WordsKind.{WordsKind}
use Rattle.jm_words.specs.declared.errors.WordsKind.TheVariants as words
use Rattle.jm_words.specs.FaultText.{fault_text, kind_text}
use Rattle.jm_filed.specs.Taken.{taken}
use Rattle.jm_inspect.specs.declared.complaint.Complaint.{Complaint}
use Rattle.jm_inspect.specs.declared.complaint.Complaint.TheVariants as complaint
use Rattle.jm_inspect.specs.ListText.{list_text, sized, sized_line}
use Rattle.jm_inspect.specs.Texts.{complaint_text, line_of}

-- a word without a control character, and what stands after it
behind : (word rest : List ℕ) → list_any is_control word ≡ false → StaysInLine rest → StaysInLine (word ++ rest)
behind word rest plain stays = both_stay word rest (plain_stays word plain) stays

number : (word : List ℕ) (n : ℕ) → list_any is_control word ≡ false → StaysInLine (word ++ decimal n)
number word n plain = behind word (decimal n) plain (decimal_stays n)

spaced_stays : (name : List ℕ) → StaysInLine (spaced name)
spaced_stays name = behind (32 ∷ []) (shown name) refl (shown_stays (utf name))

-- Faults

class_stays : (fault : ClassFault) → StaysInLine (class_fault_text fault)
class_stays class.Magic = plain_stays (codes "Magic") refl
class_stays (class.Version major) = number (codes "Version ") major refl
class_stays (class.Short at) = number (codes "Short ") at refl
class_stays (class.Tag at) = number (codes "Tag ") at refl
class_stays (class.Index at) = number (codes "Index ") at refl
class_stays (class.CodeLength at) = number (codes "CodeLength ") at refl
class_stays (class.Rest at) = number (codes "Rest ") at refl

info_stays : (fault : InfoFault) → StaysInLine (info_fault_text fault)
info_stays info.NotModule = plain_stays (codes "NotModule") refl
info_stays (info.OldVersion major) = number (codes "OldVersion ") major refl
info_stays info.NoModule = plain_stays (codes "NoModule") refl
info_stays info.TwoModule = plain_stays (codes "TwoModule") refl
info_stays (info.Index at) = number (codes "Index ") at refl
info_stays (info.Short at) = number (codes "Short ") at refl
info_stays (info.Rest at) = number (codes "Rest ") at refl
info_stays (info.Name at) = number (codes "Name ") at refl
info_stays info.Main = plain_stays (codes "Main") refl

descriptor_stays : (fault : DescriptorFault) → StaysInLine (descriptor_fault_text fault)
descriptor_stays (kind.Class fault) = behind (codes "Class ") (class_fault_text fault) refl (class_stays fault)
descriptor_stays (kind.Info fault) = behind (codes "Info ") (info_fault_text fault) refl (info_stays fault)

name_stays : (fault : NameFault) → StaysInLine (name_fault_text fault)
name_stays name_fault.Empty = plain_stays (codes "Empty") refl
name_stays name_fault.EmptyPart = plain_stays (codes "EmptyPart") refl
name_stays name_fault.Dots = plain_stays (codes "Dots") refl
name_stays name_fault.Zero = plain_stays (codes "Zero") refl
name_stays name_fault.TooLong = plain_stays (codes "TooLong") refl
name_stays (name_fault.NotText at) = number (codes "NotText ") at refl

header_stays : (fault : HeaderFault) → StaysInLine (header_fault_text fault)
header_stays header.Short = plain_stays (codes "Short") refl
header_stays header.Magic = plain_stays (codes "Magic") refl
header_stays (header.Version word) = number (codes "Version ") word refl
header_stays header.Sizes = plain_stays (codes "Sizes") refl

two_numbers : (word : List ℕ) (n m : ℕ) → list_any is_control word ≡ false → StaysInLine (word ++ decimal n ++ codes " " ++ decimal m)
two_numbers word n m plain =
    both_stay (word ++ decimal n ++ codes " ") (decimal m)
    (both_stay (word ++ decimal n) (codes " ") (number word n plain) (plain_stays (codes " ") refl)) (decimal_stays m)

damage_stays : (given : Damage) → StaysInLine (damage_text given)
damage_stays (damage.Header fault) = behind (codes "Header ") (header_fault_text fault) refl (header_stays fault)
damage_stays (damage.Offset slot) = number (codes "Offset ") slot refl
damage_stays (damage.Row slot) = number (codes "Row ") slot refl
damage_stays (damage.Compressed slot) = number (codes "Compressed ") slot refl
damage_stays (damage.Text slot kind) = two_numbers (codes "Text ") slot kind refl
damage_stays (damage.Range slot) = number (codes "Range ") slot refl
damage_stays (damage.Count stated found) = two_numbers (codes "Count ") stated found refl
damage_stays (damage.Overlap first second) = two_numbers (codes "Overlap ") first second refl

packed_stays : (fault : PackedFault) → StaysInLine (packed_fault_text fault)
packed_stays packed.Header = plain_stays (codes "Header") refl
packed_stays packed.Decompressor = plain_stays (codes "Decompressor") refl
packed_stays packed.Size = plain_stays (codes "Size") refl
packed_stays (packed.Stream at) = number (codes "Stream ") at refl
packed_stays packed.Check = plain_stays (codes "Check") refl

kind_stays : (kind : WordsKind) → StaysInLine (kind_text kind)
kind_stays words.NoCommand = plain_stays (codes "NoCommand") refl
kind_stays words.UnknownCommand = plain_stays (codes "UnknownCommand") refl
kind_stays words.UnknownOption = plain_stays (codes "UnknownOption") refl
kind_stays words.Repeated = plain_stays (codes "Repeated") refl
kind_stays words.NoValue = plain_stays (codes "NoValue") refl
kind_stays words.BadValue = plain_stays (codes "BadValue") refl
kind_stays words.TooManyArguments = plain_stays (codes "TooManyArguments") refl
kind_stays words.Missing = plain_stays (codes "Missing") refl

fault_stays : (fault : WordsFault) → StaysInLine (fault_text fault)
fault_stays fault =
    both_stay (kind_text fault.kind ++ codes " at ") (decimal fault.at)
    (both_stay (kind_text fault.kind) (codes " at ") (kind_stays fault.kind) (plain_stays (codes " at ") refl)) (decimal_stays fault.at)

-- Refusals

one_name : (word name : List ℕ) → list_any is_control word ≡ false → StaysInLine (word ++ spaced name)
one_name word name plain = behind word (spaced name) plain (spaced_stays name)

two_names : (word name other : List ℕ) → list_any is_control word ≡ false → StaysInLine (word ++ spaced name ++ spaced other)
two_names word name other plain = both_stay (word ++ spaced name) (spaced other) (one_name word name plain) (spaced_stays other)

-- a word, what is shown after it, and a fault after a space
with_fault : (word text fault : List ℕ) → list_any is_control word ≡ false → StaysInLine text → StaysInLine fault
    → StaysInLine (word ++ text ++ 32 ∷ fault)
with_fault word text fault plain stays fault_stays =
    both_stay (word ++ text) (32 ∷ fault) (behind word text plain stays) (behind (32 ∷ []) fault refl fault_stays)

refusal_stays : (given : Refusal) → StaysInLine (refusal_text given)
refusal_stays (refusal.BadInfo path fault) =
    with_fault (codes "BadInfo ") (shown_text path) (descriptor_fault_text fault) refl (shown_stays path) (descriptor_stays fault)
refusal_stays (refusal.BadEntry name fault) =
    with_fault (codes "BadInfo") (spaced name) (descriptor_fault_text fault) refl (spaced_stays name) (descriptor_stays fault)
refusal_stays (refusal.Foreign name) = one_name (codes "Foreign") name refl
refusal_stays (refusal.TwoModules dir name) =
    both_stay (codes "TwoModules " ++ shown_text dir) (spaced name)
    (behind (codes "TwoModules ") (shown_text dir) refl (shown_stays dir)) (spaced_stays name)
refusal_stays (refusal.ReservedModule name) = one_name (codes "ReservedModule") name refl
refusal_stays (refusal.NoRoot name) = one_name (codes "NoRoot") name refl
refusal_stays (refusal.Missing name by) = two_names (codes "Missing") name by refl
refusal_stays (refusal.Cycle name) = one_name (codes "Cycle") name refl
refusal_stays (refusal.SplitPackage shared first second) =
    both_stay (codes "SplitPackage" ++ spaced shared ++ spaced first) (spaced second)
    (two_names (codes "SplitPackage") shared first refl) (spaced_stays second)
refusal_stays (refusal.BadName name fault) =
    with_fault (codes "BadName") (spaced name) (name_fault_text fault) refl (spaced_stays name) (name_stays fault)
refusal_stays (refusal.BadClass name fault) =
    with_fault (codes "BadClass") (spaced name) (class_fault_text fault) refl (spaced_stays name) (class_stays fault)
refusal_stays (refusal.Clash name) = one_name (codes "Clash") name refl
refusal_stays (refusal.TooMany count) = number (codes "TooMany ") count refl
refusal_stays (refusal.NoTable lengths) = number (codes "NoTable ") lengths refl
refusal_stays (refusal.TooLarge length) = number (codes "TooLarge ") length refl
refusal_stays (refusal.Packed name fault) =
    with_fault (codes "Packed") (spaced name) (packed_fault_text fault) refl (spaced_stays name) (packed_stays fault)

-- Complaints

complaint_stays : (given : Complaint) → StaysInLine (complaint_text given)
complaint_stays (complaint.Words fault) = behind (codes "words: ") (fault_text fault) refl (fault_stays fault)
complaint_stays (complaint.Damaged given) = behind (codes "damaged: ") (damage_text given) refl (damage_stays given)
complaint_stays (complaint.NotThere text) = behind (codes "not there: ") (shown_text text) refl (shown_stays text)
complaint_stays (complaint.Refused given) = behind (codes "refused: ") (refusal_text given) refl (refusal_stays given)
complaint_stays (complaint.BadNode at) = number (codes "damaged: BadNode ") at refl
complaint_stays (complaint.NoNode name) = behind (codes "damaged: NoNode ") (shown name) refl (shown_stays (utf name))
complaint_stays (complaint.BadNodeAt name at) =
    both_stay (codes "damaged: BadNode " ++ decimal at) (32 ∷ shown name) (number (codes "damaged: BadNode ") at refl)
    (behind (32 ∷ []) (shown name) refl (shown_stays (utf name)))
complaint_stays complaint.NotFolder = plain_stays (codes "refused: NotFolder") refl
complaint_stays (complaint.LongLine k) = number (codes "session: LongLine ") k refl
complaint_stays complaint.TooManyLines = plain_stays (codes "session: TooManyLines 1000001") refl

-- the line of a complaint is one line
pub complaint_line : (given : Complaint) → AreLines 1 (line_of given)
complaint_line given = one_line (complaint_text given) (complaint_stays given)

-- The text of `list`

abbrev entry_text : ℕ × List ℕ → List ℕ
entry_text e = decimal e.0 ++ 32 ∷ shown e.1

entry_stays : (e : ℕ × List ℕ) → StaysInLine (entry_text e)
entry_stays e = both_stay (decimal e.0) (32 ∷ shown e.1) (decimal_stays e.0) (behind (32 ∷ []) (shown e.1) refl (shown_stays (utf e.1)))

lines_sized : (entries : List Named) → AreLines (length entries) (flat_map sized_line (map sized entries))
lines_sized [] = no_lines
lines_sized (e ∷ entries) =
    more_lines (entry_text (sized e)) (length entries) (flat_map sized_line (map sized entries)) (entry_stays (sized e))
    (lines_sized entries)

-- `list` puts a line for each entry that is taken
pub list_lines : (b : List ℕ) (include : Option (List (List Sign))) → AreLines (length (taken b include)) (list_text b include)
list_lines b include = lines_sized (taken b include)

-- so it has as many newlines
pub list_newlines : (b : List ℕ) (include : Option (List (List Sign))) → newlines (list_text b include) ≡ length (taken b include)
list_newlines b include = newlines_of (length (taken b include)) (list_text b include) (list_lines b include)
