-- What a header that was read says of its bytes.
use Rattle.std.proofs.Common.{◌≡◌, ℕ, ◌≤◌, ◌==◌, not, List, [], ◌∷◌, length, drop, Option, Some, None}
use Rattle.std.proofs.Common.{is_none, Ok, refl, sym, ap, ◌∙◌, false, subst, arith, length-take, length-drop}
use Rattle.std.proofs.lemmas.Bool.{le-ltb, ltb-false}
use Rattle.std.specs.Prelude.{nat_lt}
use Rattle.jm_bytes.proofs.CheckLaws.{fault_if_false, fault_if_none, no_fault_head, no_fault_tail}
use Rattle.jm_bytes.proofs.Choice.{same_ok}
use Rattle.jm_bytes.specs.Checks.{fault_if, first_fault, unless_fault}
use Rattle.jm_form.specs.declared.container.Header.{Header}
use Rattle.jm_form.specs.declared.container.HeaderFault.{HeaderFault}
use Rattle.jm_form.specs.declared.container.HeaderFault.TheVariants as fault
use Rattle.jm_form.specs.Head.{fields_of, header_checks_with, header_of, header_with, index_length, order_of, version_of}
use Rattle.jm_form.specs.Places.{locations, locations_place, strings, strings_place}

-- where a header was read no check of it finds a fault, and it has the fields that stand there
pub header_found : (b : List ℕ) (h : Header) (o : Option HeaderFault) → unless_fault o (fields_of b) ≡ Ok h → (o ≡ None) × (fields_of b ≡ h)
header_found b h None e = (refl, same_ok (fields_of b) h e)
header_found b h (Some fault) e = cc

-- what a header that was read keeps of the bytes, in a file of so many: the magic and the version
-- stand there, it has the fields that stand there, and the index lies in the file
pub record HeadRead (front : List ℕ) (size : ℕ) (h : Header) : Type 0 where
  pub magic : is_none (order_of front) ≡ false
  pub version : not (version_of front == 0x00010000) ≡ false
  pub fields : fields_of front ≡ h
  pub fits : index_length h ≤ size

pub head_read : (b : List ℕ) (size : ℕ) (h : Header) → header_with b size ≡ Ok h → HeadRead b size h
head_read b size h e =
    let found = header_found b h (first_fault (header_checks_with b size)) e in
    let short = fault_if (nat_lt size 28) fault.Short in
    let magic = fault_if (is_none (order_of b)) fault.Magic in
    let version = fault_if (not (version_of b == 0x00010000)) (fault.Version (version_of b)) in
    let sizes = fault_if (nat_lt size (index_length (fields_of b))) fault.Sizes in
    let behind_short = no_fault_tail short (magic ∷ version ∷ sizes ∷ []) found.0 in
    let behind_magic = no_fault_tail magic (version ∷ sizes ∷ []) behind_short in
    let behind_version = no_fault_tail version (sizes ∷ []) behind_magic in
    let clear = fault_if_none (nat_lt size (index_length (fields_of b))) fault.Sizes (no_fault_head sizes [] behind_version) in
    let fits = ltb-false size (index_length (fields_of b)) clear in
    record {
      magic = fault_if_none (is_none (order_of b)) fault.Magic (no_fault_head magic (version ∷ sizes ∷ []) behind_short);
      version = fault_if_none (not (version_of b == 0x00010000)) (fault.Version (version_of b)) (no_fault_head version (sizes ∷ [])
          behind_magic);
      fields = found.1;
      fits = subst (λ (x : Header). index_length x ≤ size) found.1 fits;
    }

-- the index lies in the file
pub header_fits : (b : List ℕ) (h : Header) → header_of b ≡ Ok h → index_length h ≤ length b
header_fits b h e = (head_read b (length b) h e).fits

-- it is the header in each file that begins so and has the index
pub read_head : (b : List ℕ) (size : ℕ) (h : Header) → HeadRead b size h → header_with b size ≡ Ok h
read_head b size h read =
    let fits : index_length (fields_of b) ≤ size = subst (λ (x : Header). index_length x ≤ size) (sym read.fields) read.fits in
    let short = fault_if_false (nat_lt size 28) fault.Short (le-ltb size 28 (omega (arith, read.fits))) in
    let magic = fault_if_false (is_none (order_of b)) fault.Magic read.magic in
    let version = fault_if_false (not (version_of b == 0x00010000)) (fault.Version (version_of b)) read.version in
    let sizes = fault_if_false (nat_lt size (index_length (fields_of b))) fault.Sizes (le-ltb size (index_length (fields_of b)) fits) in
    let clear : first_fault (header_checks_with b size) ≡ None = rw (short, magic, version, sizes) refl in
    ap (λ o. unless_fault o (fields_of b)) clear ∙ ap Ok read.fields

-- the sections have the lengths that the header says
pub length-locations : (b : List ℕ) (h : Header) → index_length h ≤ length b → length (locations b h) ≡ h.locations
length-locations b h fits =
    let behind = length-drop (locations_place h) b in
    let cut = length-take h.locations (drop (locations_place h) b) in
    omega arith

pub length-strings : (b : List ℕ) (h : Header) → index_length h ≤ length b → length (strings b h) ≡ h.strings
length-strings b h fits =
    let behind = length-drop (strings_place h) b in
    let cut = length-take h.strings (drop (strings_place h) b) in
    omega arith
