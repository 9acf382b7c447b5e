-- A header of seven words is read back.
use Rattle.std.proofs.Common.{◌≡◌, ℕ, ◌*◌, ◌^◌, ◌==◌, ◌<◌, ◌≤◌, not, List, [], ◌∷◌, ◌++◌, length, get_or}
use Rattle.std.proofs.Common.{Some, is_none, unwrap_or, Ok, refl, sym, ap, ◌∙◌, subst, arith}
use Rattle.std.proofs.lemmas.Bool.{eq-eqb, le-ltb}
use Rattle.std.specs.Prelude.{nat_lt}
use Rattle.jm_bytes.proofs.CheckLaws.{fault_if_false, no_fault_cons}
use Rattle.jm_bytes.specs.Checks.{fault_if, unless_fault}
use Rattle.jm_bytes.specs.Word.{word}
use Rattle.jm_bytes.specs.declared.words.Order.{Order}
use Rattle.jm_bytes.specs.declared.words.Order.TheVariants.{Little, Big}
use Rattle.jm_form.specs.declared.container.Header.{Header}
use Rattle.jm_form.specs.declared.container.HeaderFault.TheVariants as fault
use Rattle.jm_form.specs.Head.{fields_in, fields_of, header_of, index_length, order_of, version_of}
use Rattle.jm_form.specs.Nodes.{words_text}
use Rattle.jm_form.proofs.PartLaws.{word_there}

-- The header

abbrev magic : ℕ
magic = 0xCAFEDADA

-- the magic tells the order of the words
order_read : (order : Order) (ns rest : List ℕ) → order_of (words_text order (magic ∷ ns) ++ rest) ≡ Some order
order_read Little ns rest = refl
order_read Big ns rest = refl

-- bytes whose first words are those of a header, and that have room for the index
header_ok : (b : List ℕ) (order : Order) (h : Header) → order_of b ≡ Some order → word order b 4 ≡ 0x00010000 → fields_in order b
    ≡ h → 28 ≤ length b → index_length h ≤ length b → header_of b ≡ Ok h
header_ok b order h found version there long fits =
    let fields : fields_of b ≡ h = ap (λ o. fields_in (unwrap_or o Little) b) found ∙ there in
    let versions : version_of b ≡ 0x00010000 = ap (λ o. word (unwrap_or o Little) b 4) found ∙ version in
    let short = fault_if (nat_lt (length b) 28) fault.Short in
    let magic = fault_if (is_none (order_of b)) fault.Magic in
    let other = fault_if (not (version_of b == 0x00010000)) (fault.Version (version_of b)) in
    let sizes = fault_if (nat_lt (length b) (index_length (fields_of b))) fault.Sizes in
    let room = subst (λ (x : Header). index_length x ≤ length b) (sym fields) fits in
    let no_short = fault_if_false (nat_lt (length b) 28) fault.Short (le-ltb (length b) 28 long) in
    let no_magic = fault_if_false (is_none (order_of b)) fault.Magic (ap is_none found) in
    let no_other = fault_if_false (not (version_of b == 0x00010000)) (fault.Version (version_of b))
    (ap not (eq-eqb (version_of b) 0x00010000 versions)) in
    let no_sizes = fault_if_false (nat_lt (length b) (index_length (fields_of b))) fault.Sizes
    (le-ltb (length b) (index_length (fields_of b)) room) in
    let clear = no_fault_cons short (magic ∷ other ∷ sizes ∷ []) no_short (no_fault_cons magic (other ∷ sizes ∷ []) no_magic
    (no_fault_cons other (sizes ∷ []) no_other (no_fault_cons sizes [] no_sizes refl))) in
    ap (λ o. unless_fault o (fields_of b)) clear ∙ ap (λ (x : Header). Ok x) fields

-- the words of a header, and others behind them
abbrev pub head_words : Header → List ℕ → List ℕ
head_words h more = magic ∷ 0x00010000 ∷ h.flags ∷ h.count ∷ h.length ∷ h.locations ∷ h.strings ∷ more

-- the numbers of a header have words
pub record HasWords (h : Header) : Type 0 where
  pub flags : h.flags < 2 ^ 32
  pub count : h.count < 2 ^ 32
  pub length : h.length < 2 ^ 32
  pub locations : h.locations < 2 ^ 32
  pub strings : h.strings < 2 ^ 32

fields_there : (order : Order) (flags count size locations strings : ℕ) (b : List ℕ) → word order b 8 ≡ flags → word order b 12
    ≡ count → word order b 16 ≡ size → word order b 20 ≡ locations → word order b 24 ≡ strings → fields_in order b
    ≡ record { order = order; flags = flags; count = count; length = size; locations = locations; strings = strings }
fields_there order flags count size locations strings b one two three four five = rw (one, two, three, four, five) refl

pub header_back : (h : Header) (more rest : List ℕ) → HasWords h → index_length h ≤ length (words_text h.order (head_words h more)
    ++ rest) → header_of (words_text h.order (head_words h more) ++ rest) ≡ Ok h
header_back h more rest has fits =
    let ns : List ℕ = head_words h more in
    let there : (k : ℕ) → k < length ns → get_or ns k 0 < 2 ^ 32 → word h.order (words_text h.order ns ++ rest) (4 * k)
    ≡ get_or ns k 0 = word_there h.order ns rest in
    let version = there 1 (omega arith) (omega arith) in
    let fields = fields_there h.order h.flags h.count h.length h.locations h.strings (words_text h.order ns ++ rest)
    (there 2 (omega arith) has.flags) (there 3 (omega arith) has.count) (there 4 (omega arith) has.length)
    (there 5 (omega arith) has.locations) (there 6 (omega arith) has.strings) in
    header_ok (words_text h.order ns ++ rest) h.order h (order_read h.order (0x00010000 ∷ h.flags ∷ h.count ∷ h.length ∷ h.locations
    ∷ h.strings ∷ more) rest) version fields (omega arith) fits
