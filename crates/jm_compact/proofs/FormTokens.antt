-- What a form takes is the text of some tokens; with other numbers, which have the same texts, it
-- takes as many bytes from any place.
use Rattle.std.proofs.Common.{◌≡◌, ℕ, zero, suc, ◌+◌, ◌-◌, ◌*◌, ◌^◌, ◌<◌, Bool, true, false, cond, List, []}
use Rattle.std.proofs.Common.{◌∷◌, ◌++◌, length, Option, Some, None, Ok, refl, sym, ap, ◌∙◌}
use Rattle.std.proofs.Common.{subst, arith, length-append}
use Rattle.std.proofs.lemmas.Bool.{le-leb}
use Rattle.std.proofs.lemmas.List.{append-nil, take_at, drop_at}
use Rattle.std.specs.Int.{Width, w32, byte_len, from_be_bytes}
use Rattle.std.specs.Prelude.{nat_le, ◌==◌}
use Rattle.jm_class.specs.Layouts.{U1, U2, width}
use Rattle.jm_class.specs.Readings.{Left, Reading, value, continued, and_then, part, number, whole}
use Rattle.jm_class.proofs.ReadingLaws.{IsBytes, bytes_behind, bytes_front, same_left, same_value, passed, part-back}
use Rattle.jm_class.proofs.ReadingLaws.{number-back, part_whole-back}
use Rattle.jm_poolmap.specs.declared.site.FoundSite.{FoundSite}
use Rattle.jm_poolmap.specs.Forms as form
use Rattle.jm_poolmap.specs.Forms.{Form, Nothing, Never, Skip, Rest, Site, Named, Then, Sized, Run}
use Rattle.jm_poolmap.specs.Forms.{NoForm, Texts, SiteReading, unfit, site_width, with_site, if_text, at_most, reads}
use Rattle.jm_compact.specs.Pieces.{Plain, Number, size}
use Rattle.jm_compact.proofs.Tokens.{Token, token_text, found_from, changed, Fit, Each, IsSmall, token_text-append}
use Rattle.jm_compact.proofs.Tokens.{changed-append, length-changed, Fit-append, Each-left, Each-right, text_both, sites_both}
use Rattle.jm_compact.proofs.Tokens.{number_read}

-- what is read by the texts of constants and by the place where the reading began, which tells the
-- items of a run
abbrev Reader : Type 0
Reader = Texts → ℕ → SiteReading

abbrev of : Form → Reader
of form texts start = reads texts form

-- nothing more is read
abbrev finished : Reader
finished texts start found = value found

abbrev both : Reader → Reader → Reader
both one two texts start found = and_then (one texts start found) (two texts start)

-- what stands from a place on, up to what is left, is the text of some tokens, of which something
-- holds
pub record Taken (Holds : List Token → Type 0) (found : List FoundSite) (left : Left) (new : List FoundSite) (next : Left) : Type 0 where
  pub tokens : List Token
  pub fit : Fit tokens
  pub bytes : left.bytes ≡ token_text tokens ++ next.bytes
  pub place : next.place ≡ left.place + length (token_text tokens)
  pub sites : new ≡ found ++ found_from left.place tokens
  pub again : Holds tokens

taken_as : {Holds Others : List Token → Type 0} {found : List FoundSite} {left : Left} {new : List FoundSite} {next : Left}
    → (told : Taken Holds found left new next) → Others told.tokens → Taken Others found left new next
taken_as told again = record {
  tokens = told.tokens;
  fit = told.fit;
  bytes = told.bytes;
  place = told.place;
  sites = told.sites;
  again = again;
}

-- what a form takes; over its tokens with other numbers, which have the same texts, it takes as
-- many bytes from any place
abbrev pub Tells : Texts → Form → List FoundSite → Left → List FoundSite → Left → Type 0
Tells texts form found left new next = Taken (λ tokens. (number : ℕ → ℕ) → IsSmall number → (others : Texts)
    → Each (λ n. others (number n) ≡ texts n) tokens → (met : List FoundSite) (place : ℕ) (more : List ℕ)
    → length more ≡ length next.bytes
    → reads others form met (record { place = place; bytes = token_text (changed number tokens) ++ more })
    ≡ Ok (met ++ found_from place (changed number tokens), record { place = place + length (token_text tokens); bytes = more }))
    found left new next

-- the same of a reader, after which another one goes on; with other numbers as many bytes stand
-- between the place where the reading began and the first one of the tokens
abbrev Goes : Reader → Reader → Texts → ℕ → List FoundSite → Left → List FoundSite → Left → Type 0
Goes reader after texts start found left new next = Taken (λ tokens. (number : ℕ → ℕ) → IsSmall number → (others : Texts)
    → Each (λ n. others (number n) ≡ texts n) tokens → (met : List FoundSite) (begin at : ℕ) → at + start ≡ begin + left.place
    → (more : List ℕ) → length more ≡ length next.bytes
    → reader others begin met (record { place = at; bytes = token_text (changed number tokens) ++ more })
    ≡ after others begin (met ++ found_from at (changed number tokens)) (record {
      place = at + length (token_text tokens);
      bytes = more;
    })) found left new next

abbrev Moves : Reader → Type 0
Moves reader = (texts : Texts) (start : ℕ) (found : List FoundSite) (left : Left) (new : List FoundSite) (next : Left)
    → IsBytes left.bytes → reader texts start found left ≡ Ok (new, next) → Goes reader finished texts start found left new next

-- with other numbers there are as many bytes
size_again : {Holds : List Token → Type 0} {found : List FoundSite} {left : Left} {new : List FoundSite} {next : Left}
    → (told : Taken Holds found left new next) (number : ℕ → ℕ) (more : List ℕ) → length more ≡ length next.bytes
    → length (token_text (changed number told.tokens) ++ more) ≡ length left.bytes
size_again {next} told number more size =
    length-append (token_text (changed number told.tokens)) more
    ∙ rw (length-changed number told.tokens, size) (sym (length-append (token_text told.tokens) next.bytes))
    ∙ ap length (sym told.bytes)

finished_moves : Moves finished
finished_moves texts start found left new next bytes e =
    rw (sym (same_value {F = NoForm} found new left next e), sym (same_left {F = NoForm} found new left next e)) record {
      tokens = [];
      fit = tt;
      bytes = refl;
      place = omega arith;
      sites = sym (append-nil found);
      again = λ number small others each met begin at same more size.
          let place : at + 0 ≡ at = omega arith in rw (place, append-nil met) refl;
    }

never_moves : Moves (of Never)
never_moves texts start found left new next bytes e = cc

-- Walks one after the other

module _ (reader middle : Reader) (texts : Texts) (start : ℕ) {found : List FoundSite} {left : Left} {between : List FoundSite}
    {now : Left} {new : List FoundSite} {next : Left} where
  -- a reader that goes on as another one, of which the law is known
  onward : Goes reader middle texts start found left between now → Moves middle → IsBytes left.bytes
      → middle texts start between now ≡ Ok (new, next) → Goes reader finished texts start found left new next
  onward one law bytes e =
      let two = law _ _ _ _ _ _ (bytes_behind (token_text one.tokens) now.bytes (subst IsBytes one.bytes bytes)) e in
      let lengths : length (token_text (one.tokens ++ two.tokens)) ≡ length (token_text one.tokens) + length (token_text two.tokens)
      = ap length (token_text-append one.tokens two.tokens) ∙ length-append (token_text one.tokens) (token_text two.tokens) in
      record {
        tokens = one.tokens ++ two.tokens;
        fit = Fit-append one.tokens two.tokens one.fit two.fit;
        bytes = one.bytes ∙ ap (λ t. token_text one.tokens ++ t) two.bytes ∙ sym (text_both one.tokens two.tokens next.bytes);
        place = omega (arith, lengths, one.place, two.place);
        sites = two.sites ∙ ap (λ t. t ++ found_from now.place two.tokens) one.sites
            ∙ sites_both found left.place now.place one.tokens two.tokens one.place;
        again = λ number small others each met begin at same more size.
            let xs = changed number one.tokens in
            let ys = changed number two.tokens in
            let then = at + length (token_text one.tokens) in
            let place : then + length (token_text two.tokens) ≡ at + length (token_text (one.tokens ++ two.tokens))
            = omega (arith, lengths) in
            rw (changed-append number one.tokens two.tokens, text_both xs ys more)
            (one.again number small others (Each-left _ one.tokens two.tokens each) met begin at same (token_text ys ++ more)
            (size_again two number more size)
            ∙ two.again number small others (Each-right _ one.tokens two.tokens each) (met ++ found_from at xs) begin then
            (omega (arith, same, one.place)) more size
            ∙ rw (sites_both met at then xs ys (ap (λ m. at + m) (sym (length-changed number one.tokens))), place) refl);
      }

both_move : (one two : Reader) → Moves one → Moves two → Moves (both one two)
both_move one two first second texts start found left new next bytes e =
    let got = passed (one texts start found left) (two texts start) new next e in
    let told = first _ _ _ _ _ _ bytes got.is in
    onward (both one two) two texts start (taken_as told (λ number small others each met begin at same more size.
    ap (λ r. continued r (two others begin)) (told.again number small others each met begin at same more size))) second bytes got.rest

-- Bytes without a site, and what follows them

part_prefix : (n at : ℕ) (xs more : List ℕ) → length xs ≡ n → part unfit n (record { place = at; bytes = xs ++ more })
    ≡ Ok (xs, record { place = at + length xs; bytes = more })
part_prefix n at xs more size =
    let test : nat_le (length xs) (length (xs ++ more)) ≡ true = le-leb _ _ (omega (arith, length-append xs more)) in
    rw (sym size, test, take_at xs more (length xs) refl, drop_at xs more (length xs) refl) refl

-- the place after what was read, where reading it once more tells that
place_after : {A : Type 0} (reading : Reading NoForm A) (a : A) (left next : Left) (text : List ℕ) (place : ℕ) → reading left ≡ Ok (a, next)
    → left.bytes ≡ text → reading (record { place = left.place; bytes = text }) ≡ Ok (a, record { place = place; bytes = next.bytes })
    → next.place ≡ place
place_after reading a left next text place e is again =
    ap (λ (l : Left). l.place) (same_left {F = NoForm} a a next (record { place = place; bytes = next.bytes })
    (sym e ∙ ap (λ t. reading (record { place = left.place; bytes = t })) is ∙ again))

-- a reader that takes some bytes, and goes on by what they are
plain_moves : (reader after : Reader) (texts : Texts) (start : ℕ) (found : List FoundSite) (left now : Left) (n : ℕ) (xs : List ℕ)
    (new : List FoundSite) (next : Left) → part unfit n left ≡ Ok (xs, now) → ((others : Texts) (begin : ℕ) (met : List FoundSite)
    (at end : Left) → part unfit n at ≡ Ok (xs, end) → reader others begin met at ≡ after others begin met end) → Moves after
    → IsBytes left.bytes → after texts start found now ≡ Ok (new, next) → Goes reader finished texts start found left new next
plain_moves reader after texts start found left now n xs new next is goes_on law bytes e =
    let took = part-back unfit n left now xs is in
    onward reader after texts start (record {
      tokens = Plain xs ∷ [];
      fit = tt;
      bytes = rw (append-nil xs) took.1;
      place = rw (append-nil xs) (place_after (part unfit n) xs left now _ _ is took.1 (part_prefix n left.place xs now.bytes took.0));
      sites = sym (append-nil found);
      again = λ number small others each met begin at same more size.
          rw (append-nil xs, append-nil met) (goes_on others begin met _ _ (part_prefix n at xs more took.0));
    }) law bytes e

skip_moves : (n : ℕ) → Moves (of (Skip n))
skip_moves n texts start found left new next bytes e =
    let got = passed (part unfit n left) (λ bytes. value found) new next e in
    plain_moves (of (Skip n)) finished texts start found left got.middle n got.first new next got.is
    (λ others begin met at end is. rw is refl) finished_moves bytes got.rest

-- a number, and what follows it
abbrev by_number : Width → (ℕ → Reader) → Reader
by_number w following texts start found = and_then (number unfit w) (λ n. following n texts start found)

by_number_moves : (w : Width) (following : ℕ → Reader) → ((n : ℕ) → Moves (following n)) → Moves (by_number w following)
by_number_moves w following law texts start found left new next bytes e =
    let number_got = passed (number unfit w left) (λ n. following n texts start found) new next e in
    let got = passed (part unfit (byte_len w) left) (λ bytes. value (from_be_bytes w bytes)) number_got.first number_got.middle
    number_got.is in
    let n = from_be_bytes w got.first in
    let rest = ap (λ o. continued (continued o (λ bytes. value (from_be_bytes w bytes))) (λ n. following n texts start found)) got.is in
    plain_moves (by_number w following) (following n) texts start found left got.middle (byte_len w) got.first new next got.is
    (λ others begin met at end is. rw is refl) (law n) bytes (sym rest ∙ e)

-- A number at a site, and what follows it

abbrev site_text : Bool → Bool → ℕ → List ℕ
site_text wide optional n = token_text (Number wide (optional, n) ∷ [])

site_prefix : (wide optional : Bool) (at n : ℕ) (more : List ℕ) → n < 2 ^ (8 * size wide)
    → number unfit (site_width wide) (record { place = at; bytes = site_text wide optional n ++ more })
    ≡ Ok (n, record { place = at + length (site_text wide optional n); bytes = more })
site_prefix true optional at n more below =
    rw (part_prefix 2 at (site_text true optional n) more refl, number_read true n below) refl
site_prefix false optional at n more below =
    rw (part_prefix 1 at (site_text false optional n) more refl, number_read false n below) refl

site_took : (wide optional : Bool) (left next : Left) (n : ℕ) → IsBytes left.bytes → number unfit (site_width wide) left ≡ Ok (n, next)
    → (n < 2 ^ (8 * size wide)) × (left.bytes ≡ site_text wide optional n ++ next.bytes)
site_took true optional = number-back unfit U2
site_took false optional = number-back unfit U1

-- the text of what has the number may tell what follows
abbrev by_site : (wide optional : Bool) → (Option (List ℕ) → Reader) → Reader
by_site wide optional following texts start found left =
    and_then (number unfit (site_width wide))
    (λ n. following (texts n) texts start (with_site found left.place wide optional n)) left

by_site_moves : (wide optional : Bool) (following : Option (List ℕ) → Reader) → ((name : Option (List ℕ)) → Moves (following name))
    → Moves (by_site wide optional following)
by_site_moves wide optional following law texts start found left new next bytes e =
    let got = passed (number unfit (site_width wide) left)
    (λ n. following (texts n) texts start (with_site found left.place wide optional n)) new next e in
    let n = got.first in
    let took = site_took wide optional left got.middle n bytes got.is in
    onward (by_site wide optional following) (following (texts n)) texts start (record {
      tokens = Number wide (optional, n) ∷ [];
      fit = (took.0, tt);
      bytes = took.1;
      place = place_after (number unfit (site_width wide)) n left got.middle _ _ got.is took.1
          (site_prefix wide optional left.place n got.middle.bytes took.0);
      sites = refl;
      again = λ number small others each met begin at same more size.
          let here = site_prefix wide optional at (number n) more (omega (arith, small n, took.0)) in
          rw (sym (length-changed number (Number wide (optional, n) ∷ [])), here, each.0) refl;
    }) (law (texts n)) bytes got.rest

abbrev by_text : (List ℕ → Form) → Option (List ℕ) → Reader
by_text form name texts start = if_text name (λ text. reads texts (form text))

by_text_moves : (form : List ℕ → Form) → ((text : List ℕ) → Moves (of (form text))) → (name : Option (List ℕ)) → Moves (by_text form name)
by_text_moves form law None = never_moves
by_text_moves form law (Some text) = law text

-- Bytes of which it is known how many there are

-- a part that a reader takes whole
whole_prefix : (reading : Reading NoForm (List FoundSite)) (n at end : ℕ) (new : List FoundSite) (text more : List ℕ) → length text ≡ n
    → reading (record { place = at; bytes = text }) ≡ Ok (new, record { place = end; bytes = [] })
    → whole unfit unfit n reading (record { place = at; bytes = text ++ more })
    ≡ Ok (new, record { place = at + length text; bytes = more })
whole_prefix reading n at end new text more size is = rw (part_prefix n at text more size, is) refl

abbrev whole_of : Form → ℕ → Reader
whole_of inner n texts start found = whole unfit unfit n (reads texts inner found)

whole_moves : (inner : Form) → Moves (of inner) → (n : ℕ) → Moves (whole_of inner n)
whole_moves inner law n texts start found left new next bytes e =
    let took = part_whole-back unfit (reads texts inner found) unfit n left next new e in
    let inside = bytes_front took.inside next.bytes (subst IsBytes took.bytes bytes) in
    let told = law texts start found (record { place = left.place; bytes = took.inside }) new took.all.end inside took.all.is in
    let text : took.inside ≡ token_text told.tokens = told.bytes ∙ rw (took.all.none, append-nil (token_text told.tokens)) refl in
    record {
      tokens = told.tokens;
      fit = told.fit;
      bytes = took.bytes ∙ ap (λ t. t ++ next.bytes) text;
      place = place_after (whole_of inner n texts start found) new left next _ _ e took.bytes (whole_prefix (reads texts inner found) n
          left.place took.all.end.place new took.inside next.bytes took.size
          (took.all.is ∙ ap (λ t. Ok (new, record { place = took.all.end.place; bytes = t })) took.all.none))
          ∙ ap (λ t. left.place + length t) text;
      sites = told.sites;
      again = λ number small others each met begin at same more sizes.
          let xs = changed number told.tokens in
          let size = length-changed number told.tokens in
          let inner_again = told.again number small others each met begin at same [] (ap length (sym took.all.none)) in
          whole_prefix (reads others inner met) n at _ (met ++ found_from at xs) (token_text xs) more
          (size ∙ ap length (sym text) ∙ took.size) (ap (λ t. reads others inner met (record { place = at; bytes = t }))
          (sym (append-nil (token_text xs))) ∙ inner_again)
          ∙ ap (λ m. Ok (met ++ found_from at xs, record { place = at + m; bytes = more })) size;
    }

-- a reader by what is the same with other numbers: how many bytes there are, and how many stand
-- before
module _ {A : Type 0} (key : ℕ → Left → A) (agrees : (begin start : ℕ) (now left : Left) → now.place + start ≡ begin + left.place
    → length now.bytes ≡ length left.bytes → key begin now ≡ key start left) (reader : A → Reader) where
  by_key_moves : ((a : A) → Moves (reader a)) → Moves (λ texts start found left. reader (key start left) texts start found left)
  by_key_moves law texts start found left new next bytes e =
      let told = law (key start left) texts start found left new next bytes e in
      taken_as told (λ number small others each met begin at same more size.
      let text = token_text (changed number told.tokens) ++ more in
      rw (agrees begin start (record { place = at; bytes = text }) left same (size_again told number more size))
      (told.again number small others each met begin at same more size))

by_size_moves : (reader : ℕ → Reader) → ((n : ℕ) → Moves (reader n))
    → Moves (λ texts start found left. reader (length left.bytes) texts start found left)
by_size_moves = by_key_moves (λ start left. length left.bytes) (λ begin start now left same size. size)

if_moves : (test : Bool) (one two : Reader) → Moves one → Moves two
    → Moves (λ texts start found left. cond test (one texts start found left) (two texts start found left))
if_moves true one two first second = first
if_moves false one two first second = second

module _ (item : ℕ → Form) (law : (n : ℕ) → Moves (of (item n))) where
  abbrev item_reader : Reader
  item_reader texts start found now = reads texts (item (now.place - start)) found now

  abbrev items_reader : ℕ → Reader
  items_reader n texts start = at_most n (item_reader texts start)

  item_moves : Moves item_reader
  item_moves = by_key_moves (λ start left. left.place - start) (λ begin start now left same size. omega (arith, same))
      (λ n. of (item n)) law

  items_moves : (n : ℕ) → Moves (items_reader n)
  items_moves zero = finished_moves
  items_moves (suc n) =
      by_size_moves (λ size texts start found left. cond (size == 0) (value found left)
      (both item_reader (items_reader n) texts start found left))
      (λ size. if_moves (size == 0) finished (both item_reader (items_reader n)) finished_moves
      (both_move item_reader (items_reader n) item_moves (items_moves n)))

  -- the items are told by the place where the run begins
  run_moves : Moves (of (Run item))
  run_moves texts start found left new next bytes e =
      let told = by_size_moves items_reader items_moves texts left.place found left new next bytes e in
      taken_as told (λ number small others each met begin at same more size.
      told.again number small others each met at at refl more size)

-- All forms

form_moves : (form : Form) → Moves (of form)
form_moves Nothing = finished_moves
form_moves Never = never_moves
form_moves (Skip n) = skip_moves n
form_moves Rest = by_size_moves (λ n. of (Skip n)) skip_moves
form_moves (Site wide optional) = by_site_moves wide optional (λ _. finished) (λ _. finished_moves)
form_moves (Named next) = by_site_moves true false (by_text next) (by_text_moves next (λ text. form_moves (next text)))
form_moves (Then first next) = both_move (of first) (of next) (form_moves first) (form_moves next)
form_moves (form.Told kind next) = by_number_moves (width kind) (λ n. of (next n)) (λ n. form_moves (next n))
form_moves (Sized inner) = by_number_moves w32 (whole_of inner) (whole_moves inner (form_moves inner))
form_moves (Run item) = run_moves item (λ n. form_moves (item n))

pub form-tells : (texts : Texts) (form : Form) (found : List FoundSite) (left : Left) (new : List FoundSite) (next : Left)
    → IsBytes left.bytes → reads texts form found left ≡ Ok (new, next) → Tells texts form found left new next
form-tells texts form found left new next bytes e =
    let told = form_moves form texts left.place found left new next bytes e in
    taken_as told (λ number small others each met place. told.again number small others each met place place refl)
