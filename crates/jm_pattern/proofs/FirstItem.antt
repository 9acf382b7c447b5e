-- The first item of a list, and the items behind it.
use Rattle.std.proofs.Common.{◌≡◌, ◌≢◌, ◌+◌, ◌++◌, ◌∷◌, ◌<◌, [], ℕ, Bool, true, false, List, Option, Some}
use Rattle.std.proofs.Common.{None, Result, Ok, refl, sym, ap, subst, ◌∙◌, arith, append_assoc, eqb, cond}
use Rattle.std.proofs.Common.{length-append, length, Bor, IfSome, unwrap_or, option_map}
use Rattle.std.proofs.lemmas.Bool.{ne_eqb}
use Rattle.jm_pattern.specs.ComputedReading.{with_front}
use Rattle.jm_pattern.specs.Items.{with_first, onto_first, items_of, item_pattern, patterns_from}
use Rattle.jm_pattern.specs.ReadingSteps.{items_behind, GoesOn}
use Rattle.jm_pattern.proofs.FirstSign.{read-on}
use Rattle.jm_pattern.specs.declared.signs.Sign.{Sign}
use Rattle.jm_pattern.specs.declared.signs.PatternFault.{PatternFault}

-- bytes at the front, and then more
onto-twice : (xs ys : List ℕ) (items : List (List ℕ)) → onto_first xs (onto_first ys items) ≡ onto_first (xs ++ ys) items
onto-twice xs ys [] = refl
onto-twice xs ys (item ∷ items) = ap (λ x. x ∷ items) (sym (append_assoc xs ys item))

-- a list has an item
onto-some : (front : List ℕ) (items : List (List ℕ)) → onto_first front items ≢ []
onto-some front [] e = cc
onto-some front (item ∷ items) e = cc

choice-some : (test : Bool) (xs ys : List (List ℕ)) → xs ≢ [] → ys ≢ [] → cond test xs ys ≢ []
choice-some true xs ys h k = h
choice-some false xs ys h k = k

items-some : (text : List ℕ) → items_of text ≢ []
items-some [] = λ e. cc
items-some (b ∷ []) = choice-some (eqb b 44) ([] ∷ [] ∷ []) ((b ∷ []) ∷ []) (λ e. cc) (λ e. cc)
items-some (b ∷ c ∷ text) =
    choice-some (eqb b 92) (onto_first (b ∷ c ∷ []) (items_of text)) (cond (eqb b 44) ([] ∷ items_of (c ∷ text))
    (onto_first (b ∷ []) (items_of (c ∷ text))))
    (onto-some (b ∷ c ∷ []) (items_of text))
    (choice-some (eqb b 44) ([] ∷ items_of (c ∷ text)) (onto_first (b ∷ []) (items_of (c ∷ text))) (λ e. cc)
    (onto-some (b ∷ []) (items_of (c ∷ text))))

onto-none : (items : List (List ℕ)) → items ≢ [] → onto_first [] items ≡ items
onto-none [] h = absurd (h refl)
onto-none (item ∷ items) h = refl

-- an item's front, none of it
pub goes-none : (text : List ℕ) → GoesOn text text
goes-none text = ([], refl, sym (onto-none (items_of text) (items-some text)))

pub goes-further : (text middle rest : List ℕ) → GoesOn text middle → GoesOn middle rest → GoesOn text rest
goes-further text middle rest first second = (
  first.0 ++ second.0,
  first.1 ∙ ap (λ x. first.0 ++ x) second.1 ∙ sym (append_assoc first.0 second.0 rest),
  first.2 ∙ ap (λ x. onto_first first.0 x) second.2 ∙ onto-twice first.0 second.0 (items_of rest),
)

-- a byte by itself
pub goes-byte : (text : List ℕ) (b : ℕ) (rest : List ℕ) → text ≡ b ∷ rest → b ≢ 44 → b ≢ 92 → GoesOn text rest
goes-byte text b [] e h k = (b ∷ [], e, rw (e, ne_eqb b 44 h) refl)
goes-byte text b (c ∷ rest) e h k = (b ∷ [], e, rw (e, ne_eqb b 92 k, ne_eqb b 44 h) refl)

-- a `\` and the byte that it takes, or the end
goes-taken : (text : List ℕ) (b : ℕ) (rest : List ℕ) → text ≡ b ∷ rest → GoesOn (92 ∷ text) rest
goes-taken text b rest e = rw e (92 ∷ b ∷ [], refl, refl)

goes-last : (text : List ℕ) → length text ≡ 0 → GoesOn (92 ∷ text) text
goes-last [] e = (92 ∷ [], refl, refl)
goes-last (b ∷ text) e = absurd (omega arith)

pub goes-escaped : (whole text rest : List ℕ) (b c : ℕ) → whole ≡ b ∷ text → b ≡ 92 → text ≡ c ∷ rest → GoesOn whole rest
goes-escaped whole text rest b c e1 e2 e3 =
    let e : whole ≡ 92 ∷ text = cc in
    subst (λ w. GoesOn w rest) (sym e) (goes-taken text c rest e3)

pub goes-at_end : (whole text : List ℕ) (b : ℕ) → whole ≡ b ∷ text → b ≡ 92 → length text ≡ 0 → GoesOn whole text
goes-at_end whole text b e1 e2 e3 =
    let e : whole ≡ 92 ∷ text = cc in
    subst (λ w. GoesOn w text) (sym e) (goes-last text e3)

-- one pattern further
pub list-further : (whole : Result (List (List Sign)) PatternFault) (patterns : List (List Sign)) (left : Option (List ℕ))
    (text item : List ℕ) (behind : Option (List ℕ)) (number : ℕ) (pattern : List Sign) → whole
    ≡ with_front patterns (patterns_from (length patterns) (items_behind left)) → left ≡ Some text → items_of text
    ≡ item ∷ items_behind behind → number ≡ length patterns → ◌≡◌ {A = Result (List Sign) PatternFault} (Ok pattern)
    (item_pattern number item) → whole
    ≡ with_front (patterns ++ pattern ∷ []) (patterns_from (length (patterns ++ pattern ∷ [])) (items_behind behind))
list-further whole patterns left text item behind number pattern e is items count read =
    let one : item_pattern (length patterns) item ≡ Ok pattern = rw count at (sym read) in
    let more : length (patterns ++ pattern ∷ []) ≡ length patterns + 1 = omega (arith, length-append patterns (pattern ∷ [])) in
    let here : items_behind left ≡ item ∷ items_behind behind = ap items_behind is ∙ items in
    let next = patterns_from (length patterns + 1) (items_behind behind) in
    rw more (e ∙ ap (λ x. with_front patterns (patterns_from (length patterns) x)) here
    ∙ ap (λ x. with_front patterns (with_first x next)) one ∙ read-on patterns pattern next)

-- what is left of the list gets shorter
pub less-left : (behind : Option (Bor (List ℕ))) (n : ℕ) → IfSome behind (λ rest. length rest.now < n)
    → unwrap_or (option_map (λ rest. length rest.now + 1) behind) 0 < n + 1
less-left None n h = omega arith
less-left (Some rest) n h = omega arith
