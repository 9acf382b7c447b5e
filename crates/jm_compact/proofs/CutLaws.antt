-- The text of tokens, cut at their sites.
use Rattle.std.proofs.Common.{◌≡◌, ℕ, ◌+◌, ◌-◌, ◌≤◌, List, [], ◌∷◌}
use Rattle.std.proofs.Common.{◌++◌, length, map, refl, sym, ap, ◌∙◌, arith, append_assoc, length-append}
use Rattle.std.proofs.lemmas.List.{append-nil, take_at, drop_at}
use Rattle.std.specs.Int.{to_be_bytes}
use Rattle.jm_poolmap.specs.declared.site.Site.{Site}
use Rattle.jm_poolmap.specs.Forms.{site_width}
use Rattle.jm_poolmap.specs.Sites.{site_of}
use Rattle.jm_compact.specs.Pieces.{Piece, Plain, Number, size, cut, put_for_all, text_of, renumbered}
use Rattle.jm_compact.specs.Steps.{AreIn}
use Rattle.jm_compact.proofs.Tokens.{Token, token_text, found_from, changed, Fit, Each, number_size, number_read}

-- tokens with what stands between two sites in one piece, after some bytes
abbrev pub merged : List ℕ → List Token → List (Piece ℕ)
merged prefix [] = Plain prefix ∷ []
merged prefix (Plain bytes ∷ tokens) = merged (prefix ++ bytes) tokens
merged prefix (Number wide n ∷ tokens) = Plain prefix ∷ Number wide n.1 ∷ merged [] tokens

abbrev pub sites_from : ℕ → List Token → List Site
sites_from at tokens = map site_of (found_from at tokens)

cut_tokens : (tokens : List Token) (at place : ℕ) (prefix : List ℕ) → place ≡ at + length prefix → Fit tokens
    → cut (sites_from place tokens) at (prefix ++ token_text tokens) ≡ merged prefix tokens
cut_tokens [] at place prefix is fit = ap (λ t. Plain t ∷ []) (append-nil prefix)
cut_tokens (Plain bytes ∷ tokens) at place prefix is fit =
    let sizes = length-append prefix bytes in
    ap (cut (sites_from (place + length bytes) tokens) at) (sym (append_assoc prefix bytes (token_text tokens)))
    ∙ cut_tokens tokens at (place + length bytes) (prefix ++ bytes) (omega (arith, is, sizes)) fit
cut_tokens (Number wide n ∷ tokens) at place prefix is fit =
    let here : place - at ≡ length prefix = omega (arith, is) in
    let number = to_be_bytes (site_width wide) n.1 in
    let before = take_at prefix (number ++ token_text tokens) (length prefix) refl in
    let after = drop_at prefix (number ++ token_text tokens) (length prefix) refl in
    let taken = take_at number (token_text tokens) (size wide) (number_size wide n.1) in
    let left = drop_at number (token_text tokens) (size wide) (number_size wide n.1) in
    let back = number_read wide n.1 fit.0 in
    rw (here, before, after, taken, left, back)
    (ap (λ t. Plain prefix ∷ Number wide n.1 ∷ t) (cut_tokens tokens (place + size wide) (place + size wide) [] (omega arith) fit.1))

-- a whole text is cut at all its sites
pub cut_whole : (tokens : List Token) (at : ℕ) → Fit tokens → cut (sites_from at tokens) at (token_text tokens) ≡ merged [] tokens
cut_whole tokens at fit = cut_tokens tokens at at [] (omega arith) fit

-- other numbers in the pieces are those of other numbers in the tokens
merged_changed : (new : ℕ → ℕ) (tokens : List Token) (prefix : List ℕ) → put_for_all new (merged prefix tokens)
    ≡ merged prefix (changed new tokens)
merged_changed new [] prefix = refl
merged_changed new (Plain bytes ∷ tokens) prefix = merged_changed new tokens (prefix ++ bytes)
merged_changed new (Number wide n ∷ tokens) prefix = ap (λ t. Plain prefix ∷ Number wide (new n.1) ∷ t) (merged_changed new tokens [])

text_merged : (tokens : List Token) (prefix : List ℕ) → text_of (merged prefix tokens) ≡ prefix ++ token_text tokens
text_merged [] prefix = refl
text_merged (Plain bytes ∷ tokens) prefix = text_merged tokens (prefix ++ bytes) ∙ append_assoc prefix bytes (token_text tokens)
text_merged (Number wide n ∷ tokens) prefix = ap (λ t. prefix ++ (to_be_bytes (site_width wide) n.1 ++ t)) (text_merged tokens [])

-- the text with other numbers at its sites is that of the tokens with other numbers
pub renumbered_whole : (new : ℕ → ℕ) (tokens : List Token) (at : ℕ) → Fit tokens
    → renumbered new (sites_from at tokens) at (token_text tokens) ≡ token_text (changed new tokens)
renumbered_whole new tokens at fit =
    ap (λ p. text_of (put_for_all new p)) (cut_whole tokens at fit) ∙ ap text_of (merged_changed new tokens [])
    ∙ text_merged (changed new tokens) []

-- what is put for the numbers is the same, where it is for each
pub merged_same : {A : Type 0} (new : ℕ → ℕ) (one other : ℕ → A) (tokens : List Token) (prefix : List ℕ)
    → Each (λ n. other (new n) ≡ one n) tokens → put_for_all other (merged prefix (changed new tokens))
    ≡ put_for_all one (merged prefix tokens)
merged_same new one other [] prefix each = refl
merged_same new one other (Plain bytes ∷ tokens) prefix each = merged_same new one other tokens (prefix ++ bytes) each
merged_same new one other (Number wide n ∷ tokens) prefix each =
    rw each.0 (ap (λ t. Plain prefix ∷ Number wide (one n.1) ∷ t) (merged_same new one other tokens [] each.1))

-- the sites of tokens are in their text
pub tokens_in : (tokens : List Token) (at from end : ℕ) → from ≤ at → at + length (token_text tokens) ≤ end
    → AreIn (sites_from at tokens) from end
tokens_in [] at from end less fits = omega (arith, less, fits)
tokens_in (Plain bytes ∷ tokens) at from end less fits =
    let sizes = length-append bytes (token_text tokens) in
    tokens_in tokens (at + length bytes) from end (omega (arith, less)) (omega (arith, fits, sizes))
tokens_in (Number wide n ∷ tokens) at from end less fits =
    let sizes = length-append (to_be_bytes (site_width wide) n.1) (token_text tokens) in
    let own = number_size wide n.1 in
    (less, tokens_in tokens (at + size wide) (at + size wide) end (omega arith) (omega (arith, fits, sizes, own)))
