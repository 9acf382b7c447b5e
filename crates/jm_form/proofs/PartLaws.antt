-- Words that stand one behind another are read back at their places, and entries have as many rows.
use Rattle.std.proofs.Common.{◌≡◌, ℕ, zero, suc, ◌+◌, ◌*◌, ◌^◌, ◌<◌, List, [], ◌∷◌, ◌++◌, length, get_or}
use Rattle.std.proofs.Common.{refl, sym, ap, ◌∙◌, arith, append_assoc, length-append}
use Rattle.std.proofs.lemmas.List.{append-nil}
use Rattle.jm_bytes.proofs.WordLaws.{length-word_bytes, word_back, word_behind}
use Rattle.jm_bytes.specs.Word.{word, word_bytes}
use Rattle.jm_bytes.specs.declared.words.Order.{Order}
use Rattle.jm_form.specs.Layout.{Sized, rows_from}
use Rattle.jm_form.specs.Nodes.{words_text}

pub length-words_text : (order : Order) (ns : List ℕ) → length (words_text order ns) ≡ 4 * length ns
length-words_text order [] = refl
length-words_text order (n ∷ ns) =
    let first = length-word_bytes order n in
    let later = length-words_text order ns in
    let all = length-append (word_bytes order n) (words_text order ns) in
    omega arith

-- word k stands at place 4k
pub word_there : (order : Order) (ns rest : List ℕ) (k : ℕ) → k < length ns → get_or ns k 0 < 2 ^ 32
    → word order (words_text order ns ++ rest) (4 * k) ≡ get_or ns k 0
word_there order [] rest k below fits = absurd (omega arith)
word_there order (n ∷ ns) rest zero below fits =
    ap (λ l. word order l 0) (append_assoc (word_bytes order n) (words_text order ns) rest) ∙ word_back order n (words_text order ns
    ++ rest) fits
word_there order (n ∷ ns) rest (suc k) below fits =
    let place : 4 * suc k ≡ 4 + 4 * k = omega arith in
    ap (λ l. word order l (4 * suc k)) (append_assoc (word_bytes order n) (words_text order ns) rest)
    ∙ ap (word order (word_bytes order n ++ (words_text order ns ++ rest))) place
    ∙ word_behind order (word_bytes order n) (words_text order ns ++ rest) 4 (4 * k) (length-word_bytes order n)
    ∙ word_there order ns rest k (omega arith) fits

-- the same with nothing behind them
pub word_alone : (order : Order) (ns : List ℕ) (k : ℕ) → k < length ns → get_or ns k 0 < 2 ^ 32
    → word order (words_text order ns) (4 * k) ≡ get_or ns k 0
word_alone order ns k below fits = ap (λ l. word order l (4 * k)) (sym (append-nil (words_text order ns)))
    ∙ word_there order ns [] k below fits

pub length-rows : (texts : List (List ℕ)) (offset : ℕ) (es : List Sized) → length (rows_from texts offset es) ≡ length es
length-rows texts offset [] = refl
length-rows texts offset (e ∷ es) = ap suc (length-rows texts (offset + e.size) es)
