-- Texts of lines, and where replies end.
use Rattle.std.proofs.Common.{◌≡◌, ℕ, Bool, true, false, List, [], ◌∷◌, ◌++◌, suc, refl, sym, ap, subst, ◌∙◌, All, length, rules}
use Rattle.std.proofs.Common.{append-nil, inl, inr, Option, Some, None, Result, Ok, Err}
use Rattle.std.specs.Prelude.{◌&&◌, codes, flat_map, if◌then◌else◌}
use Rattle.std.specs.Fmt.{decimal}
use Rattle.std.specs.List.{after_first, before_first, list_any}
use Rattle.std.specs.Str.{bytes_eq}
use Rattle.std.proofs.lemmas.Bool.{and_parts, or_parts}
use Rattle.std.proofs.lemmas.List.Elements.{All-append, All-cons, All-head, All-nil, All-tail}
use Rattle.std.proofs.lemmas.Slice.Eq.{bytes_eq-Decides}
use Rattle.jm_names.specs.Names.{is_node}
use Rattle.jm_names.specs.Shown.{is_control, newlines, shown, StaysInLine}
use Rattle.jm_names.specs.UtfForms.{modified, utf}
use Rattle.jm_names.proofs.ShownLaws.{decimal_stays, newlines_append, newlines_none, shown_stays}
use Rattle.jm_form.specs.declared.rows.Row.{Row}
use Rattle.jm_form.specs.declared.trees.Holds.{Holds}
use Rattle.jm_form.specs.declared.trees.Holds.TheVariants.{Children, Owners}
use Rattle.jm_form.specs.declared.trees.Owner.{Owner}
use Rattle.jm_form.specs.TreeView.{TreeItem, Folder, Package, File, Link}
use Rattle.jm_form.specs.Validity.{look}
use Rattle.jm_jrt.specs.declared.jrt_error.JrtError.{JrtError}
use Rattle.jm_jrt.specs.declared.jrt_error.JrtError.TheVariants.{BadNode, NotFolder, NotThere}
use Rattle.jm_jrt.specs.Framed.{AreLines, IsError, IsFramed, SaysBytes, SaysLines}
use Rattle.jm_jrt.specs.Reply.{empty_mark, error_reply, find_reply, full_reply, has_verb, held_lines, is_space, item_reply, line}
use Rattle.jm_jrt.specs.Reply.{ls_reply, numbered, owner_reply, reply, request_error, request_reply, stat_reply}
use Rattle.jm_jrt.specs.Stat.{held, owner, stat}
use Rattle.jm_jrt.specs.Views.{count_of}

-- Texts that stay in a line

-- two texts put together
pub both_stay : (text other : List ℕ) → StaysInLine text → StaysInLine other → StaysInLine (text ++ other)
both_stay text other = All-append (λ b. is_control b ≡ false) text other

-- a text without a control character
pub plain_stays : (text : List ℕ) → list_any is_control text ≡ false → StaysInLine text
plain_stays [] none = All-nil (λ b. is_control b ≡ false)
plain_stays (b ∷ text) none =
    let parts = or_parts (is_control b) (list_any is_control text) none in
    All-cons (λ b. is_control b ≡ false) b text parts.0 (plain_stays text parts.1)

-- Lines

pub no_lines : AreLines 0 []
no_lines = record { lines = []; count = refl; stay = All-nil StaysInLine; are = refl }

pub one_line : (text : List ℕ) → StaysInLine text → AreLines 1 (line text)
one_line text stays = record {
  lines = text ∷ [];
  count = refl;
  stay = All-cons StaysInLine text [] stays (All-nil StaysInLine);
  are = sym (append-nil (line text));
}

-- a line behind which others stand
pub more_lines : (text : List ℕ) (n : ℕ) (rest : List ℕ) → StaysInLine text → AreLines n rest → AreLines (suc n) (line text ++ rest)
more_lines text n rest stays are = record {
  lines = text ∷ are.lines;
  count = ap suc are.count;
  stay = All-cons StaysInLine text are.lines stays are.stay;
  are = ap (λ t. line text ++ t) are.are;
}

-- a line for each item
pub line_each : {A : Type 0} → (text : A → List ℕ) → ((item : A) → StaysInLine (text item)) → (items : List A)
    → AreLines (length items) (flat_map (λ item. line (text item)) items)
line_each text stays [] = no_lines
line_each text stays (item ∷ items) =
    more_lines (text item) (length items) (flat_map (λ item. line (text item)) items) (stays item) (line_each text stays items)

lines_end : (lines : List (List ℕ)) → All StaysInLine lines → newlines (flat_map line lines) ≡ length lines
lines_end [] all = search (rules)
lines_end (text ∷ lines) all = search (rules, All-head, All-tail, newlines_append, newlines_none, (lines_end lines (All-tail StaysInLine text lines all)))

-- lines have as many newlines
pub newlines_of : (n : ℕ) (text : List ℕ) → AreLines n text → newlines text ≡ n
newlines_of n text are = ap newlines are.are ∙ lines_end are.lines are.stay ∙ are.count

-- Replies of one line

numbered_line : (word : List ℕ) (n : ℕ) → StaysInLine word → AreLines 1 (numbered word n)
numbered_line word n stays = one_line (word ++ decimal n) (both_stay word (decimal n) stays (decimal_stays n))

named_line : (word name : List ℕ) → StaysInLine word → AreLines 1 (line (word ++ shown name))
named_line word name stays = one_line (word ++ shown name) (both_stay word (shown name) stays (shown_stays (utf name)))

error_line : (error : JrtError) → AreLines 1 (error_reply error)
error_line NotThere = one_line (codes "error NotThere") (plain_stays (codes "error NotThere") refl)
error_line (BadNode at) = numbered_line (codes "error BadNode ") at (plain_stays (codes "error BadNode ") refl)
error_line NotFolder = one_line (codes "error NotFolder") (plain_stays (codes "error NotFolder") refl)

none_line : AreLines 1 request_error
none_line = one_line (codes "error Request") (plain_stays (codes "error Request") refl)

item_line : (item : TreeItem) → AreLines 1 (item_reply item)
item_line (Folder names) = numbered_line (codes "folder ") (length names) (plain_stays (codes "folder ") refl)
item_line (Package owners) = numbered_line (codes "folder ") (length owners) (plain_stays (codes "folder ") refl)
item_line (File bytes) = numbered_line (codes "file ") (length bytes) (plain_stays (codes "file ") refl)
item_line (Link «module») = named_line (codes "link /modules/") «module» (plain_stays (codes "link /modules/") refl)

stat_line : (answer : Result TreeItem JrtError) → AreLines 1 (stat_reply answer)
stat_line (Err error) = error_line error
stat_line (Ok item) = item_line item

full_line : (full : Option (List ℕ)) → AreLines 1 (full_reply full)
full_line None = one_line (codes "none") (plain_stays (codes "none") refl)
full_line (Some «module») = named_line (codes "owner ") «module» (plain_stays (codes "owner ") refl)

owner_line_of : (answer : Result (Option (List ℕ)) JrtError) → AreLines 1 (owner_reply answer)
owner_line_of (Err error) = error_line error
owner_line_of (Ok full) = full_line full

-- Replies that say what follows

says_bytes : (found : Option (Row × List ℕ)) → SaysBytes (find_reply found)
says_bytes None = inl refl
says_bytes (Some found) = inr (found.1, refl)

is_error : (error : JrtError) → IsError (error_reply error)
is_error NotThere = (codes "NotThere", plain_stays (codes "NotThere") refl, refl)
is_error (BadNode at) =
    (codes "BadNode " ++ decimal at, both_stay (codes "BadNode ") (decimal at) (plain_stays (codes "BadNode ") refl) (decimal_stays at), refl)
is_error NotFolder = (codes "NotFolder", plain_stays (codes "NotFolder") refl, refl)

entry_stays : (name : List ℕ) → StaysInLine ((if is_node name then [] else codes "/modules") ++ shown name)
entry_stays name = both_stay (if is_node name then [] else codes "/modules") (shown name) (go (is_node name)) (shown_stays (utf name))
  where
    go : (node : Bool) → StaysInLine (if node then [] else codes "/modules")
    go true = plain_stays [] refl
    go false = plain_stays (codes "/modules") refl

mark_stays : (empty : Bool) → StaysInLine (empty_mark empty)
mark_stays true = plain_stays (codes " empty") refl
mark_stays false = plain_stays [] refl

owner_stays : (path : List ℕ) → StaysInLine path → (held : Owner) → StaysInLine (path ++ 47 ∷ shown held.module
    ++ empty_mark held.empty)
owner_stays path stays held = search (rules, All-cons, shown_stays, both_stay, mark_stays)

-- what a folder holds is a line for each
pub held_are : (path : List ℕ) (holds : Holds) → AreLines (count_of holds) (held_lines path holds)
held_are path (Children names) = search (rules, line_each, entry_stays)
held_are path (Owners owners) = search (rules, shown_stays, line_each, owner_stays)

says_lines : (path : List ℕ) (answer : Result Holds JrtError) → SaysLines (ls_reply path answer)
says_lines path (Err error) = inl (is_error error)
says_lines path (Ok holds) = inr (count_of holds, held_lines path holds, held_are path holds, refl)

-- The reply to a line

verb_is : (verb l : List ℕ) → has_verb verb l ≡ true → (list_any is_space l ≡ true) × (before_first is_space l ≡ verb)
verb_is verb l has = search (rules, and_parts, bytes_eq-Decides)

-- the reply is that of its request
asked : (b verb l : List ℕ) → has_verb verb l ≡ true → reply b l ≡ request_reply b verb (modified (after_first is_space l))
asked b verb l has = search (rules, verb_is)

other_line : (b verb argument : List ℕ) (finds stats lists owns : Bool) → bytes_eq verb (codes "find") ≡ finds
    → bytes_eq verb (codes "stat") ≡ stats → bytes_eq verb (codes "ls") ≡ lists → bytes_eq verb (codes "owner") ≡ owns → finds ≡ false
    → lists ≡ false → AreLines 1 (request_reply b verb argument)
other_line b verb argument true stats lists owns f s l o none no_ls = cc
other_line b verb argument false stats true owns f s l o none no_ls = cc
other_line b verb argument false true false owns f s l o none no_ls = rw (f, s) (stat_line (stat b argument))
other_line b verb argument false false false true f s l o none no_ls = rw (f, s, l, o) (owner_line_of (owner b (codes "/packages/" ++ argument)))
other_line b verb argument false false false false f s l o none no_ls = rw (f, s, l, o) none_line

-- where the reply to a line ends
pub framed : (b l : List ℕ) → IsFramed l (reply b l)
framed b l = record {
  find = λ has. subst SaysBytes (sym (asked b (codes "find") l has)) (says_bytes (look b (modified (after_first is_space l))));
  ls =
      λ has. subst SaysLines (sym (asked b (codes "ls") l has)) (says_lines (modified (after_first is_space l))
      (held (stat b (modified (after_first is_space l)))));
  other = go (list_any is_space l) refl;
}
  where
    verb : List ℕ
    verb = before_first is_space l

    go : (space : Bool) → list_any is_space l ≡ space → has_verb (codes "find") l ≡ false → has_verb (codes "ls") l ≡ false
        → AreLines 1 (reply b l)
    go false none no_find no_ls = rw (none) none_line
    go true some no_find no_ls = rw (some) (other_line b verb (modified (after_first is_space l)) _ _ _ _ refl refl refl refl
        (sym (ap (λ test. test && bytes_eq verb (codes "find")) some) ∙ no_find)
        (sym (ap (λ test. test && bytes_eq verb (codes "ls")) some) ∙ no_ls))

-- and of those to some lines
pub all_framed : (b : List ℕ) (lines : List (List ℕ)) → All (λ l. IsFramed l (reply b l)) lines
all_framed b [] = All-nil (λ l. IsFramed l (reply b l))
all_framed b (l ∷ lines) = All-cons (λ l. IsFramed l (reply b l)) l lines (framed b l) (all_framed b lines)

-- of a text that is the reply
pub framed_by : (b l text : List ℕ) → text ≡ reply b l → IsFramed l text
framed_by b l text is = subst (IsFramed l) (sym is) (framed b l)
