-- Replies over small images, and the lines of small texts.
use Rattle.std.proofs.Common.{◌≡◌, ℕ, List, [], ◌∷◌, map, refl}
use Rattle.std.specs.Prelude.{codes}
use Rattle.std.specs.Fmt.{digits}
use Rattle.jm_jrt.specs.Lines.{answered, ended_lines, lines_of}
use Rattle.jm_jrt.specs.Reply.{reply}
use Rattle.jm_jrt.proofs.Vectors.{bad_node, one, with_byte}

-- requests and their replies; the verb is exact, and ends at the first space
abbrev requests : List (List ℕ × List ℕ)
requests =
    (codes "find /a/p/A", codes "found 2\nhi\n")
    ∷ (codes "find /packages/p/", codes "none\n")
    ∷ (codes "find /a/p/B", codes "none\n")
    ∷ (codes "stat /packages/p/a", codes "link /modules/a\n")
    ∷ (codes "stat /modules/a/p/A", codes "file 2\n")
    ∷ (codes "stat /a/p/A", codes "error NotThere\n")
    ∷ (codes "ls /packages/p", codes "folder 1\n/packages/p/a\n")
    ∷ (codes "ls /packages", codes "folder 1\n/packages/p\n")
    ∷ (codes "ls /modules/a/p", codes "folder 1\n/modules/a/p/A\n")
    ∷ (codes "ls /packages/p/a", codes "error NotFolder\n")
    ∷ (codes "owner p", codes "owner a\n")
    ∷ (codes "owner q", codes "error NotThere\n")
    ∷ (codes "what", codes "error Request\n")
    ∷ (codes "Find /a/p/A", codes "error Request\n")
    ∷ ([], codes "error Request\n")
    ∷ []

replied : map (λ (r : List ℕ × List ℕ). reply one r.0) requests ≡ map (λ (r : List ℕ × List ℕ). r.1) requests
unfolding digits
replied = refl

-- a name with a newline in it is one line
shown_newline : reply (with_byte 138 10 one) (codes "ls /modules/a/p") ≡ codes "folder 1\n/modules/a/p/\\x0A\n"
unfolding digits
shown_newline = refl

bad : reply bad_node (codes "stat /packages") ≡ codes "error BadNode 0\n"
unfolding digits
bad = refl

-- Lines

lines : map lines_of ([] ∷ codes "a\nbc\n" ∷ codes "a\nbc" ∷ codes "\n\na" ∷ [])
    ≡ [] ∷ (codes "a" ∷ codes "bc" ∷ []) ∷ (codes "a" ∷ codes "bc" ∷ []) ∷ ([] ∷ [] ∷ codes "a" ∷ []) ∷ []
lines = refl

ended : ended_lines (codes "a\nbc") ≡ codes "a" ∷ []
ended = refl

one_answered : answered 1 (codes "a" ∷ codes "b" ∷ []) ≡ codes "a" ∷ []
one_answered = refl
