-- The lines of a session (this project's rule): each ends at a newline, and a last one without a
-- newline counts where it has a byte.
use Rattle.std.specs.Prelude.{ℕ, ◌+◌, ◌==◌, nat_le, Bool, List, [], ◌∷◌, length, take, flat_map}
use Rattle.std.specs.Prelude.{Option, Some, None}
use Rattle.std.specs.List.{slice_split, take_while}
use Rattle.jm_jrt.specs.Reply.{line_bytes, reply}

-- the byte that ends a line
abbrev pub is_newline : ℕ → Bool
is_newline b = b == 10

-- a last part as a line, if it has a byte
abbrev pub last_line : List ℕ → List (List ℕ)
last_line [] = []
last_line (b ∷ bytes) = (b ∷ bytes) ∷ []

-- parts without the last one, if that is empty
abbrev pub but_empty_last : List (List ℕ) → List (List ℕ)
but_empty_last [] = []
but_empty_last (part ∷ []) = last_line part
but_empty_last (part ∷ next ∷ parts) = part ∷ but_empty_last (next ∷ parts)

-- parts without the last one
abbrev pub but_last : List (List ℕ) → List (List ℕ)
but_last [] = []
but_last (part ∷ []) = []
but_last (part ∷ next ∷ parts) = part ∷ but_last (next ∷ parts)

-- the lines of a text
abbrev pub lines_of : List ℕ → List (List ℕ)
lines_of text = but_empty_last (slice_split is_newline text)

-- the lines of which a text has the newline
abbrev pub ended_lines : List ℕ → List (List ℕ)
ended_lines text = but_last (slice_split is_newline text)

-- a line has at most 8,192 bytes
abbrev pub is_short : List ℕ → Bool
is_short line = nat_le (length line) 8192

-- the lines that a session answers, of at most so many: those in front of the first that is too
-- long
abbrev pub answered : ℕ → List (List ℕ) → List (List ℕ)
answered most lines = take_while is_short (take most lines)

-- the replies to lines, in order
abbrev pub replies : List ℕ → List (List ℕ) → List ℕ
replies b lines = flat_map (reply b) lines

-- the sum of two bounds, or none where one is missing
abbrev pub both_bounds : Option ℕ → Option ℕ → Option ℕ
both_bounds None n = None
both_bounds (Some m) None = None
both_bounds (Some m) (Some n) = Some (m + n)

-- the bytes that the replies to lines read at most, where each is a `find`
abbrev pub lines_bytes : List ℕ → List (List ℕ) → Option ℕ
lines_bytes b [] = Some 0
lines_bytes b (line ∷ lines) = both_bounds (line_bytes b line) (lines_bytes b lines)
