-- What the manifest of a JAR says of its releases (JAR File Specification of Java SE, "Name-Value
-- pairs and Sections" and "Multi-release JAR Files"; JEP 238).
use Rattle.std.specs.Prelude.{ℕ, nat_eq, nat_lt, ◌==◌, not, Bool, true, false, ◌&&◌, ◌||◌}
use Rattle.std.specs.Prelude.{if◌then◌else◌, List, [], ◌∷◌, length, drop, map, codes}
use Rattle.std.specs.Char.{to_ascii_lowercase}
use Rattle.std.specs.List.{before_first, list_any, starts_with, take_while}
use Rattle.std.specs.Str.{bytes_eq}
use Rattle.jm_archive.specs.declared.manifest.FirstLine.{FirstLine}

-- a line of a manifest: its text, and whether a line end stands behind it
pub record Line : Type 0 where
  pub text : List ℕ
  pub is_ended : Bool

-- LF or CR
abbrev pub is_end : ℕ → Bool
is_end byte = byte == 10 || byte == 13

-- a byte ends a line: LF, or CR with no LF behind it
abbrev pub ends_line : ℕ → List ℕ → Bool
ends_line byte behind = byte == 10 || (byte == 13 && not (starts_with nat_eq behind (10 ∷ [])))

-- lines with one byte more at the front of the first
abbrev pub onto_line : ℕ → List Line → List Line
onto_line byte [] = record { text = byte ∷ []; is_ended = false } ∷ []
onto_line byte (line ∷ later) =
    record { text = byte ∷ line.text; is_ended = line.is_ended } ∷ later

-- the lines of a text: CR LF, LF and CR end one, and behind the last end may stand one that nothing
-- ends. A CR before LF is part of that end
abbrev pub lines : List ℕ → List Line
lines [] = []
lines (byte ∷ bytes) =
    if ends_line byte bytes then record { text = []; is_ended = true } ∷ lines bytes
    else if byte == 13 then lines bytes
    else onto_line byte (lines bytes)

-- no byte stands in a line
abbrev pub is_blank : Line → Bool
is_blank line = length line.text == 0

-- the lines of the main section: those before the first blank one
abbrev pub main_lines : List ℕ → List Line
main_lines manifest = before_first is_blank (lines manifest)

-- a text in small letters, those of ASCII
abbrev pub lowered : List ℕ → List ℕ
lowered text = map to_ascii_lowercase text

-- a text begins with `Multi-Release:`, in any case of letters
abbrev pub is_named : List ℕ → Bool
is_named text = starts_with nat_eq (lowered text) (codes "multi-release:")

-- a line is `Multi-Release: true`, in any case of letters, and a line end stands behind it
abbrev pub is_true : Line → Bool
is_true line = line.is_ended && bytes_eq (lowered line.text) (codes "multi-release: true")

-- a line that begins with a space continues the one before it
abbrev pub continues : Line → Bool
continues line = starts_with nat_eq line.text (32 ∷ [])

-- of the lines behind one, those that continue it hold more than their space
abbrev pub is_continued : List Line → Bool
is_continued later = list_any (λ line. nat_lt 1 (length line.text)) (take_while continues later)

-- the last of the lines that begins with `Multi-Release:` says it
abbrev pub says : List Line → Bool
says [] = false
says (line ∷ later) =
    if list_any (λ other. is_named other.text) later then says later
    else is_true line && not (is_continued later)

-- the manifest says that its JAR is multi-release. It goes by lines alone: OpenJDK's `JarFile` also
-- joins what continues a line, takes no main section with a line that is no header, and passes over
-- a last line that nothing ends
abbrev pub says_multi_release : List ℕ → Bool
says_multi_release manifest = says (main_lines manifest)

-- what follows the line end at the front of a text
abbrev pub after_end : List ℕ → List ℕ
after_end bytes = drop (if starts_with nat_eq bytes (13 ∷ 10 ∷ []) then 2 else 1) bytes

-- a line that the code cut, as a line
abbrev pub line_of : FirstLine → Line
line_of line = record { text = line.text.now; is_ended = line.is_ended }
