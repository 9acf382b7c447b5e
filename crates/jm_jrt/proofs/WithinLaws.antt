-- Bounds of what lines cost, one after another.
use Rattle.std.proofs.Common.{◌≡◌, ℕ, List, [], ◌∷◌, ◌++◌, Option, Some, None, refl, sym, ap, ◌∙◌, subst, arith, rules}
use Rattle.jm_bytes.specs.Metered.{Metered}
use Rattle.jm_reader.specs.Walk.{IsLater}
use Rattle.jm_jrt.specs.Lines.{both_bounds, lines_bytes}
use Rattle.jm_jrt.specs.Reply.{IsWithin, line_bytes}

pub within_nothing : (old : Metered) → IsWithin (Some 0) old old
within_nothing old = record { bytes = refl; count = record { least = omega arith; most = omega arith } }

pub within_same : (bound : Option ℕ) (old : Metered) → IsWithin bound old old
within_same None old = record { bytes = refl; count = omega arith }
within_same (Some n) old = record { bytes = refl; count = record { least = omega arith; most = omega arith } }

pub within_later : (bound : Option ℕ) (old new : Metered) → IsWithin bound old new → IsLater old new
within_later None old new later = later
within_later (Some n) old new cost = record { bytes = cost.bytes; count = cost.count.least }

pub later_then : (old now new : Metered) → IsLater old now → IsLater now new → IsLater old new
later_then old now new first second =
    record { bytes = second.bytes ∙ first.bytes; count = omega arith }

pub within_then : (m n : Option ℕ) (old now new : Metered) → IsWithin m old now → IsWithin n now new → IsWithin (both_bounds m n) old new
within_then None n old now new first second = later_then old now new first (within_later n now new second)
within_then (Some m) None old now new first second = later_then old now new (within_later (Some m) old now first) second
within_then (Some m) (Some n) old now new first second =
    record { bytes = second.bytes ∙ first.bytes; count = record { least = omega arith; most = omega arith } }

both_zero : (n : Option ℕ) → both_bounds (Some 0) n ≡ n
both_zero None = refl
both_zero (Some n) = ap (λ (m : ℕ). Some m) (omega arith)

zero_both : (n : Option ℕ) → both_bounds n (Some 0) ≡ n
zero_both None = refl
zero_both (Some n) = ap (λ (m : ℕ). Some m) (omega arith)

both_assoc : (k m n : Option ℕ) → both_bounds k (both_bounds m n) ≡ both_bounds (both_bounds k m) n
both_assoc None m n = refl
both_assoc (Some k) None n = refl
both_assoc (Some k) (Some m) None = refl
both_assoc (Some k) (Some m) (Some n) = ap (λ (j : ℕ). Some j) (omega arith)

pub bytes_append : (b : List ℕ) (front lines : List (List ℕ)) → lines_bytes b (front ++ lines) ≡ both_bounds (lines_bytes b front)
    (lines_bytes b lines)
bytes_append b [] lines = search (rules, both_zero)
bytes_append b (first ∷ front) lines = search (rules, both_assoc, (bytes_append b front lines))

pub within_append : (b : List ℕ) (front lines : List (List ℕ)) (old now new : Metered) → IsWithin (lines_bytes b front) old now
    → IsWithin (lines_bytes b lines) now new → IsWithin (lines_bytes b (front ++ lines)) old new
within_append b front lines old now new first second = search (rules, within_then, bytes_append)

pub within_one : (b first : List ℕ) (old new : Metered) → IsWithin (line_bytes b first) old new
    → IsWithin (lines_bytes b (first ∷ [])) old new
within_one b first old new within = subst (λ (bound : Option ℕ). IsWithin bound old new) (sym (zero_both (line_bytes b first))) within
