-- Pairs of a name and something else, in byte order of their names (this project's rule for all
-- that rises by name).
use Rattle.std.specs.Prelude.{ℕ, List, [], ◌∷◌, AllPairs, IsTrue, IsFalse, if◌then◌else◌}
use Rattle.jm_bytes.specs.ByteOrder.{is_before}

-- a name, and something else in bytes
abbrev pub Named : Type 0
Named = List ℕ × List ℕ

-- each name stands before the later ones
abbrev pub RisesByName : List Named → Type 0
RisesByName es = AllPairs (λ e f. IsTrue (is_before e.0 f.0)) es

-- no name stands before an earlier one
abbrev pub NeverFalls : List Named → Type 0
NeverFalls es = AllPairs (λ e f. IsFalse (is_before f.0 e.0)) es

-- pairs with one more, behind those whose names stand before its own
abbrev pub placed : Named → List Named → List Named
placed e [] = e ∷ []
placed e (f ∷ es) = if is_before f.0 e.0 then f ∷ placed e es else e ∷ f ∷ es

-- the same pairs, rising by name where the names differ
abbrev pub by_name : List Named → List Named
by_name [] = []
by_name (e ∷ es) = placed e (by_name es)
