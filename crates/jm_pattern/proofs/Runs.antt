-- Runs of bytes behind a `*` or a `**`: a longer one, two in a row, and one that takes a sign's byte.
use Rattle.std.proofs.Common.{◌≡◌, ◌≢◌, ◌++◌, ◌∷◌, [], ℕ, List, refl, sym, ap, ◌∙◌, append_assoc}
use Rattle.std.specs.List.{All}
use Rattle.std.proofs.lemmas.List.Elements.{All-nil, All-cons, All-head, All-tail, All-append, All-push}
use Rattle.jm_pattern.specs.Matching.{StandsFor, Match}
use Rattle.jm_pattern.specs.MatchingSteps.{IsFixed}
use Rattle.jm_pattern.specs.declared.signs.Sign.{Sign}
use Rattle.jm_pattern.specs.declared.signs.Sign.TheVariants.{AnyRun, Run, One, Byte}

-- a byte that a `*` takes
abbrev pub InRun : ℕ → Type 0
InRun b = b ≢ 47

-- a match of the signs is one behind an empty run
pub any-empty : (p : List Sign) (n : List ℕ) → Match p n → Match (AnyRun ∷ p) n
any-empty p n m = ([], n, refl, tt, m)

pub run-empty : (p : List Sign) (n : List ℕ) → Match p n → Match (Run ∷ p) n
run-empty p n m = ([], n, refl, All-nil InRun, m)

-- a run may begin with one byte more
pub any-longer : (p : List Sign) (b : ℕ) (n : List ℕ) → Match (AnyRun ∷ p) n → Match (AnyRun ∷ p) (b ∷ n)
any-longer p b n m = (b ∷ m.0, m.1, ap (λ x. b ∷ x) m.2, tt, m.4)

pub run-longer : (p : List Sign) (b : ℕ) (n : List ℕ) → b ≢ 47 → Match (Run ∷ p) n → Match (Run ∷ p) (b ∷ n)
run-longer p b n h m = (b ∷ m.0, m.1, ap (λ x. b ∷ x) m.2, All-cons InRun b m.0 h m.3, m.4)

-- where the signs don't match here, a run takes the first byte
any-first : (p : List Sign) (b : ℕ) (n run rest : List ℕ) → b ∷ n ≡ run ++ rest → ¬ Match p (b ∷ n) → Match p rest → Match (AnyRun ∷ p) n
any-first p b n [] rest e not_here m = absurd (not_here (rw e m))
any-first p b n (c ∷ run) rest e not_here m = (run, rest, cc, tt, m)

pub any-shorter : (p : List Sign) (b : ℕ) (n : List ℕ) → ¬ Match p (b ∷ n) → Match (AnyRun ∷ p) (b ∷ n) → Match (AnyRun ∷ p) n
any-shorter p b n not_here m = any-first p b n m.0 m.1 m.2 not_here m.4

run-first : (p : List Sign) (b : ℕ) (n run rest : List ℕ) → b ∷ n ≡ run ++ rest → All InRun run → ¬ Match p (b ∷ n) → Match p rest
    → (b ≢ 47) × Match (Run ∷ p) n
run-first p b n [] rest e a not_here m = absurd (not_here (rw e m))
run-first p b n (c ∷ run) rest e a not_here m =
    let same : b ≡ c = cc in
    let head : c ≢ 47 = All-head InRun c run a in
    (rw same head, (run, rest, cc, All-tail InRun c run a, m))

pub run-shorter : (p : List Sign) (b : ℕ) (n : List ℕ) → ¬ Match p (b ∷ n) → Match (Run ∷ p) (b ∷ n) → (b ≢ 47) × Match (Run ∷ p) n
run-shorter p b n not_here m = run-first p b n m.0 m.1 m.2 m.3 not_here m.4

-- in a name without `/` a `*` takes what a `**` does
run-front : (run rest : List ℕ) → All InRun (run ++ rest) → All InRun run
run-front [] rest a = All-nil InRun
run-front (b ∷ run) rest a =
    All-cons InRun b run (All-head InRun b (run ++ rest) a) (run-front run rest (All-tail InRun b (run ++ rest) a))

pub any-run : (p : List Sign) (n : List ℕ) → All InRun n → Match (AnyRun ∷ p) n → Match (Run ∷ p) n
any-run p n a m = (m.0, m.1, m.2, run-front m.0 m.1 (rw m.2 at a), m.4)

-- a `**` takes what the sign behind it stands for
pub any-absorbs : (s : Sign) (p : List Sign) (n : List ℕ) → Match (AnyRun ∷ s ∷ p) n → Match (AnyRun ∷ p) n
any-absorbs s p n m =
    let inner = m.4 in
    (m.0 ++ inner.0, inner.1, m.2 ∙ ap (λ x. m.0 ++ x) inner.2 ∙ sym (append_assoc m.0 inner.0 inner.1), tt, inner.4)

-- a `*` takes what a `*` behind it stands for, and a `**` takes what a `*` before it does
pub run-absorbs : (p : List Sign) (n : List ℕ) → Match (Run ∷ Run ∷ p) n → Match (Run ∷ p) n
run-absorbs p n m =
    let inner = m.4 in (
      m.0 ++ inner.0,
      inner.1,
      m.2 ∙ ap (λ x. m.0 ++ x) inner.2 ∙ sym (append_assoc m.0 inner.0 inner.1),
      All-append InRun m.0
          inner.0 m.3 inner.3,
      inner.4,
    )

pub any-absorbs_before : (p : List Sign) (n : List ℕ) → Match (Run ∷ AnyRun ∷ p) n → Match (AnyRun ∷ p) n
any-absorbs_before p n m =
    let inner = m.4 in
    (m.0 ++ inner.0, inner.1, m.2 ∙ ap (λ x. m.0 ++ x) inner.2 ∙ sym (append_assoc m.0 inner.0 inner.1), tt, inner.4)

-- a sign for one byte stands for one byte
pub one_of : (s : Sign) (run : List ℕ) → IsFixed s → StandsFor s run → (b : ℕ) × (run ≡ b ∷ []) × StandsFor s (b ∷ [])
one_of AnyRun run f h = absurd f
one_of Run run f h = absurd f
one_of One run f h = (h.0, h.2, (h.0, h.1, refl))
one_of (Byte b) run f h = (b, h, refl)

-- where it stands for a byte that a `*` takes, it stands for no `/`
pub in_run : (s : Sign) (b c : ℕ) → IsFixed s → StandsFor s (b ∷ []) → StandsFor s (c ∷ []) → b ≢ 47 → c ≢ 47
in_run AnyRun b c f h k ne = absurd f
in_run Run b c f h k ne = absurd f
in_run One b c f h k ne = λ e. k.1 cc
in_run (Byte x) b c f h k ne = λ e. ne cc

-- a run takes the byte of a sign that it stands before, in place of its own first
any-fixed_at : (p : List Sign) (b c : ℕ) (n run rest : List ℕ) → b ∷ n ≡ run ++ c ∷ rest → Match p rest → Match (AnyRun ∷ p) n
any-fixed_at p b c n [] rest e m = ([], rest, cc, tt, m)
any-fixed_at p b c n (d ∷ run) rest e m =
    let tail : n ≡ run ++ c ∷ rest = cc in
    (run ++ c ∷ [], rest, tail ∙ sym (append_assoc run (c ∷ []) rest), tt, m)

run-fixed_at : (p : List Sign) (b c : ℕ) (n run rest : List ℕ) → b ∷ n ≡ run ++ c ∷ rest → All InRun run → (b ≢ 47 → c ≢ 47)
    → Match p rest → Match (Run ∷ p) n
run-fixed_at p b c n [] rest e a h m = ([], rest, cc, All-nil InRun, m)
run-fixed_at p b c n (d ∷ run) rest e a h m =
    let tail : n ≡ run ++ c ∷ rest = cc in
    let same : b ≡ d = cc in
    let head : d ≢ 47 = All-head InRun d run a in
    (run ++ c ∷ [], rest, tail ∙ sym (append_assoc run (c ∷ []) rest), All-push InRun run c (All-tail InRun d run a) (h (rw same head)), m)

pub any-fixed : (s : Sign) (p : List Sign) (b : ℕ) (n : List ℕ) → IsFixed s → Match (AnyRun ∷ s ∷ p) (b ∷ n) → Match (AnyRun ∷ p) n
any-fixed s p b n f m =
    let inner = m.4 in
    let one = one_of s inner.0 f inner.3 in
    any-fixed_at p b one.0 n m.0 inner.1 (m.2 ∙ ap (λ x. m.0 ++ x) (inner.2 ∙ ap (λ x. x ++ inner.1) one.1)) inner.4

pub run-fixed : (s : Sign) (p : List Sign) (b : ℕ) (n : List ℕ) → IsFixed s → StandsFor s (b ∷ []) → Match (Run ∷ s ∷ p) (b ∷ n)
    → Match (Run ∷ p) n
run-fixed s p b n f h m =
    let inner = m.4 in
    let one = one_of s inner.0 f inner.3 in
    run-fixed_at p b one.0 n m.0 inner.1 (m.2 ∙ ap (λ x. m.0 ++ x) (inner.2 ∙ ap (λ x. x ++ inner.1) one.1)) m.3
    (in_run s b one.0 f h one.2) inner.4

-- a sign for one byte matches the first byte and leaves the rest, or doesn't match
pub fixed-on : (s : Sign) (p : List Sign) (b : ℕ) (n : List ℕ) → IsFixed s → Match (s ∷ p) (b ∷ n) → StandsFor s (b ∷ []) × Match p n
fixed-on s p b n f m =
    let one = one_of s m.0 f m.3 in
    let whole : b ∷ n ≡ one.0 ∷ m.1 = m.2 ∙ ap (λ x. x ++ m.1) one.1 in
    let first : b ≡ one.0 = cc in
    let rest : n ≡ m.1 = cc in
    (rw first one.2, rw rest m.4)
