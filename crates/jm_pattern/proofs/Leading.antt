-- The steps of a search for a match: each leads from what was left to what is left behind it.
use Rattle.std.proofs.Common.{◌≡◌, ◌≢◌, ◌==◌, ◌∷◌, [], ℕ, Bool, true, false, cond, List, All, refl, subst}
use Rattle.std.proofs.lemmas.Bool.{eqb-false}
use Rattle.std.proofs.lemmas.List.Elements.{All-nil, All-cons, All-head}
use Rattle.jm_pattern.specs.Matching.{StandsFor, Match}
use Rattle.jm_pattern.specs.MatchingSteps.{Leads, IsFixed, BeginsFixed, AtRun, AtAny, behind_line}
use Rattle.jm_pattern.proofs.Runs.{InRun, any-empty, run-empty, any-longer, run-longer, any-shorter}
use Rattle.jm_pattern.proofs.Runs.{run-shorter, any-absorbs, run-absorbs, any-absorbs_before, any-fixed}
use Rattle.jm_pattern.proofs.Runs.{any-run, run-fixed, fixed-on}
use Rattle.jm_pattern.specs.declared.signs.Sign.{Sign}
use Rattle.jm_pattern.specs.declared.signs.Sign.TheVariants.{AnyRun, Run, One, Byte}

pub leads-here : (p : List Sign) (n : List ℕ) → Leads p n p n
leads-here p n = record { back = λ m. m; on = λ m. m; run = λ m. m; any = λ m. m }

pub leads-further : (p : List Sign) (n : List ℕ) (q : List Sign) (o : List ℕ) (r : List Sign) (t : List ℕ) → Leads p n q o
    → Leads q o r t → Leads p n r t
leads-further p n q o r t first second = record {
  back = λ m. first.back (second.back m);
  on = λ m. second.on (first.on m);
  run = λ m. second.run (first.run m);
  any = λ m. second.any (first.any m);
}

-- one byte of a sign for one byte
pub leads-fixed : (s : Sign) (p : List Sign) (b : ℕ) (n : List ℕ) → IsFixed s → StandsFor s (b ∷ []) → Leads (s ∷ p) (b ∷ n) p n
leads-fixed s p b n f h = record {
  back = λ m. (b ∷ [], n, refl, h, m);
  on = λ m. (fixed-on s p b n f m).1;
  run = λ m. run-fixed s p b n f h m;
  any = λ m. any-fixed s p b n f m;
}

-- a run at whose front the signs behind it don't match takes the first byte
pub leads-run_byte : (p : List Sign) (b : ℕ) (n : List ℕ) → ¬ Match p (b ∷ n) → b ≢ 47 → Leads (Run ∷ p) (b ∷ n) (Run ∷ p) n
leads-run_byte p b n not_here h =
    let on : Match (Run ∷ p) (b ∷ n) → Match (Run ∷ p) n = λ m. (run-shorter p b n not_here m).1 in
    record {
      back = λ m. run-longer p b n h m;
      on = on;
      run = λ m. run-empty (Run ∷ p) n (on (run-absorbs p (b ∷ n) m));
      any = λ m. any-run p n (any-shorter p b n not_here (any-absorbs Run p (b ∷ n) m));
    }
  where
    any-run : (q : List Sign) (o : List ℕ) → Match (AnyRun ∷ q) o → Match (AnyRun ∷ Run ∷ q) o
    any-run q o m = (m.0, m.1, m.2, tt, run-empty q m.1 m.4)

pub leads-any_byte : (p : List Sign) (b : ℕ) (n : List ℕ) → ¬ Match p (b ∷ n) → Leads (AnyRun ∷ p) (b ∷ n) (AnyRun ∷ p) n
leads-any_byte p b n not_here =
    let on : Match (AnyRun ∷ p) (b ∷ n) → Match (AnyRun ∷ p) n = λ m. any-shorter p b n not_here m in
    record {
      back = λ m. any-longer p b n m;
      on = on;
      run = λ m. run-empty (AnyRun ∷ p) n (on (any-absorbs_before p (b ∷ n) m));
      any = λ m. any-empty (AnyRun ∷ p) n (on (any-absorbs AnyRun p (b ∷ n) m));
    }

-- at the end of a block or a segment a run before it adds nothing
run-at_run : (p : List Sign) (n : List ℕ) → AtRun p n → Match (Run ∷ p) n → Match p n
run-at_run [] n e m = e
run-at_run (AnyRun ∷ p) n e m = any-absorbs_before p n m
run-at_run (Run ∷ p) n e m = run-absorbs p n m
run-at_run (One ∷ p) n e m = absurd (e tt)
run-at_run (Byte b ∷ p) n e m = absurd (e tt)

any-at_any : (p : List Sign) (n : List ℕ) → AtAny p n → Match (AnyRun ∷ p) n → Match p n
any-at_any [] n e m = e
any-at_any (s ∷ p) n e m = rw e (any-absorbs AnyRun p n (rw e at m))

-- a block or a segment that stands at its least place decides for the run before it
pub leads-run : (p : List Sign) (n : List ℕ) (q : List Sign) (o : List ℕ) → Leads p n q o → AtRun q o → Leads (Run ∷ p) n q o
leads-run p n q o l e =
    let on : Match (Run ∷ p) n → Match q o = λ m. run-at_run q o e (l.run m) in
    record {
      back = λ m. run-empty p n (l.back m);
      on = on;
      run = λ m. run-empty q o (on (run-absorbs p n m));
      any = λ m. l.any (any-absorbs Run p n m);
    }

pub leads-any : (p : List Sign) (n : List ℕ) (q : List Sign) (o : List ℕ) → Leads p n q o → AtAny q o → Leads (AnyRun ∷ p) n q o
leads-any p n q o l e =
    let on : Match (AnyRun ∷ p) n → Match q o = λ m. any-at_any q o e (l.any m) in
    record {
      back = λ m. any-empty p n (l.back m);
      on = on;
      run = λ m. run-empty q o (on (any-absorbs_before p n m));
      any = λ m. any-empty q o (on (any-absorbs AnyRun p n m));
    }

-- a `**` may stop within its first line for what a `*` takes of it
leads-any_line : (p : List Sign) (n : List ℕ) → Leads (AnyRun ∷ p) n (AnyRun ∷ Run ∷ p) n
leads-any_line p n =
    let on : Match (AnyRun ∷ p) n → Match (AnyRun ∷ Run ∷ p) n = λ m. (m.0, m.1, m.2, tt, run-empty p m.1 m.4) in
    record {
      back = λ m. any-absorbs Run p n m;
      on = on;
      run = λ m. run-empty (AnyRun ∷ Run ∷ p) n (on (any-absorbs_before p n m));
      any = λ m. any-empty (AnyRun ∷ Run ∷ p) n (on (any-absorbs AnyRun p n m));
    }

-- the same, of a name and signs that begin so
pub leads-one : (signs : List Sign) (name : List ℕ) (s : Sign) (p : List Sign) (b : ℕ) (n : List ℕ) → signs ≡ s ∷ p → name ≡ b ∷ n
    → BeginsFixed signs → StandsFor s (b ∷ []) → Leads signs name p n
leads-one signs name s p b n e1 e2 f h = rw (e1, e2) (leads-fixed s p b n (rw e1 at f) h)

-- a `*` at a byte that it may take, behind which nothing matches here, and at one that it may not
pub leads-run_on : (p : List Sign) (n rest : List ℕ) (b : ℕ) (after : List ℕ) → Leads (Run ∷ p) n (Run ∷ p) rest → rest ≡ b ∷ after
    → ¬ Match p rest → StandsFor Run (b ∷ []) → Leads (Run ∷ p) n (Run ∷ p) after
leads-run_on p n rest b after l e not_here h =
    leads-further (Run ∷ p) n (Run ∷ p) (b ∷ after) (Run ∷ p) after (rw e at l) (leads-run_byte p b after (rw e at not_here)
    (All-head InRun b [] h))

pub none-run_on : (p : List Sign) (n rest : List ℕ) (b : ℕ) (after : List ℕ) → Leads (Run ∷ p) n (Run ∷ p) rest → rest ≡ b ∷ after
    → ¬ Match p rest → ¬ StandsFor Run (b ∷ []) → ¬ Match (Run ∷ p) n
none-run_on p n rest b after l e not_here h m =
    h (All-cons InRun b [] (run-shorter p b after (rw e at not_here) (rw e at (l.on m))).0 (All-nil InRun))

-- a segment that stands in the first line decides for the `**` before it
pub leads-in_line : (p : List Sign) (n : List ℕ) (q : List Sign) (o : List ℕ) → Leads (Run ∷ p) n q o → AtAny q o → Leads (AnyRun ∷ p) n q o
leads-in_line p n q o l e =
    leads-further (AnyRun ∷ p) n (AnyRun ∷ Run ∷ p) n q o (leads-any_line p n) (leads-any (Run ∷ p) n q o l e)

-- where it stands nowhere in the first line, the `**` takes that line
pub leads-next_line : (p : List Sign) (n : List ℕ) → ¬ Match (Run ∷ p) n → Leads (AnyRun ∷ p) n (AnyRun ∷ p) (behind_line n)
leads-next_line p [] not_here = leads-here (AnyRun ∷ p) []
leads-next_line p (b ∷ n) not_here = go (b == 47) refl (leads-next_line p n)
  where
    byte : Leads (AnyRun ∷ p) (b ∷ n) (AnyRun ∷ p) n
    byte = leads-any_byte p b n (λ m. not_here (run-empty p (b ∷ n) m))

    go : (slash : Bool) → b == 47 ≡ slash → (¬ Match (Run ∷ p) n → Leads (AnyRun ∷ p) n (AnyRun ∷ p) (behind_line n))
        → Leads (AnyRun ∷ p) (b ∷ n) (AnyRun ∷ p) (cond slash n (behind_line n))
    go true e more = byte
    go false e more =
        leads-further (AnyRun ∷ p) (b ∷ n) (AnyRun ∷ p) n (AnyRun ∷ p) (behind_line n) byte
        (more (λ m. not_here (run-longer p b n (eqb-false b 47 e) m)))

-- the same, a line after others
pub leads-line_on : (p : List Sign) (n rest after : List ℕ) → Leads (AnyRun ∷ p) n (AnyRun ∷ p) rest → ¬ Match (Run ∷ p) rest
    → after ≡ behind_line rest → Leads (AnyRun ∷ p) n (AnyRun ∷ p) after
leads-line_on p n rest after l not_here e =
    leads-further (AnyRun ∷ p) n (AnyRun ∷ p) rest (AnyRun ∷ p) after l (rw e (leads-next_line p rest not_here))

-- and there is no other line
pub none-line_on : (p : List Sign) (n rest : List ℕ) → Leads (AnyRun ∷ p) n (AnyRun ∷ p) rest → ¬ Match (Run ∷ p) rest
    → All InRun rest → ¬ Match (AnyRun ∷ p) n
none-line_on p n rest l not_here a m = not_here (any-run p rest a (l.on m))

-- the sign behind a segment is a `**`, and none matches where it doesn't
pub none-past_any : (p : List Sign) (n : List ℕ) (q : List Sign) (o : List ℕ) (s : Sign) (behind : List Sign) → Leads p n q o
    → AtAny q o → q ≡ s ∷ behind → ¬ Match (AnyRun ∷ behind) o → ¬ Match p n
none-past_any p n q o s behind l e same none m =
    let first : s ≡ AnyRun = rw same at e in
    none (subst (λ x. Match (x ∷ behind) o) first (subst (λ signs. Match signs o) same (l.on m)))

pub leads-past_any : (p : List Sign) (n : List ℕ) (q : List Sign) (o : List ℕ) (s : Sign) (behind r : List Sign) (t : List ℕ)
    → Leads p n q o → AtAny q o → q ≡ s ∷ behind → Leads (AnyRun ∷ behind) o r t → Leads p n r t
leads-past_any p n q o s behind r t l e same next =
    let first : s ≡ AnyRun = rw same at e in
    leads-further p n (AnyRun ∷ behind) o r t (rw (same, first) at l) next
