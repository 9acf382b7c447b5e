-- What is known of an answer that is an error.
use Rattle.std.proofs.Common.{◌≡◌, ℕ, List, Option, Result, Ok, Err, IfErr, OnErr, rules}
use Rattle.jm_bytes.specs.Metered.{Metered}
use Rattle.jm_jrt.specs.declared.serve_error.ServeError.{ServeError}
use Rattle.jm_jrt.specs.Sessions.{Serves}

-- two facts of an error, as another one
pub err_from : {T X : Type 0} (P Q : ServeError → Type 0) (answer : Result T ServeError) → IfErr answer P → OnErr answer X
    → ((error : ServeError) → P error → X → Q error) → IfErr answer Q
err_from P Q (Ok _) fact other from = tt
err_from P Q (Err e) fact other from = from e fact other

-- what a session left, said of what it was lent
pub serves_lent : (b : List ℕ) (answer : Result ℕ ServeError) (rest new_rest out new_out lent_out : Option (List ℕ))
    (reads new_reads lent_reads : Metered) → new_out ≡ lent_out → new_reads ≡ lent_reads
    → Serves b answer rest new_rest out new_out reads new_reads → Serves b answer rest new_rest out lent_out reads lent_reads
serves_lent b answer rest new_rest out new_out lent_out reads new_reads lent_reads same_out same_reads serves = search (rules)
