use Rattle.jm_call_cases.proofs.sessions.told_session.Given as goal

abbrev pub ghosts-counted-H-Ledger : goal.ghosts-counted-H-Ledger
ghosts-counted-H-Ledger g a = record { name = a.blanks.0.name; parts = a.blanks.0.parts }

abbrev pub ghosts-counted-R-Ledger : goal.ghosts-counted-R-Ledger
ghosts-counted-R-Ledger g a = record { name = a.blanks.1.name; parts = a.blanks.1.parts }
