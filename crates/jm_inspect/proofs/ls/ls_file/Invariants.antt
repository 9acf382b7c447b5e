use Rattle.jm_inspect.proofs.ls.ls_file.Given as goal

abbrev pub ghosts-node_counted-H-Ledger : goal.ghosts-node_counted-H-Ledger
ghosts-node_counted-H-Ledger g a = record { name = a.blanks.hashes.name; parts = a.blanks.hashes.parts }

abbrev pub ghosts-node_counted-R-Ledger : goal.ghosts-node_counted-R-Ledger
ghosts-node_counted-R-Ledger g a = record { name = a.blanks.reads.name; parts = a.blanks.reads.parts }

abbrev pub ghosts-list_folder-H-Ledger : goal.ghosts-list_folder-H-Ledger
ghosts-list_folder-H-Ledger g a = record { name = a.blanks.hashes.name; parts = a.blanks.hashes.parts }

abbrev pub ghosts-list_folder-R-Ledger : goal.ghosts-list_folder-R-Ledger
ghosts-list_folder-R-Ledger g a = record { name = a.blanks.reads.name; parts = a.blanks.reads.parts }
