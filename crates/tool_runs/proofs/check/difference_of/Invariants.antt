use Rattle.tool_runs.proofs.check.difference_of.Given as goal

-- the room that is known is the one that is passed
abbrev pub ghosts-compare_in : goal.ghosts-compare_in
ghosts-compare_in g a = record { room = a.room }
