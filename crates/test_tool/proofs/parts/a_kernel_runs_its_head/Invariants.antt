use Rattle.test_tool.proofs.parts.a_kernel_runs_its_head.Given as goal

abbrev pub ghosts-run_to_three : goal.ghosts-run_to_three
ghosts-run_to_three g a = record { name = a.blank.name; parts = a.blank.parts }
