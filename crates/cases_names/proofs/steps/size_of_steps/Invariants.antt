use Rattle.cases_names.proofs.steps.size_of_steps.Given as goal

-- the steps are counted in the new ledger
abbrev pub ghosts-two_steps : goal.ghosts-two_steps
ghosts-two_steps a = record { name = a.blank.name; parts = a.blank.parts }
