use Rattle.cases_rules.proofs.substitutions.applied.Given as goal

-- the steps are counted in the new ledger
abbrev pub ghosts-counted : goal.ghosts-counted
ghosts-counted a = record { name = a.blank.name; parts = a.blank.parts }
