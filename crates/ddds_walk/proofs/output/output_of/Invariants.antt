use Rattle.ddds_walk.proofs.output.output_of.Given as goal

-- the steps are counted in the new ledger
abbrev pub ghosts-output_inner : goal.ghosts-output_inner
ghosts-output_inner a = record { name = a.blank.name; parts = a.blank.parts }
