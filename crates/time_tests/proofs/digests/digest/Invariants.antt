use Rattle.time_tests.proofs.digests.digest.Given as goal

abbrev pub ghosts-counted_digest : goal.ghosts-counted_digest
ghosts-counted_digest a = record { name = a.blank.name; parts = a.blank.parts }
