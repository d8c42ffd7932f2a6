use Rattle.awk_form_tests.proofs.back.an_array_comes_back.Given as goal

abbrev pub ghosts-try_back : goal.ghosts-try_back
ghosts-try_back g a = record { name = a.blank.name; parts = a.blank.parts }
