use Rattle.awk_raw_examples.proofs.main.Given as goal

abbrev pub ghosts-answer_input : goal.ghosts-answer_input
ghosts-answer_input a = record { name = a.blank.name; parts = a.blank.parts }

abbrev pub ghosts-answer_part : goal.ghosts-answer_part
ghosts-answer_part a = record { name = a.blank.name; parts = a.blank.parts }
