use Rattle.awk_data_tests.proofs.counted.lanes_bits_and_buffers_are_read_and_made.Given as goal

abbrev pub ghosts-try_counted : goal.ghosts-try_counted
ghosts-try_counted g a = record { name = a.blank.name; parts = a.blank.parts }
