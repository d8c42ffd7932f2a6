use Rattle.awk_form_tests.proofs.orders.bytes_are_loaded_in_both_orders.Given as goal

abbrev pub ghosts-try_orders : goal.ghosts-try_orders
ghosts-try_orders g a = record { name = a.blank.name; parts = a.blank.parts }
