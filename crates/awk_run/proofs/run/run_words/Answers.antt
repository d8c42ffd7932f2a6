use Rattle.awk_run.proofs.Complete.{completes, completes_told, whole_known}
use Rattle.awk_run.proofs.MadeLaws.{same_made, made_as, made_known}
use Rattle.awk_run.proofs.run.run_words.Goals as goal

pub returns-in-Some-Run-clause-complete : goal.returns-in-Some-Run-clause-complete
returns-in-Some-Run-clause-complete g c =
    λ words read write memory. completes c.run.result c.run.ensures.session c.run.ensures.not_words
    memory (λ e. read (c.run.ensures.read e)) (λ e. write (c.run.ensures.write e))

pub returns-in-Some-Run-clause-complete_told : goal.returns-in-Some-Run-clause-complete_told
returns-in-Some-Run-clause-complete_told g c =
    λ bytes told limits words read write memory. completes_told c.run.result c.run.ensures.session
    c.run.ensures.not_words memory (λ e. read (c.run.ensures.read e))
    (λ e. write (c.run.ensures.write e)) bytes told limits

pub returns-in-Some-Run-clause-answers : goal.returns-in-Some-Run-clause-answers
returns-in-Some-Run-clause-answers g c = λ words. whole_known c.run.result c.run.ensures.session

pub returns-in-Some-Make-clause-made : goal.returns-in-Some-Make-clause-made
returns-in-Some-Make-clause-made g c = λ seed events m.
    let asked = rw c.in-Some-Make.field-0-is at c.in-Some-Make.ensures in
    made_as c.make.result (same_made c.args.words.now c.in-Some-Make.seed c.in-Some-Make.events seed
    events asked m) c.make.ensures.made

pub returns-in-Some-Make-clause-answers_made : goal.returns-in-Some-Make-clause-answers_made
returns-in-Some-Make-clause-answers_made g c = λ seed events m.
    let asked = rw c.in-Some-Make.field-0-is at c.in-Some-Make.ensures in
    let made = made_as c.make.result (same_made c.args.words.now c.in-Some-Make.seed
    c.in-Some-Make.events seed events asked m) c.make.ensures.made in
    λ before told done. made_known c.make.result made before told done
