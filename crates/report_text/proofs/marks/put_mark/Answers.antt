use Rattle.report_text.proofs.marks.put_mark.Goals as goal

pub returns-in-Took : goal.returns-in-Took
returns-in-Took c = rw c.in-Took.is c.put_took.ensures

pub returns-in-Skipped : goal.returns-in-Skipped
returns-in-Skipped c = rw c.in-Skipped.is c.put_skipped.ensures
