use Rattle.cue_keeper.proofs.committing.add.Goals as goal

pub returns-in-Ok-clause-appends : goal.returns-in-Ok-clause-appends
returns-in-Ok-clause-appends g c = rw c.records.ensures.records at c.in-Ok.ensures.appends
