-- How far a live attempt has come.
use Rattle.std.specs.Prelude.{ℕ, Bool, List, codes, not, ◌==◌, if◌then◌else◌}
use Rattle.cue_exchange.specs.Answers.{some_waits}
use Rattle.cue_exchange.specs.declared.attempt.Stage.{Stage}
use Rattle.cue_exchange.specs.declared.attempt.Stage.TheVariants as stage
use Rattle.cue_view.specs.declared.view.LiveAttempt.{LiveAttempt}
use Rattle.cue_board.specs.declared.progress.Progress.{Progress}
use Rattle.cue_board.specs.declared.progress.Progress.TheVariants as progress

-- it prepares: ready only if GO can be given for it; nobody knows how far it has come if the store is not in sight
abbrev pub preparing_as : Bool → LiveAttempt → Progress
preparing_as in_sight a =
    if not in_sight then progress.Unseen else if a.ready then progress.Ready
    else if a.left == 0 then progress.Over
    else if some_waits a.devices then progress.Preparing else progress.Held

abbrev pub progress_at : Bool → Stage → LiveAttempt → Progress
progress_at in_sight stage.Preparing a = preparing_as in_sight a
progress_at in_sight stage.Decided a = progress.Given
progress_at in_sight (stage.Cancelling reason) a = progress.GivenUp reason

-- how far it has come
abbrev pub progress_of : Bool → LiveAttempt → Progress
progress_of in_sight a = progress_at in_sight a.stage a

-- as one word, and no two the same
abbrev pub word_of : Progress → List ℕ
word_of progress.Ready = codes "ready"
word_of progress.Held = codes "held"
word_of progress.Preparing = codes "preparing"
word_of progress.Over = codes "over"
word_of progress.Unseen = codes "unseen"
word_of progress.Given = codes "given"
word_of (progress.GivenUp reason) = codes "given up"
