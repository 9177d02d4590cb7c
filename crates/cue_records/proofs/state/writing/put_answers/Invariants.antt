use Rattle.std.proofs.Common.{◌≡◌, ◌++◌, drop}
use Rattle.cue_records.specs.State.{answers_text}
use Rattle.cue_records.proofs.state.writing.put_answers.Given as goal

-- what was written, and the answers that are left, are all
abbrev pub invariant-loop-answer : goal.invariant-loop-answer
invariant-loop-answer l = l.out.items ++ answers_text (drop l.answer-index l.answers) ≡ l.fn.out.items ++ answers_text
    l.answers
