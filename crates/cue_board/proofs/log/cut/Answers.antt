use Rattle.std.proofs.Common.{◌≡◌, ℕ, List, [], drop, length, refl, arith}
use Rattle.std.specs.Str.{trim_start}
use Rattle.std.proofs.lemmas.List.{drop_all}
use Rattle.std.proofs.lemmas.Str.{chars-nil}
use Rattle.cue_board.proofs.log.cut.Goals as goal

-- nothing is left after the whole text
nothing_left : (text : List ℕ) → [] ≡ trim_start (drop (length text) text)
unfolding trim_start
nothing_left text = rw (drop_all (length text) text (omega arith), chars-nil) refl

pub returns-then-text-room-clause-rest : goal.returns-then-text-room-clause-rest
returns-then-text-room-clause-rest c = nothing_left c.args.text.now

pub returns-in-None-split_at_checked-clause-rest : goal.returns-in-None-split_at_checked-clause-rest
returns-in-None-split_at_checked-clause-rest c = nothing_left c.args.text.now
