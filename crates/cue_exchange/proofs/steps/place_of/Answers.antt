use Rattle.std.proofs.Common.{◌≡◌, nat_lt, length, vec_len, rules}
use Rattle.cue_exchange.proofs.PlaceLemmas.{unwrap_or-position}
use Rattle.cue_exchange.proofs.steps.place_of.Goals as goal

pub returns-clause-place : goal.returns-clause-place
returns-clause-place c =
    let len : vec_len c.args.attempts.now ≡ length c.args.attempts.now.items = search rules in
    rw (c.unwrap_or.ensures, c.first_above.ensures, c.len.ensures, len)
    (unwrap_or-position (λ a. nat_lt c.args.seq a.seq) c.args.attempts.now.items)
