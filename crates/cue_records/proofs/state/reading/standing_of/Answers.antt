use Rattle.std.proofs.lemmas.Result.{err_from_is_err_and}
use Rattle.cue_records.proofs.StandingLemmas.{no_show, no_tail, stands}
use Rattle.cue_records.proofs.state.reading.standing_of.Goals as goal

pub returns-in_err-show : goal.returns-in_err-show
returns-in_err-show c =
    let p = err_from_is_err_and c.from_residual.result c.from_residual.ensures.1 in
    rw (p.1, p.2) (no_show c.args.form c.in_err-show.field-0.0 c.args.bytes.now c.new-show.result c.new-show.ensures
    c.in_err-show.ensures)

pub returns-in_err-last_seq : goal.returns-in_err-last_seq
returns-in_err-last_seq c =
    let p = err_from_is_err_and c.from_residual-in_err-last_seq.result c.from_residual-in_err-last_seq.ensures.1 in
    rw (p.1, p.2) (no_tail c.args.form c.in_err-last_seq.field-0.0 c.args.bytes.now c.new-show.result c.show.new.show
    c.show.new.self.rest.now c.new-live.result c.new-show.ensures c.new-live.ensures c.in_ok-show.ensures
    c.in_err-last_seq.ensures)

pub returns : goal.returns
returns c =
    rw c.ok_or.ensures.value
    (stands c.args.form c.args.bytes.now c.new-show.result c.show.new.show c.show.new.self.rest.now c.new-live.result
    c.tail.new.live c.in_ok-last_seq.last_seq c.in_ok-last_seq.ended c.of.result c.new-show.ensures
    c.new-live.ensures
    c.in_ok-show.ensures c.in_ok-last_seq.ensures c.of.ensures.found c.of.ensures.exact)
