use Rattle.std.proofs.Common.{◌≡◌, ◌<◌, List, [], ◌++◌, true, false, cond, length, get_or, ap, sym, ◌∙◌, subst}
use Rattle.std.proofs.Common.{append-nil, Vec, Global}
use Rattle.cue_show.specs.Devices.{is_among}
use Rattle.cue_exchange.specs.declared.attempt.Attempt.{Attempt}
use Rattle.cue_outbox.specs.declared.out.Out.{Out}
use Rattle.cue_outbox.specs.Sending.{datagrams}
use Rattle.cue_outbox.specs.Asked.{pending_of}
use Rattle.cue_outbox.specs.Owed.{datagrams_for}
use Rattle.cue_outbox.specs.Views.{outs_view}
use Rattle.cue_outbox.proofs.CountedLemmas.{owed-more}
use Rattle.cue_outbox.proofs.orders.pending_of.Goals as goal
use Rattle.cue_outbox.proofs.orders.pending_of.Goals.{then-is_among+in_ok-push_orders, else-is_among}

pub loop-attempt-preserved : goal.loop-attempt-preserved
loop-attempt-preserved c =
    let live : c.as_slice-attempt-items.result.now ≡ c.args.state.now.live = c.as_slice-attempt-items.ensures.value
    ∙ c.live.ensures.value in
    let P : List Attempt → Type 0 = λ xs. c.loop-attempt.attempt-index < length xs in
    let Q : List Attempt → Type 0 = λ xs. c.attempt-item.result ≡ get_or xs c.loop-attempt.attempt-index
    c.attempt-item.result in
    let new : outs_view c.if-is_among.asked.items ≡ outs_view c.loop-attempt.asked.items ++ cond
    (is_among c.attempt-item.result.seq c.args.numbers.now)
    (datagrams_for c.args.state.now c.attempt-item.result c.attempt-item.result.answers) [] =
    elim c.if-is_among.branch [
      | then-is_among+in_ok-push_orders w ↦
          let yes : true ≡ is_among c.attempt-item.result.seq c.args.numbers.now = sym w.if-is_among.true
          ∙ c.is_among.ensures in
          let more : outs_view w.push_orders.new.outs.items ≡ outs_view c.loop-attempt.asked.items ++ datagrams_for
          c.args.state.now c.attempt-item.result c.attempt-item.result.answers = w.in_ok-push_orders.ensures in
          ap (λ (v : Vec Out Global). outs_view v.items) w.asked-is
          ∙ (more ∙ ap (λ b. outs_view c.loop-attempt.asked.items ++ cond b
          (datagrams_for c.args.state.now c.attempt-item.result c.attempt-item.result.answers) []) yes)
      | else-is_among w ↦
          let no : false ≡ is_among c.attempt-item.result.seq c.args.numbers.now = sym w.if-is_among.false
          ∙ c.is_among.ensures in
          ap (λ (v : Vec Out Global). outs_view v.items) w.asked-is
          ∙ (sym (append-nil (outs_view c.loop-attempt.asked.items))
          ∙ ap (λ b. outs_view c.loop-attempt.asked.items ++ cond b
          (datagrams_for c.args.state.now c.attempt-item.result c.attempt-item.result.answers) []) no)
    ]
    in
    owed-more c.args.state.now c.args.numbers.now c.args.state.now.live c.loop-attempt.attempt-index
    c.attempt-item.result (outs_view c.loop-attempt.asked.items) (outs_view c.if-is_among.asked.items)
    (datagrams (pending_of c.args.numbers.now c.args.state.now)) (subst P live c.loop-attempt-test.true)
    (subst Q live c.attempt-item.is) new c.loop-attempt.invariant
