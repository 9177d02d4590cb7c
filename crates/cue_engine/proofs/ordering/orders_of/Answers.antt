use Rattle.std.proofs.Common.{◌≡◌, List, [], ◌++◌, true, false, cond, if◌then◌else◌, ap, sym, ◌∙◌, append-nil, Vec}
use Rattle.std.proofs.Common.{Global}
use Rattle.cue_show.specs.Devices.{is_among}
use Rattle.cue_exchange.specs.declared.attempt.Attempt.{Attempt}
use Rattle.cue_engine.specs.declared.account.Order.{Order}
use Rattle.cue_engine.specs.Accounts.{orders_for}
use Rattle.cue_engine.proofs.OrderingLemmas.{one-more}
use Rattle.cue_engine.proofs.ordering.orders_of.Goals as goal
use Rattle.cue_engine.proofs.ordering.orders_of.Goals.{then-is_among+in_ok-push_orders, else-is_among}

pub loop-attempt-preserved : goal.loop-attempt-preserved
loop-attempt-preserved c =
    let live : c.as_slice-attempt-items.result.now ≡ c.args.state.now.live = c.as_slice-attempt-items.ensures.value
    ∙ c.live.ensures.value in
    let here : List Order = orders_for true c.args.state.now c.attempt-item.result c.attempt-item.result.answers in
    let new : c.if-is_among.orders.items ≡ c.loop-attempt.orders.items ++ cond
    (is_among c.attempt-item.result.seq c.args.numbers.now) here [] =
    elim c.if-is_among.branch [
      | then-is_among+in_ok-push_orders w ↦
          let yes : true ≡ is_among c.attempt-item.result.seq c.args.numbers.now = sym w.if-is_among.true
          ∙ c.is_among.ensures in
          let more : w.push_orders.new.orders.items ≡ c.loop-attempt.orders.items ++ here =
          w.in_ok-push_orders.ensures in
          ap (λ (v : Vec Order Global). v.items) w.orders-is
          ∙ (more ∙ ap (λ b. c.loop-attempt.orders.items ++ cond b here []) yes)
      | else-is_among w ↦
          let no : false ≡ is_among c.attempt-item.result.seq c.args.numbers.now = sym w.if-is_among.false
          ∙ c.is_among.ensures in
          ap (λ (v : Vec Order Global). v.items) w.orders-is
          ∙ (sym (append-nil c.loop-attempt.orders.items)
          ∙ ap (λ b. c.loop-attempt.orders.items ++ cond b here []) no)
    ]
    in
    one-more (λ (a : Attempt). if is_among a.seq c.args.numbers.now then orders_for true c.args.state.now a a.answers
    else []) c.args.state.now.live c.loop-attempt.orders.items (rw live at c.loop-attempt-test.true)
    (rw live at c.attempt-item.is) new c.loop-attempt.invariant
