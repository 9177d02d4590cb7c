use Rattle.std.proofs.Common.{◌≡◌, ◌++◌, List, drop}
use Rattle.cue_evening.specs.Looks.{Entry, Grew, orders_entries}
use Rattle.cue_evening.proofs.teller.Writer.tell_orders.Given as goal

-- what was written and what the orders that are left make is what all of them make
abbrev pub invariant-loop-order : goal.invariant-loop-order
invariant-loop-order g l =
    (entries : List Entry) × Grew (g.P.Paper.told l.fn.self.page) entries (g.P.Paper.told l.self.page)
    × (entries ++ orders_entries l.last (drop l.order-index l.orders) l.left.left.now l.self.course
    ≡ orders_entries l.last l.orders l.sent.left.now l.fn.self.course)
    × (l.self.course ≡ l.fn.self.course)
