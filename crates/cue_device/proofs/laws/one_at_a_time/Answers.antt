use Rattle.cue_device.proofs.HistoryLemmas.{all_lawful}
use Rattle.cue_device.proofs.OrderLemmas.{may_come}
use Rattle.cue_device.specs.Hearing.{device_at_rest}
use Rattle.cue_device.specs.Histories.{answers_of, orders_of, unfinished_order}
use Rattle.cue_device.proofs.laws.one_at_a_time.Goals as goal

pub returns : goal.returns
returns c = λ d over h hs o k e. may_come o (orders_of (device_at_rest d over) hs)
    (answers_of (device_at_rest d over) hs)
    (unfinished_order (device_at_rest d over) hs) (all_lawful d over h hs o k e)
