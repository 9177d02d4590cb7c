-- What a relay keeps of numbers and moments.
use Rattle.std.specs.Prelude.{◌≡◌, ℕ, ◌+◌, ◌-◌, ◌^◌, ◌&&◌, ◌||◌, ◌==◌, Bool, true, false, not, nat_lt, nat_le, nat_eq}
use Rattle.std.specs.Prelude.{min}
use Rattle.std.specs.Prelude.{if◌then◌else◌, Option, Some, None}
use Rattle.cue_machine.specs.declared.post.Output.{Output}
use Rattle.cue_machine.specs.declared.post.Output.TheVariants as output
use Rattle.cue_relay.specs.declared.relaying.Counts.{Counts}
use Rattle.cue_relay_machine.specs.declared.books.Books.{Books}
use Rattle.cue_relay_machine.specs.declared.books.TheConstants.{DROPPED_PAUSE, TICK}

-- the highest number that there is room for
abbrev pub highest : ℕ
highest = 2 ^ 64 - 1

-- one more, up to the highest
abbrev pub counted : ℕ → ℕ
counted n = if nat_lt n highest then n + 1 else n

abbrev pub with_counts : Books → Counts → Books
with_counts b counts = record {
  counts = counts;
  ticked = b.ticked;
  reported = b.reported;
  reported_at = b.reported_at;
  lost = b.lost;
  told = b.told;
}

-- nothing came yet
abbrev pub new_books : ℕ → Books
new_books now = record {
  counts = record { passed = 0; lost = 0; dropped = 0 };
  ticked = now;
  reported = 0;
  reported_at = 0;
  lost = false;
  told = false;
}

-- ---- datagrams

-- one more was handed on
abbrev pub one_passed : Books → Books
one_passed b = with_counts b
    (record { passed = counted b.counts.passed; lost = b.counts.lost; dropped = b.counts.dropped })

-- one more was dropped
abbrev pub one_dropped : Books → Books
one_dropped b = with_counts b
    (record { passed = b.counts.passed; lost = b.counts.lost; dropped = counted b.counts.dropped })

-- ---- what was lost

-- one that was handed on was lost; or the status could not be written
abbrev pub one_lost : Books → Output → Books
one_lost b (output.Send by to) = with_counts b
    (record { passed = b.counts.passed - 1; lost = counted b.counts.lost; dropped = b.counts.dropped })
one_lost b output.Replace = record {
  counts = b.counts;
  ticked = b.ticked;
  reported = b.reported;
  reported_at = b.reported_at;
  lost = true;
  told = b.told;
}
one_lost b output.Print = b
one_lost b output.Say = b

-- A copy of a GO is counted nowhere: what is sent at a wake is one.
abbrev pub is_copy : (woken : Bool) → Output → Bool
is_copy woken (output.Send by to) = woken
is_copy woken output.Replace = false
is_copy woken output.Print = false
is_copy woken output.Say = false

-- the books once this was lost that was given last
abbrev pub books_lost : (woken : Bool) → Books → Output → Books
books_lost woken b lost = if is_copy woken lost then b else one_lost b lost

-- ---- time

-- a tenth of a second has passed since the last tick, or the clock was put back before it
abbrev pub is_due : Books → ℕ → Bool
is_due b now = nat_lt now b.ticked || nat_le TICK (now - b.ticked)

-- ten seconds have passed since it was said how many were dropped, or the clock was put back before that
abbrev pub is_report_due : Books → ℕ → Bool
is_report_due b now = nat_lt now b.reported_at || nat_le DROPPED_PAUSE (now - b.reported_at)

-- some were dropped of which nothing was said
abbrev pub has_more_dropped : Books → Bool
has_more_dropped b = not (b.counts.dropped == b.reported)

abbrev pub reports : Books → ℕ → Bool
reports b now = has_more_dropped b && is_report_due b now

-- how many were dropped since it was said, if it is said now
abbrev pub report : Books → ℕ → Option ℕ
report b now = if reports b now then Some (b.counts.dropped - b.reported) else None

-- it is said now that the status cannot be written: the last one could not, and nothing was said of it
abbrev pub says_trouble : Books → Bool
says_trouble b = b.lost && not b.told

-- the books after a tick
abbrev pub ticked : Books → ℕ → Books
ticked b now = record {
  counts = b.counts;
  ticked = now;
  reported = if reports b now then b.counts.dropped else b.reported;
  reported_at = if reports b now then now else b.reported_at;
  lost = false;
  told = b.lost;
}

-- the next tenth of a second
abbrev pub next_tick : Books → ℕ
next_tick b = min (b.ticked + TICK) highest
