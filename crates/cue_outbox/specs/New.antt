-- What is pending after some events, and was not before.
use Rattle.std.specs.Prelude.{ℕ, Bool, not, ◌&&◌, List, filter, nat_eq}
use Rattle.std.specs.List.{list_any}
use Rattle.std.specs.Cmp.Lexicographic.{pointwise}
use Rattle.cue_core.specs.State.{ShowState}
use Rattle.cue_outbox.specs.Sending.{Send, datagram, datagrams, all_pending}

-- the same port and the same bytes
abbrev pub same_datagram : ℕ × List ℕ → ℕ × List ℕ → Bool
same_datagram a b = nat_eq a.0 b.0 && pointwise nat_eq a.1 b.1

-- none of the old ones is the same datagram
abbrev pub is_new : List (ℕ × List ℕ) → ℕ × Send → Bool
is_new old send = not (list_any (λ o. same_datagram o (datagram send)) old)

-- the members of the pending list after that were not in the one before
unfoldable pub newly_pending : ShowState → ShowState → List (ℕ × Send)
newly_pending before after = filter (is_new (datagrams (all_pending before))) (all_pending after)
