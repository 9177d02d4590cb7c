-- What a wire in memory reports.
use Rattle.std.specs.Prelude.{◌≡◌, ℕ, Bool, true, ◌==◌, if◌then◌else◌, List, map, Option, None, Some}
use Rattle.cue_engine.specs.declared.mem_wire.Sent.{Sent}
use Rattle.cue_engine.specs.declared.mem_wire.MemWire.{MemWire}
use Rattle.cue_engine.specs.Wires.{Handed}

-- a datagram that was handed over, as the definitions have it
abbrev pub sent_view : Sent → Handed
sent_view sent = record { to = sent.to; bytes = sent.bytes.items; refused = sent.refused }

abbrev pub sents_view : List Sent → List Handed
sents_view sent = map sent_view sent

-- all that was handed over; None if it reports nothing
abbrev pub told_by : MemWire → Option (List Handed)
told_by wire = if wire.tells then Some (sents_view wire.sent.items) else None

-- which of the next sends is refused, where the next one is the first; 0: none
abbrev pub refuse_in_of : MemWire → ℕ
refuse_in_of wire = wire.refuse_in

-- A send is refused if that was planned for it, and else only if the wire reports nothing any more.
abbrev pub IsAsPlanned : ℕ → Bool → Option (List Handed) → Type 0
IsAsPlanned refuse_in refused None = refuse_in ≡ 1 → refused ≡ true
IsAsPlanned refuse_in refused (Some all) = refused ≡ (refuse_in == 1)
