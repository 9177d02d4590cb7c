-- What a packet is read as, by its first bytes: one equation for each case.
use Rattle.std.proofs.Common.{◌≡◌, ℕ, zero, suc, List, drop, Err, true, false, refl}
use Rattle.cue_osc.specs.declared.fault.Fault.TheVariants.{BadStart, TooDeep}
use Rattle.cue_osc.specs.Reading.{is_message_start, is_bundle_start, message_at, bundle_by, packet_at}

pub message_start : (d : ℕ) (bytes : List ℕ) → is_message_start bytes ≡ true → packet_at d bytes ≡ message_at bytes
unfolding packet_at
message_start zero bytes e = rw e refl
message_start (suc d) bytes e = rw e refl

pub no_start : (d : ℕ) (bytes : List ℕ) → is_message_start bytes ≡ false → is_bundle_start bytes ≡ false
    → packet_at d bytes ≡ Err BadStart
unfolding packet_at
no_start zero bytes e f = rw (e, f) refl
no_start (suc d) bytes e f = rw (e, f) refl

pub too_deep : (bytes : List ℕ) → is_message_start bytes ≡ false → is_bundle_start bytes ≡ true
    → packet_at 0 bytes ≡ Err TooDeep
unfolding packet_at
too_deep bytes e f = rw (e, f) refl

pub bundle_start : (d : ℕ) (bytes : List ℕ) → is_message_start bytes ≡ false → is_bundle_start bytes ≡ true
    → packet_at (suc d) bytes ≡ bundle_by (packet_at d) (drop 8 bytes)
unfolding packet_at
bundle_start d bytes e f = rw (e, f) refl
