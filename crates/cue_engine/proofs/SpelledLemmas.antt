-- What is taken from a datagram is what the grammar makes of it.
use Rattle.std.proofs.Common.{◌≡◌, ℕ, ◌<◌, ◌≤◌, Bool, true, false, cond, ltb, List, length, Result, Ok, Err, refl, sym}
use Rattle.std.proofs.Common.{ap, subst, ◌∙◌, arith, inl, inr}
use Rattle.std.proofs.lemmas.Bool.{cases_Bool, lt-ltb, ltb-true, ltb-false}
use Rattle.cue_osc.specs.declared.fault.Fault.{Fault}
use Rattle.cue_osc.specs.declared.fault.Fault.TheVariants as fault
use Rattle.cue_osc.specs.declared.limits.TheConstants.{MAX_LEN}
use Rattle.cue_osc.specs.Content.{Content}
use Rattle.cue_osc.specs.Laws.{AreBytes}
use Rattle.cue_osc.specs.Reading.{datagram_at}
use Rattle.cue_osc.specs.Spelling.{Spells}
use Rattle.cue_osc.specs.Walking.{leaves, is_later}
use Rattle.cue_osc.proofs.DatagramLemmas.{long_if, no_memory}
use Rattle.cue_osc.proofs.PacketLemmas.{datagram_takes, datagram_again}
use Rattle.cue_core.specs.declared.refusal.Refusal.{Refusal}
use Rattle.cue_core.specs.declared.refusal.Refusal.TheVariants as refusal
use Rattle.cue_engine.specs.Given.{messages_in, unless_later}
use Rattle.cue_engine.specs.Spelled.{Says, MessagesAreSpelled}

-- ---- how long a datagram is

too-long : (bytes : List ℕ) → MAX_LEN < length bytes → datagram_at bytes ≡ Err fault.TooLong
unfolding datagram_at
too-long bytes long = let is : ltb MAX_LEN (length bytes) ≡ true = lt-ltb MAX_LEN (length bytes) long in rw is refl

long-read : (bytes : List ℕ) → datagram_at bytes ≡ Err fault.TooLong → MAX_LEN < length bytes
long-read bytes read = long_if bytes (Err fault.TooLong) read refl

not-long : (bytes : List ℕ) (f : Fault) → datagram_at bytes ≡ Err f → (f ≡ fault.TooLong → ⊥)
    → length bytes ≤ MAX_LEN
not-long bytes f read other =
    elim (cases_Bool (ltb MAX_LEN (length bytes))) [
      | inl long ↦
          let is : Err f ≡ Err fault.TooLong = sym read ∙ too-long bytes (ltb-true MAX_LEN (length bytes) long) in
          absurd (other cc)
      | inr short ↦ ltb-false MAX_LEN (length bytes) short
    ]

-- ---- what is taken is spelled so

-- a fault other than of the length
bad-spelled : (bytes : List ℕ) (f : Fault) → datagram_at bytes ≡ Err f → (f ≡ fault.TooLong → ⊥)
    → (length bytes ≤ MAX_LEN) × ((c : Content) → Spells bytes c → ⊥)
bad-spelled bytes f read other = (
  not-long bytes f read other,
  λ c spelled. absurd (let is : Err f ≡ Ok c = sym read ∙ datagram_again bytes c spelled in cc),
)

fault-spelled : (now : ℕ) (bytes : List ℕ) (f : Fault) → datagram_at bytes ≡ Err f
    → Says now bytes (unless_later now (Err f))
fault-spelled now bytes fault.TooLong read = long-read bytes read
fault-spelled now bytes fault.Memory read = absurd (no_memory bytes read)
fault-spelled now bytes f read = bad-spelled bytes f read (λ e. cc)

packet-spelled : (now : ℕ) (bytes : List ℕ) (c : Content) → Spells bytes c → (b : Bool) → is_later now c ≡ b
    → Says now bytes (cond b (Err refusal.Later) (Ok (leaves c)))
packet-spelled now bytes c spelled true is = (c, spelled, is)
packet-spelled now bytes c spelled false is = (c, spelled, is, refl)

read-spelled : (now : ℕ) (bytes : List ℕ) → AreBytes bytes → (r : Result Content Fault) → datagram_at bytes ≡ r
    → Says now bytes (unless_later now r)
read-spelled now bytes fits (Err f) read = fault-spelled now bytes f read
read-spelled now bytes fits (Ok c) read =
    packet-spelled now bytes c (datagram_takes bytes c (λ i. omega (arith, fits i)) read) (is_later now c) refl

-- ---- what is spelled so is taken

packet-taken : (now : ℕ) (bytes : List ℕ) (c : Content) → Spells bytes c
    → messages_in now bytes ≡ cond (is_later now c) (Err refusal.Later) (Ok (leaves c))
unfolding messages_in
packet-taken now bytes c spelled = ap (unless_later now) (datagram_again bytes c spelled)

-- what is no packet, and not too long
bad-taken : (now : ℕ) (bytes : List ℕ) → AreBytes bytes → length bytes ≤ MAX_LEN
    → ((c : Content) → Spells bytes c → ⊥) → (r : Result Content Fault) → datagram_at bytes ≡ r
    → unless_later now r ≡ Err refusal.BadPacket
bad-taken now bytes fits short none (Ok c) read =
    absurd (none c (datagram_takes bytes c (λ i. omega (arith, fits i)) read))
bad-taken now bytes fits short none (Err fault.TooLong) read = absurd (omega (arith, short, long-read bytes read))
bad-taken now bytes fits short none (Err f) read = refl

spelled-taken : (now : ℕ) (bytes : List ℕ) (said : Result (List Content) Refusal) → AreBytes bytes
    → Says now bytes said → messages_in now bytes ≡ said
unfolding messages_in
spelled-taken now bytes (Ok ms) fits h =
    packet-taken now bytes h.0 h.1
    ∙ ap (λ (b : Bool). cond b (Err refusal.Later) (Ok (leaves h.0))) h.2 ∙ ap Ok (sym h.3)
spelled-taken now bytes (Err refusal.Later) fits h =
    packet-taken now bytes h.0 h.1 ∙ ap (λ (b : Bool). cond b (Err refusal.Later) (Ok (leaves h.0))) h.2
spelled-taken now bytes (Err refusal.TooLong) fits h = ap (unless_later now) (too-long bytes h)
spelled-taken now bytes (Err refusal.BadPacket) fits h =
    bad-taken now bytes fits h.0 h.1 (datagram_at bytes) refl
spelled-taken now bytes (Err refusal.TooMany) fits h = absurd h

pub messages_are_spelled : MessagesAreSpelled
unfolding messages_in
messages_are_spelled now bytes said fits = (
  λ e. subst (Says now bytes) e (read-spelled now bytes fits (datagram_at bytes) refl),
  spelled-taken now bytes said fits,
)
