-- What a whole datagram is read as, and when each fault of its length comes.
use Rattle.std.proofs.Common.{◌≡◌, ◌≢◌, ℕ, ◌%◌, ◌<◌, ◌≤◌, cond, not, eqb, ltb, List, length, Result, Ok, Err, refl, sym}
use Rattle.std.proofs.Common.{subst, ◌∙◌, inl, inr, ◌⊎◌}
use Rattle.std.specs.Prelude.{IfOk, MatchResult}
use Rattle.std.specs.List.{AllByRecursion}
use Rattle.std.proofs.lemmas.Bool.{ltb-true, ltb-false, eqb-false, not-true}
use Rattle.cue_osc.specs.declared.fault.Fault.{Fault}
use Rattle.cue_osc.specs.declared.fault.Fault.TheVariants as faults
use Rattle.cue_osc.specs.declared.packet.Packet.{Packet}
use Rattle.cue_osc.specs.Content.{Content, view}
use Rattle.cue_osc.specs.Spelling.{Spells}
use Rattle.cue_osc.specs.Walking.{leaves, HasAddress}
use Rattle.cue_osc.specs.Reading.{Fails, Gives, packet_at, datagram_at}
use Rattle.cue_osc.proofs.FieldLemmas.{IsBytes, ok_is, chosen}
use Rattle.cue_osc.proofs.FaultLemmas.{IsInside, FailsInside, packet_inside}
use Rattle.cue_osc.proofs.AddressLemmas.{packet_addresses}
use Rattle.cue_osc.proofs.PacketLemmas.{datagram_takes, datagram_again}
use Rattle.cue_osc.specs.declared.limits.TheConstants.{MAX_LEN}

pub is_found : (bytes : List ℕ) (r : Result Packet Fault) → IsBytes bytes → Gives view r (datagram_at bytes)
    → IfOk r (λ p. Spells bytes (view p))
is_found bytes (Ok p) fits h = datagram_takes bytes (view p) fits h
is_found bytes (Err e) fits h = tt

pub has_addresses : (bytes : List ℕ) (r : Result Packet Fault) → IsBytes bytes → Gives view r (datagram_at bytes)
    → IfOk r (λ p. AllByRecursion HasAddress (leaves (view p)))
has_addresses bytes (Ok p) fits h = packet_addresses 8 bytes (view p) (datagram_takes bytes (view p) fits h).2
has_addresses bytes (Err e) fits h = tt

only_memory : (e : Fault) (read : Result Content Fault) (c : Content) → read ≡ Ok c → Fails e read → e ≡ faults.Memory
only_memory faults.Memory read c ok h = refl
only_memory f read c ok h = absurd cc

pub is_only : (bytes : List ℕ) (r : Result Packet Fault) (c : Content) → Spells bytes c
    → Gives view r (datagram_at bytes) → MatchResult r (λ p. view p ≡ c) (λ e. e ≡ faults.Memory)
is_only bytes (Ok p) c spelled h = ok_is (view p) c (sym h ∙ datagram_again bytes c spelled)
is_only bytes (Err e) c spelled h = only_memory e (datagram_at bytes) c (datagram_again bytes c spelled) h

-- the fault of a part is none of the whole
not_inside : (bytes : List ℕ) (f : Fault) → (IsInside f → ⊥) → packet_at 8 bytes ≡ Err f → ⊥
not_inside bytes f out e = out (subst FailsInside e (packet_inside 8 bytes))

-- whose fault it is
cause : (bytes : List ℕ) (f : Fault) → datagram_at bytes ≡ Err f → ((MAX_LEN < length bytes) × (f ≡ faults.TooLong))
    ⊎ ((length bytes ≤ MAX_LEN) × (((length bytes % 4 ≢ 0) × (f ≡ faults.NotMultiple)) ⊎ (packet_at 8 bytes ≡ Err f)))
unfolding datagram_at
cause bytes f e =
    elim (chosen (ltb MAX_LEN (length bytes)) (Err faults.TooLong)
    (cond (not (eqb (length bytes % 4) 0)) (Err faults.NotMultiple) (packet_at 8 bytes)) (Err f) e) [
      | inl p ↦ inl (ltb-true MAX_LEN (length bytes) p.0, cc)
      | inr p ↦ inr (
        ltb-false MAX_LEN (length bytes) p.0,
        elim (chosen (not (eqb (length bytes % 4) 0)) (Err faults.NotMultiple) (packet_at 8 bytes) (Err f) p.1) [
          | inl q ↦ inl (eqb-false (length bytes % 4) 0 (not-true (eqb (length bytes % 4) 0) q.0), cc)
          | inr q ↦ inr q.1
        ],
      )
    ]

pub long_if : (bytes : List ℕ) (r : Result Packet Fault) → Gives view r (datagram_at bytes) → r ≡ Err faults.TooLong
    → MAX_LEN < length bytes
long_if bytes r h e =
    let g : datagram_at bytes ≡ Err faults.TooLong =
    subst (λ (s : Result Packet Fault). Gives view s (datagram_at bytes)) e h in
    elim (cause bytes faults.TooLong g) [
      | inl p ↦ p.0
      | inr p ↦ elim p.1 [
        | inl q ↦ absurd cc
        | inr q ↦ absurd (not_inside bytes faults.TooLong (λ x. x) q)
      ]
    ]

pub no_multiple_if : (bytes : List ℕ) (r : Result Packet Fault) → Gives view r (datagram_at bytes)
    → r ≡ Err faults.NotMultiple → (length bytes ≤ MAX_LEN) × (length bytes % 4 ≢ 0)
no_multiple_if bytes r h e =
    let g : datagram_at bytes ≡ Err faults.NotMultiple =
    subst (λ (s : Result Packet Fault). Gives view s (datagram_at bytes)) e h in
    elim (cause bytes faults.NotMultiple g) [
      | inl p ↦ absurd cc
      | inr p ↦ elim p.1 [
        | inl q ↦ (p.0, q.0)
        | inr q ↦ absurd (not_inside bytes faults.NotMultiple (λ x. x) q)
      ]
    ]

pub no_memory : (bytes : List ℕ) → datagram_at bytes ≡ Err faults.Memory → ⊥
no_memory bytes e =
    elim (cause bytes faults.Memory e) [
      | inl p ↦ absurd cc
      | inr p ↦ elim p.1 [
        | inl q ↦ absurd cc
        | inr q ↦ not_inside bytes faults.Memory (λ x. x) q
      ]
    ]
