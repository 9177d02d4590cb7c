-- What a medium holds after a write.
use Rattle.std.proofs.Common.{◌≡◌, ℕ, ◌+◌, ◌≤◌, Bool, true, false, nat_le, nat_lt, ◌&&◌, ◌||◌, List, [], ◌∷◌, ◌++◌}
use Rattle.std.proofs.Common.{length, drop, refl, ◌∙◌, ap}
use Rattle.std.proofs.lemmas.List.{drop-append-le}
use Rattle.std.proofs.lemmas.List.Recursion.{or_push}
use Rattle.cue_disk.specs.Disk.{overwritten_bytes}
use Rattle.cue_disk.specs.Effect.{after_write}
use Rattle.cue_disk.specs.Medium.{State, contents, touches, is_touched, Touches}
use Rattle.cue_disk.specs.declared.medium.Change.{Change}

-- the last of three may come second
last_second : (a b c : Bool) → ((a || b) || c) ≡ ((a || c) || b)
last_second true b c = refl
last_second false true true = refl
last_second false true false = refl
last_second false false true = refl
last_second false false false = refl

-- A byte is touched after the write if it was so before, or lies in the range that was asked for.
touched_after : (state : State) (past : List Change) (change : Change) (at asked i : ℕ) → state.synced_at ≤ length past
    → Touches change at asked
    → (is_touched (drop state.synced_at (past ++ change ∷ [])) i || nat_le state.synced i)
    ≡ ((is_touched (drop state.synced_at past) i || nat_le state.synced i) ||
    (nat_le at i && nat_lt i (at + asked)))
touched_after state past change at asked i since is =
    let before = drop state.synced_at past in
    ap (λ (l : List Change). is_touched l i || nat_le state.synced i)
    (drop-append-le state.synced_at past (change ∷ []) since)
    ∙ ap (λ (b : Bool). b || nat_le state.synced i) (or_push (λ l. is_touched l i) (touches i) refl (λ x l. refl) before
    change)
    ∙ last_second (is_touched before i) (touches i change) (nat_le state.synced i)
    ∙ ap (λ (b : Bool). (is_touched before i || nat_le state.synced i) || b) (is i)

-- What is held after a write is what a write makes of what was held.
pub written_contents : (state : State) (past after : List Change) (change : Change) (at asked : ℕ)
    (stored bytes : List ℕ) → state.synced_at ≤ length past → Touches change at asked
    → after ≡ past ++ change ∷ [] → bytes ≡ overwritten_bytes state.bytes at stored
    → contents (record state { bytes = bytes }) after ≡ after_write (contents state past) at asked stored
written_contents state past after change at asked stored bytes since is push is_bytes =
    ap (contents (record state { bytes = bytes })) push
    ∙ (λ j. record {
      bytes = is_bytes j;
      synced = state.synced;
      touched =
          λ i. touched_after state past change at asked i since is j;
    })
