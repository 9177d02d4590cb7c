-- No alarm is louder than one before it.
use Rattle.std.proofs.Common.{◌≡◌, ◌+◌, ◌≤◌, ℕ, Bool, true, false, ◌&&◌, if◌then◌else◌, List, [], ◌∷◌, ◌++◌, map}
use Rattle.std.proofs.Common.{Option, None, Some, nat_le, refl, arith, lit≤}
use Rattle.std.specs.Prelude.{All, IfSome}
use Rattle.std.specs.Option.{option_to_list}
use Rattle.std.proofs.lemmas.List.Elements.{All-cons, All-nil, All-weaker}
use Rattle.cue_view.specs.declared.view.Trouble.{Trouble}
use Rattle.cue_station.specs.declared.limits.TheConstants.{OTHER_MS, SHOWN_MS, STATUS_MS}
use Rattle.cue_view.specs.declared.view.Alarm.{Alarm}
use Rattle.cue_view.specs.declared.view.Alarm.TheVariants as alarm
use Rattle.cue_station.specs.Alarms.{either_by, is_asked_since, is_in_sight, is_within, not_shown, not_shown_by}
use Rattle.cue_station.specs.Alarms.{old_by, other_by, other_store, silence_by, silent_in, stopped_by}
use Rattle.cue_station.specs.Network.{is_stopped}
use Rattle.cue_station.specs.Warning.{IsLoudestFirst, LoudestFirst, rank_of}

-- they are in order, and none is louder than k
record Above (k : ℕ) (xs : List Alarm) : Type 0 where
  low : All (λ b. k ≤ rank_of b) xs
  first : IsLoudestFirst xs

above_more : (k m : ℕ) (xs : List Alarm) → k ≤ m → Above m xs → Above k xs
above_more k m xs le up =
    record {
      low = All-weaker (λ b. m ≤ rank_of b) (λ b. k ≤ rank_of b) (λ b h. omega arith) xs up.low;
      first = up.first;
    }

above_cons : (k m : ℕ) (x : Alarm) (xs : List Alarm) → k ≤ rank_of x → rank_of x ≤ m → Above m xs → Above k (x ∷ xs)
above_cons k m x xs le ge up =
    record {
      low = All-cons (λ b. k ≤ rank_of b) x xs le
          (All-weaker (λ b. m ≤ rank_of b) (λ b. k ≤ rank_of b) (λ b h. omega arith) xs up.low);
      first =
          (All-weaker (λ b. m ≤ rank_of b) (λ b. rank_of x ≤ rank_of b) (λ b h. omega arith) xs up.low, up.first);
    }

above_option : (k m : ℕ) (o : Option Alarm) (xs : List Alarm) → k ≤ m
    → IfSome o (λ a. (k ≤ rank_of a) × (rank_of a ≤ m)) → Above m xs → Above k (option_to_list o ++ xs)
above_option k m None xs le holds up = above_more k m xs le up
above_option k m (Some a) xs le holds up = above_cons k m a xs holds.0 holds.1 up

above_map : {A : Type 0} (k : ℕ) (f : A → Alarm) → ((x : A) → rank_of (f x) ≡ k) → (ys : List A) (xs : List Alarm)
    → Above k xs → Above k (map f ys ++ xs)
above_map k f same [] xs up = up
above_map k f same (y ∷ ys) xs up =
    above_cons k k (f y) (map f ys ++ xs) (omega (arith, same y)) (omega (arith, same y)) (above_map k f same ys xs up)

above_last : {A : Type 0} (k : ℕ) (f : A → Alarm) → ((x : A) → rank_of (f x) ≡ k) → (ys : List A) → Above k (map f ys)
above_last k f same [] = record { low = All-nil (λ b. k ≤ rank_of b); first = tt }
above_last k f same (y ∷ ys) =
    above_cons k k (f y) (map f ys) (omega (arith, same y)) (omega (arith, same y)) (above_last k f same ys)

-- ---- how loud each is

rank_if : (P : Alarm → Type 0) (a : Alarm) → P a → (b : Bool) → IfSome (if b then Some a else None) P
rank_if P a holds true = holds
rank_if P a holds false = tt

rank_silence : (alive nobody : Bool) (asked : Option ℕ)
    → IfSome (silence_by alive nobody asked) (λ a. (0 ≤ rank_of a) × (rank_of a ≤ 2))
rank_silence true nobody asked = tt
rank_silence false true asked = (lit≤ tt, lit≤ tt)
rank_silence false false asked = (lit≤ tt, lit≤ tt)

rank_other : (since asked : Option ℕ) (now : ℕ)
    → IfSome (other_by since asked now) (λ a. (2 ≤ rank_of a) × (rank_of a ≤ 3))
rank_other None asked now = tt
rank_other (Some s) asked now =
    rank_if (λ a. (2 ≤ rank_of a) × (rank_of a ≤ 3)) (alarm.OtherStore s) (lit≤ tt, lit≤ tt)
    (is_asked_since s asked && nat_le (s + OTHER_MS) now)

rank_not_shown : (since read : Option ℕ)
    → IfSome (not_shown_by since read) (λ a. (2 ≤ rank_of a) × (rank_of a ≤ 3))
rank_not_shown None read = tt
rank_not_shown (Some s) None = tt
rank_not_shown (Some s) (Some r) =
    rank_if (λ a. (2 ≤ rank_of a) × (rank_of a ≤ 3)) (alarm.NotShown s) (lit≤ tt, lit≤ tt) (nat_le (s + SHOWN_MS) r)

rank_either : (P : Alarm → Type 0) (one other : Option Alarm) → IfSome one P → IfSome other P
    → IfSome (either_by one other) P
rank_either P None other h k = k
rank_either P (Some a) other h k = h

rank_stopped : (since : Option ℕ) (now : ℕ) → IfSome (stopped_by since now) (λ a. (3 ≤ rank_of a) × (rank_of a ≤ 4))
rank_stopped None now = tt
rank_stopped (Some s) now =
    rank_if (λ a. (3 ≤ rank_of a) × (rank_of a ≤ 4)) (alarm.RelayStopped s) (lit≤ tt, lit≤ tt) (is_stopped s now)

rank_old : (young : Bool) (why : Option Trouble) (read : Option ℕ)
    → IfSome (old_by young why read) (λ a. (4 ≤ rank_of a) × (rank_of a ≤ 6))
rank_old true why read = tt
rank_old false None read = (lit≤ tt, lit≤ tt)
rank_old false (Some w) read = (lit≤ tt, lit≤ tt)

pub in_order : LoudestFirst
in_order f back failures network =
    let all : Above 0 _ =
    above_option 0 2 _ _ (lit≤ tt) (rank_silence (is_within STATUS_MS f.at f.asked) f.nobody f.asked)
    (above_option 2 3 _ _ (lit≤ tt)
    (rank_either (λ a. (2 ≤ rank_of a) × (rank_of a ≤ 3)) (other_store f) (not_shown f)
    (rank_other f.differs f.asked f.at)
    (rank_not_shown f.unshown f.read))
    (above_option 3 4 _ _ (lit≤ tt) (rank_stopped f.stamped f.at)
    (above_option 4 6 _ _ (lit≤ tt) (rank_old (is_in_sight f) f.trouble f.read)
    (above_map 6 alarm.ClockPutBack (λ x. refl) back _
    (above_more 6 7 _ (lit≤ tt)
    (above_map 7 alarm.Failed (λ x. refl) failures _
    (above_more 7 8 _ (lit≤ tt)
    (above_last 8 alarm.DeviceSilent (λ x. refl) (silent_in network)))))))))
    in all.first
