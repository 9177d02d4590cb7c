-- What a parser that has heard bytes makes of one more.
use Rattle.std.proofs.Common.{◌≡◌, ◌∙◌, ℕ, ◌+◌, ◌<◌, ◌≤◌, ◌++◌, ◌||◌, Bool, true, false, true≢false, List, [], ◌∷◌}
use Rattle.std.proofs.Common.{Option, None, Some, length, reverse, refl, sym, ap, arith, nat_eq, nat_le, nat_lt}
use Rattle.std.proofs.lemmas.Bool.Decides.{nat_tests}
use Rattle.std.proofs.lemmas.List.{length-reverse, reverse-append}
use Rattle.cue_midi.specs.Stream.{status_of, run_of, half_of, joined, ended_by, ended, is_more, more, by_status}
use Rattle.cue_midi.specs.Stream.{by_data_at, by_status_kept, by_status_at, heard_at, is_open, IsAfter}
use Rattle.cue_midi.specs.Stream.{by_status_in, HearsAt, KeepsAt}
use Rattle.cue_midi.specs.declared.heard.Heard.TheVariants as heard
use Rattle.cue_midi.specs.declared.heard.Kind.TheVariants as kind
use Rattle.cue_midi.specs.declared.parser.Parser.{Parser}
use Rattle.cue_midi.specs.declared.parser.TheConstants.{MAX_EXCLUSIVE}

-- ---- the kinds of bytes

not-data : (b : ℕ) → 128 ≤ b → nat_lt b 128 ≡ false
not-data b h = grind (arith, nat_tests)

is-data : (b : ℕ) → b < 128 → nat_lt b 128 ≡ true
is-data b h = grind (arith, nat_tests)

is-real_time : (b : ℕ) → 248 ≤ b → nat_le 248 b ≡ true
is-real_time b h = grind (arith, nat_tests)

not-real_time : (b : ℕ) → b < 248 → nat_le 248 b ≡ false
not-real_time b h = grind (arith, nat_tests)

-- ---- data bytes that are kept

long-more : (run body : List ℕ) (long : Bool) (b : ℕ) → long ≡ nat_lt MAX_EXCLUSIVE (length run)
    → (long ≡ false → body ≡ reverse run) → is_more long body ≡ nat_lt MAX_EXCLUSIVE (length (b ∷ run))
long-more run body true b e h = grind (arith, nat_tests, e)
long-more run body false b e h = rw (h refl, length-reverse run) (grind (arith, nat_tests, e))

body-more : (run body : List ℕ) (long : Bool) (b : ℕ) → (long ≡ false → body ≡ reverse run)
    → is_more long body ≡ false → more b body ≡ reverse (b ∷ run)
body-more run body true b h e = absurd (true≢false e)
body-more run body false b h e =
    let room : nat_lt (length body) MAX_EXCLUSIVE ≡ true = grind (arith, nat_tests, e) in
    rw room (ap (λ (bs : List ℕ). bs ++ b ∷ []) (h refl) ∙ sym (reverse-append (b ∷ []) run))

ended-kept : (run body : List ℕ) (long : Bool) → long ≡ nat_lt MAX_EXCLUSIVE (length run)
    → (long ≡ false → body ≡ reverse run) → ended_by long body ≡ ended run
ended-kept run body true e h = rw (sym e) refl
ended-kept run body false e h = rw (sym e, h refl) refl

-- ---- what is kept of one more byte

pub after-real_time : (past : List ℕ) (b : ℕ) (p : Parser) → 248 ≤ b → IsAfter past p → IsAfter (b ∷ past) p
after-real_time past b p high h =
    let low : nat_lt b 128 ≡ false = not-data b (omega arith) in
    let real : nat_le 248 b ≡ true = is-real_time b high in
    record {
      status = rw (low, real) h.status;
      half = rw (low, real) h.half;
      long = rw (low, real) h.long;
      body = rw (low, real) h.body;
    }

pub after-data : (past : List ℕ) (b : ℕ) (old new : Parser) → b < 128 → IsAfter past old → new.status ≡ old.status
    → new.half ≡ joined b old.half → new.is_long ≡ is_more old.is_long old.body.items
    → new.body.items ≡ more b old.body.items → IsAfter (b ∷ past) new
after-data past b old new low h status half long body =
    let is_low : nat_lt b 128 ≡ true = is-data b low in
    record {
      status = rw is_low (status ∙ h.status);
      half = rw is_low (half ∙ ap (λ (x : Option ℕ). joined b x) h.half);
      long = rw is_low (long ∙ long-more (run_of past) old.body.items old.is_long b h.long h.body);
      body = rw is_low (λ short. body ∙ body-more (run_of past) old.body.items old.is_long b h.body (sym long ∙ short));
    }

pub after-status : (past : List ℕ) (b : ℕ) (new : Parser) → 128 ≤ b → b < 248 → new.status ≡ Some b
    → new.half ≡ None → new.is_long ≡ false → new.body.items ≡ [] → IsAfter (b ∷ past) new
after-status past b new high low status half long body =
    let is_low : nat_lt b 128 ≡ false = not-data b high in
    let real : nat_le 248 b ≡ false = not-real_time b low in
    record {
      status = rw (is_low, real) status;
      half = rw (is_low, real) half;
      long = rw (is_low, real) long;
      body = rw (is_low, real) (λ _. body);
    }

-- ---- what is heard of it

pub heard-real_time : (past : List ℕ) (b : ℕ) → 248 ≤ b → Some (heard.Ignored kind.RealTime) ≡ heard_at past b
heard-real_time past b high = rw (is-real_time b high) refl

pub heard-data : (past : List ℕ) (b : ℕ) (p : Parser) → b < 128 → IsAfter past p
    → by_data_at p.status p.half b ≡ heard_at past b
heard-data past b p low h =
    rw (not-real_time b (omega arith), is-data b low, h.status, h.half) refl

kept-status : (past : List ℕ) (b : ℕ) (s : Option ℕ) (p : Parser) → s ≡ status_of past → IsAfter past p
    → by_status_kept s p.half p.is_long p.body.items b ≡ by_status_at s (run_of past) b
kept-status past b None p e h = refl
kept-status past b (Some s) p e h =
    rw (h.half, ended-kept (run_of past) p.body.items p.is_long h.long h.body) refl

pub heard-status : (past : List ℕ) (b : ℕ) (p : Parser) → 128 ≤ b → b < 248 → IsAfter past p
    → by_status_in p b ≡ heard_at past b
heard-status past b p high low h =
    rw (not-real_time b low, not-data b high, sym h.status) (kept-status past b p.status p h.status h)
