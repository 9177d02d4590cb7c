-- Who was sent a GO may still move until an answer shows that the motion is over.
use Rattle.std.proofs.Common.{◌≡◌, ℕ, Bool, true, false, not, cond, List, [], ◌∷◌, ◌++◌, refl, sym, ap, ◌∙◌}
use Rattle.std.specs.Prelude.{◌-◌, ◌&&◌, nat_eq, nat_le}
use Rattle.std.proofs.Math.Nat.{le_refl}
use Rattle.std.proofs.lemmas.Bool.{eqb-true, le-leb}
use Rattle.std.specs.List.{list_all}
use Rattle.cue_show.proofs.TestLemmas.{both}
use Rattle.cue_device.specs.declared.words.Answer.{Answer}
use Rattle.cue_device.specs.declared.words.Answer.TheVariants as answers
use Rattle.cue_relay.specs.declared.hearing.Contact.{Contact}
use Rattle.cue_relay.specs.declared.messages.Message.TheVariants as says
use Rattle.cue_relay.specs.declared.motion.Motion.{Motion}
use Rattle.cue_relay.specs.declared.motion.Motion.TheVariants.{Moving, Over}
use Rattle.cue_relay.specs.declared.status.Ordered.TheVariants.{Standby, Go, Cancel}
use Rattle.cue_relay.specs.Hearing.{falls_silent, is_going, ordered}
use Rattle.cue_device.specs.Hearing.{answered_for}
use Rattle.cue_relay.specs.Motions.{ends_motion, is_over, motion_after_answer, motion_after_order, over_at}
use Rattle.cue_relay.specs.Silences.{Sight, went, passed, after_sight, known_after, leaves_motion}
use Rattle.cue_relay.specs.Silences.{MovesUntilItAnswers, IsOverOnceItAnswered}

-- a test that fails leaves the motion
stays : (b : Bool) (m seq : ℕ) → not b ≡ true → cond b (Over seq) (Moving m) ≡ Moving m
stays true m seq q = cc
stays false m seq q = refl

-- an answer that counts only where the GO is open leaves the motion as well where it does not
leaves_if : (going : Bool) (m seq : ℕ) → not (nat_eq m seq) ≡ true
    → cond going (over_at (Moving m) seq) (Moving m) ≡ Moving m
leaves_if true m seq q = stays (nat_eq m seq) m seq q
leaves_if false m seq q = refl

answer_leaves : (going : Bool) (m : ℕ) (a : Answer) → not (ends_motion true m a) ≡ true
    → motion_after_answer going (Moving m) a ≡ Moving m
answer_leaves going m (answers.StandingBy seq) q = stays (nat_le m (seq - 1)) m (seq - 1) q
answer_leaves going m (answers.Complete seq) q = stays (nat_le m seq) m seq q
answer_leaves going m (answers.Cancelled seq) q = leaves_if going m seq q
answer_leaves going m (answers.Abort seq) q = leaves_if going m seq q

time_leaves : (b : Bool) (c : Contact) → (cond b (record c { silent = true }) c).motion ≡ c.motion
time_leaves true c = refl
time_leaves false c = refl

sight_leaves : (c : Contact) (s : Sight) (m : ℕ) → leaves_motion m s ≡ true → c.motion ≡ Moving m
    → (after_sight c s).motion ≡ Moving m
sight_leaves c (went (says.Order Standby seq) now) m q h = ap (λ o. motion_after_order o Standby seq) h
sight_leaves c (went (says.Order Go seq) now) m q h = cc
sight_leaves c (went (says.Order Cancel seq) now) m q h = h
sight_leaves c (went says.Reply now) m q h = h
sight_leaves c (went (says.Answer a) now) m q h =
    let going = is_going c.pending (answered_for a) in
    ap (λ o. motion_after_answer going o a) h ∙ answer_leaves going m a q
sight_leaves c (passed now) m q h = time_leaves (falls_silent c now) c ∙ h

-- it is no late copy
moves_now : (b : Bool) (c : Contact) (m now : ℕ) → b ≡ false → (cond b c (ordered c Go m now)).motion ≡ Moving m
moves_now true c m now h = cc
moves_now false c m now h = refl

pub moves-until-it-answers : MovesUntilItAnswers
moves-until-it-answers before [] m now fresh q =
    moves_now (is_over (known_after before).motion m) (known_after before) m now fresh
moves-until-it-answers before (s ∷ more) m now fresh q =
    let parts = both (leaves_motion m s) (list_all (leaves_motion m) more) q in
    sight_leaves (known_after (more ++ went (says.Order Go m) now ∷ before)) s m parts.0
    (moves-until-it-answers before more m now fresh parts.1)

-- a test that holds ends it
ended : (b : Bool) (m seq : ℕ) → b ≡ true → nat_le m seq ≡ true → is_over (cond b (Over seq) (Moving m)) m ≡ true
ended true m seq q e = e
ended false m seq q e = cc

equal_covers : (m seq : ℕ) → nat_eq m seq ≡ true → nat_le m seq ≡ true
equal_covers m seq q = ap (λ n. nat_le m n) (sym (eqb-true m seq q)) ∙ le-leb m m (le_refl m)

ends_if : (going : Bool) (m seq : ℕ) → (going && nat_eq m seq) ≡ true
    → is_over (cond going (over_at (Moving m) seq) (Moving m)) m ≡ true
ends_if true m seq q = ended (nat_eq m seq) m seq q (equal_covers m seq q)
ends_if false m seq q = cc

answer_ends : (going : Bool) (m : ℕ) (a : Answer) → ends_motion going m a ≡ true
    → is_over (motion_after_answer going (Moving m) a) m ≡ true
answer_ends going m (answers.StandingBy seq) q = ended (nat_le m (seq - 1)) m (seq - 1) q q
answer_ends going m (answers.Complete seq) q = ended (nat_le m seq) m seq q q
answer_ends going m (answers.Cancelled seq) q = ends_if going m seq q
answer_ends going m (answers.Abort seq) q = ends_if going m seq q

pub is-over-once-it-answered : IsOverOnceItAnswered
is-over-once-it-answered before m now a h e =
    let going = is_going (known_after before).pending (answered_for a) in
    ap (λ o. is_over (motion_after_answer going o a) m) h ∙ answer_ends going m a e
