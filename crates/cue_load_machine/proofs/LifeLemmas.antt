-- How a load stands after each turn.
use Rattle.std.proofs.Common.{◌≡◌, ℕ, ℤ, ◌<◌, ◌≤◌, ◌+◌, ◌-◌, Bool, true, false, cond, List, [], ◌∷◌, ◌++◌, length}
use Rattle.std.proofs.Common.{Option, Some, None, refl, sym, ap, ◌∙◌, subst, arith, append_assoc, append-nil, inr}
use Rattle.std.proofs.Common.{length-append}
use Rattle.std.specs.Prelude.{nat_lt, option_to_list, slice_get, slice_set}
use Rattle.std.proofs.lemmas.Bool.{leb-true, ltb-false, ltb-true, true≢false}
use Rattle.cue_machine.specs.declared.ears.Input.{Input}
use Rattle.cue_machine.specs.declared.ears.Input.TheVariants as input
use Rattle.cue_machine.specs.Living.{Turn}
use Rattle.cue_machine.specs.Posting.{Posted}
use Rattle.cue_desk.specs.declared.replying.Replied.{Replied}
use Rattle.cue_load_machine.specs.declared.asks.Ask.{Ask}
use Rattle.cue_load_machine.specs.declared.deciding.Came.TheVariants as came
use Rattle.cue_load_machine.specs.declared.stage.LoadEnd.TheVariants as end
use Rattle.cue_load_machine.specs.declared.stage.Stage.{Stage}
use Rattle.cue_load_machine.specs.declared.stage.Stage.TheVariants as stage
use Rattle.cue_load_machine.specs.declared.stage.Try.{Try}
use Rattle.cue_load_machine.specs.declared.stage.Waits.{Waits}
use Rattle.cue_load_machine.specs.Asks.{replies, stops_by}
use Rattle.cue_load_machine.specs.Lives.{AreSome, HasSent, Hears, How, IsHow, Sending}
use Rattle.cue_load_machine.specs.Lives.{answers_after, awaited_since, done, late, nobody, put, stage_after}
use Rattle.cue_load_machine.specs.Lives.{stops, told, turns_of, waits_by, waits_in}
use Rattle.cue_load_machine.specs.Stages.{first_slot, is_late, late_at, one_less, sent}
use Rattle.cue_load_machine.specs.Stages.{spent}
use Rattle.cue_load_machine.specs.Steps.{State, answered, came_at, came_by, came_of, is_refused}
use Rattle.cue_load_machine.specs.Steps.{replied_by, reply_to, silent, state_then}
use Rattle.cue_load_machine.specs.Steps.{waited_with}
use Rattle.cue_load_machine.proofs.ReplyLemmas.{go_on_more, none_more, of_is, put_more, replies_more, rest_is}
use Rattle.cue_load_machine.proofs.ReplyLemmas.{since_is, slot_after, slot_is, waits_more}
use Rattle.cue_load_machine.proofs.TurnLemmas.{StateTurn, none_posted, nothing_more}
use Rattle.cue_load_machine.proofs.TurnLemmas.{state_losses}
use Rattle.cue_load_machine.proofs.GoingLemmas.{Goes, Going, Open, answered_going, at_state, from_sends, silent_when}

-- ---- its replies are waited for

abbrev longer : Sending → Turn → Sending
longer x t = record { of = x.of; ask = x.ask; left = x.left; after = x.after ++ t ∷ [] }

told_more : (s : State) (x : Sending) (t : Turn) (o : Option Replied)
    → reply_to s.port x.ask x.of.socket t.heard.input t.heard.bytes ≡ o
    → told s (longer x t) ≡ told s x ++ option_to_list o
told_more s x t o e =
    replies_more s.port x.ask x.of.socket x.after t
    ∙ ap (λ (q : Option Replied). told s x ++ option_to_list q) e

all_more : (ts before : List Turn) (x : Sending) (t : Turn) → ts ≡ before ++ x.left ∷ x.after
    → ts ++ t ∷ [] ≡ before ++ x.left ∷ (x.after ++ t ∷ [])
all_more ts before x t e =
    ap (λ (xs : List Turn). xs ++ t ∷ []) e ∙ append_assoc before (x.left ∷ x.after) (t ∷ [])

-- the last sending ends
closes : (s : State) (ts : List Turn) (answers : List (Option Replied)) (w : Waits) (o : Open s ts answers w) (t : Turn)
    → t.posted ≡ [] → (how : How) → IsHow s (longer o.x t) how → Hears how o.x.of.socket (o.x.after ++ t ∷ [])
    → (kept : List (Option Replied))
    → kept ≡ put (answers_after s o.before) (first_slot o.x.ask.form o.x.of.place) (told s (longer o.x t))
    → (at : Stage) → at ≡ stage_after s (longer o.x t) how → HasSent s (ts ++ t ∷ []) kept at
closes s ts answers w o t none how ends hears kept same at is = record {
  sendings = longer o.x t ∷ o.before;
  all = all_more ts (turns_of o.before) o.x t o.all;
  are = (
    how,
    record {
      there = o.there;
      lost = o.lost;
      left = o.left;
      nothing = nothing_more o.x.after t o.nothing none;
      ends = ends;
      hears = hears;
    },
    o.are,
    is,
  );
  told = same;
}

-- or goes on
opens : (s : State) (ts : List Turn) (answers : List (Option Replied)) (w : Waits) (o : Open s ts answers w) (t : Turn)
    → t.posted ≡ [] → AreSome o.x.ask (told s (longer o.x t)) → is_refused o.x.of.socket t.heard.input ≡ false
    → (kept : List (Option Replied))
    → kept ≡ put (answers_after s o.before) (first_slot o.x.ask.form o.x.of.place) (told s (longer o.x t))
    → (v : Waits) → v ≡ waits_in s (longer o.x t) → Open s (ts ++ t ∷ []) kept v
opens s ts answers w o t none some heard kept same v is = record {
  before = o.before;
  x = longer o.x t;
  all = all_more ts (turns_of o.before) o.x t o.all;
  there = o.there;
  lost = o.lost;
  left = o.left;
  nothing = nothing_more o.x.after t o.nothing none;
  some = some;
  none = none_more o.x.of.socket o.x.after t o.none heard;
  are = o.are;
  is = is;
  kept = same;
}

-- ---- nothing came

same_told : (s : State) (x : Sending) (t : Turn)
    → reply_to s.port x.ask x.of.socket t.heard.input t.heard.bytes ≡ None → told s (longer x t) ≡ told s x
same_told s x t e = told_more s x t None e ∙ append-nil (told s x)

same_kept : (s : State) (before : List Sending) (x : Sending) (t : Turn) (answers : List (Option Replied))
    → answers ≡ put (answers_after s before) (first_slot x.ask.form x.of.place) (told s x)
    → told s (longer x t) ≡ told s x
    → answers ≡ put (answers_after s before) (first_slot x.ask.form x.of.place) (told s (longer x t))
same_kept s before x t answers kept same =
    kept
    ∙ ap (λ (rs : List Replied). put (answers_after s before) (first_slot x.ask.form x.of.place) rs) (sym same)

pub of_waits : (s : State) (x : Sending) (w : Waits) → w ≡ waits_in s x → w.of ≡ spent x.of
of_waits s x w e =
    ap (λ (v : Waits). v.of) e
    ∙ of_is s.port x.ask x.of.socket x.after (sent x.ask.form x.of x.left.heard.now)

pub since_waits : (s : State) (x : Sending) (w : Waits) → w ≡ waits_in s x → w.since ≡ awaited_since s x
since_waits s x w e =
    ap (λ (v : Waits). v.since) e
    ∙ since_is s.port x.ask x.of.socket x.after (sent x.ask.form x.of x.left.heard.now)

rest_waits : (s : State) (x : Sending) (w : Waits) → w ≡ waits_in s x
    → w.rest ≡ replies x.ask.form - length (told s x)
rest_waits s x w e =
    ap (λ (v : Waits). v.rest) e
    ∙ rest_is s.port x.ask x.of.socket x.after (sent x.ask.form x.of x.left.heard.now)

slot_waits : (s : State) (x : Sending) (w : Waits) → w ≡ waits_in s x
    → w.slot ≡ slot_after (first_slot x.ask.form x.of.place) (told s x)
slot_waits s x w e =
    ap (λ (v : Waits). v.slot) e
    ∙ slot_is s.port x.ask x.of.socket x.after (sent x.ask.form x.of x.left.heard.now)

-- what is waited for after one turn more
longer_waits : (s : State) (x : Sending) (t : Turn) (w : Waits) (q : Option Replied) → w ≡ waits_in s x
    → reply_to s.port x.ask x.of.socket t.heard.input t.heard.bytes ≡ q
    → waits_by w t.heard.now q ≡ waits_in s (longer x t)
longer_waits s x t w q is e =
    ap (λ (v : Waits). waits_by v t.heard.now q) is
    ∙ sym (waits_more s.port x.ask x.of.socket x.after t (sent x.ask.form x.of x.left.heard.now)
    ∙ ap (λ (p : Option Replied). waits_by (waits_in s x) t.heard.now p) e)

without_reply : (s : State) (ts : List Turn) (answers : List (Option Replied)) (w : Waits) (o : Open s ts answers w)
    (t : Turn) (s_then : State) → t.posted ≡ []
    → reply_to s.port o.x.ask o.x.of.socket t.heard.input t.heard.bytes ≡ None
    → is_refused o.x.of.socket t.heard.input ≡ false → (b : Bool)
    → is_late o.x.ask.form w.since t.heard.now ≡ b
    → s_then ≡ waited_with (at_state s answers (stage.Waits w)) w (Some o.x.ask) t.heard.now
    (cond b came.Silence came.Nothing)
    → Goes s (ts ++ t ∷ []) s_then
without_reply s ts answers w o t s_then none e heard false l f =
    let same = same_told s o.x t e in
    record {
      answers = answers;
      at = stage.Waits w;
      same = f;
      going = opens s ts answers w o t none
          (subst (λ (rs : List Replied). AreSome o.x.ask rs) (sym same) o.some) heard answers
          (same_kept s o.before o.x t answers o.kept same) w (longer_waits s o.x t w None o.is e);
    }
without_reply s ts answers w o t s_then none e heard true l f =
    let same = same_told s o.x t e in
    let of : w.of ≡ spent o.x.of = of_waits s o.x w o.is in
    let at : Stage = silent s.asks o.x.ask.form (spent o.x.of) in
    let some : AreSome o.x.ask (told s (longer o.x t)) =
    subst (λ (rs : List Replied). AreSome o.x.ask rs) (sym same) o.some in
    let since : w.since ≡ awaited_since s (longer o.x t) =
    since_waits s (longer o.x t) w (longer_waits s o.x t w None o.is e) in
    let passed : late_at o.x.ask.form (awaited_since s (longer o.x t)) ≤ t.heard.now =
    subst (λ (n : ℕ). late_at o.x.ask.form n ≤ t.heard.now) since
    (leb-true (late_at o.x.ask.form w.since) t.heard.now l) in
    let closed : HasSent s (ts ++ t ∷ []) answers at =
    closes s ts answers w o t none late
    (some, record { before = o.x.after; last = t; all = refl; late = passed })
    (none_more o.x.of.socket o.x.after t o.none heard) answers
    (same_kept s o.before o.x t answers o.kept same) at refl in
    record {
      answers = answers;
      at = at;
      same = f ∙ ap (λ (v : Try). at_state s answers (silent s.asks o.x.ask.form v)) of;
      going = silent_when s (ts ++ t ∷ []) answers o.x.ask (spent o.x.of) o.there (nat_lt 0 (spent o.x.of).left) closed;
    }

-- ---- a reply came

reply_kept : (s : State) (ts : List Turn) (answers : List (Option Replied)) (w : Waits) (o : Open s ts answers w)
    (t : Turn) (r : Replied) → told s (longer o.x t) ≡ told s o.x ++ r ∷ []
    → slice_set answers w.slot (Some r)
    ≡ put (answers_after s o.before) (first_slot o.x.ask.form o.x.of.place) (told s (longer o.x t))
reply_kept s ts answers w o t r more =
    let slot : ℕ = first_slot o.x.ask.form o.x.of.place in
    let earlier : List (Option Replied) = answers_after s o.before in
    ap (λ (xs : List (Option Replied)). slice_set xs w.slot (Some r)) o.kept
    ∙ (ap (λ (n : ℕ). slice_set (put earlier slot (told s o.x)) n (Some r)) (slot_waits s o.x w o.is)
    ∙ (sym (put_more earlier slot (told s o.x) r)
    ∙ ap (λ (rs : List Replied). put earlier slot rs) (sym more)))

-- it stops the load
stopped : (s : State) (ts : List Turn) (answers : List (Option Replied)) (w : Waits) (o : Open s ts answers w)
    (t : Turn) (s_then : State) (r : Replied) (code : ℤ) → t.posted ≡ []
    → is_refused o.x.of.socket t.heard.input ≡ false
    → told s (longer o.x t) ≡ told s o.x ++ r ∷ [] → stops_by o.x.ask.refusal r ≡ Some code
    → s_then ≡ at_state s (slice_set answers w.slot (Some r)) (stage.Over (end.Refused w.of.place code))
    → Goes s (ts ++ t ∷ []) s_then
stopped s ts answers w o t s_then r code none heard more e f =
    let kept : List (Option Replied) = slice_set answers w.slot (Some r) in
    let of : w.of ≡ spent o.x.of = of_waits s o.x w o.is in
    let at : Stage = stage.Over (end.Refused o.x.of.place code) in
    record {
      answers = kept;
      at = at;
      same = f ∙ ap (λ (v : Try). at_state s kept (stage.Over (end.Refused v.place code))) of;
      going = closes s ts answers w o t none (stops code)
          (r, record { before = told s o.x; all = more; some = o.some }, e)
          (none_more o.x.of.socket o.x.after t o.none heard) kept (reply_kept s ts answers w o t r more) at refl;
    }

-- more are waited for, or it was the last
goes_on_by : (s : State) (ts : List Turn) (answers : List (Option Replied)) (w : Waits) (o : Open s ts answers w)
    (t : Turn) (s_then : State) (r : Replied) → t.posted ≡ []
    → reply_to s.port o.x.ask o.x.of.socket t.heard.input t.heard.bytes ≡ Some r
    → is_refused o.x.of.socket t.heard.input ≡ false
    → told s (longer o.x t) ≡ told s o.x ++ r ∷ [] → stops_by o.x.ask.refusal r ≡ None → (b : Bool)
    → nat_lt 1 w.rest ≡ b
    → s_then ≡ at_state s (slice_set answers w.slot (Some r))
    (cond b (stage.Waits (one_less w t.heard.now)) (answered s.asks o.x.ask w.of))
    → Goes s (ts ++ t ∷ []) s_then
goes_on_by s ts answers w o t s_then r none came heard more e true l f =
    let kept : List (Option Replied) = slice_set answers w.slot (Some r) in
    let one : 1 < w.rest = ltb-true 1 w.rest l in
    let rest : w.rest ≡ replies o.x.ask.form - length (told s o.x) = rest_waits s o.x w o.is in
    let fewer : length (told s o.x ++ r ∷ []) < replies o.x.ask.form =
    omega (arith, one, rest, length-append (told s o.x) (r ∷ [])) in
    let some : AreSome o.x.ask (told s o.x ++ r ∷ []) =
    (go_on_more o.x.ask.refusal (told s o.x) r o.some.0 e, inr fewer) in
    record {
      answers = kept;
      at = stage.Waits (one_less w t.heard.now);
      same = f;
      going = opens s ts answers w o t none (subst (λ (rs : List Replied). AreSome o.x.ask rs) (sym more) some) heard
          kept (reply_kept s ts answers w o t r more) (one_less w t.heard.now)
          (longer_waits s o.x t w (Some r) o.is came);
    }
goes_on_by s ts answers w o t s_then r none came heard more e false l f =
    let kept : List (Option Replied) = slice_set answers w.slot (Some r) in
    let of : w.of ≡ spent o.x.of = of_waits s o.x w o.is in
    let at : Stage = answered s.asks o.x.ask (spent o.x.of) in
    let rest : w.rest ≡ replies o.x.ask.form - length (told s o.x) = rest_waits s o.x w o.is in
    let most : w.rest ≤ 1 = ltb-false 1 w.rest l in
    let enough : replies o.x.ask.form ≤ length (told s o.x) + 1 = omega (arith, rest, most) in
    let closed : HasSent s (ts ++ t ∷ []) kept at =
    closes s ts answers w o t none done
    (r, record { before = told s o.x; all = more; some = o.some }, e, enough)
    (none_more o.x.of.socket o.x.after t o.none heard) kept (reply_kept s ts answers w o t r more) at refl in
    record {
      answers = kept;
      at = at;
      same = f ∙ ap (λ (v : Try). at_state s kept (answered s.asks o.x.ask v)) of;
      going = answered_going s (ts ++ t ∷ []) kept o.x.ask (spent o.x.of) closed;
    }

with_reply : (s : State) (ts : List Turn) (answers : List (Option Replied)) (w : Waits) (o : Open s ts answers w)
    (t : Turn) (s_then : State) (r : Replied) → t.posted ≡ []
    → reply_to s.port o.x.ask o.x.of.socket t.heard.input t.heard.bytes ≡ Some r
    → is_refused o.x.of.socket t.heard.input ≡ false
    → told s (longer o.x t) ≡ told s o.x ++ r ∷ [] → (q : Option ℤ) → stops_by o.x.ask.refusal r ≡ q
    → s_then ≡ at_state s (slice_set answers w.slot (Some r)) (replied_by s.asks o.x.ask w t.heard.now q)
    → Goes s (ts ++ t ∷ []) s_then
with_reply s ts answers w o t s_then r none came heard more (Some code) e f =
    stopped s ts answers w o t s_then r code none heard more e f
with_reply s ts answers w o t s_then r none came heard more None e f =
    goes_on_by s ts answers w o t s_then r none came heard more e (nat_lt 1 w.rest) refl f

-- ---- nobody listens

refuses : (s : State) (ts : List Turn) (answers : List (Option Replied)) (w : Waits) (o : Open s ts answers w)
    (t : Turn) (s_then : State) → t.posted ≡ []
    → reply_to s.port o.x.ask o.x.of.socket t.heard.input t.heard.bytes ≡ None
    → is_refused o.x.of.socket t.heard.input ≡ true
    → s_then ≡ waited_with (at_state s answers (stage.Waits w)) w (Some o.x.ask) t.heard.now came.Nobody
    → Goes s (ts ++ t ∷ []) s_then
refuses s ts answers w o t s_then none e heard f =
    let same = same_told s o.x t e in
    let of : w.of ≡ spent o.x.of = of_waits s o.x w o.is in
    let at : Stage = stage.Over (end.Nobody o.x.of.place) in
    record {
      answers = answers;
      at = at;
      same = f ∙ ap (λ (v : Try). at_state s answers (stage.Over (end.Nobody v.place))) of;
      going = closes s ts answers w o t none nobody
          (subst (λ (rs : List Replied). AreSome o.x.ask rs) (sym same) o.some)
          (record { before = o.x.after; last = t; all = refl; none = o.none; refused = heard }) answers
          (same_kept s o.before o.x t answers o.kept same) at refl;
    }

-- what says so is no reply
refused_is_none : (port : ℕ) (a : Ask) (socket : ℕ) (i : Input) (bytes : List ℕ) → is_refused socket i ≡ true
    → reply_to port a socket i bytes ≡ None
refused_is_none port a socket (input.Datagram at from) bytes e = absurd (true≢false (sym e))
refused_is_none port a socket (input.Refused at) bytes e = refl
refused_is_none port a socket input.Wake bytes e = refl

-- ---- what was heard

waited_by : (s : State) (ts : List Turn) (answers : List (Option Replied)) (w : Waits) (o : Open s ts answers w)
    (t : Turn) (s_then : State) → t.posted ≡ [] → is_refused o.x.of.socket t.heard.input ≡ false
    → (q : Option Replied) → reply_to s.port o.x.ask o.x.of.socket t.heard.input t.heard.bytes ≡ q
    → s_then ≡ waited_with (at_state s answers (stage.Waits w)) w (Some o.x.ask) t.heard.now
    (came_by o.x.ask.form w.since t.heard.now q)
    → Goes s (ts ++ t ∷ []) s_then
waited_by s ts answers w o t s_then none heard (Some r) e f =
    with_reply s ts answers w o t s_then r none e heard (told_more s o.x t (Some r) e) (stops_by o.x.ask.refusal r) refl
    f
waited_by s ts answers w o t s_then none heard None e f =
    without_reply s ts answers w o t s_then none e heard (is_late o.x.ask.form w.since t.heard.now) refl f

waited_of : (s : State) (ts : List Turn) (answers : List (Option Replied)) (w : Waits) (o : Open s ts answers w)
    (t : Turn) (s_then : State) → t.posted ≡ [] → (b : Bool) → is_refused o.x.of.socket t.heard.input ≡ b
    → s_then ≡ waited_with (at_state s answers (stage.Waits w)) w (Some o.x.ask) t.heard.now
    (came_of o.x.ask.form w.since t.heard.now b
    (reply_to s.port o.x.ask o.x.of.socket t.heard.input t.heard.bytes))
    → Goes s (ts ++ t ∷ []) s_then
waited_of s ts answers w o t s_then none true e f =
    refuses s ts answers w o t s_then none
    (refused_is_none s.port o.x.ask o.x.of.socket t.heard.input t.heard.bytes e) e f
waited_of s ts answers w o t s_then none false e f =
    waited_by s ts answers w o t s_then none e
    (reply_to s.port o.x.ask o.x.of.socket t.heard.input t.heard.bytes) refl f

pub from_waits : (s : State) (ts : List Turn) (answers : List (Option Replied)) (w : Waits) → Open s ts answers w
    → (t : Turn) (s_then : State) → StateTurn (at_state s answers (stage.Waits w)) t s_then
    → Goes s (ts ++ t ∷ []) s_then
from_waits s ts answers w o t s_then turn =
    let state : State = at_state s answers (stage.Waits w) in
    let none : t.posted ≡ [] = none_posted t.posted turn.gave in
    let of : w.of ≡ spent o.x.of = of_waits s o.x w o.is in
    let there : slice_get s.asks w.of.place ≡ Some o.x.ask =
    ap (λ (v : Try). slice_get s.asks v.place) of ∙ o.there in
    waited_of s ts answers w o t s_then none (is_refused o.x.of.socket t.heard.input) refl
    (turn.after
    ∙ (ap (λ (ps : List Posted). state_losses ps (state_then state t.heard)) none
    ∙ (ap (λ (q : Option Ask). waited_with state w q t.heard.now (came_at s.port q w t.heard)) there
    ∙ ap (λ (v : Try). waited_with state w (Some o.x.ask) t.heard.now (came_of o.x.ask.form w.since t.heard.now
    (is_refused v.socket t.heard.input)
    (reply_to s.port o.x.ask v.socket t.heard.input t.heard.bytes))) of)))

-- ---- turns

goes_more : (s : State) (ts : List Turn) (answers : List (Option Replied)) (at : Stage) → Going s ts answers at
    → (t : Turn) (s_then : State) → StateTurn (at_state s answers at) t s_then → Goes s (ts ++ t ∷ []) s_then
goes_more s ts answers stage.Copies g t s_then turn = absurd g
goes_more s ts answers (stage.Sends of) g t s_then turn = from_sends s ts answers of g.0 g.1 g.2 t s_then turn
goes_more s ts answers (stage.Waits w) g t s_then turn = from_waits s ts answers w g t s_then turn
goes_more s ts answers (stage.Over e) g t s_then turn = absurd (true≢false turn.goes_on)

pub goes_next : (s : State) (ts : List Turn) (mid : State) → Goes s ts mid → (t : Turn) (s_then : State)
    → StateTurn mid t s_then → Goes s (ts ++ t ∷ []) s_then
goes_next s ts mid g t s_then turn =
    goes_more s ts g.answers g.at g.going t s_then
    (subst (λ (x : State). StateTurn x t s_then) g.same turn)
