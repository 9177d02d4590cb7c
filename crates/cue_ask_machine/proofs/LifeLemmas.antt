-- How a question stands after each turn.
use Rattle.std.proofs.Common.{◌≡◌, ℕ, Bool, true, false, cond, List, [], ◌∷◌, ◌++◌, length, map, Option, Some, None}
use Rattle.std.proofs.Common.{refl, sym, ap, ◌∙◌, subst, arith, append_assoc, append-nil, inl, inr}
use Rattle.std.specs.Prelude.{get_or}
use Rattle.std.proofs.lemmas.Bool.{true≢false}
use Rattle.cue_machine.specs.declared.address.Address.{Address}
use Rattle.cue_machine.specs.declared.ears.Input.{Input}
use Rattle.cue_machine.specs.declared.ears.Input.TheVariants as input
use Rattle.cue_machine.specs.declared.post.Output.{Output}
use Rattle.cue_machine.specs.Living.{AreTurns, IsTurn, Turn, after_loss_of, after_losses, all_posted}
use Rattle.cue_machine.specs.Posting.{Given, Posted, given_of}
use Rattle.cue_ask_machine.specs.declared.machine.AskMachine.{AskMachine}
use Rattle.cue_ask_machine.specs.declared.stage.AskEnd.{AskEnd}
use Rattle.cue_ask_machine.specs.declared.stage.AskEnd.TheVariants as end
use Rattle.cue_ask_machine.specs.declared.stage.Stage.{Stage}
use Rattle.cue_ask_machine.specs.declared.stage.Stage.TheVariants as stage
use Rattle.cue_ask_machine.specs.Lives.{AllUndecided, IsAsking, IsNaming, IsNew, IsSent, Stands, Waiting, ask_machine}
use Rattle.cue_ask_machine.specs.Lives.{post}
use Rattle.cue_ask_machine.specs.Stages.{stage_lost}
use Rattle.cue_ask_machine.specs.Steps.{after_loss, bytes_of, decided_by, decides, message_given, name_given, sends}
use Rattle.cue_ask_machine.specs.Steps.{waited, with_stage}

-- ---- what was posted in a turn

none_posted : (ps : List Posted) → map given_of ps ≡ [] → ps ≡ []
none_posted [] e = refl
none_posted (p ∷ ps) e = absurd (omega (arith, ap length e))

one_posted : (ps : List Posted) (g : Given) → map given_of ps ≡ g ∷ [] → (lost : Bool) × (ps ≡ post g lost ∷ [])
one_posted [] g e = absurd (omega (arith, ap length e))
one_posted (p ∷ []) g e =
    let first : p.given ≡ g = ap (λ (gs : List Given). get_or gs 0 g) e in
    (p.lost, ap (λ (x : Given). post x p.lost ∷ []) first)
one_posted (p ∷ q ∷ ps) g e = absurd (omega (arith, ap length e))

names_posted : (port : ℕ) (o : Option (List ℕ)) (ps : List Posted) → map given_of ps ≡ name_given port o
    → IsNaming port o ps
names_posted port None ps e = none_posted ps e
names_posted port (Some name) ps e = one_posted ps (sends port name) e

posted_last : (ts : List Turn) (t : Turn) → all_posted (ts ++ t ∷ []) ≡ all_posted ts ++ t.posted
posted_last [] t = append-nil t.posted
posted_last (s ∷ ts) t =
    ap (λ (ps : List Posted). s.posted ++ ps) (posted_last ts t) ∙ sym (append_assoc s.posted (all_posted ts) t.posted)

-- ---- what was lost

lost_either : (m : AskMachine) (again : Bool) (o : Output) (b : Bool)
    → cond b (after_loss (with_stage m (stage.Asks again)) o) (with_stage m (stage.Asks again))
    ≡ with_stage m (stage.Asks again)
lost_either m again o true = refl
lost_either m again o false = refl

-- that the name was lost changes nothing
name_lost : (ps : List Posted) (m : AskMachine) (again : Bool)
    → after_losses after_loss ps (with_stage m (stage.Asks again)) ≡ with_stage m (stage.Asks again)
name_lost [] m again = refl
name_lost (p ∷ ps) m again =
    ap (after_losses after_loss ps) (lost_either m again p.given.output p.lost) ∙ name_lost ps m again

message_lost : (m : AskMachine) (s : Stage) (g : Given) (lost : Bool)
    → after_losses after_loss (post g lost ∷ []) (with_stage m s) ≡ with_stage m (cond lost (stage_lost s) s)
message_lost m s g true = refl
message_lost m s g false = refl

-- ---- how it goes on

-- the message, if it was lost before
abbrev tries : Given → Bool → List Posted
tries asked again = cond again (post asked true ∷ []) []

-- what was posted so far
abbrev SoFar : AskMachine → List Posted → Stage → Type 0
SoFar m ps stage.Names = ps ≡ []
SoFar m ps (stage.Asks again) =
    (said : List Posted) × IsNaming m.port (bytes_of m.name) said × (ps ≡ said ++ tries (message_given m) again)
SoFar m ps (stage.Waits since again) =
    (said : List Posted) × IsNaming m.port (bytes_of m.name) said
    × (ps ≡ said ++ (tries (message_given m) again ++ post (message_given m) false ∷ []))
SoFar m ps (stage.Over e) =
    (said : List Posted) × IsNaming m.port (bytes_of m.name) said
    × (again : Bool) × (lost : Bool) × (ps ≡ said ++ (tries (message_given m) again ++ post (message_given m) lost ∷ []))

-- after these turns it is the same question, at a stage, and stands so
pub record Goes (m : AskMachine) (ts : List Turn) (m_then : AskMachine) : Type 0 where
  pub at : Stage
  pub same : m_then ≡ with_stage m at
  pub posted : SoFar m (all_posted ts) at
  pub stands : Stands m ts at

-- ---- the name goes out

said_first : (ts : List Turn) (t : Turn) → all_posted ts ≡ [] → all_posted (ts ++ t ∷ []) ≡ t.posted ++ []
said_first ts t e =
    posted_last ts t ∙ (ap (λ (ps : List Posted). ps ++ t.posted) e ∙ sym (append-nil t.posted))

from_names : (m : AskMachine) (ts : List Turn) (t : Turn) (m_then : AskMachine) → all_posted ts ≡ []
    → IsTurn ask_machine (with_stage m stage.Names) t m_then → Goes m (ts ++ t ∷ []) m_then
from_names m ts t m_then e h = record {
  at = stage.Asks false;
  same = h.after
      ∙ (ap (after_losses after_loss t.posted) h.stepped.left ∙ name_lost t.posted m false);
  posted = (t.posted, names_posted m.port (bytes_of m.name) t.posted h.stepped.gave, said_first ts t e);
  stands = tt;
}

-- ---- the message goes out

asked_next : (ts : List Turn) (t : Turn) (said ys zs : List Posted) → all_posted ts ≡ said ++ ys → t.posted ≡ zs
    → all_posted (ts ++ t ∷ []) ≡ said ++ (ys ++ zs)
asked_next ts t said ys zs e f =
    posted_last ts t
    ∙ (ap (λ (ps : List Posted). ps ++ t.posted) e
    ∙ (append_assoc said ys t.posted ∙ ap (λ (ps : List Posted). said ++ (ys ++ ps)) f))

asked_by : (m : AskMachine) (ts : List Turn) (again : Bool) (t : Turn) (m_then : AskMachine)
    → SoFar m (all_posted ts) (stage.Asks again) → (lost : Bool) → t.posted ≡ post (message_given m) lost ∷ []
    → m_then ≡ with_stage m (cond lost (stage_lost (stage.Waits t.heard.now again)) (stage.Waits t.heard.now again))
    → Goes m (ts ++ t ∷ []) m_then
asked_by m ts again t m_then so false e f = record {
  at = stage.Waits t.heard.now again;
  same = f;
  posted = (
    so.0,
    so.1,
    asked_next ts t so.0 (tries (message_given m) again) (post (message_given m) false ∷ []) so.2 e,
  );
  stands = record { before = ts; asked = t; after = []; all = refl; left = e; moment = refl; undecided = tt };
}
asked_by m ts false t m_then so true e f = record {
  at = stage.Asks true;
  same = f;
  posted = (so.0, so.1, asked_next ts t so.0 [] (post (message_given m) true ∷ []) so.2 e);
  stands = tt;
}
asked_by m ts true t m_then so true e f = record {
  at = stage.Over end.Lost;
  same = f;
  posted = (
    so.0,
    so.1,
    true,
    true,
    asked_next ts t so.0 (post (message_given m) true ∷ []) (post (message_given m) true ∷ []) so.2 e,
  );
  stands = inr (refl, record { before = ts; last = t; all = refl; lost = e });
}

from_asks : (m : AskMachine) (ts : List Turn) (again : Bool) (t : Turn) (m_then : AskMachine)
    → SoFar m (all_posted ts) (stage.Asks again) → IsTurn ask_machine (with_stage m (stage.Asks again)) t m_then
    → Goes m (ts ++ t ∷ []) m_then
from_asks m ts again t m_then so h =
    let one = one_posted t.posted (message_given m) h.stepped.gave in
    let s : Stage = stage.Waits t.heard.now again in
    asked_by m ts again t m_then so one.0 one.1
    (h.after
    ∙ (ap (after_losses after_loss t.posted) h.stepped.left
    ∙ (ap (λ (ps : List Posted). after_losses after_loss ps (with_stage m s)) one.1
    ∙ message_lost m s (message_given m) one.0)))

-- ---- its reply is waited for

same_decides : (m : AskMachine) (s : Stage) (since now : ℕ) (i : Input) (bytes : List ℕ)
    → decided_by (with_stage m s) since now i bytes ≡ decided_by m since now i bytes
same_decides m s since now (input.Datagram at from) bytes = refl
same_decides m s since now (input.Refused at) bytes = refl
same_decides m s since now input.Wake bytes = refl

undecided_more : (m : AskMachine) (since : ℕ) (ts : List Turn) (t : Turn) → AllUndecided m since ts
    → decides m since t.heard ≡ None → AllUndecided m since (ts ++ t ∷ [])
undecided_more m since [] t h e = (e, tt)
undecided_more m since (s ∷ ts) t h e = (h.0, undecided_more m since ts t h.1 e)

waits_more : (m : AskMachine) (since : ℕ) (ts : List Turn) (t : Turn) → Waiting m since ts
    → decides m since t.heard ≡ None → Waiting m since (ts ++ t ∷ [])
waits_more m since ts t w e = record {
  before = w.before;
  asked = w.asked;
  after = w.after ++ t ∷ [];
  all = ap (λ (xs : List Turn). xs ++ t ∷ []) w.all ∙ append_assoc w.before (w.asked ∷ w.after) (t ∷ []);
  left = w.left;
  moment = w.moment;
  undecided = undecided_more m since w.after t w.undecided e;
}

waited_by : (m : AskMachine) (ts : List Turn) (since : ℕ) (again : Bool) (t : Turn) (m_then : AskMachine)
    → SoFar m (all_posted (ts ++ t ∷ [])) (stage.Waits since again) → Waiting m since ts
    → (o : Option AskEnd) → decides m since t.heard ≡ o → m_then ≡ with_stage m (waited since again o)
    → Goes m (ts ++ t ∷ []) m_then
waited_by m ts since again t m_then so w None e f = record {
  at = stage.Waits since again;
  same = f;
  posted = so;
  stands = waits_more m since ts t w e;
}
waited_by m ts since again t m_then so w (Some x) e f = record {
  at = stage.Over x;
  same = f;
  posted = (so.0, so.1, again, false, so.2);
  stands = inl (record { before = ts; last = t; all = refl; since = since; waited = w; decided = e });
}

nothing_more : (ts : List Turn) (t : Turn) → t.posted ≡ [] → all_posted (ts ++ t ∷ []) ≡ all_posted ts
nothing_more ts t e =
    posted_last ts t ∙ (ap (λ (ps : List Posted). all_posted ts ++ ps) e ∙ append-nil (all_posted ts))

from_waits : (m : AskMachine) (ts : List Turn) (since : ℕ) (again : Bool) (t : Turn) (m_then : AskMachine)
    → SoFar m (all_posted ts) (stage.Waits since again) → Waiting m since ts
    → IsTurn ask_machine (with_stage m (stage.Waits since again)) t m_then → Goes m (ts ++ t ∷ []) m_then
from_waits m ts since again t m_then so w h =
    let s : Stage = stage.Waits since again in
    let none : t.posted ≡ [] = none_posted t.posted h.stepped.gave in
    let same : decides (with_stage m s) since t.heard ≡ decides m since t.heard =
    same_decides m s since t.heard.now t.heard.input t.heard.bytes in
    waited_by m ts since again t m_then (so.0, so.1, nothing_more ts t none ∙ so.2) w (decides m since t.heard) refl
    (h.after
    ∙ (ap (λ (ps : List Posted). after_losses after_loss ps h.mid) none
    ∙ (h.stepped.left ∙ ap (λ (o : Option AskEnd). with_stage m (waited since again o)) same)))

-- ---- turns

goes_more : (m : AskMachine) (ts : List Turn) (s : Stage) (t : Turn) (m_then : AskMachine)
    → SoFar m (all_posted ts) s → Stands m ts s → IsTurn ask_machine (with_stage m s) t m_then
    → Goes m (ts ++ t ∷ []) m_then
goes_more m ts stage.Names t m_then so st h = from_names m ts t m_then so h
goes_more m ts (stage.Asks again) t m_then so st h = from_asks m ts again t m_then so h
goes_more m ts (stage.Waits since again) t m_then so st h = from_waits m ts since again t m_then so st h
goes_more m ts (stage.Over e) t m_then so st h = absurd (true≢false h.goes_on)

goes_all : (m : AskMachine) (before ts : List Turn) (mid m_then : AskMachine) → Goes m before mid
    → AreTurns ask_machine mid ts m_then → Goes m (before ++ ts) m_then
goes_all m before [] mid m_then g h =
    subst (λ (xs : List Turn). Goes m xs m_then) (sym (append-nil before))
    (subst (λ (x : AskMachine). Goes m before x) (sym h) g)
goes_all m before (t ∷ ts) mid m_then g h =
    let turn : IsTurn ask_machine (with_stage m g.at) t h.0 =
    subst (λ (x : AskMachine). IsTurn ask_machine x t h.0) g.same h.1 in
    subst (λ (xs : List Turn). Goes m xs m_then) (append_assoc before (t ∷ []) ts)
    (goes_all m (before ++ t ∷ []) ts h.0 m_then (goes_more m before g.at t h.0 g.posted g.stands turn) h.2)

-- how a question stands after the turns of its life
pub goes : (m : AskMachine) (ts : List Turn) (m_then : AskMachine) → IsNew m → AreTurns ask_machine m ts m_then
    → Goes m ts m_then
goes m ts m_then new h =
    goes_all m [] ts m m_then
    (record { at = stage.Names; same = ap (λ (s : Stage). with_stage m s) new; posted = refl; stands = refl }) h

-- ---- what that comes to

asks_either : (g : Given) (again : Bool) → IsAsking g (tries g again)
asks_either g false = inl refl
asks_either g true = inr (inl (true, refl))

asks_both : (g : Given) (again lost : Bool) → IsAsking g (tries g again ++ post g lost ∷ [])
asks_both g false lost = inr (inl (lost, refl))
asks_both g true lost = inr (inr (lost, refl))

sent_by : (m : AskMachine) (ps : List Posted) (s : Stage) → SoFar m ps s → IsSent m ps
sent_by m ps stage.Names h = inl h
sent_by m ps (stage.Asks again) h = inr (record {
  said = h.0;
  asked = tries (message_given m) again;
  all = h.2;
  names = h.1;
  asks = asks_either (message_given m) again;
})
sent_by m ps (stage.Waits since again) h = inr (record {
  said = h.0;
  asked = tries (message_given m) again ++ post (message_given m) false ∷ [];
  all = h.2;
  names = h.1;
  asks = asks_both (message_given m) again false;
})
sent_by m ps (stage.Over e) h = inr (record {
  said = h.0;
  asked = tries (message_given m) h.2 ++ post (message_given m) h.3 ∷ [];
  all = h.4;
  names = h.1;
  asks = asks_both (message_given m) h.2 h.3;
})

pub sent : (m : AskMachine) (ts : List Turn) (m_then : AskMachine) → Goes m ts m_then → IsSent m (all_posted ts)
sent m ts m_then g = sent_by m (all_posted ts) g.at g.posted

pub at_stage : (m : AskMachine) (ts : List Turn) (m_then : AskMachine) (g : Goes m ts m_then) → m_then.stage ≡ g.at
at_stage m ts m_then g = ap (λ (x : AskMachine). x.stage) g.same

pub stands : (m : AskMachine) (ts : List Turn) (m_then : AskMachine) → Goes m ts m_then → Stands m ts m_then.stage
stands m ts m_then g = subst (Stands m ts) (sym (at_stage m ts m_then g)) g.stands
