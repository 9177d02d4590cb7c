-- A connection is served.
use Rattle.std.proofs.Common.{◌≡◌, ◌∙◌, refl, sym, ap, subst, inl, inr, ℕ, Bool, true, false, List, [], ◌∷◌, ◌++◌}
use Rattle.cue_desk_run.specs.Working.{OnlyLooks}
use Rattle.cue_desk_run.proofs.WorkLemmas.{looks_none, looks_then}
use Rattle.cue_request.specs.declared.identity.PageIdentity.{PageIdentity}
use Rattle.cue_request.specs.declared.lock.Guard.{Guard}
use Rattle.cue_station.specs.declared.station.Station.{Station}
use Rattle.cue_view.specs.declared.view.View.{View}
use Rattle.cue_connection.specs.declared.asking.Asking.{Asking}
use Rattle.cue_web.specs.declared.wire.Wire.{Wire}
use Rattle.cue_connection.specs.declared.stage.Stage.{Stage}
use Rattle.cue_connection.specs.Asking.{AsksIn}
use Rattle.cue_connection.specs.Stages.{AsksOnce, is_asking}
use Rattle.cue_web.specs.Serving.{Answers, AreAt, HandsOn, IsServed, OnlyAsked, OnlyServed, Serves, Serving}
use Rattle.cue_web.specs.Serving.{guard_after}

-- ---- one connection

-- it asked, was answered, and asks nothing more
pub served : (identity : PageIdentity) (g g_then : Guard) (now : ℕ) (c mid c_then : Wire) (old new : Station)
    (v v_then : View) (a : Asking) → AsksIn identity mid.connection.input.items a → is_asking c.connection.stage ≡ true
    → is_asking c_then.connection.stage ≡ false → c_then.connection.input ≡ mid.connection.input → Answers g now a old
    new v v_then
    → g_then ≡ guard_after g now a → Serves identity g g_then now c c_then old new v v_then
served identity g g_then now c mid c_then old new v v_then a came first over same answers counted =
    inl (record {
      asks = a;
      came = subst (λ (bytes : List ℕ). AsksIn identity bytes a) (sym (ap (λ input. input.items) same)) came;
      first = first;
      over = over;
      answers = answers;
      counted = counted;
    })

-- it asked nothing
pub unasked : (identity : PageIdentity) (g : Guard) (now : ℕ) (c c_then : Wire) (s : Station) (v : View)
    → Serves identity g g now c c_then s s v v
unasked identity g now c c_then s v = inr (record { unheard = (refl, refl); uncounted = refl })

-- it asked before
pub once_first : (old new : Stage) → is_asking old ≡ true → AsksOnce old new
once_first old new first = record { once = λ asking. first }

-- it stands where it stood
pub once_same : (old new : Stage) → new ≡ old → AsksOnce old new
once_same old new same = record { once = λ asking. ap (λ (s : Stage). is_asking s) (sym same) ∙ asking }

-- it asks no more
pub once_over : (old new : Stage) → is_asking new ≡ false → AsksOnce old new
once_over old new over = record { once = λ asking. let e : false ≡ true = sym over ∙ asking in absurd cc }

-- one after the other
pub once_then : (old mid new : Stage) → AsksOnce old mid → AsksOnce mid new → AsksOnce old new
once_then old mid new first second = record { once = λ asking. first.once (second.once asking) }

-- it asks no more, whatever follows
not-again : (was is : Bool) → (is ≡ true → was ≡ true) → was ≡ false → is ≡ false
not-again was true once over = sym (once refl) ∙ over
not-again was false once over = refl

-- it was served, and goes on with its answer
pub serves_on : (identity : PageIdentity) (g g_then : Guard) (now : ℕ) (c mid c_then : Wire)
    (old new : Station) (v v_then : View) → Serves identity g g_then now c mid old new v v_then
    → AsksOnce mid.connection.stage c_then.connection.stage → c_then.connection.input ≡ mid.connection.input
    → Serves identity g g_then now c c_then old new v v_then
serves_on identity g g_then now c mid c_then old new v v_then (inl asked) once same =
    served identity g g_then now c mid c_then old new v v_then asked.asks asked.came asked.first
    (not-again (is_asking mid.connection.stage) (is_asking c_then.connection.stage) once.once asked.over) same
    asked.answers asked.counted
serves_on identity g g_then now c mid c_then old new v v_then (inr nothing) once same = inr nothing

-- ---- one connection after the other

-- one connection is served
pub served_one : (page : PageIdentity) (s : Serving) → IsServed page s → OnlyServed page (s ∷ []) s.old s.new
served_one page s is = (looks_none s.old, is, looks_none s.new)

-- looks come first
looks-first : (page : PageIdentity) (more : List Serving) (old mid new : Station) → OnlyLooks old mid
    → OnlyServed page more mid new → OnlyServed page more old new
looks-first page [] old mid new looks heard = looks_then old mid new looks heard
looks-first page (s ∷ more) old mid new looks heard = (looks_then old mid s.old looks heard.0, heard.1, heard.2)

-- some are served, and then others
pub served_then : (page : PageIdentity) (first more : List Serving) (old mid new : Station)
    → OnlyServed page first old mid → OnlyServed page more mid new → OnlyServed page (first ++ more) old new
served_then page [] more old mid new a b = looks-first page more old mid new a b
served_then page (s ∷ first) more old mid new a b = (a.0, a.1, served_then page first more s.new mid new a.2 b)

-- and the lock is handed on from the first to the last
pub hands_then : (first more : List Serving) (g mid g_then : Guard) → HandsOn first g mid → HandsOn more mid g_then
    → HandsOn (first ++ more) g g_then
hands_then [] more g mid g_then a b = subst (λ (x : Guard). HandsOn more x g_then) a b
hands_then (s ∷ first) more g mid g_then a b = (a.0, hands_then first more s.guard_then mid g_then a.1 b)

-- all at one moment
pub at_then : (now : ℕ) (first more : List Serving) → AreAt now first → AreAt now more → AreAt now (first ++ more)
at_then now [] more a b = b
at_then now (s ∷ first) more a b = (a.0, at_then now first more a.1 b)

-- ---- whatever the page served

-- no press is heard
pub asked_looks : (identity identity_then : PageIdentity) (g g_then : Guard) (old new : Station) → OnlyLooks old new
    → identity_then ≡ identity → g_then ≡ g → OnlyAsked identity identity_then g g_then old new
asked_looks identity identity_then g g_then old new looks same locked =
    record { servings = []; lock = locked; heard = looks; identity = same }

-- nothing is heard
pub asked_none : (identity : PageIdentity) (g : Guard) (s : Station) → OnlyAsked identity identity g g s s
asked_none identity g s = asked_looks identity identity g g s s (looks_none s) refl refl

pub asked_same : (identity identity_then : PageIdentity) (g g_then : Guard) (old new : Station) → new ≡ old
    → identity_then ≡ identity → g_then ≡ g → OnlyAsked identity identity_then g g_then old new
asked_same identity identity_then g g_then old new e same locked =
    asked_looks identity identity_then g g_then old new
    (subst (λ (s : Station). OnlyLooks old s) (sym e) (looks_none old)) same locked

-- one after the other
pub asked_then : (identity mid_identity identity_then : PageIdentity) (g mid_g g_then : Guard) (old mid new : Station)
    → OnlyAsked identity mid_identity g mid_g old mid → OnlyAsked mid_identity identity_then mid_g g_then mid new
    → OnlyAsked identity identity_then g g_then old new
asked_then identity mid_identity identity_then g mid_g g_then old mid new a b =
    record {
      servings = a.servings ++ b.servings;
      lock = hands_then a.servings b.servings g mid_g g_then a.lock b.lock;
      heard = served_then identity a.servings b.servings old mid new a.heard
          (subst (λ (i : PageIdentity). OnlyServed i b.servings mid new) a.identity b.heard);
      identity = b.identity ∙ a.identity;
    }
