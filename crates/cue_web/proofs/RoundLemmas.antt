-- A round over the connections.
use Rattle.std.proofs.Common.{◌≡◌, ◌∙◌, refl, sym, ap, subst, ℕ, ◌+◌, ◌<◌, ◌≤◌, List, [], ◌∷◌, ◌++◌, length, map, drop}
use Rattle.std.proofs.Common.{set}
use Rattle.std.proofs.Common.{get_or, filter}
use Rattle.std.proofs.lemmas.List.{append-nil, append_assoc, drop_all, drop_more, get_or_at, length-append, length-map}
use Rattle.std.proofs.lemmas.List.{map-append, set_at}
use Rattle.cue_desk_run.proofs.WorkLemmas.{looks_none}
use Rattle.cue_request.specs.declared.identity.PageIdentity.{PageIdentity}
use Rattle.cue_request.specs.declared.lock.Guard.{Guard}
use Rattle.cue_station.specs.declared.station.Station.{Station}
use Rattle.cue_view.specs.declared.view.View.{View}
use Rattle.cue_web.specs.declared.wire.Wire.{Wire}
use Rattle.cue_web.proofs.ServeLemmas.{at_then, hands_then, served_one, served_then}
use Rattle.cue_connection.specs.Stages.{AsksOnce}
use Rattle.cue_web.specs.Serving.{AreAt, HandsOn, HasRound, OnlyAsked, OnlyServed, Serves, ServesEach}
use Rattle.cue_web.specs.Serving.{Serving, is_here}

-- Of the connections that were here the first so many were served; the others stand as they stood.
pub record ServesFirst (page page_then : PageIdentity) (g g_then : Guard) (now : ℕ) (were are : List Wire)
    (n : ℕ) (old new : Station) : Type 0 where
  pub servings : List Serving
  pub count : length servings ≡ n
  pub moment : AreAt now servings
  pub lock : HandsOn servings g g_then
  pub each : were ≡ map (λ (s : Serving). s.before) servings ++ drop n were
  pub left : are ≡ map (λ (s : Serving). s.after) servings ++ drop n were
  pub heard : OnlyServed page servings old new
  pub identity : page_then ≡ page

-- none was served yet
pub first_none : (page : PageIdentity) (g : Guard) (now : ℕ) (were : List Wire) (s : Station)
    → ServesFirst page page g g now were were 0 s s
first_none page g now were s =
    record {
      servings = [];
      count = refl;
      moment = tt;
      lock = refl;
      each = refl;
      left = refl;
      heard = looks_none s;
      identity = refl;
    }

-- the next is served
pub first_more : (page mid_page page_then : PageIdentity) (g mid_g g_then : Guard) (now : ℕ)
    (were are : List Wire) (i : ℕ) (d c_then : Wire) (old mid new : Station) (v v_then : View)
    → i < length were
    → ServesFirst page mid_page g mid_g now were are i old mid
    → Serves mid_page mid_g g_then now (get_or are i d) c_then mid new v v_then
    → AsksOnce (get_or are i d).connection.stage c_then.connection.stage → page_then ≡ mid_page
    → ServesFirst page page_then g g_then now were (set are i c_then) (i + 1) old new
first_more page mid_page page_then g mid_g g_then now were are i d c_then old mid new v v_then within past serves once
    same =
    let c : Wire = get_or are i d in
    let s : Serving = record {
      at = now;
      guard = mid_g;
      guard_then = g_then;
      before = c;
      after = c_then;
      old = mid;
      new = new;
      view = v;
      view_then = v_then;
    } in
    let next : Wire = get_or were i d in
    let rest : List Wire = drop (i + 1) were in
    let front : List Wire = map (λ (s : Serving). s.before) past.servings in
    let back : List Wire = map (λ (s : Serving). s.after) past.servings in
    let long : length back ≡ i = length-map past.servings (λ (s : Serving). s.after) ∙ past.count in
    let parts : are ≡ back ++ next ∷ rest = past.left ∙ ap (λ l. back ++ l) (drop_more were i d within) in
    let is : c ≡ next = ap (λ l. get_or l i d) parts ∙ get_or_at back next rest d i long in
    record {
      servings = past.servings ++ s ∷ [];
      count = length-append past.servings (s ∷ []) ∙ ap (λ n. n + 1) past.count;
      moment = at_then now past.servings (s ∷ []) past.moment (refl, tt);
      lock = hands_then past.servings (s ∷ []) g mid_g g_then past.lock (refl, refl);
      each = past.each ∙ ap (λ l. front ++ l) (drop_more were i d within) ∙ ap (λ x. front ++ x ∷ rest) (sym is)
          ∙ sym (append_assoc front (c ∷ []) rest)
          ∙ ap (λ l. l ++ rest) (sym (map-append (λ (s : Serving). s.before) past.servings (s ∷ [])));
      left = ap (λ l. set l i c_then) parts ∙ set_at back next rest c_then i long
          ∙ sym (append_assoc back (c_then ∷ []) rest)
          ∙ ap (λ l. l ++ rest) (sym (map-append (λ (s : Serving). s.after) past.servings (s ∷ [])));
      heard = served_then page past.servings (s ∷ []) old mid new past.heard
          (served_one page s (record {
            serves = subst (λ (i : PageIdentity). Serves i mid_g g_then now c c_then mid new v v_then) past.identity
                serves;
            once = once;
          }));
      identity = same ∙ past.identity;
    }

-- all were served
pub first_all : (page page_then : PageIdentity) (g g_then : Guard) (now : ℕ) (were are : List Wire) (n : ℕ)
    (old new : Station) → length were ≤ n → ServesFirst page page_then g g_then now were are n old new
    → ServesEach page page_then g g_then now were are old new
first_all page page_then g g_then now were are n old new long past =
    let none : drop n were ≡ [] = drop_all n were long in
    let each : were ≡ map (λ (s : Serving). s.before) past.servings =
    past.each ∙ ap (λ l. map (λ (s : Serving). s.before) past.servings ++ l) none ∙ append-nil _ in
    let left : are ≡ map (λ (s : Serving). s.after) past.servings =
    past.left ∙ ap (λ l. map (λ (s : Serving). s.after) past.servings ++ l) none ∙ append-nil _ in
    record {
      servings = past.servings;
      moment = past.moment;
      lock = past.lock;
      each = sym each;
      leaves = sym left;
      heard = past.heard;
      identity = past.identity;
    }

-- those that are still there stay
pub has_round : (page page_then : PageIdentity) (g g_then : Guard) (now : ℕ) (here left here_then : List Wire)
    (old new : Station) → ServesEach page page_then g g_then now here left old new → here_then ≡ filter is_here left
    → HasRound page page_then g g_then now here here_then old new
has_round page page_then g g_then now here left here_then old new served stay =
    record { left = left; served = served; stay = stay }

-- so nothing else was heard
pub round_asked : (page page_then : PageIdentity) (g g_then : Guard) (now : ℕ) (here left : List Wire)
    (old new : Station) → ServesEach page page_then g g_then now here left old new
    → OnlyAsked page page_then g g_then old new
round_asked page page_then g g_then now here left old new served =
    record { servings = served.servings; lock = served.lock; heard = served.heard; identity = served.identity }
