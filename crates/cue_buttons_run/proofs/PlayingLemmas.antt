-- What happens at a panel, round by round.
use Rattle.std.proofs.Common.{◌≡◌, ◌∙◌, refl, sym, ap, subst, inl, inr, ℕ, ◌+◌, ◌<◌, ◌≤◌, Bool, true, false, List}
use Rattle.std.proofs.Common.{[], ◌∷◌, ◌++◌, length, get_or, map, take, append_assoc, Option, Some, None}
use Rattle.std.proofs.Common.{Result, Ok, Err}
use Rattle.std.specs.Prelude.{IsErr, is_ok}
use Rattle.std.proofs.lemmas.List.{take_all, take_more, map-append}
use Rattle.cue_machine.specs.Growing.{Grew}
use Rattle.cue_machine.proofs.LivingLemmas.{grew_both, grew_none}
use Rattle.cue_desk_run.specs.Working.{OnlyLooks, Stays}
use Rattle.cue_panel.specs.Playing.{HearsByte, IsOpened, Undoes, begun_at, hand_if, strike_if}
use Rattle.cue_panel.specs.declared.player.Player.{Player}
use Rattle.cue_panel.specs.declared.taking.Strike.{Strike}
use Rattle.cue_presses.specs.declared.hand.Hand.{Hand}
use Rattle.cue_station.specs.declared.station.Station.{Station}
use Rattle.cue_view.specs.declared.view.View.{View}
use Rattle.cue_buttons_run.specs.Playing.{AllHappen, AllRounds, Ends, Gives, GivesAll, Goes, Happening, HasListened}
use Rattle.cue_buttons_run.specs.Playing.{HeardAs, Hears, HearsCame, IsCut, IsRound, ListensAt, Opens}
use Rattle.cue_buttons_run.specs.Playing.{Rest, RoundFrom, Rounds, Stand, cut_at}
use Rattle.cue_buttons_run.specs.Playing.{empties, gives, happen_by, happens_by, rest, stand}
use Rattle.cue_buttons_run.specs.Pressing.{IsPressed, Strikes}
use Rattle.cue_buttons_run.specs.Telling.{Reading, Told, bytes_in, gave, nothing, opened, reads, silent}
use Rattle.cue_buttons_run.specs.Telling.{told_as}
use Rattle.cue_buttons_run.specs.declared.jack.Came.{Came}
use Rattle.cue_buttons_run.specs.declared.jack.Came.TheVariants as came
use Rattle.cue_buttons_run.proofs.PressLemmas.{strikes_lost, strikes_none, strikes_pressed}

-- ---- one byte

strikes-at : (w : Bool) (a b : Option Strike) (h g h_then : Hand) (old new : Station) (v v_then : View) → b ≡ a → g ≡ h
    → Strikes w a h h_then old new v v_then → Strikes w b g h_then old new v v_then
strikes-at w a b h g h_then old new v v_then e f c =
    subst (λ (x : Option Strike). Strikes w x g h_then old new v v_then) (sym e)
    (subst (λ (x : Hand). Strikes w a x h_then old new v v_then) (sym f) c)

-- memory ran out before anything was pressed
pub gives_lost : {E : Type 0} (byte : ℕ) (e : E) (p p_then : Player) (old new : Station) (v v_then : View)
    → HearsByte {E = E} byte v p p_then (Err e) → new ≡ old → v_then ≡ v → Gives false byte p p_then old new v v_then
gives_lost byte e p p_then old new v v_then h a b =
    record {
      message = h.message;
      hears = h.hears;
      keeps = h.keeps;
      setting = h.setting;
      strikes = strikes_lost (strike_if p.setting p.hand v h.message) (hand_if p.setting p.hand h.message) p_then.hand
          old new v v_then h.hand a b;
    }

-- nothing is given to be pressed
pub gives_none : {E : Type 0} (w : Bool) (byte : ℕ) (p p_then : Player) (old new : Station) (v v_then : View)
    → HearsByte {E = E} byte v p p_then (Ok None) → new ≡ old → v_then ≡ v → Gives w byte p p_then old new v v_then
gives_none w byte p p_then old new v v_then h a b =
    record {
      message = h.message;
      hears = h.hears;
      keeps = h.keeps;
      setting = h.setting;
      strikes = strikes-at w None (strike_if p.setting p.hand v h.message) (hand_if p.setting p.hand h.message)
          (hand_if p.setting p.hand h.message) p_then.hand old new v v_then (sym h.gives) refl
          (strikes_none w (hand_if p.setting p.hand h.message) p_then.hand old new v v_then h.hand a b);
    }

-- what is given is pressed
pub gives_pressed : {E : Type 0} (w : Bool) (byte : ℕ) (x : Strike) (p mid p_then : Player) (old new : Station)
    (v v_then : View) → HearsByte {E = E} byte v p mid (Ok (Some x))
    → IsPressed x.press mid.hand p_then.hand old new v v_then → p_then.setting ≡ mid.setting
    → p_then.parser ≡ mid.parser → Gives w byte p p_then old new v v_then
gives_pressed w byte x p mid p_then old new v v_then h is set same =
    record {
      message = h.message;
      hears = h.hears;
      keeps = λ past after. rw same (h.keeps past after);
      setting = set ∙ h.setting;
      strikes = strikes-at w (Some x) (strike_if p.setting p.hand v h.message) mid.hand
          (hand_if p.setting p.hand h.message) p_then.hand old new v v_then (sym h.gives) (sym h.hand)
          (strikes_pressed w x mid.hand p_then.hand old new v v_then is);
    }

-- ---- a device is opened

pub opens_none : (now : ℕ) (t t_then : Option (List Told)) (p p_then : Player) → t_then ≡ t → p_then ≡ p
    → Opens now t t_then p p_then
opens_none now t t_then p p_then a b =
    (false, subst (λ (x : Option (List Told)). Grew t [] x) (sym a) (grew_none t), b)

-- it is, and the jack tells so
pub opens_it : (now : ℕ) (t t_then : Option (List Told)) (p p_then : Player) → Grew t (opened ∷ []) t_then
    → IsOpened now p p_then → Opens now t t_then p p_then
opens_it now t t_then p p_then told opens = (true, told, opens)

-- it is not
pub opens_not : (now : ℕ) (t t_then : Option (List Told)) (p p_then : Player) → Grew t [] t_then → p_then ≡ p
    → Opens now t t_then p p_then
opens_not now t t_then p p_then told same = (false, told, same)

-- ---- one thing after the other

all-then : (first more : List Happening) (a b c : Stand) → AllHappen first a b → AllHappen more b c
    → AllHappen (first ++ more) a c
all-then [] more a b c e rest = subst (λ (x : Stand). AllHappen more x c) e rest
all-then (h ∷ first) more a b c all rest = (all.0, all.1, all-then first more all.0 b c all.2 rest)

heard-all : (w : Bool) (rs : List Reading) (hs : List Happening) → hs ≡ happen_by rs → HeardAs w rs hs
heard-all true rs hs e = e
heard-all false rs hs e = inl e

-- each byte whole
abbrev pub givens : List ℕ → List Happening
givens bytes = map (λ b. gives true b) bytes

-- first the ones, and then the others
happen-both : (rs more : List Reading) → happen_by (rs ++ more) ≡ happen_by rs ++ happen_by more
happen-both [] more = refl
happen-both (r ∷ rs) more =
    ap (λ (hs : List Happening). happens_by r ++ hs) (happen-both rs more)
    ∙ sym (append_assoc (happens_by r) (happen_by rs) (happen_by more))

cut-both : (rs more : List Reading) (hs after : List Happening) → hs ≡ happen_by rs → IsCut more after
    → IsCut (rs ++ more) (hs ++ after)
cut-both rs more hs after e c =
    record {
      before = rs ++ c.before;
      bytes = c.bytes;
      count = c.count;
      last = ap (λ (x : List Reading). rs ++ x) c.last ∙ sym (append_assoc rs c.before (gave c.bytes ∷ []));
      within = c.within;
      heard = ap (λ (x : List Happening). hs ++ x) c.heard
          ∙ ap (λ (x : List Happening). x ++ (happen_by c.before ++ (givens (take c.count c.bytes)
          ++ gives false (get_or c.bytes c.count 0) ∷ []))) e
          ∙ sym (append_assoc (happen_by rs) (happen_by c.before) (givens (take c.count c.bytes)
          ++ gives false (get_or c.bytes c.count 0) ∷ []))
          ∙ ap (λ (x : List Happening). x ++ (givens (take c.count c.bytes)
          ++ gives false (get_or c.bytes c.count 0) ∷ [])) (sym (happen-both rs c.before));
    }

happened-both : (rs more : List Reading) (hs after : List Happening) → hs ≡ happen_by rs → after ≡ happen_by more
    → hs ++ after ≡ happen_by (rs ++ more)
happened-both rs more hs after e heard =
    ap (λ (x : List Happening). x ++ after) e ∙ ap (λ (x : List Happening). happen_by rs ++ x) heard
    ∙ sym (happen-both rs more)

heard-both : (w : Bool) (rs more : List Reading) (hs after : List Happening) → hs ≡ happen_by rs
    → HeardAs w more after → HeardAs w (rs ++ more) (hs ++ after)
heard-both true rs more hs after e heard = happened-both rs more hs after e heard
heard-both false rs more hs after e (inl heard) = inl (happened-both rs more hs after e heard)
heard-both false rs more hs after e (inr cut) = inr (cut-both rs more hs after e cut)

same-stand : (p p_then : Player) (old new : Station) (v v_then : View) → p_then ≡ p → new ≡ old → v_then ≡ v
    → stand p_then new v_then ≡ stand p old v
same-stand p p_then old new v v_then a b c =
    ap (λ (x : Player). stand x new v_then) a ∙ ap (λ (x : Station). stand p x v_then) b
    ∙ ap (λ (x : View). stand p old x) c

-- nothing happens
pub hears_none : (w : Bool) (t : Option (List Told)) (p : Player) (s : Station) (v : View) → Hears w t t p p s s v v
hears_none w t p s v =
    record { readings = []; read = grew_none t; happened = []; heard = heard-all w [] [] refl; happens = refl }

pub hears_same : (w : Bool) (t t_then : Option (List Told)) (p p_then : Player) (old new : Station) (v v_then : View)
    → t_then ≡ t → p_then ≡ p → new ≡ old → v_then ≡ v → Hears w t t_then p p_then old new v v_then
hears_same w t t_then p p_then old new v v_then d a b c =
    subst (λ (x : Option (List Told)). Hears w t x p p_then old new v v_then) (sym d)
    (subst (λ (x : Player). Hears w t t p x old new v v_then) (sym a)
    (subst (λ (x : Station). Hears w t t p p old x v v_then) (sym b)
    (subst (λ (x : View). Hears w t t p p old old v x) (sym c) (hears_none w t p old v))))

-- first the one, and then the other
pub hears_then : (w : Bool) (t t_mid t_then : Option (List Told)) (p mid p_then : Player) (old between new : Station)
    (v v_mid v_then : View) → Hears true t t_mid p mid old between v v_mid
    → Hears w t_mid t_then mid p_then between new v_mid v_then → Hears w t t_then p p_then old new v v_then
hears_then w t t_mid t_then p mid p_then old between new v v_mid v_then a b =
    record {
      readings = a.readings ++ b.readings;
      read = subst (λ (xs : List Told). Grew t xs t_then)
          (sym (map-append (λ (r : Reading). reads r) a.readings b.readings))
          (grew_both t (map (λ (r : Reading). reads r) a.readings) t_mid (map (λ (r : Reading). reads r) b.readings)
          t_then a.read b.read);
      happened = a.happened ++ b.happened;
      heard = heard-both w a.readings b.readings a.happened b.happened a.heard b.heard;
      happens = all-then a.happened b.happened (stand p old v) (stand mid between v_mid) (stand p_then new v_then)
          a.happens b.happens;
    }

-- what ended in a failure
not-ok : {T E : Type 0} (r : Result T E) → IsErr r → is_ok r ≡ false
not-ok (Ok x) e = absurd cc
not-ok (Err x) e = refl

pub hears_fails : {T E : Type 0} (r : Result T E) (t t_mid t_then : Option (List Told)) (p mid p_then : Player)
    (old between new : Station) (v v_mid v_then : View) → IsErr r → Hears true t t_mid p mid old between v v_mid
    → Hears false t_mid t_then mid p_then between new v_mid v_then → Hears (is_ok r) t t_then p p_then old new v v_then
hears_fails r t t_mid t_then p mid p_then old between new v v_mid v_then err a b =
    subst (λ (w : Bool). Hears w t t_then p p_then old new v v_then) (sym (not-ok r err))
    (hears_then false t t_mid t_then p mid p_then old between new v v_mid v_then a b)

-- ---- bytes

heard-given : (w : Bool) (bytes : List ℕ) (p p_then : Player) (old new : Station) (v v_then : View)
    → (g : GivesAll w bytes p p_then old new v v_then)
    → HeardAs w (gave bytes ∷ []) (givens (take g.count bytes) ++ cut_at w (get_or bytes g.count 0))
heard-given true bytes p p_then old new v v_then g =
    ap (λ (xs : List ℕ). givens xs ++ []) (take_all g.count bytes (g.all refl))
heard-given false bytes p p_then old new v v_then g =
    inr (record {
      before = [];
      bytes = bytes;
      count = g.count;
      last = refl;
      within = g.some refl;
      heard = refl;
    })

-- it gave none
hears-silent : (w : Bool) (t t_then : Option (List Told)) (p p_then : Player) (old new : Station) (v v_then : View)
    → Grew t (reads silent ∷ []) t_then → p_then ≡ p → Stays old new v v_then
    → Hears w t t_then p p_then old new v v_then
hears-silent w t t_then p p_then old new v v_then told same stays =
    record {
      readings = silent ∷ [];
      read = told;
      happened = [];
      heard = heard-all w (silent ∷ []) [] refl;
      happens = same-stand p p_then old new v v_then same stays.0 stays.1;
    }

-- what a reading gave is heard
pub hears_came : (w : Bool) (c : Came) (room : List ℕ) (t t_then : Option (List Told)) (p p_then : Player)
    (old new : Station) (v v_then : View) → Grew t (told_as c room) t_then
    → HearsCame w c room p p_then old new v v_then → Hears w t t_then p p_then old new v v_then
hears_came w (came.Bytes n) room t t_then p p_then old new v v_then told h =
    record {
      readings = gave (bytes_in n room) ∷ [];
      read = told;
      happened = givens (take h.count (bytes_in n room)) ++ cut_at w (get_or (bytes_in n room) h.count 0);
      heard = heard-given w (bytes_in n room) p p_then old new v v_then h;
      happens = h.happens;
    }
hears_came w came.Nothing room t t_then p p_then old new v v_then told h =
    record {
      readings = nothing ∷ [];
      read = told;
      happened = empties ∷ [];
      heard = heard-all w (nothing ∷ []) (empties ∷ []) refl;
      happens = (stand p_then new v_then, h, refl);
    }
hears_came w came.Interrupted room t t_then p p_then old new v v_then told h =
    hears-silent w t t_then p p_then old new v v_then told h.0 h.1
hears_came w came.Ended room t t_then p p_then old new v v_then told h =
    hears-silent w t t_then p p_then old new v v_then told h.0 h.1
hears_came w (came.Gone why) room t t_then p p_then old new v v_then told h =
    hears-silent w t t_then p p_then old new v v_then told h.0 h.1

-- The first so many were given.
pub record GivenFirst (count : ℕ) (bytes : List ℕ) (p p_then : Player) (old new : Station)
    (v v_then : View) : Type 0 where
  pub happens : AllHappen (givens (take count bytes)) (stand p old v) (stand p_then new v_then)

pub first_none : (bytes : List ℕ) (p : Player) (s : Station) (v : View) → GivenFirst 0 bytes p p s s v v
first_none bytes p s v = record { happens = refl }

-- one more is
pub first_next : (bytes : List ℕ) (i byte d : ℕ) (p mid p_then : Player) (old between new : Station)
    (v v_mid v_then : View) → i < length bytes → byte ≡ get_or bytes i d
    → GivenFirst i bytes p mid old between v v_mid → Gives true byte mid p_then between new v_mid v_then
    → GivenFirst (i + 1) bytes p p_then old new v v_then
first_next bytes i byte d p mid p_then old between new v v_mid v_then within is first giving =
    let e : givens (take i bytes) ++ gives true byte ∷ [] ≡ givens (take (i + 1) bytes) =
    sym (map-append (λ b. gives true b) (take i bytes) (byte ∷ []))
    ∙ ap givens (ap (λ (x : ℕ). take i bytes ++ x ∷ []) is ∙ sym (take_more bytes i d within)) in
    record {
      happens = subst (λ (hs : List Happening). AllHappen hs (stand p old v) (stand p_then new v_then)) e
          (all-then (givens (take i bytes)) (gives true byte ∷ []) (stand p old v) (stand mid between v_mid)
          (stand p_then new v_then) first.happens (stand p_then new v_then, giving, refl));
    }

-- all were given
pub first_all : (bytes : List ℕ) (i : ℕ) (p p_then : Player) (old new : Station) (v v_then : View) → length bytes ≤ i
    → GivenFirst i bytes p p_then old new v v_then → GivesAll true bytes p p_then old new v v_then
first_all bytes i p p_then old new v v_then long first =
    record {
      count = i;
      all = λ e. long;
      some = λ e. absurd cc;
      happens = all-then (givens (take i bytes)) [] (stand p old v) (stand p_then new v_then) (stand p_then new v_then)
          first.happens refl;
    }

-- memory ran out at the next
pub first_cut : {T E : Type 0} (r : Result T E) (bytes : List ℕ) (i byte : ℕ) (p mid p_then : Player)
    (old between new : Station) (v v_mid v_then : View) → IsErr r → i < length bytes → byte ≡ get_or bytes i 0
    → GivenFirst i bytes p mid old between v v_mid → Gives false byte mid p_then between new v_mid v_then
    → GivesAll (is_ok r) bytes p p_then old new v v_then
first_cut r bytes i byte p mid p_then old between new v v_mid v_then err within is first giving =
    subst (λ (w : Bool). GivesAll w bytes p p_then old new v v_then) (sym (not-ok r err))
    (record {
      count = i;
      all = λ e. absurd cc;
      some = λ e. within;
      happens = all-then (givens (take i bytes)) (cut_at false (get_or bytes i 0)) (stand p old v)
          (stand mid between v_mid) (stand p_then new v_then) first.happens (
            stand p_then new v_then,
            subst (λ (x : ℕ). Gives false x mid p_then between new v_mid v_then) is giving,
            refl,
          );
    })

-- ---- a round

listens-by : (w : Bool) (now : ℕ) (t t_mid t_then : Option (List Told)) (p ready p_then : Player)
    (old new : Station) (v v_then : View) → Opens now t t_mid p ready
    → Hears w t_mid t_then (begun_at now ready) p_then old new v v_then
    → ListensAt w now t t_then p p_then old new v v_then
listens-by true now t t_mid t_then p ready p_then old new v v_then opens hears =
    record { told_mid = t_mid; opened = ready; opens = opens; hears = hears }
listens-by false now t t_mid t_then p ready p_then old new v v_then opens hears =
    inl (record { told_mid = t_mid; opened = ready; opens = opens; hears = hears })

-- a device may be opened, the round begins, and the device is heard
pub listens : (w : Bool) (now : ℕ) (t t_mid t_then : Option (List Told)) (p ready begins p_then : Player)
    (old mid between new : Station) (v v_mid v_between v_then : View) → Opens now t t_mid p ready → mid ≡ old
    → v_mid ≡ v → begins ≡ begun_at now ready → between ≡ mid → v_between ≡ v_mid
    → Hears w t_mid t_then begins p_then between new v_between v_then
    → ListensAt w now t t_then p p_then old new v v_then
listens w now t t_mid t_then p ready begins p_then old mid between new v v_mid v_between v_then opens a b begun c d
    hears =
    listens-by w now t t_mid t_then p ready p_then old new v v_then opens
    (subst (λ (x : Player). Hears w t_mid t_then x p_then old new v v_then) begun
    (subst (λ (x : Station). Hears w t_mid t_then begins p_then x new v v_then) (c ∙ a)
    (subst (λ (x : View). Hears w t_mid t_then begins p_then between new x v_then) (d ∙ b) hears)))

-- it did not begin
pub listens_not : (now : ℕ) (t t_then : Option (List Told)) (p p_then : Player) (old new : Station) (v v_then : View)
    → Opens now t t_then p p_then → new ≡ old → v_then ≡ v → ListensAt false now t t_then p p_then old new v v_then
listens_not now t t_then p p_then old new v v_then opens a b = inr (opens, (a, b))

pub listens_fails : {T E : Type 0} (r : Result T E) (now : ℕ) (t t_then : Option (List Told)) (p p_then : Player)
    (old new : Station) (v v_then : View) → IsErr r → ListensAt false now t t_then p p_then old new v v_then
    → ListensAt (is_ok r) now t t_then p p_then old new v v_then
listens_fails r now t t_then p p_then old new v v_then err h =
    subst (λ (w : Bool). ListensAt w now t t_then p p_then old new v v_then) (sym (not-ok r err)) h

-- it did, at this moment
pub has_listened : (w : Bool) (now : ℕ) (t t_then : Option (List Told)) (p p_then : Player) (old new : Station)
    (v v_then : View) → ListensAt w now t t_then p p_then old new v v_then
    → HasListened w t t_then p p_then old new v v_then
has_listened w now t t_then p p_then old new v v_then h = (now, h)

-- nobody knows the moment
pub has_not_listened : (t t_then : Option (List Told)) (p p_then : Player) (old new : Station) (v v_then : View)
    → t_then ≡ t → p_then ≡ p → new ≡ old → v_then ≡ v → HasListened false t t_then p p_then old new v v_then
has_not_listened t t_then p p_then old new v v_then d e a b =
    (0, listens_not 0 t t_then p p_then old new v v_then (opens_none 0 t t_then p p_then d e) a b)

-- it listens, the desk looks, and what there is to tell is told
pub is_round : (t t_then : Option (List Told)) (p mid looked p_then : Player) (old between seen new : Station)
    (v v_between v_seen v_then : View) → HasListened true t t_then p mid old between v v_between
    → OnlyLooks between seen → Undoes mid looked v_seen → p_then ≡ looked → new ≡ seen → v_then ≡ v_seen
    → IsRound t t_then p p_then old new v v_then
is_round t t_then p mid looked p_then old between seen new v v_between v_seen v_then listens looks undoes a b c =
    record {
      mid = stand mid between v_between;
      listens = listens;
      looks = subst (λ (x : Station). OnlyLooks between x) (sym b) looks;
      undoes = subst (λ (x : Player). Undoes mid x v_then) (sym a)
          (subst (λ (x : View). Undoes mid looked x) (sym c) undoes);
    }

pub round_kept : (t t_then : Option (List Told)) (p mid p_then : Player) (old between new : Station)
    (v v_between v_then : View) → IsRound t t_then p mid old between v v_between → p_then ≡ mid → new ≡ between
    → v_then ≡ v_between → IsRound t t_then p p_then old new v v_then
round_kept t t_then p mid p_then old between new v v_between v_then round a b c =
    subst (λ (x : Player). IsRound t t_then p x old new v v_then) (sym a)
    (subst (λ (x : Station). IsRound t t_then p mid old x v v_then) (sym b)
    (subst (λ (x : View). IsRound t t_then p mid old between v x) (sym c) round))

pub rounds_fails : {T E : Type 0} (r : Result T E) (t t_then : Option (List Told)) (p p_then : Player)
    (old new : Station) (v v_then : View) → IsErr r → Rounds false t t_then p p_then old new v v_then
    → Rounds (is_ok r) t t_then p p_then old new v v_then
rounds_fails r t t_then p p_then old new v v_then err h =
    subst (λ (w : Bool). Rounds w t t_then p p_then old new v v_then) (sym (not-ok r err)) h

-- ---- round by round

ends-same : (w : Bool) (a : Rest) → Ends w a a
ends-same true a = refl
ends-same false a = inl refl

pub goes_none : (w : Bool) (t : Option (List Told)) (p : Player) (s : Station) (v : View) → Goes w t t p p s s v v
goes_none w t p s v =
    record { after_each = []; last = rest t p s v; rounds = refl; ends = ends-same w (rest t p s v) }

pub goes_same : (w : Bool) (t : Option (List Told)) (p p_then : Player) (old new : Station) (v v_then : View)
    → p_then ≡ p → new ≡ old → v_then ≡ v → Goes w t t p p_then old new v v_then
goes_same w t p p_then old new v v_then a b c =
    subst (λ (x : Player). Goes w t t p x old new v v_then) (sym a)
    (subst (λ (x : Station). Goes w t t p p old x v v_then) (sym b)
    (subst (λ (x : View). Goes w t t p p old old v x) (sym c) (goes_none w t p old v)))

-- nothing happens before it
pub goes_from : (w : Bool) (t t_then : Option (List Told)) (p first p_then : Player) (old start new : Station)
    (v v_start v_then : View) → first ≡ p → start ≡ old → v_start ≡ v
    → Goes w t t_then first p_then start new v_start v_then → Goes w t t_then p p_then old new v v_then
goes_from w t t_then p first p_then old start new v v_start v_then a b c goes =
    subst (λ (x : Player). Goes w t t_then x p_then old new v v_then) a
    (subst (λ (x : Station). Goes w t t_then first p_then x new v v_then) b
    (subst (λ (x : View). Goes w t t_then first p_then start new x v_then) c goes))

rounds-then : (ss : List Rest) (a b c : Rest) → AllRounds ss a b → RoundFrom b c → AllRounds (ss ++ c ∷ []) a c
rounds-then [] a b c e round = (subst (λ (x : Rest). RoundFrom x c) e round, refl)
rounds-then (s ∷ ss) a b c all round = (all.0, rounds-then ss s b c all.1 round)

-- one round more
pub goes_round : (t t_mid t_then : Option (List Told)) (p mid p_then : Player) (old between new : Station)
    (v v_mid v_then : View) → Goes true t t_mid p mid old between v v_mid
    → IsRound t_mid t_then mid p_then between new v_mid v_then → Goes true t t_then p p_then old new v v_then
goes_round t t_mid t_then p mid p_then old between new v v_mid v_then goes round =
    record {
      after_each = goes.after_each ++ rest t_then p_then new v_then ∷ [];
      last = rest t_then p_then new v_then;
      rounds = rounds-then goes.after_each (rest t p old v) (rest t_mid mid between v_mid)
          (rest t_then p_then new v_then)
          (subst (λ (x : Rest). AllRounds goes.after_each (rest t p old v) x) (sym goes.ends) goes.rounds) round;
      ends = refl;
    }

-- and one that fails
pub goes_fails : {T E : Type 0} (r : Result T E) (t t_mid t_then : Option (List Told)) (p mid p_then : Player)
    (old between new : Station) (v v_mid v_then : View) → IsErr r → Goes true t t_mid p mid old between v v_mid
    → Rounds false t_mid t_then mid p_then between new v_mid v_then
    → Goes (is_ok r) t t_then p p_then old new v v_then
goes_fails r t t_mid t_then p mid p_then old between new v v_mid v_then err goes round =
    subst (λ (w : Bool). Goes w t t_then p p_then old new v v_then) (sym (not-ok r err))
    (record {
      after_each = goes.after_each;
      last = rest t_mid mid between v_mid;
      rounds = subst (λ (x : Rest). AllRounds goes.after_each (rest t p old v) x) (sym goes.ends) goes.rounds;
      ends = inr round;
    })
