-- Over a whole run what was told is heard.
use Rattle.std.proofs.Common.{◌≡◌, ◌∙◌, refl, sym, ap, subst, ℕ, Bool, true, false, List, [], ◌∷◌, ◌++◌, map}
use Rattle.std.proofs.Common.{append_assoc, Option}
use Rattle.cue_machine.specs.Growing.{Grew}
use Rattle.cue_machine.proofs.LivingLemmas.{grew_both, grew_none}
use Rattle.cue_station.specs.declared.station.Station.{Station}
use Rattle.cue_view.specs.declared.view.View.{View}
use Rattle.cue_buttons_run.specs.Playing.{AllRounds, Goes, Happening, Listens, Rest, RoundFrom}
use Rattle.cue_buttons_run.specs.Playing.{empties, gives, happen_by}
use Rattle.cue_buttons_run.specs.Playing.{happens_by, rest}
use Rattle.cue_buttons_run.specs.Telling.{Reading, Told, bytes_of, gave, nothing, opened, opened_if, reads, silent}
use Rattle.cue_buttons_run.specs.Whole.{HearsAll, bytes_heard, bytes_told, happened_in}
use Rattle.cue_panel.specs.declared.player.Player.{Player}

-- ---- bytes

told-both : (xs ys : List Told) → bytes_told (xs ++ ys) ≡ bytes_told xs ++ bytes_told ys
told-both [] ys = refl
told-both (opened ∷ xs) ys = told-both xs ys
told-both (reads r ∷ xs) ys =
    ap (λ (bs : List ℕ). bytes_of r ++ bs) (told-both xs ys)
    ∙ sym (append_assoc (bytes_of r) (bytes_told xs) (bytes_told ys))

heard-both : (hs more : List Happening) → bytes_heard (hs ++ more) ≡ bytes_heard hs ++ bytes_heard more
heard-both [] more = refl
heard-both (gives w byte ∷ hs) more = ap (λ (bs : List ℕ). byte ∷ bs) (heard-both hs more)
heard-both (empties ∷ hs) more = heard-both hs more

given-heard : (bytes : List ℕ) → bytes_heard (map (λ b. gives true b) bytes) ≡ bytes
given-heard [] = refl
given-heard (b ∷ bytes) = ap (λ (bs : List ℕ). b ∷ bs) (given-heard bytes)

one-heard : (r : Reading) → bytes_heard (happens_by r) ≡ bytes_of r
one-heard (gave bytes) = given-heard bytes
one-heard nothing = refl
one-heard silent = refl

abbrev pub told_of : List Reading → List Told
told_of rs = map (λ r. reads r) rs

readings-heard : (rs : List Reading) → bytes_heard (happen_by rs) ≡ bytes_told (told_of rs)
readings-heard [] = refl
readings-heard (r ∷ rs) =
    heard-both (happens_by r) (happen_by rs)
    ∙ ap (λ (bs : List ℕ). bs ++ bytes_heard (happen_by rs)) (one-heard r)
    ∙ ap (λ (bs : List ℕ). bytes_of r ++ bs) (readings-heard rs)

opened-told : (b : Bool) → bytes_told (opened_if b) ≡ []
opened-told true = refl
opened-told false = refl

-- ---- rounds

-- what the jack told grew by this, of which these bytes are heard
pub record Tells (t t_then : Option (List Told)) (hs : List Happening) : Type 0 where
  pub more : List Told
  pub grew : Grew t more t_then
  pub heard : bytes_heard hs ≡ bytes_told more

listens-tells : (now : ℕ) (t t_then : Option (List Told)) (p p_then : Player) (old new : Station) (v v_then : View)
    → (l : Listens true now t t_then p p_then old new v v_then) → Tells t t_then l.hears.happened
listens-tells now t t_then p p_then old new v v_then l =
    record {
      more = opened_if l.opens.0 ++ told_of l.hears.readings;
      grew = grew_both t (opened_if l.opens.0) l.told_mid (told_of l.hears.readings) t_then l.opens.1 l.hears.read;
      heard = ap (λ (hs : List Happening). bytes_heard hs) l.hears.heard ∙ readings-heard l.hears.readings
          ∙ sym (ap (λ (bs : List ℕ). bs ++ bytes_told (told_of l.hears.readings)) (opened-told l.opens.0))
          ∙ sym (told-both (opened_if l.opens.0) (told_of l.hears.readings));
    }

round-tells : (a b : Rest) (round : RoundFrom a b) → Tells a.told b.told round.listens.1.hears.happened
round-tells a b round =
    listens-tells round.listens.0 a.told b.told a.stand.player round.mid.player a.stand.station round.mid.station
    a.stand.view round.mid.view round.listens.1

tells-then : (t t_mid t_then : Option (List Told)) (hs more : List Happening) → Tells t t_mid hs
    → Tells t_mid t_then more → Tells t t_then (hs ++ more)
tells-then t t_mid t_then hs more a b =
    record {
      more = a.more ++ b.more;
      grew = grew_both t a.more t_mid b.more t_then a.grew b.grew;
      heard = heard-both hs more ∙ ap (λ (bs : List ℕ). bs ++ bytes_heard more) a.heard
          ∙ ap (λ (bs : List ℕ). bytes_told a.more ++ bs) b.heard ∙ sym (told-both a.more b.more);
    }

rounds-tell : (ss : List Rest) (a b : Rest) (all : AllRounds ss a b) → Tells a.told b.told (happened_in ss a b all)
rounds-tell [] a b e =
    record {
      more = [];
      grew = subst (λ (x : Rest). Grew a.told [] x.told) (sym e) (grew_none a.told);
      heard = refl;
    }
rounds-tell (s ∷ ss) a b all =
    tells-then a.told s.told b.told all.0.listens.1.hears.happened (happened_in ss s b all.1) (round-tells a s all.0)
    (rounds-tell ss s b all.1)

-- all that was told in a run is heard
pub hears_all : (t t_then : Option (List Told)) (p p_then : Player) (old new : Station) (v v_then : View)
    → Goes true t t_then p p_then old new v v_then → HearsAll t t_then p p_then old new v v_then
hears_all t t_then p p_then old new v v_then goes =
    let whole : Tells t goes.last.told (happened_in goes.after_each (rest t p old v) goes.last goes.rounds) =
    rounds-tell goes.after_each (rest t p old v) goes.last goes.rounds in
    record {
      goes = goes;
      more = whole.more;
      grew = subst (λ (x : Rest). Grew t whole.more x.told) (sym goes.ends) whole.grew;
      heard = whole.heard;
    }
