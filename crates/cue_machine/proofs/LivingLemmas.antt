-- One posting more, and one turn more.
use Rattle.std.proofs.Common.{◌≡◌, ℕ, suc, ◌+◌, List, [], ◌∷◌, ◌++◌, map, take}
use Rattle.std.proofs.Common.{Option, Some, None, refl, sym, ap, ◌∙◌, subst, arith, length-append, append_assoc, append-nil}
use Rattle.std.proofs.Common.{zero}
use Rattle.std.specs.Prelude.{slice_get}
use Rattle.std.proofs.lemmas.List.{map-append}
use Rattle.std.proofs.lemmas.Option.{none-some, same_Some}
use Rattle.cue_machine.specs.declared.machine.Machine.{Ghosts}
use Rattle.cue_machine.specs.declared.post.Output.{Output}
use Rattle.cue_machine.specs.Growing.{Grew}
use Rattle.cue_machine.specs.Hearing.{Told}
use Rattle.cue_machine.specs.Living.{AreTurns, HasLived, IsTurn, Turn, after_loss_of, after_losses, all_posted}
use Rattle.cue_machine.specs.Living.{told_of}
use Rattle.cue_machine.specs.Posting.{Given, Posted, given_of}
use Rattle.cue_machine.specs.Turning.{Posts, PostsOne, Turned}

pub grew_none : {X : Type 0} (told : Option (List X)) → Grew told [] told
grew_none None = tt
grew_none (Some told) = sym (append-nil told)

pub grew_both : {X : Type 0} (old : Option (List X)) (xs : List X) (mid : Option (List X)) (ys : List X)
    (new : Option (List X)) → Grew old xs mid → Grew mid ys new → Grew old (xs ++ ys) new
grew_both old xs mid ys None g h = tt
grew_both old xs None ys (Some new) g h = absurd h
grew_both None xs (Some mid) ys (Some new) g h = absurd g
grew_both {X} (Some old) xs (Some mid) ys (Some new) g h =
    h ∙ (ap (λ (zs : List X). zs ++ ys) g ∙ append_assoc old xs ys)

pub losses_more : {M : Type 0} (f : M → Output → M) (ps qs : List Posted) (m : M)
    → after_losses f (ps ++ qs) m ≡ after_losses f qs (after_losses f ps m)
losses_more f [] qs m = refl
losses_more f (p ∷ ps) qs m = losses_more f ps qs (after_loss_of f p m)

taken_one_more : {X : Type 0} (xs : List X) (k : ℕ) (x : X) → slice_get xs k ≡ Some x → take k xs ++ x ∷ [] ≡ take (k + 1) xs
taken_one_more [] k x e = absurd (none-some x e)
taken_one_more (y ∷ ys) zero x e = ap (λ z. z ∷ []) (sym (same_Some y x e))
taken_one_more (y ∷ ys) (suc k) x e =
    let more : suc k + 1 ≡ suc (k + 1) = omega arith in
    ap (λ zs. y ∷ zs) (taken_one_more ys k x e) ∙ ap (λ n. take n (y ∷ ys)) (sym more)

-- nothing was posted yet
pub posted_none : {M : Type 0} (f : M → Output → M) (m : M) (left : Option (List Posted)) → Posts f [] m m left left
posted_none f m left = record { posted = []; all = refl; grew = grew_none left; after = refl }

-- one of the outputs more
pub posts_more : {M : Type 0} (f : M → Output → M) (all : List Given) (k : ℕ) (g : Given) (m mid m_then : M)
    (left mid_left left_then : Option (List Posted))
    → slice_get all k ≡ Some g → Posts f (take k all) m mid left mid_left
    → PostsOne f g mid m_then mid_left left_then
    → Posts f (take (k + 1) all) m m_then left left_then
posts_more {M} f all k g m mid m_then left mid_left left_then e h one = record {
  posted = h.posted ++ one.posted ∷ [];
  all = map-append given_of h.posted (one.posted ∷ [])
      ∙ (ap (λ (xs : List Given). xs ++ one.posted.given ∷ []) h.all
      ∙ (ap (λ (x : Given). take k all ++ x ∷ []) one.same ∙ taken_one_more all k g e));
  grew = grew_both left h.posted mid_left (one.posted ∷ []) left_then h.grew one.grew;
  after = one.after ∙ (ap (after_loss_of f one.posted) h.after ∙ sym (losses_more f h.posted (one.posted ∷ []) m));
}

turns_more : {M : Type 0} (machine : Ghosts M) (m mid m_then : M) (ts : List Turn) (t : Turn)
    → AreTurns machine m ts mid → IsTurn machine mid t m_then → AreTurns machine m (ts ++ t ∷ []) m_then
turns_more machine m mid m_then [] t e is = (m_then, subst (λ x. IsTurn machine x t m_then) e is, refl)
turns_more machine m mid m_then (s ∷ ts) t h is = (h.0, h.1, turns_more machine h.0 mid m_then ts t h.2 is)

posted_more : (ts : List Turn) (t : Turn) → all_posted ts ++ t.posted ≡ all_posted (ts ++ t ∷ [])
posted_more [] t = sym (append-nil t.posted)
posted_more (s ∷ ts) t =
    append_assoc s.posted (all_posted ts) t.posted ∙ ap (λ (xs : List Posted). s.posted ++ xs) (posted_more ts t)

-- nothing was heard yet
pub begun : {M : Type 0} (machine : Ghosts M) (m : M) (told : Option (List Told)) (left : Option (List Posted))
    → HasLived machine m m told told left left 0
begun machine m told left = record {
  taken = [];
  number = refl;
  turn_by_turn = refl;
  heard = grew_none told;
  posted = grew_none left;
}

-- one turn more
pub one_turn_more : {M : Type 0} (machine : Ghosts M) (m mid m_then : M) (told mid_told told_then : Option (List Told))
    (left mid_left left_then : Option (List Posted)) (turns : ℕ)
    → HasLived machine m mid told mid_told left mid_left turns
    → Turned machine mid m_then mid_told told_then mid_left left_then
    → HasLived machine m m_then told told_then left left_then (turns + 1)
one_turn_more machine m mid m_then told mid_told told_then left mid_left left_then turns h t = record {
  taken = h.taken ++ t.turn ∷ [];
  number = omega (arith, h.number, length-append h.taken (t.turn ∷ []));
  turn_by_turn = turns_more machine m mid m_then h.taken t.turn h.turn_by_turn t.is;
  heard = subst (λ (xs : List Told). Grew told xs told_then) (sym (map-append told_of h.taken (t.turn ∷ [])))
      (grew_both told (map told_of h.taken) mid_told (told_of t.turn ∷ []) told_then h.heard t.heard);
  posted = subst (λ (xs : List Posted). Grew left xs left_then) (posted_more h.taken t.turn)
      (grew_both left (all_posted h.taken) mid_left t.turn.posted left_then h.posted t.posted);
}
