-- What asks for the entries of a show file.
use Rattle.std.proofs.Common.{◌≡◌, ℕ, List, [], ◌∷◌, ◌++◌, None, refl, sym, ap, ◌∙◌, subst, append_assoc, append-nil}
use Rattle.std.specs.Prelude.{Vec}
use Rattle.std.specs.declared.alloc.Global.{Global}
use Rattle.cue_loading.specs.declared.manner.Manner.TheVariants as manner
use Rattle.cue_load_machine.specs.declared.asks.Ask.{Ask}
use Rattle.cue_load_machine.specs.Addings.{AddsGroups, AddsOne, HasUnaskable, IsAdding, IsUnaskableGroup}
use Rattle.cue_load_machine.specs.Addings.{PushesEach}
use Rattle.cue_load_machine.specs.declared.machine.LoadMachine.{LoadMachine}
use Rattle.cue_load_machine.specs.Lives.{IsNew}
use Rattle.cue_load_machine.specs.Steps.{state_of}

pub each_none : {E : Type 0} (alone : E → Ask → Type 0) (old : List Ask) → PushesEach alone old [] old
each_none alone old = record { added = []; all = sym (append-nil old); are = tt }

pub each_more : {E : Type 0} (alone : E → Ask → Type 0) (old mid new : List Ask) (e : E) (es : List E) (a : Ask)
    → mid ≡ old ++ a ∷ [] → alone e a → PushesEach alone mid es new → PushesEach alone old (e ∷ es) new
each_more alone old mid new e es a same is h = record {
  added = a ∷ h.added;
  all = h.all ∙ (ap (λ (xs : List Ask). xs ++ h.added) same ∙ append_assoc old (a ∷ []) h.added);
  are = (is, h.are);
}

pub one_group : {E : Type 0} (alone : E → Ask → Type 0) (together : List E → Ask → Type 0) (old mid new : List Ask)
    (es : List E) (a : Ask) → mid ≡ old ++ a ∷ [] → together es a → PushesEach alone mid es new
    → AddsOne alone together old es new
one_group alone together old mid new es a same is h = record {
  first = a;
  each = h.added;
  all = h.all ∙ (ap (λ (xs : List Ask). xs ++ h.added) same ∙ append_assoc old (a ∷ []) h.added);
  is = is;
  are = h.are;
}

pub no_groups : {E : Type 0} (alone : E → Ask → Type 0) (together : List E → Ask → Type 0) (old : List Ask)
    (es : List E) → es ≡ [] → AddsGroups alone together old es old
no_groups alone together old es e =
    record { groups = []; added = []; all = sym (append-nil old); same = e; are = refl }

pub more_groups : {E : Type 0} (alone : E → Ask → Type 0) (together : List E → Ask → Type 0) (old mid new : List Ask)
    (all first more : List E) → all ≡ first ++ more → AddsOne alone together old first mid
    → AddsGroups alone together mid more new → AddsGroups alone together old all new
more_groups {E} alone together old mid new all first more e one h = record {
  groups = first ∷ h.groups;
  added = one.first ∷ (one.each ++ h.added);
  all = h.all
      ∙ (ap (λ (xs : List Ask). xs ++ h.added) one.all
      ∙ append_assoc old (one.first ∷ one.each) h.added);
  same = e ∙ ap (λ (xs : List E). first ++ xs) h.same;
  are = (one.first, one.each, h.added, refl, one.is, one.are, h.are);
}

-- ---- what cannot be asked

pub has_first : {E : Type 0} (alone : E → Type 0) (together : List E → Type 0) (all first more : List E)
    → all ≡ first ++ more → IsUnaskableGroup alone together first → HasUnaskable alone together all
has_first alone together all first more e bad =
    record { before = []; group = first; after = more; all = e; unaskable = bad }

pub has_later : {E : Type 0} (alone : E → Type 0) (together : List E → Type 0) (all first more : List E)
    → all ≡ first ++ more → HasUnaskable alone together more → HasUnaskable alone together all
has_later {E} alone together all first more e bad = record {
  before = first ++ bad.before;
  group = bad.group;
  after = bad.after;
  all = e
      ∙ (ap (λ (xs : List E). first ++ xs) bad.all
      ∙ sym (append_assoc first bad.before (bad.group ++ bad.after)));
  unaskable = bad.unaskable;
}

pub is_adding : {E : Type 0} (alone : E → Ask → Type 0) (together : List E → Ask → Type 0) (port : ℕ)
    (entries : List E) (old : List Ask) (asks : Vec Ask Global) (m : LoadMachine) → old ≡ []
    → AddsGroups alone together old entries asks.items → m.asks ≡ asks → m.copy ≡ None → m.port ≡ port
    → m.manner ≡ manner.Adds → IsNew (state_of m) → IsAdding alone together port entries m
is_adding {E} alone together port entries old asks m none added same c p n new =
    let items : m.asks.items ≡ asks.items = ap (λ (v : Vec Ask Global). v.items) same in
    record {
      asks = subst (λ (xs : List Ask). AddsGroups alone together [] entries xs) (sym items)
          (subst (λ (xs : List Ask). AddsGroups alone together xs entries asks.items) none added);
      copy = c;
      sends_to = p;
      manner = n;
      new = new;
    }
