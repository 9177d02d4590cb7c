-- What `check` finds, and how it ends.
use Rattle.std.proofs.Common.{◌≡◌, ◌∙◌, ◌==◌, Bool, true, false, not, ◌&&◌, ◌||◌, if◌then◌else◌}
use Rattle.std.proofs.Common.{List, [], ◌∷◌, ◌++◌, length, Some, None, refl, sym, ap, subst, arith}
use Rattle.std.specs.List.{Contains}
use Rattle.std.proofs.lemmas.Bool.{ne_eqb}
use Rattle.std.proofs.lemmas.List.Elements.{Contains-append_left}
use Rattle.std.proofs.lemmas.List.Sorted.{Contains-permutation, length_permutation}
use Rattle.cue_desk.specs.declared.ending.Ending.TheVariants as ending
use Rattle.cue_findings.specs.Checking.{all_of, ending_of, is_unfit}
use Rattle.cue_findings.specs.Laws.{DoneIsSound, EachIsNamed, HintsRefuseNothing, MistakeRefuses}
use Rattle.cue_findings.specs.declared.checking.Found.{Found}
use Rattle.cue_findings.proofs.JudgingLemmas.{empty_of, length_none}
use Rattle.cue_show_file.specs.declared.mistake.Finding.{Finding}

-- ---- endings

by_tests : (none unfit : Bool)
    → (if none && not unfit then None else Some ending.Refused) ≡ None → none ≡ true
by_tests true unfit e = refl
by_tests false unfit e = cc

no_mistake : (f : Found) → ending_of f ≡ None → (length f.mistakes.items == 0) ≡ true
no_mistake f e = by_tests (length f.mistakes.items == 0) (is_unfit f.plan) e

none_told : (told reviewed : List Finding) (device : Bool) → all_of told reviewed device ≡ [] → told ≡ []
none_told told reviewed device e = by ((length told == 0) || device) e
  where
    front : (xs ys : List Finding) → xs ++ ys ≡ [] → xs ≡ []
    front [] ys h = refl
    front (x ∷ xs) ys h = cc

    by : (b : Bool) → (if b then told ++ reviewed else told) ≡ [] → told ≡ []
    by true h = front told reviewed h
    by false h = h

none_reviewed : (told reviewed : List Finding) (device : Bool) → all_of told reviewed device ≡ [] → reviewed ≡ []
none_reviewed told reviewed device e =
    subst (λ t. all_of t reviewed device ≡ []) (none_told told reviewed device e) e

pub done-is_sound : DoneIsSound
done-is_sound text f found e =
    record {
      file = found.file;
      said = found.is_told.said (none_told found.told found.reviewed device none);
      taken = found.is_told.taken (none_told found.told found.reviewed device none);
      fits = sym found.review ∙ length_none found.reviewed (none_reviewed found.told found.reviewed device none);
    }
  where
    device : Bool
    device = not (length found.file.devices.items == 0)

    all : List Finding
    all = all_of found.told found.reviewed device

    none : all ≡ []
    none =
        empty_of all
        (ap (λ n. n == 0) (sym (length_permutation all f.mistakes.items found.all)) ∙ no_mistake f e)

-- what is in a list makes it none that is empty
some_in : (xs : List Finding) (x : Finding) → Contains xs x → (length xs == 0) ≡ false
some_in [] x c = absurd (omega (arith, c.1))
some_in (y ∷ ys) x c = ne_eqb (length (y ∷ ys)) 0 (λ e. absurd (omega (arith, e)))

refuses_by : (none unfit : Bool) → none ≡ false
    → (if none && not unfit then None else Some ending.Refused) ≡ Some ending.Refused
refuses_by true unfit e = cc
refuses_by false unfit e = refl

pub mistake-refuses : MistakeRefuses
mistake-refuses f x c =
    refuses_by (length f.mistakes.items == 0) (is_unfit f.plan) (some_in f.mistakes.items x c)

in_all : (told reviewed : List Finding) (device : Bool) (x : Finding) → Contains told x
    → Contains (all_of told reviewed device) x
in_all told reviewed device x c = by ((length told == 0) || device)
  where
    by : (b : Bool) → Contains (if b then told ++ reviewed else told) x
    by true = Contains-append_left told reviewed x c
    by false = c

pub each-is_named : EachIsNamed
each-is_named text f found x c =
    let device = not (length found.file.devices.items == 0) in
    Contains-permutation (all_of found.told found.reviewed device) f.mistakes.items x found.all
    (in_all found.told found.reviewed device x c)

pub hints-refuse_nothing : HintsRefuseNothing
hints-refuse_nothing f g mistakes plan =
    ap (λ m. if (length m.items == 0) && not (is_unfit g.plan) then None else Some ending.Refused) mistakes
    ∙ ap (λ p. if (length f.mistakes.items == 0) && not (is_unfit p) then None else Some ending.Refused) plan
