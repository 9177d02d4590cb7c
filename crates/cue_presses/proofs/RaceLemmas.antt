-- How many attempts stand by when a GO that names no cue presses.
use Rattle.std.proofs.Common.{◌≡◌, ◌∙◌, ℕ, ◌+◌, ◌∷◌, List, [], Bool, true, false, cond, if◌then◌else◌, Option, None}
use Rattle.std.proofs.Common.{Result, Ok, Err, count_by, refl, sym, ap}
use Rattle.std.proofs.lemmas.List.Sums.{sum_by-cons}
use Rattle.cue_exchange.specs.Answers.{is_preparing}
use Rattle.cue_view.specs.declared.view.LiveAttempt.{LiveAttempt}
use Rattle.cue_view.specs.declared.view.View.{View}
use Rattle.cue_presses.specs.Laws.{GoIsNoRace}
use Rattle.cue_presses.specs.Meaning.{go_alone, go_sole, joined, sole_of}
use Rattle.cue_presses.specs.declared.pressing.Press.{Press}
use Rattle.cue_presses.specs.declared.pressing.Sole.{Sole}
use Rattle.cue_presses.specs.declared.pressing.Sole.TheVariants as sole
use Rattle.cue_presses.specs.declared.pressing.Wanted.TheVariants as wanted
use Rattle.cue_presses.specs.declared.pressing.Why.{Why}
use Rattle.cue_presses.specs.declared.pressing.Why.TheVariants as why

-- how many stand by
abbrev standing : List LiveAttempt → ℕ
standing live = count_by (λ a. is_preparing a.stage) live

sole-nobody : (live : List LiveAttempt) → sole_of wanted.Preparing live ≡ sole.Nobody → standing live ≡ 0
sole-nobody [] e = refl
sole-nobody (a ∷ others) e =
    sum_by-cons (λ x. cond (is_preparing x.stage) 1 0) a others
    ∙ by (sole-nobody others) (is_preparing a.stage) (sole_of wanted.Preparing others) refl e
  where
    by : (sole_of wanted.Preparing others ≡ sole.Nobody → standing others ≡ 0) → (t : Bool) (s : Sole) → sole_of wanted.Preparing others ≡ s
        → (if t then joined a s else s) ≡ sole.Nobody → cond t 1 0 + standing others ≡ 0
    by none true sole.Nobody h z = cc
    by none true (sole.One seq cue) h z = cc
    by none true sole.Many h z = cc
    by none false s h z = rw (none (h ∙ z)) refl

sole-one : (live : List LiveAttempt) (seq : ℕ) (cue : List ℕ) → sole_of wanted.Preparing live ≡ sole.One seq cue
    → standing live ≡ 1
sole-one [] seq cue e = cc
sole-one (a ∷ others) seq cue e =
    sum_by-cons (λ x. cond (is_preparing x.stage) 1 0) a others
    ∙ by (sole-one others seq cue) (is_preparing a.stage) (sole_of wanted.Preparing others) refl e
  where
    by : (sole_of wanted.Preparing others ≡ sole.One seq cue → standing others ≡ 1) → (t : Bool) (s : Sole) → sole_of wanted.Preparing others ≡ s
        → (if t then joined a s else s) ≡ sole.One seq cue → cond t 1 0 + standing others ≡ 1
    by one true sole.Nobody h z = rw (sole-nobody others h) refl
    by one true (sole.One other c) h z = cc
    by one true sole.Many h z = cc
    by one false s h z = rw (one (h ∙ z)) refl

pub go-is_no_race : GoIsNoRace
go-is_no_race v passed press chosen e =
    let alone : go_alone None v.awaits passed v.live.items ≡ Ok press = rw chosen at e in
    by v.awaits (sole_of wanted.Preparing v.live.items) refl alone
  where
    by : (w : Bool) (s : Sole) → sole_of wanted.Preparing v.live.items ≡ s
        → (if w then Err why.Awaited else go_sole passed s v.live.items) ≡ Ok press
        → standing v.live.items ≡ 1
    by true s h z = cc
    by false sole.Nobody h z = cc
    by false (sole.One seq cue) h z = sole-one v.live.items seq cue h
    by false sole.Many h z = cc
