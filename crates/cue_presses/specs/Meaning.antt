-- Which buttons of a view an intent presses.
use Rattle.std.specs.Prelude.{ℕ, Bool, true, false, not, ◌&&◌, ◌||◌, if◌then◌else◌, List, [], ◌∷◌, Option, None, Some}
use Rattle.std.specs.Prelude.{nat_eq}
use Rattle.std.specs.Prelude.{max, nat_le}
use Rattle.std.specs.Prelude.{Result, Ok, Err}
use Rattle.std.specs.List.{list_any}
use Rattle.cue_show.specs.Number.{same_text}
use Rattle.cue_exchange.specs.Answers.{is_preparing}
use Rattle.cue_view.specs.declared.button.Button.TheVariants as button
use Rattle.cue_view.specs.declared.view.LiveAttempt.{LiveAttempt}
use Rattle.cue_view.specs.declared.view.Next.{Next}
use Rattle.cue_view.specs.declared.view.Next.TheVariants as next
use Rattle.cue_view.specs.declared.view.View.{View}
use Rattle.cue_presses.specs.declared.pressing.Press.{Press}
use Rattle.cue_presses.specs.declared.pressing.Sole.{Sole}
use Rattle.cue_presses.specs.declared.pressing.Sole.TheVariants as sole
use Rattle.cue_presses.specs.declared.pressing.Wanted.{Wanted}
use Rattle.cue_presses.specs.declared.pressing.Wanted.TheVariants as wanted
use Rattle.cue_presses.specs.declared.pressing.Why.{Why}
use Rattle.cue_presses.specs.declared.pressing.Why.TheVariants as why
use Rattle.cue_presses.specs.declared.intent.Intent.{Intent}
use Rattle.cue_presses.specs.declared.intent.Intent.TheVariants as intent

-- ---- attempts

-- the attempt is as it is wanted; GO can be given to one that is ready
abbrev pub fits : Wanted → LiveAttempt → Bool
fits wanted.Ready a = a.ready
fits (wanted.ReadyAt cue) a = a.ready && same_text a.cue cue
fits wanted.Preparing a = is_preparing a.stage

-- one attempt more
abbrev pub joined : LiveAttempt → Sole → Sole
joined a sole.Nobody = sole.One a.seq a.cue
joined a (sole.One seq cue) = sole.Many
joined a sole.Many = sole.Many

-- the only live attempt that is as it is wanted
abbrev pub sole_of : Wanted → List LiveAttempt → Sole
sole_of w [] = sole.Nobody
sole_of w (a ∷ others) = if fits w a then joined a (sole_of w others) else sole_of w others

-- the attempt with this number, if it is as it is wanted
abbrev pub chosen_of : Wanted → ℕ → List LiveAttempt → Sole
chosen_of w seq [] = sole.Nobody
chosen_of w seq (a ∷ others) =
    if nat_eq a.seq seq && fits w a then sole.One a.seq a.cue else chosen_of w seq others

-- ---- GO and CANCEL

-- what has to be chosen first
abbrev pub choose_by : Option ℕ → ℕ → Option ℕ
choose_by None seq = Some seq
choose_by (Some chosen) seq = if nat_eq chosen seq then None else Some seq

-- GO of the only attempt
abbrev pub go_of : Option ℕ → Sole → Why → Result Press Why
go_of chosen sole.Nobody refusal = Err refusal
go_of chosen (sole.One seq cue) refusal =
    Ok (record { choose = choose_by chosen seq; button = button.Go cue seq })
go_of chosen sole.Many refusal = Err why.Many

-- CANCEL of the only attempt
abbrev pub cancel_of : Option ℕ → Sole → Why → Result Press Why
cancel_of chosen sole.Nobody refusal = Err refusal
cancel_of chosen (sole.One seq cue) refusal =
    Ok (record { choose = choose_by chosen seq; button = button.Cancel cue seq })
cancel_of chosen sole.Many refusal = Err why.Many

-- the attempt was live when this desk gave its last cue, of which the newest one had this number
abbrev pub is_passed : Option ℕ → ℕ → Bool
is_passed None seq = false
is_passed (Some newest) seq = nat_le seq newest

-- a cue was given since the attempt was stood by, by whomever, as far as the store tells
abbrev pub was_passed : ℕ → List LiveAttempt → Bool
was_passed seq live = list_any (λ a. nat_eq a.seq seq && a.passed) live

-- GO of the only attempt that stands by, once it is ready: never of one that was live when a cue was given
abbrev pub go_sole : Option ℕ → Sole → List LiveAttempt → Result Press Why
go_sole passed sole.Nobody live = Err why.Nobody
go_sole passed (sole.One seq cue) live =
    if is_passed passed seq || was_passed seq live then Err why.Passed
    else go_of None (chosen_of wanted.Ready seq live) why.Nobody
go_sole passed sole.Many live = Err why.Many

-- GO that names no cue: of the attempt that is chosen, and of no other; if none is chosen, of the only one that stands
-- by, be it ready or not: so the devices' haste decides nothing
abbrev pub go_by : Option ℕ → Option ℕ → List LiveAttempt → Result Press Why
go_by None passed live = go_sole passed (sole_of wanted.Preparing live) live
go_by (Some seq) passed live = go_of (Some seq) (chosen_of wanted.Ready seq live) why.NotThis

abbrev pub go_alone : Option ℕ → Bool → Option ℕ → List LiveAttempt → Result Press Why
go_alone chosen is_awaited passed live = if is_awaited then Err why.Awaited else go_by chosen passed live

-- the attempt with this number is live
abbrev pub is_there : ℕ → List LiveAttempt → Bool
is_there seq live = list_any (λ a. nat_eq a.seq seq) live

-- the attempt that is chosen, while it is live
abbrev pub chosen_live : Option ℕ → List LiveAttempt → Option ℕ
chosen_live None live = None
chosen_live (Some seq) live = if is_there seq live then Some seq else None

-- CANCEL: of the attempt that is chosen, and of no other while it is live; else of the only one that prepares, so that a
-- CANCEL is not lost since what was chosen has ended
abbrev pub cancel_by : Option ℕ → List LiveAttempt → Result Press Why
cancel_by None live = cancel_of None (sole_of wanted.Preparing live) why.Nobody
cancel_by (Some seq) live = cancel_of (Some seq) (chosen_of wanted.Preparing seq live) why.NotThis

abbrev pub cancel_alone : Option ℕ → Bool → List LiveAttempt → Result Press Why
cancel_alone chosen is_awaited live =
    if is_awaited then Err why.Awaited else cancel_by (chosen_live chosen live) live

-- ---- STANDBY

-- something is live at the cue
abbrev pub is_live : List ℕ → List LiveAttempt → Bool
is_live cue live = list_any (λ a. same_text a.cue cue) live

abbrev pub standby_of : List ℕ → List LiveAttempt → Result Press Why
standby_of cue live =
    if is_live cue live then Err why.IsLive else Ok (record { choose = None; button = button.Standby cue })

-- who names no cue means any
abbrev pub is_meant : Option (List ℕ) → List ℕ → Bool
is_meant None cue = true
is_meant (Some named) cue = same_text named cue

-- STANDBY of the cue that is next, and of no other
abbrev pub standby_by : Next → List LiveAttempt → Option (List ℕ) → Result Press Why
standby_by (next.Cue cue) live named = if is_meant named cue then standby_of cue live else Err why.OtherNext
standby_by next.Empty live named = Err why.NoNext
standby_by next.End live named = Err why.NoNext
standby_by next.Unknown live named = Err why.NoNext

-- ---- all of them

-- what an intent presses; GO that names a cue is of the only attempt at that cue that is ready
abbrev pub meaning : View → Option ℕ → Intent → Result Press Why
meaning v passed (intent.Standby named) = standby_by v.next v.live.items named
meaning v passed (intent.Go None) = go_alone v.chosen v.awaits passed v.live.items
meaning v passed (intent.Go (Some cue)) =
    go_of v.chosen (sole_of (wanted.ReadyAt cue) v.live.items) why.NotThis
meaning v passed intent.Cancel = cancel_alone v.chosen v.awaits v.live.items

-- ---- the last GO of this desk

-- the newest of the attempts, if there is one
abbrev pub newest_of : List LiveAttempt → ℕ
newest_of [] = 0
newest_of (a ∷ others) = max a.seq (newest_of others)

-- ---- waiting

-- an attempt prepares that may be meant
abbrev pub may_come : Option (List ℕ) → List LiveAttempt → Bool
may_come named live = list_any (λ a. is_preparing a.stage && is_meant named a.cue) live

-- a GO may still be ready while an attempt prepares that it could be of
abbrev pub is_hopeless_go : Option (List ℕ) → List LiveAttempt → Why → Bool
is_hopeless_go named live why.Nobody = not (may_come named live)
is_hopeless_go named live why.NotThis = not (may_come named live)
is_hopeless_go named live _ = true

abbrev pub is_hopeless : View → Intent → Why → Bool
is_hopeless v (intent.Go named) w = is_hopeless_go named v.live.items w
is_hopeless v _ w = true
