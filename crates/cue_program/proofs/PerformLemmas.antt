-- How a command line ends, from how it was read.
use Rattle.std.proofs.Common.{◌≡◌, ◌≢◌, ◌≤◌, ◌⊎◌, inl, inr, ℕ, List, [], Option, Some, None, sym, ◌∙◌, subst, refl}
use Rattle.std.proofs.Common.{lit≤}
use Rattle.std.specs.Prelude.{codes, OnOk, Result, Ok, Err}
use Rattle.std.specs.Io.KnownBytes.{Appends}
use Rattle.clap.specs.Words.{Row, Text, fault_of, subcommand_of}
use Rattle.cue_core.specs.State.{ShowState}
use Rattle.cue_command_line.specs.declared.words.Line.{Line}
use Rattle.cue_command_line.specs.declared.words.Line.TheVariants.{Form, Serve, Show, Script}
use Rattle.cue_command_line.specs.declared.words.LineFault.{LineFault}
use Rattle.cue_command_line.specs.declared.words.LineFault.TheVariants.{Help, Usage, Memory}
use Rattle.cue_command_line.specs.Lines.{AsksForText, HasPortZero, IsHelp, IsLineOf, IsNoCommand, IsRefused, cuectl_app}
use Rattle.cue_keeper.specs.Stands.{Stands}
use Rattle.cue_keeper.specs.declared.fault.StoreFault.TheVariants as store
use Rattle.cue_program.specs.declared.program.fault.ProgramFault.{ProgramFault}
use Rattle.cue_program.specs.declared.program.fault.ProgramFault.TheVariants as program
use Rattle.cue_script.specs.declared.ending.Failure.TheVariants.{Broken, Store}
use Rattle.cue_program.specs.Endings.{done_status, program_status}
use Rattle.cue_program.specs.Performing.{EndsSo, IsStateShown, IsStateTold, NamesScript}
use Rattle.cue_words.specs.ShowText.{show_text}
use Rattle.cue_script.proofs.EndingLemmas.{small_store}

-- the line of words that name a script is a script
pub is_script : (o : Option (Text × List Row)) (line : Line) → IsLineOf o line → NamesScript o → line ≡ Script
is_script None line is named = absurd named
is_script (Some found) (Form dir) is named =
    let bad : codes "form" ≡ codes "script" = sym is.0 ∙ named in
    cc
is_script (Some found) (Serve dir port turns) is named =
    let bad : codes "serve" ≡ codes "script" = sym is.0 ∙ named in
    cc
is_script (Some found) (Show dir) is named =
    let bad : codes "show" ≡ codes "script" = sym is.0 ∙ named in
    cc
is_script (Some found) Script is named = refl

-- where the line is a script, it ends so
pub ends_so : (line : Line) (status : ℕ) (text old new : Option (List ℕ)) → line ≡ Script
    → EndsSo line status text old new → EndsSo Script status text old new
ends_so line status text old new is ends = subst (λ (l : Line). EndsSo l status text old new) is ends

-- what is said of a command is said of the line that is this command
pub ends_as : (command line : Line) (status : ℕ) (text old new : Option (List ℕ)) → line ≡ command
    → EndsSo command status text old new → EndsSo line status text old new
ends_as command line status text old new is = subst (λ (l : Line). EndsSo l status text old new) (sym is)

no_text : AsksForText [] → ⊥
no_text (inl help) = help
no_text (inr version) = version

no_other : (o : Option (Text × List Row)) → NamesScript o → IsRefused [] ⊎ (o ≡ None) ⊎ HasPortZero o → ⊥
no_other o named (inl stopped) = stopped.among
no_other None named (inr without) = named
no_other (Some found) named (inr (inl none)) = cc
no_other (Some found) named (inr (inr zero)) =
    let bad : codes "serve" ≡ codes "script" = sym zero.0 ∙ named in
    cc

-- words that clap takes, and that name a script, are refused out of memory alone
pub only_memory : (words : List Text) (fault : LineFault) → fault_of cuectl_app words ≡ []
    → NamesScript (subcommand_of cuectl_app words)
    → (IsHelp fault → AsksForText (fault_of cuectl_app words)) → (fault ≡ Usage → IsNoCommand words) → fault ≡ Memory
only_memory words (Help text) taken named help usage = absurd (no_text (subst AsksForText taken (help tt)))
only_memory words Usage taken named help usage =
    absurd (no_other (subcommand_of cuectl_app words) named
    (subst (λ kinds. IsRefused kinds ⊎ (subcommand_of cuectl_app words ≡ None)
    ⊎ HasPortZero (subcommand_of cuectl_app words)) taken (usage refl)))
only_memory words Memory taken named help usage = refl

-- a state that was printed is reported
pub state_told : {T E : Type 0} (result : Result T E) (s : ShowState) (old new : Option (List ℕ))
    → OnOk result (Appends old new (show_text s)) → OnOk result (IsStateTold old new)
state_told (Ok done) s old new told = record { state = s; printed = told }
state_told (Err fault) s old new told = tt

-- a state that was printed and that the two stand for is shown
pub state_shown : {T E : Type 0} (result : Result T E) (s : ShowState) (x y : List ℕ) (old new : Option (List ℕ))
    → Stands x y s → OnOk result (Appends old new (show_text s)) → OnOk result (IsStateShown x y old new)
state_shown (Ok done) s x y old new stand told = record { state = s; stand = stand; printed = told }
state_shown (Err fault) s x y old new stand told = tt

-- no fault has the status 0
never_zero : (fault : ProgramFault) → program_status fault ≡ 0 → ⊥
never_zero (program.Failed Broken) zero = cc
never_zero (program.Failed (Store store.NotEmpty)) zero = cc
never_zero (program.Failed (Store store.Unformed)) zero = cc
never_zero (program.Failed (Store store.Damaged)) zero = cc
never_zero (program.Failed (Store store.Version)) zero = cc
never_zero (program.Failed (Store store.Malformed)) zero = cc
never_zero (program.Failed (Store store.Full)) zero = cc
never_zero (program.Failed (Store store.Exhausted)) zero = cc
never_zero (program.Failed (Store store.Memory)) zero = cc
never_zero (program.Failed (Store store.Disk)) zero = cc
never_zero program.NotFound zero = cc
never_zero program.Io zero = cc
never_zero program.Net zero = cc

-- what holds of the output where a command was carried out holds where its status is 0
pub told_at_zero : {T : Type 0} (done : Result T ProgramFault) (status : ℕ) (mid new : Option (List ℕ))
    (P : Option (List ℕ) → Type 0) → status ≡ done_status done → OnOk done (P mid) → OnOk done (new ≡ mid) → status ≡ 0
    → P new
told_at_zero (Ok done) status mid new P is told kept zero = subst P (sym kept) told
told_at_zero (Err fault) status mid new P is told kept zero = absurd (never_zero fault (sym is ∙ zero))

small_fault : (fault : ProgramFault) → (program_status fault ≤ 3) × (program_status fault ≢ 2)
small_fault (program.Failed Broken) = (lit≤ tt, λ is. cc)
small_fault (program.Failed (Store fault)) = small_store fault
small_fault program.NotFound = (lit≤ tt, λ is. cc)
small_fault program.Io = (lit≤ tt, λ is. cc)
small_fault program.Net = (lit≤ tt, λ is. cc)

-- the status of a command is at most 3, and never 2
pub small_done : {T : Type 0} (done : Result T ProgramFault) (status : ℕ) → status ≡ done_status done
    → (status ≤ 3) × (status ≢ 2)
small_done {T} done status is =
    let P : ℕ → Type 0 = λ n. (n ≤ 3) × (n ≢ 2) in
    subst P (sym is) (go done)
  where
    go : (d : Result T ProgramFault) → (done_status d ≤ 3) × (done_status d ≢ 2)
    go (Ok x) = (lit≤ tt, λ is. cc)
    go (Err fault) = small_fault fault
