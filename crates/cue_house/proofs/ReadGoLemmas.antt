-- A message that asks for a go of a cue is read as one.
use Rattle.std.proofs.Common.{◌≡◌, ◌⊎◌, inl, inr, ℕ, Bool, true, false, List, [], ◌∷◌, Option, None, Some, Ok, Err}
use Rattle.std.proofs.Common.{map, cond, refl, sym, ap, ◌∙◌, subst, true≢false}
use Rattle.std.specs.Option.{option_map_or}
use Rattle.cue_show.specs.Show.{ShowLists}
use Rattle.cue_core.specs.declared.command.Code.{Code}
use Rattle.cue_core.specs.declared.command.Code.TheVariants as code
use Rattle.cue_core.specs.declared.command.Command.{Command}
use Rattle.cue_core.specs.declared.command.Command.TheVariants as command
use Rattle.cue_osc.specs.Argument.{Argument}
use Rattle.cue_pattern.specs.declared.piece.Piece.{Piece}
use Rattle.cue_pattern.specs.Reading.{pattern_at}
use Rattle.cue_pattern.specs.Matching.{matches}
use Rattle.cue_operator.specs.declared.method.CueVerb.{CueVerb}
use Rattle.cue_operator.specs.declared.method.CueVerb.TheVariants as on_cue
use Rattle.cue_operator.specs.declared.method.DeviceVerb.{DeviceVerb}
use Rattle.cue_operator.specs.declared.method.DeviceVerb.TheVariants as on_device
use Rattle.cue_operator.specs.declared.method.Method.{Method}
use Rattle.cue_operator.specs.declared.method.Method.TheVariants as method
use Rattle.cue_operator.specs.Methods.{address_of, cue_command, methods, methods_at}
use Rattle.cue_operator.specs.Arguments.{command_by, device_by, no_arguments}
use Rattle.cue_operator.specs.Commands.{commands_at, unless_none, commands_matched, commands_of}
use Rattle.cue_operator.proofs.FittingLemmas.{no_arguments-read, add_device-read, answer-read, add_cue-read}
use Rattle.cue_operator.proofs.FittingLemmas.{add_mixed_cue-read}
use Rattle.cue_stage.proofs.ReadyLemmas.{Among}
use Rattle.cue_house.specs.Asking.{IsReadAsGo}

-- the command is a go
abbrev is_go : Command → Bool
is_go (command.Go c) = true
is_go _ = false

abbrev Quiet : Command → Type 0
Quiet c = is_go c ≡ false

bad-quiet : (c : Code) → Quiet (command.Bad c)
bad-quiet c = refl

not_asked : {A : Type 0} (c : Command) (cue : List ℕ) → Quiet c → c ≡ command.Go cue → A
not_asked c cue h is = absurd (true≢false (sym (ap is_go is) ∙ h))

abbrev cue_in : Command → List ℕ
cue_in (command.Go c) = c
cue_in _ = []

-- a method that reads a go, and the arguments that it reads it of
record Reads (xs : List Argument) (m : Method) (cue : List ℕ) : Type 0 where
  pub method : m ≡ method.OfCue cue on_cue.Go
  pub none : xs ≡ []

go_reads : (c cue : List ℕ) (xs : List Argument) → no_arguments (command.Go c) xs ≡ command.Go cue
    → Reads xs (method.OfCue c on_cue.Go) cue
go_reads c cue [] is = record { method = ap (λ (n : List ℕ). method.OfCue n on_cue.Go) (ap cue_in is); none = refl }
go_reads c cue (x ∷ xs) is = not_asked (command.Bad code.Arguments) cue refl is

cue_reads : (v : CueVerb) (c cue : List ℕ) (xs : List Argument)
    → no_arguments (cue_command v c) xs ≡ command.Go cue → Reads xs (method.OfCue c v) cue
cue_reads on_cue.Go c cue xs is = go_reads c cue xs is
cue_reads on_cue.Standby c cue xs is =
    not_asked _ cue (no_arguments-read Quiet bad-quiet (command.Standby c) xs refl) is
cue_reads on_cue.Cancel c cue xs is =
    not_asked _ cue (no_arguments-read Quiet bad-quiet (command.Cancel c) xs refl) is
cue_reads on_cue.Goto c cue xs is = not_asked _ cue (no_arguments-read Quiet bad-quiet (command.Goto c) xs refl) is
cue_reads on_cue.Remove c cue xs is =
    not_asked _ cue (no_arguments-read Quiet bad-quiet (command.RemoveCue c) xs refl) is

device_reads : (v : DeviceVerb) (d : ℕ) (cue : List ℕ) (xs : List Argument) → device_by v d xs ≡ command.Go cue
    → Reads xs (method.OfDevice d v) cue
device_reads on_device.Release d cue xs is =
    not_asked _ cue (no_arguments-read Quiet bad-quiet (command.Release d) xs refl) is
device_reads on_device.Remove d cue xs is =
    not_asked _ cue (no_arguments-read Quiet bad-quiet (command.RemoveDevice d) xs refl) is
device_reads _ d cue xs is = not_asked _ cue (answer-read Quiet bad-quiet _ d (λ n k. refl) xs) is

method_reads : (m : Method) (cue : List ℕ) (xs : List Argument) → command_by xs m ≡ command.Go cue → Reads xs m cue
unfolding command_by
method_reads method.Status cue xs is =
    not_asked _ cue (no_arguments-read Quiet bad-quiet command.Status xs refl) is
method_reads method.AddDevice cue xs is = not_asked _ cue (add_device-read Quiet bad-quiet (λ d p g h. refl) xs) is
method_reads method.AddCue cue xs is = not_asked _ cue (add_cue-read Quiet bad-quiet (λ c ps g h. refl) xs) is
method_reads method.AddMixedCue cue xs is =
    not_asked _ cue (add_mixed_cue-read Quiet bad-quiet (λ c ps g h. refl) xs) is
method_reads (method.OfCue c v) cue xs is = cue_reads v c cue xs is
method_reads (method.OfDevice d v) cue xs is = device_reads v d cue xs is

-- ---- the methods of a pattern

record IsMatched (xs : List Argument) (test : List ℕ → Bool) (cue : List ℕ) : Type 0 where
  pub matching : test (address_of (method.OfCue cue on_cue.Go)) ≡ true
  pub none : xs ≡ []

matched_among : (xs : List Argument) (test : List ℕ → Bool) (cue : List ℕ) (ms : List Method)
    → Among (command.Go cue) (commands_at xs test ms) → IsMatched xs test cue
matched_among xs test cue [] among = absurd among
matched_among xs test cue (m ∷ ms) among = by (test (address_of m)) refl (λ k. matched_among xs test cue ms k) among
  where
    one : test (address_of m) ≡ true → (Among (command.Go cue) (commands_at xs test ms) → IsMatched xs test cue)
        → (command_by xs m ≡ command.Go cue) ⊎ Among (command.Go cue) (commands_at xs test ms)
        → IsMatched xs test cue
    one passes f (inl is) =
        let r : Reads xs m cue = method_reads m cue xs is in
        record {
          matching = ap (λ (n : Method). test (address_of n)) (sym r.method) ∙ passes;
          none = r.none;
        }
    one passes f (inr later) = f later

    by : (b : Bool) → test (address_of m) ≡ b
        → (Among (command.Go cue) (commands_at xs test ms) → IsMatched xs test cue)
        → Among (command.Go cue) (map (command_by xs) (cond b (m ∷ methods_at test ms) (methods_at test ms)))
        → IsMatched xs test cue
    by true passes f k = one passes f k
    by false passes f k = f k

all_of : (cs asked : List Command) → unless_none cs ≡ Ok asked → cs ≡ asked
all_of [] asked is = absurd cc
all_of (c ∷ cs) asked is = cc

pub read_among : (show : ShowLists) (address : List ℕ) (xs : List Argument) (asked : List Command) (cue : List ℕ)
    → commands_of show address xs ≡ Ok asked → Among (command.Go cue) asked → IsReadAsGo address xs cue
unfolding commands_of
read_among show address xs asked cue is among = by (pattern_at address) refl is
  where
    by : (o : Option (List (List Piece))) → pattern_at address ≡ o
        → option_map_or (commands_matched show xs) o (Err code.BadPattern) ≡ Ok asked → IsReadAsGo address xs cue
    by None read k = absurd cc
    by (Some p) read k =
        let m : IsMatched xs (matches p) cue =
        matched_among xs (matches p) cue (methods show)
        (subst (Among (command.Go cue)) (sym (all_of (commands_at xs (matches p) (methods show)) asked k)) among) in
        record { pattern = p; read = read; matching = m.matching; none = m.none }
