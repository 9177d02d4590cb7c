-- A message that asks for a standing_by of a device is read as one.
use Rattle.std.proofs.Common.{◌≡◌, ◌⊎◌, inl, inr, ℕ, pos, negsuc, Bool, true, false, List, [], ◌∷◌, Option, None}
use Rattle.std.proofs.Common.{Some, Ok, Err, map, cond, if◌then◌else◌, refl, sym, ap, ◌∙◌, subst, true≢false}
use Rattle.std.specs.Option.{option_map, option_map_or}
use Rattle.cue_show.specs.Show.{ShowLists}
use Rattle.cue_exchange.specs.Live.{is_number}
use Rattle.cue_core.specs.declared.command.Code.{Code}
use Rattle.cue_core.specs.declared.command.Code.TheVariants as code
use Rattle.cue_core.specs.declared.command.Command.{Command}
use Rattle.cue_core.specs.declared.command.Command.TheVariants as command
use Rattle.cue_core.specs.declared.command.AnswerKind.TheVariants as answer_kind
use Rattle.cue_osc.specs.Argument.{Argument, int}
use Rattle.cue_pattern.specs.declared.piece.Piece.{Piece}
use Rattle.cue_pattern.specs.Reading.{pattern_at}
use Rattle.cue_pattern.specs.Matching.{matches}
use Rattle.cue_operator.specs.declared.method.CueVerb.{CueVerb}
use Rattle.cue_operator.specs.declared.method.CueVerb.TheVariants as on_cue
use Rattle.cue_operator.specs.declared.method.DeviceVerb.{DeviceVerb}
use Rattle.cue_operator.specs.declared.method.DeviceVerb.TheVariants as on_device
use Rattle.cue_operator.specs.declared.method.Method.{Method}
use Rattle.cue_operator.specs.declared.method.Method.TheVariants as method
use Rattle.cue_operator.specs.Methods.{address_of, cue_command, methods, methods_at}
use Rattle.cue_operator.specs.Arguments.{or_bad_number, answer_by, device_by, command_by}
use Rattle.cue_operator.proofs.FittingLemmas.{no_arguments-read, add_device-read, answer-read, add_cue-read}
use Rattle.cue_operator.proofs.FittingLemmas.{add_mixed_cue-read}
use Rattle.cue_operator.specs.Commands.{commands_at, unless_none, commands_matched, commands_of}
use Rattle.cue_stage.specs.Consent.{IsReadAsStandingBy}
use Rattle.cue_stage.proofs.ReadyLemmas.{Among}

-- the command is a standing_by
abbrev says : Command → Bool
says (command.Reply answer_kind.StandingBy d q) = true
says _ = false

-- ---- what no method but one reads

abbrev Quiet : Command → Type 0
Quiet c = says c ≡ false

bad-quiet : (c : Code) → Quiet (command.Bad c)
bad-quiet c = refl

cue-quiet : (v : CueVerb) (c : List ℕ) → Quiet (cue_command v c)
cue-quiet on_cue.Standby c = refl
cue-quiet _ c = refl

-- ---- the one that does

not_said : {A : Type 0} (c : Command) (d q : ℕ) → Quiet c → c ≡ command.Reply answer_kind.StandingBy d q → A
not_said c d q h is = absurd (true≢false (sym (ap says is) ∙ h))

abbrev device_in : Command → ℕ
device_in (command.Reply kind d q) = d
device_in _ = 0

abbrev number_of : Command → ℕ
number_of (command.Reply kind d q) = q
number_of _ = 0

read_by : (d e q : ℕ) (xs : List Argument) → answer_by answer_kind.StandingBy d xs
    ≡ command.Reply answer_kind.StandingBy e q
    → (d ≡ e) × (xs ≡ int (pos q) ∷ [])
read_by d e q (int (negsuc n) ∷ []) is = not_said (command.Bad code.BadNumber) e q refl is
read_by d e q (int (pos n) ∷ []) is = by (is_number n) is
  where
    by : (b : Bool) → or_bad_number (option_map (command.Reply answer_kind.StandingBy d) (if b then Some n else None))
        ≡ command.Reply answer_kind.StandingBy e q → (d ≡ e) × (int (pos n) ∷ [] ≡ int (pos q) ∷ [])
    by true k = (ap device_in k, ap (λ (m : ℕ). int (pos m) ∷ []) (ap number_of k))
    by false k = not_said (command.Bad code.BadNumber) e q refl k
read_by d e q _ is = not_said (command.Bad code.Arguments) e q refl is

-- a method that reads a standing_by, and the arguments that it reads it of
record Reads (xs : List Argument) (m : Method) (d q : ℕ) : Type 0 where
  pub method : m ≡ method.OfDevice d on_device.StandingBy
  pub number : xs ≡ int (pos q) ∷ []

device_reads : (v : DeviceVerb) (d e q : ℕ) (xs : List Argument)
    → device_by v d xs ≡ command.Reply answer_kind.StandingBy e q
    → Reads xs (method.OfDevice d v) e q
device_reads on_device.StandingBy d e q xs is = let r = read_by d e q xs is in
    record { method = ap (λ (n : ℕ). method.OfDevice n on_device.StandingBy) r.0; number = r.1 }
device_reads on_device.Release d e q xs is =
    not_said _ e q (no_arguments-read Quiet bad-quiet (command.Release d) xs refl) is
device_reads on_device.Remove d e q xs is =
    not_said _ e q (no_arguments-read Quiet bad-quiet (command.RemoveDevice d) xs refl) is
device_reads _ d e q xs is = not_said _ e q (answer-read Quiet bad-quiet _ d (λ n k. refl) xs) is

method_reads : (m : Method) (e q : ℕ) (xs : List Argument) → command_by xs m ≡ command.Reply answer_kind.StandingBy e q
    → Reads xs m e q
unfolding command_by
method_reads method.Status e q xs is =
    not_said _ e q (no_arguments-read Quiet bad-quiet command.Status xs refl) is
method_reads method.AddDevice e q xs is = not_said _ e q (add_device-read Quiet bad-quiet (λ d p g h. refl) xs) is
method_reads method.AddCue e q xs is = not_said _ e q (add_cue-read Quiet bad-quiet (λ c ps g h. refl) xs) is
method_reads method.AddMixedCue e q xs is =
    not_said _ e q (add_mixed_cue-read Quiet bad-quiet (λ c ps g h. refl) xs) is
method_reads (method.OfCue c v) e q xs is =
    not_said _ e q (no_arguments-read Quiet bad-quiet (cue_command v c) xs (cue-quiet v c)) is
method_reads (method.OfDevice d v) e q xs is = device_reads v d e q xs is

-- ---- the methods of a pattern

record IsMatched (xs : List Argument) (test : List ℕ → Bool) (d q : ℕ) : Type 0 where
  pub matching : test (address_of (method.OfDevice d on_device.StandingBy)) ≡ true
  pub number : xs ≡ int (pos q) ∷ []

matched_among : (xs : List Argument) (test : List ℕ → Bool) (d q : ℕ) (ms : List Method)
    → Among (command.Reply answer_kind.StandingBy d q) (commands_at xs test ms) → IsMatched xs test d q
matched_among xs test d q [] among = absurd among
matched_among xs test d q (m ∷ ms) among = by (test (address_of m)) refl (λ k. matched_among xs test d q ms k) among
  where
    here : test (address_of m) ≡ true → Reads xs m d q → IsMatched xs test d q
    here passes r = record {
      matching = ap (λ (n : Method). test (address_of n)) (sym r.method) ∙ passes;
      number =
          r.number;
    }

    one : test (address_of m) ≡ true → (Among (command.Reply answer_kind.StandingBy d q) (commands_at xs test ms)
        → IsMatched xs test d q)
        → (command_by xs m ≡ command.Reply answer_kind.StandingBy d q)
        ⊎ Among (command.Reply answer_kind.StandingBy d q) (commands_at xs test ms) → IsMatched xs test d q
    one passes f (inl is) = here passes (method_reads m d q xs is)
    one passes f (inr later) = f later

    by : (b : Bool) → test (address_of m) ≡ b
        → (Among (command.Reply answer_kind.StandingBy d q) (commands_at xs test ms)
        → IsMatched xs test d q)
        → Among (command.Reply answer_kind.StandingBy d q)
        (map (command_by xs) (cond b (m ∷ methods_at test ms) (methods_at test ms))) → IsMatched xs test d q
    by true passes f k = one passes f k
    by false passes f k = f k

all_of : (cs asked : List Command) → unless_none cs ≡ Ok asked → cs ≡ asked
all_of [] asked is = absurd cc
all_of (c ∷ cs) asked is = cc

pub read_among : (show : ShowLists) (address : List ℕ) (xs : List Argument) (asked : List Command) (d q : ℕ)
    → commands_of show address xs ≡ Ok asked → Among (command.Reply answer_kind.StandingBy d q) asked
    → IsReadAsStandingBy address xs d q
unfolding commands_of
read_among show address xs asked d q is among = by (pattern_at address) refl is
  where
    by : (o : Option (List (List Piece))) → pattern_at address ≡ o
        → option_map_or (commands_matched show xs) o (Err code.BadPattern) ≡ Ok asked
        → IsReadAsStandingBy address xs d q
    by None read k = absurd cc
    by (Some p) read k =
        let m : IsMatched xs (matches p) d q =
        matched_among xs (matches p) d q (methods show)
        (subst (Among (command.Reply answer_kind.StandingBy d q))
        (sym (all_of (commands_at xs (matches p) (methods show)) asked k)) among) in
        record { pattern = p; read = read; matching = m.matching; number = m.number }
