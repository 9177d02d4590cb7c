-- The commands that a message asks for can be judged.
use Rattle.std.specs.Prelude.{MatchResult, IfOk}
use Rattle.cue_operator.specs.Commands.{OnCode}
use Rattle.cue_operator.specs.declared.message.Refused.{Refused}
use Rattle.std.proofs.Common.{subst}
use Rattle.std.specs.Prelude.{IsTrue}
use Rattle.std.proofs.Common.{◌≡◌, ℕ, ℤ, pos, negsuc, Bool, true, false, not, List, [], ◌∷◌, Option, None, Some, Result}
use Rattle.std.proofs.Common.{Ok, Err, map, if◌then◌else◌, refl}
use Rattle.std.specs.List.{list_all}
use Rattle.std.specs.Option.{option_map, option_map_or}
use Rattle.cue_show.specs.declared.part.Part.{Part}
use Rattle.cue_show.specs.DeviceNumber.{is_device, is_port, device_of}
use Rattle.cue_show.specs.Number.{is_cue_number}
use Rattle.cue_show.specs.Parts.{are_parts}
use Rattle.cue_show.specs.Show.{ShowLists}
use Rattle.cue_exchange.specs.Live.{is_number}
use Rattle.cue_core.specs.declared.command.Code.{Code}
use Rattle.cue_core.specs.declared.command.Code.TheVariants as code
use Rattle.cue_core.specs.declared.command.Command.{Command}
use Rattle.cue_core.specs.declared.command.Command.TheVariants as command
use Rattle.cue_core.specs.declared.command.AnswerKind.{AnswerKind}
use Rattle.cue_core.specs.Judge.{is_fit}
use Rattle.cue_core.proofs.lists.ConditionLemmas.{join}
use Rattle.cue_osc.specs.Argument.{Argument, int, text}
use Rattle.cue_pattern.specs.declared.piece.Piece.{Piece}
use Rattle.cue_pattern.specs.Reading.{pattern_at}
use Rattle.cue_pattern.specs.Matching.{matches}
use Rattle.cue_operator.specs.declared.method.CueVerb.{CueVerb}
use Rattle.cue_operator.specs.declared.method.CueVerb.TheVariants as on_cue
use Rattle.cue_operator.specs.declared.method.DeviceVerb.{DeviceVerb}
use Rattle.cue_operator.specs.declared.method.DeviceVerb.TheVariants as on_device
use Rattle.cue_operator.specs.declared.method.Method.{Method}
use Rattle.cue_operator.specs.declared.method.Method.TheVariants as method
use Rattle.cue_operator.specs.Methods.{cue_command, methods, methods_at}
use Rattle.cue_operator.specs.Arguments.{number_passing, port_in, number_in, no_arguments, or_bad_number, device_with}
use Rattle.cue_operator.specs.Arguments.{add_device_by, answer_by, are_pairs, are_triples, pairs_in, triples_in}
use Rattle.cue_operator.specs.Arguments.{cue_with, add_cue_by, add_mixed_cue_by, device_by, command_by}
use Rattle.cue_operator.specs.Commands.{commands_at, unless_none, commands_matched, commands_of}

all_mapped : {A B : Type 0} (r : B → Bool) (f : A → B) → ((x : A) → r (f x) ≡ true) → (xs : List A)
    → list_all r (map f xs) ≡ true
all_mapped r f g [] = refl
all_mapped r f g (x ∷ xs) = join (r (f x)) (list_all r (map f xs)) (g x) (all_mapped r f g xs)

cue-fit : (v : CueVerb) (c : List ℕ) → is_fit (cue_command v c) ≡ true
cue-fit on_cue.Standby c = refl
cue-fit _ c = refl

-- a number that passes a test, or none
abbrev passes : (ℕ → Bool) → Option ℕ → Bool
passes test None = true
passes test (Some n) = test n

number_passing-passes : (test : ℕ → Bool) (z : ℤ) → passes test (number_passing test z) ≡ true
number_passing-passes test (negsuc n) = refl
number_passing-passes test (pos n) = by (test n) refl
  where
    by : (b : Bool) → test n ≡ b → passes test (if b then Some n else None) ≡ true
    by true e = e
    by false e = refl

device-passes : (z : ℤ) → passes is_device (device_of z) ≡ true
device-passes (negsuc n) = refl
device-passes (pos n) = by (is_device n) refl
  where
    by : (b : Bool) → is_device n ≡ b → passes is_device (if b then Some n else None) ≡ true
    by true e = e
    by false e = refl

-- ---- what holds of each refusal and of the command that is asked for holds of what the arguments make of it

module _ (P : Command → Type 0) (bad : (c : Code) → P (command.Bad c)) where
  pub no_arguments-read : (c : Command) (xs : List Argument) → P c → P (no_arguments c xs)
  no_arguments-read c [] h = h
  no_arguments-read c (x ∷ xs) h = bad code.Arguments

  pub add_device-read : ((d p : ℕ) → is_device d ≡ true → is_port p ≡ true → P (command.AddDevice d p))
      → (xs : List Argument) → P (add_device_by xs)
  add_device-read h (int d ∷ int p ∷ []) =
      by (device_of d) (port_in p) (device-passes d) (number_passing-passes is_port p)
    where
      by : (d p : Option ℕ) → passes is_device d ≡ true → passes is_port p ≡ true → P (or_bad_number (device_with d p))
      by None p e f = bad code.BadNumber
      by (Some d) None e f = bad code.BadNumber
      by (Some d) (Some p) e f = h d p e f
  add_device-read h _ = bad code.Arguments

  pub answer-read : (kind : AnswerKind) (d : ℕ) → ((q : ℕ) → is_number q ≡ true → P (command.Reply kind d q))
      → (xs : List Argument) → P (answer_by kind d xs)
  answer-read kind d h (int z ∷ []) = by (number_in z) (number_passing-passes is_number z)
    where
      by : (o : Option ℕ) → passes is_number o ≡ true → P (or_bad_number (option_map (command.Reply kind d) o))
      by None e = bad code.BadNumber
      by (Some q) e = h q e
  answer-read kind d h _ = bad code.Arguments

  module _ (h : (c : List ℕ) (ps : List Part) → is_cue_number c ≡ true → are_parts ps ≡ true → P (command.AddCue c ps))
    where
      cue_with-read : (c : List ℕ) (o : Option (List Part)) → P (cue_with c o)
      cue_with-read c None = bad code.BadNumber
      cue_with-read c (Some ps) = by (is_cue_number c) (are_parts ps) refl refl
        where
          by : (a b : Bool) → is_cue_number c ≡ a → are_parts ps ≡ b
              → P (if not a then command.Bad code.BadNumber else
              (if b then command.AddCue c ps else command.Bad code.BadParts))
          by true true e f = h c ps e f
          by true false e f = bad code.BadParts
          by false b e f = bad code.BadNumber

      -- where the tags are so
      tagged-read : (c : List ℕ) (ps : Option (List Part)) (tags : Bool)
          → P (if tags then cue_with c ps else command.Bad code.Arguments)
      tagged-read c ps true = cue_with-read c ps
      tagged-read c ps false = bad code.Arguments

      pub add_cue-read : (xs : List Argument) → P (add_cue_by xs)
      add_cue-read (text c ∷ rest) = tagged-read c (pairs_in rest) (are_pairs rest)
      add_cue-read _ = bad code.Arguments

      pub add_mixed_cue-read : (xs : List Argument) → P (add_mixed_cue_by xs)
      add_mixed_cue-read (text c ∷ rest) = tagged-read c (triples_in rest) (are_triples rest)
      add_mixed_cue-read _ = bad code.Arguments

-- ---- what is read is fit

abbrev Fit : Command → Type 0
Fit c = is_fit c ≡ true

bad-fit : (c : Code) → Fit (command.Bad c)
bad-fit c = refl

device-fit : (v : DeviceVerb) (d : ℕ) (xs : List Argument) → Fit (device_by v d xs)
device-fit on_device.Release d xs = no_arguments-read Fit bad-fit (command.Release d) xs refl
device-fit on_device.Remove d xs = no_arguments-read Fit bad-fit (command.RemoveDevice d) xs refl
device-fit _ d xs = answer-read Fit bad-fit _ d (λ q e. e) xs

pub command-fit : (m : Method) (xs : List Argument) → Fit (command_by xs m)
unfolding command_by
command-fit method.Status xs = no_arguments-read Fit bad-fit command.Status xs refl
command-fit method.AddDevice xs = add_device-read Fit bad-fit (λ d p e f. join (is_device d) (is_port p) e f) xs
command-fit method.AddCue xs = add_cue-read Fit bad-fit (λ c ps e f. join (is_cue_number c) (are_parts ps) e f) xs
command-fit method.AddMixedCue xs = add_mixed_cue-read Fit bad-fit
    (λ c ps e f. join (is_cue_number c) (are_parts ps) e f) xs
command-fit (method.OfCue c v) xs = no_arguments-read Fit bad-fit (cue_command v c) xs (cue-fit v c)
command-fit (method.OfDevice d v) xs = device-fit v d xs

abbrev pub are_fit : Result (List Command) Code → Bool
are_fit (Err c) = true
are_fit (Ok cs) = list_all is_fit cs

unless_none-fit : (cs : List Command) → list_all is_fit cs ≡ true → are_fit (unless_none cs) ≡ true
unless_none-fit [] h = refl
unless_none-fit (c ∷ cs) h = h

pub all_matched-fit : (xs : List Argument) (test : List ℕ → Bool) (ms : List Method)
    → list_all is_fit (commands_at xs test ms) ≡ true
all_matched-fit xs test ms = all_mapped is_fit (command_by xs) (λ m. command-fit m xs) (methods_at test ms)

pub commands-fit : (s : ShowLists) (a : List ℕ) (xs : List Argument) → are_fit (commands_of s a xs) ≡ true
unfolding commands_of
commands-fit s a xs = by (pattern_at a)
  where
    by : (o : Option (List (List Piece))) → are_fit (option_map_or (commands_matched s xs) o (Err code.BadPattern))
        ≡ true
    by None = refl
    by (Some p) = unless_none-fit (commands_at xs (matches p) (methods s)) (all_matched-fit xs (matches p) (methods s))

-- what is answered is fit
pub answers-fit : {V : Type 0} (items : V → List Command) (asks : Result (List Command) Code) (r : Result V Refused)
    → are_fit asks ≡ true → MatchResult r (λ f. asks ≡ Ok (items f)) (λ e. OnCode e (λ (c : Code). asks ≡ Err c))
    → IfOk r (λ f. IsTrue (list_all is_fit (items f)))
answers-fit items asks (Ok f) h e = let P : Result (List Command) Code → Type 0 = λ a. are_fit a ≡ true in subst P e h
answers-fit items asks (Err e) h k = tt
