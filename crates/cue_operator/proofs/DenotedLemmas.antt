-- The commands of a message are those of the methods that its address denotes.
use Rattle.std.proofs.Common.{◌≡◌, ◌≢◌, ℕ, Bool, true, false, cond, List, [], ◌∷◌, map, Option, Some, None, Ok}
use Rattle.std.proofs.Common.{Err, refl, sym, ap, subst, ◌∙◌, inl, inr}
use Rattle.std.specs.Option.{option_map_or}
use Rattle.cue_show.specs.Show.{ShowLists}
use Rattle.cue_pattern.specs.declared.piece.Piece.{Piece}
use Rattle.cue_pattern.specs.Grammar.{IsPattern}
use Rattle.cue_pattern.specs.Meaning.{Denotes}
use Rattle.cue_pattern.specs.Reading.{pattern_at}
use Rattle.cue_pattern.specs.Matching.{matches}
use Rattle.cue_pattern.proofs.MeaningLemmas.{matches-is, matches-again}
use Rattle.cue_pattern.proofs.PatternLemmas.{pattern_at-is, pattern_at-again}
use Rattle.cue_osc.specs.Argument.{Argument}
use Rattle.cue_core.specs.declared.command.Code.TheVariants as code
use Rattle.cue_core.specs.declared.command.Command.{Command}
use Rattle.cue_operator.specs.declared.method.Method.{Method}
use Rattle.cue_operator.specs.Methods.{address_of, methods, methods_at}
use Rattle.cue_operator.specs.Arguments.{command_by}
use Rattle.cue_operator.specs.Commands.{commands_at, unless_none, commands_matched, commands_of}
use Rattle.cue_operator.specs.Denoted.{AreDenoted, IsAddressOf, CommandsAreDenoted, BadPatternIsNone, NoMethodIsDenoted}
use Rattle.cue_operator.proofs.FindingLemmas.{pattern-asks}

-- ---- methods

denoted-filter : (pattern : List (List Piece)) (ms : List Method)
    → AreDenoted pattern ms (methods_at (matches pattern) ms)
denoted-filter pattern [] = refl
denoted-filter pattern (m ∷ ms) =
    at (matches pattern (address_of m)) refl (methods_at (matches pattern) ms) (denoted-filter pattern ms)
  where
    at : (b : Bool) → matches pattern (address_of m) ≡ b → (found : List Method) → AreDenoted pattern ms found
        → AreDenoted pattern (m ∷ ms) (cond b (m ∷ found) found)
    at true is found h = inl (matches-is pattern (address_of m) is, found, refl, h)
    at false is found h = inr (λ d. absurd (let e = matches-again pattern (address_of m) d in cc), h)

denoted-once : (pattern : List (List Piece)) (ms found : List Method) → AreDenoted pattern ms found
    → found ≡ methods_at (matches pattern) ms
denoted-once pattern [] found h = h
denoted-once pattern (m ∷ ms) found h =
    elim h [
      | inl p ↦
          let here : matches pattern (address_of m) ≡ true = matches-again pattern (address_of m) p.0 in
          let first : m ∷ p.1 ≡ m ∷ methods_at (matches pattern) ms =
          ap (λ ns. m ∷ ns) (denoted-once pattern ms p.1 p.3) in
          p.2 ∙ first
          ∙ sym (ap (λ b. cond b (m ∷ methods_at (matches pattern) ms) (methods_at (matches pattern) ms)) here)
      | inr p ↦ not_here (matches pattern (address_of m)) refl p.0 (denoted-once pattern ms found p.1)
    ]
  where
    not_here : (b : Bool) → matches pattern (address_of m) ≡ b → (Denotes pattern (address_of m) → ⊥)
        → found ≡ methods_at (matches pattern) ms
        → found ≡ cond b (m ∷ methods_at (matches pattern) ms) (methods_at (matches pattern) ms)
    not_here true is never e = absurd (never (matches-is pattern (address_of m) is))
    not_here false is never e = e

-- ---- what a message asks for

no-pattern-asks : (show : ShowLists) (a : List ℕ) (xs : List Argument) → pattern_at a ≡ None
    → commands_of show a xs ≡ Err code.BadPattern
unfolding commands_of
no-pattern-asks show a xs h =
    ap (λ (o : Option (List (List Piece))). option_map_or (commands_matched show xs) o (Err code.BadPattern)) h

-- the commands of a pattern that is spelled
spelled-asks : (show : ShowLists) (a : List ℕ) (xs : List Argument) (found : List Method) → IsAddressOf show a found
    → commands_of show a xs ≡ unless_none (map (command_by xs) found)
spelled-asks show a xs found h = pattern-asks show a xs h.pattern (pattern_at-again a h.pattern h.spelled)
    ∙ ap (λ ms. unless_none (map (command_by xs) ms)) (sym (denoted-once h.pattern (methods show) found h.denoted))

-- the methods of a pattern that is read
address-read : (show : ShowLists) (a : List ℕ) (p : List (List Piece)) → pattern_at a ≡ Some p
    → IsAddressOf show a (methods_at (matches p) (methods show))
address-read show a p h =
    record { pattern = p; spelled = pattern_at-is a p h; denoted = denoted-filter p (methods show) }

-- what is asked of these methods
abbrev IsAskedOf : List Argument → List Command → List Method → Type 0
IsAskedOf xs asked found = (found ≢ []) × (asked ≡ map (command_by xs) found)

some-asked : (xs : List Argument) (asked : List Command) (found : List Method)
    → unless_none (map (command_by xs) found) ≡ Ok asked → IsAskedOf xs asked found
some-asked xs asked [] is = absurd cc
some-asked xs asked (m ∷ ms) is = (λ e. cc, cc)

some-given : (xs : List Argument) (asked : List Command) (found : List Method) → IsAskedOf xs asked found
    → unless_none (map (command_by xs) found) ≡ Ok asked
some-given xs asked [] h = absurd (h.0 refl)
some-given xs asked (m ∷ ms) h = rw h.1 refl

none-found : (xs : List Argument) (found : List Method)
    → unless_none (map (command_by xs) found) ≡ Err code.NoMethod → found ≡ []
none-found xs [] is = refl
none-found xs (m ∷ ms) is = absurd cc

never-bad : (cs : List Command) → unless_none cs ≡ Err code.BadPattern → ⊥
never-bad [] is = cc
never-bad (c ∷ cs) is = cc

asked-denoted : (show : ShowLists) (a : List ℕ) (xs : List Argument) (asked : List Command)
    (o : Option (List (List Piece))) → pattern_at a ≡ o → commands_of show a xs ≡ Ok asked
    → (found : List Method) × IsAddressOf show a found × (found ≢ []) × (asked ≡ map (command_by xs) found)
asked-denoted show a xs asked None read is =
    let bad : commands_of show a xs ≡ Err code.BadPattern = no-pattern-asks show a xs read in absurd cc
asked-denoted show a xs asked (Some p) read is =
    let found = methods_at (matches p) (methods show) in
    let s = some-asked xs asked found (sym (pattern-asks show a xs p read) ∙ is) in
    (found, address-read show a p read, s.0, s.1)

pub commands-are-denoted : CommandsAreDenoted
commands-are-denoted show a xs asked = (
  asked-denoted show a xs asked (pattern_at a) refl,
  λ h. spelled-asks show a xs h.0 h.1 ∙ some-given xs asked h.0 (h.2, h.3),
)

pub bad_pattern-is-none : BadPatternIsNone
bad_pattern-is-none show a xs = (
  λ bad p spelled. never-bad (commands_at xs (matches p) (methods show))
      (sym (pattern-asks show a xs p (pattern_at-again a p spelled)) ∙ bad),
  λ none. by (pattern_at a) refl none,
)
  where
    by : (o : Option (List (List Piece))) → pattern_at a ≡ o
        → ((p : List (List Piece)) → IsPattern a p → ⊥) → commands_of show a xs ≡ Err code.BadPattern
    by None read none = no-pattern-asks show a xs read
    by (Some p) read none = absurd (none p (pattern_at-is a p read))

pub no_method-is-denoted : NoMethodIsDenoted
no_method-is-denoted show a xs = (by (pattern_at a) refl, spelled-asks show a xs [])
  where
    by : (o : Option (List (List Piece))) → pattern_at a ≡ o → commands_of show a xs ≡ Err code.NoMethod
        → IsAddressOf show a []
    by None read is =
        let bad : commands_of show a xs ≡ Err code.BadPattern = no-pattern-asks show a xs read in absurd cc
    by (Some p) read is =
        subst (IsAddressOf show a)
        (none-found xs (methods_at (matches p) (methods show)) (sym (pattern-asks show a xs p read) ∙ is))
        (address-read show a p read)
