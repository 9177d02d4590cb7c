use Rattle.std.proofs.Common.{refl}
use Rattle.cue_pattern.proofs.PatternLemmas.{pattern_at-again}
use Rattle.cue_pattern.proofs.PartsLemmas.{uncounted-read, read-only, found-if, no-pattern, some-pattern}
use Rattle.cue_pattern.proofs.pattern.Pattern.read.Goals as goal

pub returns-in_default-clause-only : goal.returns-in_default-clause-only
returns-in_default-clause-only c = λ p h.
    let read = pattern_at-again _ p h in
    let none = uncounted-read _ c.in_default.ensures in cc

pub returns-clause-found : goal.returns-clause-found
returns-clause-found c = found-if _ _ c.read_parts.ensures.found

pub returns-clause-only : goal.returns-clause-only
returns-clause-only c = λ p h. read-only _ p _ c.read_parts.ensures.found c.read_parts.ensures.bad
    (pattern_at-again _ p h)

pub returns-in_default-clause-refused : goal.returns-in_default-clause-refused
returns-in_default-clause-refused c = (λ _. no-pattern _ (uncounted-read _ c.in_default.ensures), λ _. refl)

pub returns-clause-refused : goal.returns-clause-refused
returns-clause-refused c = (
  λ h. no-pattern _ (c.read_parts.ensures.bad h),
  λ none.
      absurd (some-pattern _ c.in-Some.count c.in-Some.ensures none),
)
