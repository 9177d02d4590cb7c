-- What stands for a state is not refused, and is opened with that state alone.
use Rattle.std.proofs.Common.{◌≡◌, ℕ, List, false, sym, ◌∙◌, ap, subst}
use Rattle.cue_log.specs.Area.{Area}
use Rattle.cue_snap.proofs.ReaderLemmas.{one_of_a_pair, good_pair}
use Rattle.cue_core.specs.State.{ShowState}
use Rattle.cue_records.specs.declared.parts_form.PartsForm.{PartsForm}
use Rattle.cue_records.specs.declared.parts_form.PartsForm.TheVariants.{Plain, Flagged}
use Rattle.cue_records.specs.State.{IsStateText, text_in, is_other_version}
use Rattle.cue_keeper.specs.Stands.{StandsFor}
use Rattle.cue_keeper.specs.Laws.{WhatStandsIsOpened, WhatIsClosedIsOpened}
use Rattle.cue_keeper.proofs.StandingLemmas.{one_state}

-- a text of a state begins with this version or with the older one
own_version : (bytes : List ℕ) (s : ShowState) → IsStateText bytes s → is_other_version bytes ≡ false
own_version bytes s text = by text.form text.is
  where
    by : (form : PartsForm) → bytes ≡ text_in form s → is_other_version bytes ≡ false
    by Plain is = ap is_other_version is
    by Flagged is = ap is_other_version is

pub is_opened : WhatStandsIsOpened
is_opened x y s stands =
    let good = good_pair stands.area x y stands.reads in (
      good.0,
      good.1,
      λ other.
          let same : other.area ≡ stands.area = one_of_a_pair other.area stands.area x y other.reads stands.reads in
          let own : is_other_version other.area.snapshot ≡ false = ap (λ (a : Area). is_other_version a.snapshot) same
          ∙ own_version stands.area.snapshot stands.stands.base stands.stands.base_text in
          let version = other.version in
          absurd cc,
      λ malformed.
          let same : malformed.area ≡ stands.area = one_of_a_pair malformed.area stands.area x y malformed.reads
          stands.reads in
          malformed.none s (subst (λ (a : Area). StandsFor a s) (sym same) stands.stands),
    )

pub opened_again : WhatIsClosedIsOpened
opened_again one other s t image_one image_other stands found =
    one_state one.bytes other.bytes t s found (stands one.bytes other.bytes image_one image_other)
