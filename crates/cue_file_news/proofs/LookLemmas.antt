-- A look.
use Rattle.std.proofs.Common.{◌≡◌, Bool, true, false, Option, Some, None, refl, ap, ◌∙◌, subst}
use Rattle.std.specs.Prelude.{◌↔◌}
use Rattle.cue_desk.specs.declared.stamps.Stamp.{Stamp}
use Rattle.cue_file_news.specs.Looks.{IsAskedBy, IsToRead}
use Rattle.cue_file_news.specs.Turns.{newest_look, newest_reading, trouble_found}
use Rattle.cue_file_news.specs.Watching.{LookKeeps}
use Rattle.cue_file_news.specs.declared.looking.Look.{Look}
use Rattle.cue_file_news.specs.declared.looking.Look.TheVariants as look
use Rattle.cue_file_news.specs.declared.looking.Looks.{Looks}
use Rattle.cue_file_news.specs.declared.looking.Reading.{Reading}
use Rattle.cue_file_news.specs.declared.telling.Trouble.{Trouble}
use Rattle.cue_file_news.specs.declared.watching.FileWatch.{FileWatch}

-- with nothing live, what is to be read is asked for
pub asked_idle : (last : Option Look) (read : Option Reading) (found : Look) (live : Bool) (asked : Option Stamp)
    → live ≡ false
    → ((stamp : Stamp) → found ≡ look.There stamp → (asked ≡ Some stamp) ↔ IsToRead last read stamp)
    → ((stamp : Stamp) → asked ≡ Some stamp → found ≡ look.There stamp)
    → (stamp : Stamp) → (asked ≡ Some stamp) ↔ IsAskedBy last read found live stamp
asked_idle last read found live asked idle there same stamp = (
  λ e. record { there = same stamp e; idle = idle; to_read = (there stamp (same stamp e)).0 e },
  λ a. (there stamp a.there).1 a.to_read,
)

-- with an attempt live nothing is
pub asked_live : (last : Option Look) (read : Option Reading) (found : Look) (live : Bool) (asked : Option Stamp)
    → ((stamp : Stamp) → (asked ≡ Some stamp) ↔ IsAskedBy last read found live stamp) → live ≡ true → asked ≡ None
asked_live last read found live None by e = refl
asked_live last read found live (Some stamp) by e = no ((by stamp).0 refl).idle
  where
    no : live ≡ false → Some stamp ≡ None
    no f = cc

pub after_look : (old : FileWatch) (found : Look) (live : Bool) (looks : Looks) (asked : Option Stamp)
    (last : Option Look) (trouble : Option Trouble)
    → last ≡ old.looks.last → trouble ≡ trouble_found last found old.trouble
    → looks ≡ record old.looks { last = Some found }
    → ((stamp : Stamp) → (asked ≡ Some stamp) ↔ IsAskedBy old.looks.last old.looks.read found live stamp)
    → LookKeeps old found live (record old { looks = looks; asked = asked; trouble = trouble }) asked
after_look old found live looks asked last trouble same told next by start past a = (
  record {
    said = a.said;
    kept = a.kept;
    look = ap (λ (x : Looks). x.last) next;
    reading = ap (λ (x : Looks). x.read) next ∙ a.reading;
    asked = is_asked;
    text = a.text;
    news = a.news;
    trouble = told ∙ ap (λ x. trouble_found x found old.trouble) (same ∙ a.look)
        ∙ ap (λ x. trouble_found (newest_look past) found x) a.trouble;
    lawful = a.lawful;
  },
  is_asked,
)
  where
    is_asked : (stamp : Stamp)
        → (asked ≡ Some stamp) ↔ IsAskedBy (newest_look past) (newest_reading past) found live stamp
    is_asked stamp =
        subst (λ (x : Option Reading). (asked ≡ Some stamp) ↔ IsAskedBy (newest_look past) x found live stamp) a.reading
        (subst (λ (x : Option Look). (asked ≡ Some stamp) ↔ IsAskedBy x old.looks.read found live stamp) a.look
        (by stamp))
