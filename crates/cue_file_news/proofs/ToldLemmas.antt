-- What is told, whatever comes without a new text.
use Rattle.std.proofs.Common.{◌≡◌, ℕ, List, [], ◌∷◌, ◌++◌, Option, None, IsTrue, refl, ap, ◌∙◌}
use Rattle.cue_file_news.specs.Laws.{ToldTenSeconds, ToldUntilMended}
use Rattle.cue_file_news.specs.Told.{told_words}
use Rattle.cue_file_news.specs.Turns.{AreQuiet, Turn, is_quiet, looked, news_after, news_of, news_shown, trouble_of}
use Rattle.cue_file_news.specs.Turns.{was_read, was_shown}
use Rattle.cue_file_news.specs.declared.telling.News.{News}
use Rattle.cue_file_news.specs.declared.telling.News.TheVariants as news
use Rattle.cue_file_news.specs.declared.telling.Trouble.{Trouble}
use Rattle.cue_file_news.specs.declared.watching.Became.{Became}
use Rattle.cue_file_news.specs.declared.watching.Became.TheVariants as became

-- a reading without a new text leaves the news
quiet_after : (b : Became) (n : News) → IsTrue (is_quiet b) → news_after b n ≡ n
quiet_after became.Ignored n q = refl
quiet_after became.Unreadable n q = refl
quiet_after became.Same n q = refl
quiet_after (became.Wrong line) n q = cc
quiet_after (became.Taken file l) n q = cc

-- so do all turns, if a file that is shown again leaves them, too
quiet_news : (n : News) (more past : List Turn) → ((at : ℕ) → news_shown at n ≡ n) → AreQuiet more → news_of past ≡ n
    → news_of (more ++ past) ≡ n
quiet_news n [] past shown q e = e
quiet_news n (looked found live ∷ more) past shown q e = quiet_news n more past shown q e
quiet_news n (was_read r b ∷ more) past shown q e =
    ap (λ x. news_after b x) (quiet_news n more past shown q.1 e) ∙ quiet_after b n q.0
quiet_news n (was_shown at ∷ more) past shown q e =
    ap (λ x. news_shown at x) (quiet_news n more past shown q e) ∙ shown at

told_so : (t : Option Trouble) (n m : News) (now : ℕ) → t ≡ None → n ≡ m → told_words t n now ≡ told_words None m now
told_so t n m now e f = ap (λ x. told_words x n now) e ∙ ap (λ x. told_words None x now) f

pub told-ten-seconds : ToldTenSeconds
told-ten-seconds past more r file l at now q t =
    told_so (trouble_of (more ++ was_shown at ∷ was_read r (became.Taken file l) ∷ past))
    (news_of (more ++ was_shown at ∷ was_read r (became.Taken file l) ∷ past)) (news.Shown at l) now t
    (quiet_news (news.Shown at l) more (was_shown at ∷ was_read r (became.Taken file l) ∷ past) (λ x. refl) q refl)

pub told-until-mended : ToldUntilMended
told-until-mended past more r line now q t =
    told_so (trouble_of (more ++ was_read r (became.Wrong line) ∷ past))
    (news_of (more ++ was_read r (became.Wrong line) ∷ past)) (news.Wrong line) now t
    (quiet_news (news.Wrong line) more (was_read r (became.Wrong line) ∷ past) (λ x. refl) q refl)
