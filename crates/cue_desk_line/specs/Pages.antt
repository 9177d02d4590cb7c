-- Which options of a page go together, and what they give.
use Rattle.std.specs.Prelude.{Bool, ◌&&◌, ◌||◌, not, if◌then◌else◌, ⊤, string_bytes, IfSome}
use Rattle.cue_request.specs.Identity.{IsName}
use Rattle.cue_request.specs.Locks.{IsWord}
use Rattle.cue_desk_line.specs.declared.reading.web.Fit.{Fit}
use Rattle.cue_desk_line.specs.declared.reading.web.Fit.TheVariants as fit
use Rattle.cue_desk_line.specs.declared.reading.web.LockWord.{LockWord}
use Rattle.cue_desk_line.specs.declared.reading.web.LockWord.TheVariants as lock_word
use Rattle.cue_desk_line.specs.declared.reading.web.PageUse.{PageUse}
use Rattle.cue_desk_line.specs.declared.reading.web.PageUse.TheVariants as page_use

-- a page that only shows has nothing to lock, and only such a page has another name than that of this machine; the word
-- of a lock is said once
abbrev pub fit_of : Bool → Bool → Bool → Bool → Fit
fit_of read_only host lock file =
    if read_only && (lock || file) then fit.LockWithoutButtons
    else (if host && not read_only then fit.NameOfButtons
    else (if lock && file then fit.TwoWords else fit.Together))

-- a page only shows
abbrev pub IsShown : PageUse → Type 0
IsShown (page_use.Plays lock) = ⊥
IsShown (page_use.Shows name) = ⊤

-- a word that is said can be that of a lock; what a file has is looked at when it is read
abbrev pub IsLock : LockWord → Type 0
IsLock (lock_word.Said word) = IsWord (string_bytes word)
IsLock (lock_word.InFile path) = ⊤

-- the word of a lock, or the name that a proxy gives, is one
abbrev pub IsUse : PageUse → Type 0
IsUse (page_use.Plays lock) = IfSome lock IsLock
IsUse (page_use.Shows name) = IfSome name (λ n. IsName (string_bytes n))
