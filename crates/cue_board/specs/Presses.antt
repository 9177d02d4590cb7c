-- What became of a press, and why one was not sent, in words.
use Rattle.std.specs.Prelude.{ℕ, ℤ, List, ◌++◌, codes}
use Rattle.std.specs.Fmt.{decimal, signed_decimal}
use Rattle.cue_view.specs.declared.view.Became.{Became}
use Rattle.cue_view.specs.declared.view.Became.TheVariants as became
use Rattle.cue_view.specs.declared.view.Unsent.{Unsent}
use Rattle.cue_view.specs.declared.view.Unsent.TheVariants as unsent
use Rattle.cue_words.specs.CodeWords.{number_words}

-- the controller refused it, by this code
abbrev pub refused_words : ℤ → List ℕ
refused_words code =
    codes "refused: " ++ (number_words code ++ (codes " (code " ++ (signed_decimal code ++ codes ")")))

-- only some of several cues stand by: one was refused by this code
abbrev pub partly_words : ℤ → List ℕ
partly_words code =
    codes "NOT ALL of them stand by: " ++ (number_words code ++ (codes " (code " ++ (signed_decimal code ++ codes ")")))

-- nobody listens at the port
abbrev pub nobody_words : ℕ → List ℕ
nobody_words port = codes "not carried out: nobody listens at 127.0.0.1:" ++ decimal port

abbrev pub plain_words : Became → List ℕ
plain_words became.Made = codes "made"
plain_words became.Known = codes "it was so already"
plain_words became.Unshown = codes "serve says that it was carried out; the store does not show it yet"
plain_words became.Over = codes "it was made, and the cue stands by no more"
plain_words became.Carried = codes "no reply came; the store shows that it was carried out"
plain_words became.Lost = codes "no reply came; the store shows that it was not carried out"
plain_words became.Unknown = codes "no reply came, and the store does not show it: look at the devices"
plain_words _ = codes "open: nobody has replied yet; the store will show whether it is carried out"

-- what became of it; a press that nobody replied to is open
abbrev pub became_words : ℕ → Became → List ℕ
became_words port (became.Refused code) = refused_words code
became_words port (became.Partly code) = partly_words code
became_words port became.Nobody = nobody_words port
became_words port b = plain_words b

-- why it was not sent
abbrev pub unsent_words : Unsent → List ℕ
unsent_words unsent.Old = codes "not sent: what was shown is more than a second old; look, and press again"
unsent_words unsent.Dark = codes "not sent: the button was not lit"
unsent_words unsent.Changed = codes "not sent: it has changed meanwhile; look, and press again"
unsent_words unsent.Again = codes "GO was pressed less than a second ago: the second tap did nothing"
