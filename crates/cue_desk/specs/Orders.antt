-- What a command of an evening asks of the controller, and by which word it is given.
use Rattle.std.specs.Prelude.{ℕ, List, codes}
use Rattle.cue_operator.specs.Methods.{cue_verb_text}
use Rattle.cue_desk.specs.declared.asking.Asked.{Asked}
use Rattle.cue_desk.specs.declared.asking.Asked.TheVariants as asked
use Rattle.cue_desk.specs.declared.orders.DeskCommand.{DeskCommand}
use Rattle.cue_desk.specs.declared.orders.DeskCommand.TheVariants as order
use Rattle.cue_desk.specs.declared.orders.CommandWord.{CommandWord}
use Rattle.cue_desk.specs.declared.orders.CommandWord.TheVariants as word

-- what is asked
abbrev pub asked_of : DeskCommand → Asked
asked_of order.Status = asked.Status
asked_of (order.OfCue verb cue) = asked.OfCue verb cue
asked_of (order.Release device) = asked.Release device
asked_of (order.RemoveDevice device) = asked.RemoveDevice device

-- how a word is spelled: for a cue as the method
abbrev pub spelling_of : CommandWord → List ℕ
spelling_of word.Status = codes "status"
spelling_of (word.OfCue verb) = cue_verb_text verb
spelling_of word.Release = codes "release"
spelling_of word.Remove = codes "remove"

-- the word that an order was given by
abbrev pub word_of : DeskCommand → List ℕ
word_of order.Status = spelling_of word.Status
word_of (order.OfCue verb cue) = spelling_of (word.OfCue verb)
word_of (order.Release device) = spelling_of word.Release
word_of (order.RemoveDevice device) = spelling_of word.Remove
