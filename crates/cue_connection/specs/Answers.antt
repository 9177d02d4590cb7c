-- What a connection is answered beside the page.
use Rattle.std.specs.Prelude.{ℕ, List, codes}
use Rattle.serde_json.specs.Data.{Data, member, no_members, object, string}
use Rattle.serde_json.specs.Written.{compact_text}
use Rattle.cue_request.specs.Answers.{answer_of, status_of, type_of}
use Rattle.cue_request.specs.declared.answering.Kind.TheVariants as kind
use Rattle.cue_request.specs.declared.answering.Outcome.{Outcome}
use Rattle.cue_request.specs.declared.answering.TheConstants.{NOTHING}

-- an answer of JSON, which may do nothing in a browser
abbrev pub json_answer : Outcome → List ℕ → List ℕ
json_answer outcome text = answer_of (status_of outcome) (type_of kind.Json) NOTHING.now text

-- a sentence that is shown, as JSON
abbrev pub words_data : List ℕ → Data
words_data words = object (member (codes "words") (string words) no_members)

abbrev pub words_text : List ℕ → List ℕ
words_text words = compact_text (words_data words)

-- that there is no answer, and why
abbrev pub trouble_answer : Outcome → List ℕ → List ℕ
trouble_answer outcome words = json_answer outcome (words_text words)
