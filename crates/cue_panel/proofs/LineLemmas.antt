-- Lines in which words stand that no definition gives.
use Rattle.std.proofs.Common.{◌≡◌, ◌∙◌, ap, ℕ, List}
use Rattle.cue_panel.specs.Lines.{IsNotPressed, source_words, unpressed_text}
use Rattle.cue_panel.specs.WishWords.{IsRefusal, refusal_text}
use Rattle.cue_panel.specs.declared.taking.Source.{Source}
use Rattle.cue_press_words.specs.Words.{intent_words}
use Rattle.cue_presses.specs.declared.intent.Intent.{Intent}

pub not_pressed : (s : Source) (i : Intent) (source intent words text : List ℕ) → source ≡ source_words s
    → intent ≡ intent_words i → text ≡ unpressed_text source intent words → IsNotPressed s i text
not_pressed s i source intent words text a b e =
    record {
      words = words;
      is = e ∙ ap (λ (x : List ℕ). unpressed_text x intent words) a
          ∙ ap (λ (x : List ℕ). unpressed_text (source_words s) x words) b;
    }

pub is_refusal : (i : Intent) (intent words text : List ℕ) → intent ≡ intent_words i
    → text ≡ refusal_text intent words → IsRefusal i text
is_refusal i intent words text a e =
    record { words = words; is = e ∙ ap (λ (x : List ℕ). refusal_text x words) a }
