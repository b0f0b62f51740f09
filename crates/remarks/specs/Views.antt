-- Of the code's inside, apart from the rules: what the code notes of a comment, and the last words that it has read.
use Rattle.std.specs.Prelude.{◌≡◌, List, ◌∷◌}
use Rattle.mmtext.specs.Words.{Word}
use Rattle.items.specs.Items.{Item}
use Rattle.remarks.specs.Remarks.{Phrase, modification, usage, says_phrase, is_remark}
use Rattle.remarks.specs.declared.phrases.Phrase.{Phrase as CodePhrase}
use Rattle.remarks.specs.declared.phrases.Phrase.TheVariants as code
use Rattle.remarks.specs.declared.phrases.Window.{Window}
use Rattle.remarks.specs.declared.comments.Remark.{Remark}

abbrev pub phrase_of : CodePhrase → Phrase
phrase_of code.Modification = modification
phrase_of code.Usage = usage

-- the last three words, and those behind them
abbrev pub behind_window : Window → List Word → List Word
behind_window w ws = w.first.now ∷ w.second.now ∷ w.third.now ∷ ws

-- words say these phrases
pub record SayThese (ws : List Word) (r : Remark) : Type 0 where
  pub modification_is : r.modification ≡ says_phrase modification ws
  pub usage_is : r.usage ≡ says_phrase usage ws

-- an item is a comment that discourages so much
pub record IsRemark (x : Item) (r : Remark) : Type 0 where
  pub modification_is : r.modification ≡ is_remark modification x
  pub usage_is : r.usage ≡ is_remark usage x
