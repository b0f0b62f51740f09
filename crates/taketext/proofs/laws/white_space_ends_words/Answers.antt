use Rattle.taketext.proofs.Separate.{white_space_ends_words}
use Rattle.taketext.proofs.laws.white_space_ends_words.Goals as goal

pub returns : goal.returns
returns c = white_space_ends_words
