-- Words with changed labels outside of comments: no symbol is a label, so a word there that is one names it (Metamath book, section 4.1.3);
-- the letters of a compressed proof have no dot, as each label that is written has.
use Rattle.std.specs.Prelude.{Bool, true, false, List, [], ◌∷◌, if◌then◌else◌, codes}
use Rattle.std.specs.Str.{bytes_eq}
use mathlib.Core.Bool.{not}
use Rattle.giving.specs.Staying.{Change, changed}
use Rattle.items.specs.Items.{Item}

-- all else is as it is; the argument before them says whether a comment is open
abbrev pub relabelled : List Change → Bool → Item → Item
relabelled cs is_open [] = []
relabelled cs true (p ∷ ps) = p ∷ relabelled cs (not (bytes_eq p.word (codes "$)"))) ps
relabelled cs false (p ∷ ps) =
    if bytes_eq p.word (codes "$(") then p ∷ relabelled cs true ps else record p { word = changed cs p.word } ∷ relabelled cs false ps
