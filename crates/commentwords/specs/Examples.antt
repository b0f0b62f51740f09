-- Examples of words of comments, that compute: the definitions are neither empty nor too strong.
use Rattle.std.specs.Prelude.{◌≡◌, List, [], ◌∷◌, codes}
use Rattle.giving.specs.Staying.{Change}
use Rattle.commentwords.specs.Words.{at_first, words_then}

-- ax-1 is called a1 then
abbrev pub renames : List Change
renames = (codes "ax-1", codes "a1") ∷ []

-- in a description the label behind ~ changes, and quotes say nothing
abbrev pub DescriptionsChangeBehindTilde : Type 0
DescriptionsChangeBehindTilde =
    words_then renames at_first (codes "See" ∷ codes "~" ∷ codes "ax-1" ∷ codes "'ax-1'" ∷ [])
    ≡ codes "See" ∷ codes "~" ∷ codes "a1" ∷ codes "'ax-1'" ∷ []

-- in markup for verifiers a quoted label changes, and what stands behind its quote stays
abbrev pub MarkupChangesQuoted : Type 0
MarkupChangesQuoted =
    words_then renames at_first (codes "$j" ∷ codes "usage" ∷ codes "'ax-1'" ∷ codes "ax-1" ∷ codes "'ax-1';" ∷ [])
    ≡ codes "$j" ∷ codes "usage" ∷ codes "'a1'" ∷ codes "ax-1" ∷ codes "'a1';" ∷ []

-- of definitions for typesetting the label behind exthtmllabel changes, and no symbol
abbrev pub TypesettingChangesOneLabel : Type 0
TypesettingChangesOneLabel =
    words_then renames at_first (codes "$t" ∷ codes "htmldef" ∷ codes "'ax-1'" ∷ codes "exthtmllabel" ∷ codes "'ax-1';" ∷ [])
    ≡ codes "$t" ∷ codes "htmldef" ∷ codes "'ax-1'" ∷ codes "exthtmllabel" ∷ codes "'a1';" ∷ []
