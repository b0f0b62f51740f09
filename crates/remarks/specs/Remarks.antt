-- What the comment right in front of an assertion discourages. The program metamath has two phrases for it (its `help discouraged`):
-- `(Proof modification is discouraged.)` and `(New usage is discouraged.)`.
use Rattle.std.specs.Prelude.{◌≡◌, ◌&&◌, ◌||◌, ℕ, Bool, false, List, [], ◌∷◌, ◌++◌, nat_eq, if◌then◌else◌, codes}
use Rattle.std.specs.List.{starts_with, ends_with}
use Rattle.std.specs.Str.{bytes_eq}
use Rattle.mmtext.specs.Words.{Word}
use Rattle.items.specs.Items.{Item, words, label_of, Spells}

-- ---- phrases

-- the two first words of a phrase, which goes on with `is discouraged.)`
pub record Phrase : Type 0 where
  pub first : Word
  pub second : Word

abbrev pub modification : Phrase
modification = record { first = codes "(Proof"; second = codes "modification" }

abbrev pub usage : Phrase
usage = record { first = codes "(New"; second = codes "usage" }

-- words begin with a phrase: other bytes may stand in front of its first word and behind its last
abbrev pub begins_phrase : Phrase → List Word → Bool
begins_phrase p (a ∷ b ∷ c ∷ d ∷ ws) =
    ends_with nat_eq a p.first && bytes_eq b p.second && bytes_eq c (codes "is") && starts_with nat_eq d (codes "discouraged.)")
begins_phrase p _ = false

-- a phrase stands in words, whatever white space is between two of them
abbrev pub says_phrase : Phrase → List Word → Bool
says_phrase p [] = false
says_phrase p (w ∷ ws) = begins_phrase p (w ∷ ws) || says_phrase p ws

-- ---- comments (Metamath book, section 4.1.2)

abbrev pub begins_comment : List Word → Bool
begins_comment [] = false
begins_comment (w ∷ ws) = bytes_eq w (codes "$(")

abbrev pub is_remark : Phrase → Item → Bool
is_remark p x = begins_comment (words x) && says_phrase p (words x)

-- the labels of the assertions right behind such a comment (sections 4.2.8, 4.4.1), in order
abbrev pub remarked : Phrase → List Item → List Word
remarked p [] = []
remarked p (x ∷ []) = []
remarked p (x ∷ y ∷ ys) = (if is_remark p x then label_of y else []) ++ remarked p (y ∷ ys)

-- of a source these are the labels whose comments discourage that the proof is changed, and that the assertion is cited anew
pub record AreRemarks (source : List ℕ) (modifications usages : List Word) : Type 0 where
  pub items : List Item
  pub rest : List ℕ
  pub spells : Spells items rest source
  pub modifications_are : modifications ≡ remarked modification items
  pub usages_are : usages ≡ remarked usage items
