-- Of the code's inside, apart from the rules: the lines that tell where a library was taken, and their words.
use Rattle.std.specs.Prelude.{◌≡◌, ◌≢◌, ℕ, List, [], ◌∷◌, ◌++◌, All, codes}
use Rattle.choosing.specs.declared.wish.Wish.{Wish}
use Rattle.choosing.specs.declared.wish.Wish.TheVariants as wish
use Rattle.mmtext.specs.Words.{Word}
use Rattle.source.specs.Views.{seen_words}
use Rattle.mmsyntax.specs.Layout.{spaced}
use Rattle.taketext.specs.Origins.{IsInLine, IsBetweenSpaces, IsForJust}

-- ---- texts

-- a text is some bytes, one that isn't among them, and others
pub record IsCut (text : List ℕ) (byte : ℕ) (front behind : List ℕ) : Type 0 where
  pub is : text ≡ front ++ byte ∷ behind
  pub first : All (λ b. b ≢ byte) front

-- the first and the third line of a text
pub record AreLines (text first third : List ℕ) : Type 0 where
  pub second : List ℕ
  pub rest : List ℕ
  pub in_first : IsInLine first
  pub in_second : IsInLine second
  pub in_third : IsInLine third
  pub are : text ≡ first ++ 10 ∷ (second ++ 10 ∷ (third ++ 10 ∷ rest))

-- some words, with spaces between them, are a line
pub record AreWords (line : List ℕ) (ws : List Word) : Type 0 where
  pub are : spaced ws ≡ 32 ∷ line
  pub each : All IsBetweenSpaces ws

-- ---- the lines of a comment

-- what stands in the first line and in the third behind their first words
abbrev pub AreOriginLines : List ℕ → List ℕ → List ℕ → Type 0
AreOriginLines text path chosen = AreLines text (codes "$( Taken by mmrefactor from " ++ path) (codes "   Chosen: " ++ chosen)

-- a text begins with the path of a source, and what was chosen of it, by these words
pub record IsOrigin (text path : List ℕ) (ws : List Word) : Type 0 where
  pub chosen : List ℕ
  pub lines : AreOriginLines text path chosen
  pub words : AreWords chosen ws

-- the words of the line that tells a wish
abbrev pub wish_words : Wish → List Word
wish_words wish.All = codes "all" ∷ codes "assertions" ∷ []
wish_words (wish.For asked) = codes "for" ∷ seen_words asked.now
wish_words (wish.Between from to) = codes "from" ∷ from.now ∷ codes "to" ∷ to.now ∷ []
wish_words (wish.These labels axioms) = codes "just" ∷ seen_words labels.now

-- the words tell a wish
pub record AreWishWords (ws : List Word) (w : Wish) : Type 0 where
  pub asked : IsForJust w → ⊥
  pub are : wish_words w ≡ ws
