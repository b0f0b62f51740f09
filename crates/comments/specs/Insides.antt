-- Of the code's inside, apart from the rules: what is known of the inside of a block so far.
use Rattle.std.specs.Prelude.{◌≡◌, ◌≢◌, ℕ, List, [], ◌∷◌, ◌++◌, map, Option, Some, None, All, IsTrue, codes}
use Rattle.std.specs.Borrow.{Bor}
use Rattle.mmtext.specs.Words.{Word}
use Rattle.mmtext.specs.Text.{Token}
use Rattle.source.specs.Scopes.{is_in}
use Rattle.giving.specs.Staying.{Change}
use Rattle.comments.specs.declared.inside.Inside.{Inside}
use Rattle.comments.specs.Deleted.{open_behind, asserted}

-- the labels that are gone, as they are looked up
abbrev pub labels_in : List Change → List Word
labels_in cs = map (λ c. c.0) cs

-- there is a label, and it is gone
abbrev pub IsGoneLabel : List Word → Option (Bor (List ℕ)) → Type 0
IsGoneLabel gone None = ⊥
IsGoneLabel gone (Some w) = IsTrue (is_in gone w.now)

-- the last token, if there was one
abbrev pub IsLast : Option (Bor (List ℕ)) → List Token → Type 0
IsLast None last = last ≡ []
IsLast (Some w) last = (t : Token) × (last ≡ t ∷ []) × (t.text ≡ w.now)

-- tokens outside of comments were read: so many blocks are open, and each assertion that was found is gone
pub record IsReadInside (gone : List Word) (so_far : List Token) (s : Inside) : Type 0 where
  pub depth : (ts : List Token) → open_behind 0 (so_far ++ ts) ≡ open_behind s.depth ts
  pub last : List Token
  pub is_last : IsLast s.last last
  pub labels : List Word
  pub found : (ts : List Token) → asserted (so_far ++ ts) ≡ labels ++ asserted (last ++ ts)
  pub each : All (λ label. IsTrue (is_in gone label)) labels
  pub some : IsTrue s.found → labels ≢ []

-- a word ends the block, and an assertion stood in it
pub record EndsInside (s : Inside) (word : List ℕ) : Type 0 where
  pub depth : s.depth ≡ 0
  pub found : IsTrue s.found
  pub closes : word ≡ codes "$}"

-- and behind a word more
abbrev pub LeadsInside : List Word → Inside → List ℕ → Inside → Type 0
LeadsInside gone old word new =
    (so_far : List Token) (t : Token) → t.text ≡ word → IsReadInside gone so_far old → IsReadInside gone (so_far ++ t ∷ []) new
