-- What the comment in front of a library tells: from which path it was taken, and by which wish.
use Rattle.std.specs.Prelude.{◌≡◌, ◌≢◌, ℕ, List, ◌∷◌, ◌++◌, All, codes}
use Rattle.mmtext.specs.Words.{Word}
use Rattle.choosing.specs.declared.wish.Wish.{Wish}
use Rattle.choosing.specs.declared.wish.Wish.TheVariants as wish
use Rattle.choosing.specs.Choices.{labels_wished}
use Rattle.intake.specs.declared.taken.Taken.{Taken}
use Rattle.intake.specs.Intakes.{IsTakenByWish}
use Rattle.taketext.specs.Comments.{chosen_line, shown_path}
use Rattle.taketext.specs.Answers.{taken_text}

-- bytes that stand in one line
abbrev pub IsInLine : List ℕ → Type 0
IsInLine bytes = All (λ b. b ≢ 10) bytes

-- bytes that stand in a line between two spaces
abbrev pub IsBetweenSpaces : Word → Type 0
IsBetweenSpaces w = All (λ b. (b ≢ 10) × (b ≢ 32)) w

-- just some assertions, some of them as axioms: so a library is taken again, of a source with edits
abbrev pub IsForJust : Wish → Type 0
IsForJust (wish.These labels axioms) = Unit {0}
IsForJust _ = ⊥

-- the wish of somebody, whose labels stand in a line with spaces between them
pub record IsAsked (w : Wish) : Type 0 where
  pub other : IsForJust w → ⊥
  pub labels : All IsBetweenSpaces (labels_wished w)

-- a text begins with the lines that tell where a library was taken: the path, what else is told of the source, and the wish
pub record Tells (text path : List ℕ) (w : Wish) : Type 0 where
  pub source_line : List ℕ
  pub rest : List ℕ
  pub path_in_line : IsInLine path
  pub in_line : IsInLine source_line
  pub asked : IsAsked w
  pub begins : text ≡ codes "$( Taken by mmrefactor from " ++ (path ++ (10 ∷ (source_line ++ (10 ∷ (chosen_line w ++ rest)))))

-- no wish is told
abbrev pub TellsNothing : List ℕ → Type 0
TellsNothing text = (path : List ℕ) (w : Wish) → Tells text path w → ⊥

-- ---- laws

-- a text tells one path, and one wish
abbrev pub TellsOnce : Type 0
TellsOnce =
    (text path other : List ℕ) (w v : Wish) → Tells text path w → Tells text other v → (path ≡ other) × (chosen_line w ≡ chosen_line v)

-- what is printed of a library tells the path, as it is shown, and the wish by which it was taken
abbrev pub PrintedTells : Type 0
PrintedTells =
    (path source : List ℕ) (w : Wish) (t : Taken) → IsTakenByWish source w t → (IsForJust w → ⊥)
    → Tells (taken_text path source w t) (shown_path path) w
