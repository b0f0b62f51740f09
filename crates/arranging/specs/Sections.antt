-- Under which heading something is put in.
use Rattle.std.specs.Prelude.{◌≡◌, ◌⊎◌, Bool, true, false, List, [], ◌∷◌, ◌++◌, drop, IsTrue, Contains, codes, if◌then◌else◌, ◌||◌, ◌&&◌}
use Rattle.std.specs.List.{list_any}
use Rattle.std.specs.Str.{bytes_eq}
use mathlib.Core.Bool.{not}
use Rattle.mmtext.specs.Words.{Word}
use Rattle.mmtext.specs.Text.{tokens}
use Rattle.mmtext.specs.Comments.{words_of}
use Rattle.source.specs.Scopes.{is_in}
use Rattle.leaving.specs.declared.part.Fate.TheVariants.{Moves}
use Rattle.leaving.specs.declared.part.Part.{Part}
use Rattle.leaving.specs.declared.part.Part.TheVariants.{Heading, Assertion}
use Rattle.leaving.specs.Leaving.{IsBlock}
use Rattle.items.specs.Items.{Item, words, said, label_of, pieces_of}
use Rattle.arranging.specs.declared.coming.Coming.{Coming}
use Rattle.arranging.specs.Parts.{Edited, parts, unit_of}

-- ---- headings

abbrev pub heads : Part → Bool
heads Heading = true
heads _ = false

-- no heading stands among items
abbrev pub NoHeading : Edited → List Item → Type 0
NoHeading e xs = list_any heads (parts e xs) ≡ false

-- ---- what something is put behind

-- an assertion of the library that keeps its place
abbrev pub keeps : Edited → Item → Bool
keeps e x = list_any (λ l. is_in e.library l && not (is_in e.moving l)) (label_of x)

-- the words that a statement declares, and its end: constants, variables, a $f and its variable (sections 4.2.1, 4.2.2, 4.2.4)
abbrev pub is_list : Word → Bool
is_list w = bytes_eq w (codes "$c") || bytes_eq w (codes "$v")

abbrev pub declared : List Word → List Word
declared (w ∷ v ∷ ws) = if is_list w then v ∷ ws else (if bytes_eq v (codes "$f") then w ∷ drop 1 ws else [])
declared _ = []

-- the words of what is put in
abbrev pub mentioned : List Item → Coming → List Word
mentioned old c = words_of (tokens c.front.now) ++ (words (pieces_of (unit_of old c)) ++ words_of (tokens c.back.now))

-- a statement declares a word of what is put in, or of something that is put in at the same place
pub record DeclaresFor (e : Edited) (old : List Item) (c : Coming) (x : Item) : Type 0 where
  pub word : Word
  pub declares : IsTrue (is_in (declared (said x)) word)
  pub no_end : bytes_eq word (codes "$.") ≡ false
  pub beside : Coming
  pub comes : Contains e.comings beside
  pub same : beside.place ≡ c.place
  pub mentions : IsTrue (is_in (mentioned old beside) word)

-- ---- where it stands

-- behind an assertion of the library, or behind what declares a word of it, without a heading between them
pub record IsAfter (e : Edited) (before : List Item) (c : Coming) (after : List Item) : Type 0 where
  pub front : List Item
  pub item : Item
  pub section : List Item
  pub whole : before ≡ front ++ item ∷ section
  pub same : NoHeading e section
  pub why : IsTrue (keeps e item) ⊎ DeclaresFor e (before ++ after) c item

-- none of the library's stands in front of it, and it stands in front of the first that does, without a heading between them
pub record IsBeforeFirst (e : Edited) (before after : List Item) : Type 0 where
  pub none : list_any (keeps e) before ≡ false
  pub section : List Item
  pub item : Item
  pub rest : List Item
  pub whole : after ≡ section ++ item ∷ rest
  pub same : NoHeading e section
  pub keeps : IsTrue (keeps e item)

abbrev pub moves : Part → Bool
moves (Assertion Moves) = true
moves _ = false

-- in front of a block which an assertion leaves that is put in elsewhere, or of what describes that block
pub record IsInFront (e : Edited) (after : List Item) : Type 0 where
  pub section : List Item
  pub block : List Item
  pub rest : List Item
  pub whole : after ≡ section ++ (block ++ rest)
  pub same : NoHeading e section
  pub is_block : IsBlock (parts e block)
  pub leaves : IsTrue (list_any moves (parts e block))

-- none of the library's keeps its place
abbrev pub IsAlone : Edited → List Item → Type 0
IsAlone e xs = list_any (keeps e) xs ≡ false

abbrev pub IsUnder : Edited → List Item → Coming → List Item → Type 0
IsUnder e before c after = IsAfter e before c after ⊎ (IsBeforeFirst e before after ⊎ (IsInFront e after ⊎ IsAlone e (before ++ after)))
