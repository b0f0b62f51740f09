-- Which part each item of a source plays where some leave their places (Metamath book, sections 4.2.8, 4.4.1).
use Rattle.std.specs.Prelude.{Bool, false, List, [], ◌∷◌, map, take, drop, slice_range, if◌then◌else◌, codes}
use Rattle.std.specs.List.{list_any}
use Rattle.std.specs.Str.{bytes_eq}
use Rattle.mmtext.specs.Words.{Word}
use Rattle.source.specs.Scopes.{is_in}
use Rattle.giving.specs.Staying.{Change}
use Rattle.leaving.specs.declared.part.Fate.{Fate}
use Rattle.leaving.specs.declared.part.Fate.TheVariants.{Stays, Deleted, Moves}
use Rattle.leaving.specs.declared.part.Part.{Part}
use Rattle.leaving.specs.declared.part.Part.TheVariants.{Description, Heading, Opening, Closing, Assertion, Other}
use Rattle.items.specs.Items.{Item, words, label_of}
use Rattle.arranging.specs.declared.coming.Coming.{Coming}

-- labels with a fast look-up
abbrev pub known_labels : List Change → List Word
known_labels cs = map (λ c. c.0) cs

-- ---- headings

-- a heading stands between lines of one of these forms (section 4.4.1, and the conventions of set.mm)
abbrev pub is_rule : Word → Bool
is_rule w = list_any (bytes_eq (take 4 w)) (codes "####" ∷ codes "#*#*" ∷ codes "=-=-" ∷ codes "-.-." ∷ [])

abbrev pub first_is_rule : List Word → Bool
first_is_rule [] = false
first_is_rule (w ∷ ws) = is_rule w

-- a comment whose first word begins such a line
abbrev pub is_heading : Item → Bool
is_heading x = first_is_rule (drop 1 (words x))

-- ---- parts

abbrev pub fate_of : List Word → List Word → Word → Fate
fate_of gone moving w = if is_in gone w then Deleted else (if is_in moving w then Moves else Stays)

-- a statement is an assertion, if it has a label of one
abbrev pub part_labelled : List Word → List Word → List Word → Part
part_labelled gone moving [] = Other
part_labelled gone moving (label ∷ ls) = Assertion (fate_of gone moving label)

-- by its first word
abbrev pub part_of_words : List Word → Part → Part → Part
part_of_words [] comment statement = statement
part_of_words (w ∷ ws) comment statement =
    if bytes_eq w (codes "$(") then comment
    else (if bytes_eq w (codes "${") then Opening else (if bytes_eq w (codes "$}") then Closing else statement))

abbrev pub part_of : List Word → List Word → Item → Part
part_of gone moving x =
    part_of_words (words x) (if is_heading x then Heading else Description) (part_labelled gone moving (label_of x))

-- ---- edits

-- the labels of assertions that are deleted, and of those that stand elsewhere then, of which some were moved; and those in the source of
-- all that live in the library; and what is put in
pub record Edited : Type 0 where
  pub gone : List Word
  pub moving : List Word
  pub moved : List Word
  pub library : List Word
  pub comings : List Coming

abbrev pub parts : Edited → List Item → List Part
parts e xs = map (part_of e.gone e.moving) xs

-- items of the source that go along with what is put in
abbrev pub unit_of : List Item → Coming → List Item
unit_of old c = slice_range old c.first c.end
