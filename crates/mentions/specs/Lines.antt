-- The lines that say which labels are words of comments of a text, though these speak of none.
use Rattle.std.specs.Prelude.{◌==◌, ◌-◌, ℕ, List, [], ◌∷◌, ◌++◌, codes, filter, if◌then◌else◌, length, map, take}
use Rattle.std.specs.Fmt.{decimal}
use Rattle.std.specs.Str.{bytes_eq}
use Rattle.mmtext.specs.Words.{Word}
use Rattle.mmtext.specs.Text.{Token}
use Rattle.source.specs.Scopes.{is_in}
use Rattle.checking.specs.Checks.{Bytes}
use Rattle.checking.specs.FaultLines.{shown_label}
use Rattle.locating.specs.Lines.{line_at}
use Rattle.mentions.specs.Mentioned.{mentioned_in}

-- ---- the line of a label

-- where the first of these words begins
abbrev pub first_place : List Token → ℕ
first_place [] = 0
first_place (t ∷ ts) = t.place

-- a label is so many words, of which the first stands on this line
abbrev pub mention_text : ℕ → Word → ℕ → Bytes
mention_text many w line =
    if many == 1 then codes "1 more mention of " ++ (shown_label w ++ (codes ", on line " ++ decimal line))
    else decimal many ++ (codes " more mentions of " ++ (shown_label w ++ (codes ", first on line " ++ decimal line)))

-- the line is that of the text with the edits
abbrev pub mention_line : Bytes → Word → List Token → Bytes
mention_line out w words = mention_text (length words) w (line_at out (first_place words))

-- ---- the lines of all

-- the most labels that have a line
abbrev pub most_told : ℕ
most_told = 10

-- how many more there are, if there are any
abbrev pub more_line : ℕ → List Bytes
more_line many =
    if many == 0 then [] else (
    if many == 1 then codes "and of 1 more label" ∷ [] else (codes "and of " ++ (decimal many ++ codes " more labels")) ∷ [])

-- those of these labels that are among words
abbrev pub named : List Token → List Word → List Word
named words labels = filter (λ w. is_in (map (λ t. t.text) words) w) labels

-- a line for each of the first labels that are words of comments of a text, though these speak of none, and how many more there are
abbrev pub mention_lines : Bytes → List Word → List Bytes
mention_lines out labels =
    let words = mentioned_in labels out in
    let found = named words labels in
    map (λ w. mention_line out w (filter (λ t. bytes_eq t.text w) words)) (take most_told found) ++ more_line (length found - most_told)
