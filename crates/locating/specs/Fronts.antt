-- The statement in which a word of a source stands, by the words in front of it (Metamath book, sections 4.1.2 and 4.1.3).
use Rattle.std.specs.Prelude.{ℕ, Bool, ◌||◌, List, [], ◌∷◌, ◌++◌, Option, Some, None, Result, Ok, Err, codes}
use Rattle.std.specs.Prelude.{if◌then◌else◌}
use Rattle.std.specs.List.{after_last, after_first, list_any}
use Rattle.std.specs.Str.{bytes_eq}
use Rattle.mmtext.specs.declared.fault.TextFault.{TextFault}
use Rattle.mmtext.specs.Words.{Word, has_dollar}
use Rattle.mmtext.specs.Text.{Token}
use Rattle.mmtext.specs.Languages.{Language, reading}
use Rattle.locating.specs.declared.fronts.Part.{Part}
use Rattle.locating.specs.declared.fronts.Part.TheVariants.{Comment, Start, Keyword, Steps, Labels, Letters, Other}

-- texts with comments, which say the words that stand outside of them, with their places (section 4.1.2)
abbrev pub outside_comments : Language (List Token) (List Token)
outside_comments = record { most_bytes = 268435456; start = []; row = λ ts t. Ok (ts ++ t ∷ []); said = λ ts. Some ts }

abbrev pub said : Result (List Token) TextFault → Option (List Token)
said (Ok ts) = Some ts
said (Err f) = None

-- the words of a text, if each comment is closed
abbrev pub words_of : List ℕ → Option (List Token)
words_of text = said (reading outside_comments text)

-- a word is this one
abbrev pub says : Word → Token → Bool
says w t = bytes_eq t.text w

-- behind these a statement begins
abbrev pub ends_statement : Token → Bool
ends_statement t = says (codes "$.") t || says (codes "${") t || says (codes "$}") t

-- of the words in front of a place, those of the statement there
abbrev pub front_of : List Token → List Token
front_of ts = after_last ends_statement ts

-- $f, $e, $a and $p stand behind a label
abbrev pub follows_label : Token → Bool
follows_label t = says (codes "$f") t || says (codes "$e") t || says (codes "$a") t || says (codes "$p") t

-- the label of the statement that begins so
abbrev pub label_in : List Token → Option Word
label_in [] = None
label_in (label ∷ []) = None
label_in (label ∷ keyword ∷ ts) = if follows_label keyword then Some label.text else None

-- where in a proof a word stands, behind these: in a normal one or at the (, in the parentheses, in the letters
abbrev pub part_of_proof : List Token → Part
part_of_proof [] = Steps
part_of_proof (t ∷ ts) = if says (codes "(") t then (if list_any (says (codes ")")) ts then Letters else Labels) else Steps

-- where in a statement, behind these, of which one is $= or none
abbrev pub part_of_rest : List Token → Part
part_of_rest [] = Start
part_of_rest (label ∷ []) = if has_dollar label.text then Other else Keyword
part_of_rest (t ∷ u ∷ ts) = Other

abbrev pub part_of : List Token → Part
part_of ts = if list_any (says (codes "$=")) ts then part_of_proof (after_first (says (codes "$=")) ts) else part_of_rest ts

abbrev pub part_at : Option (List Token) → Part
part_at None = Comment
part_at (Some ts) = part_of (front_of ts)
