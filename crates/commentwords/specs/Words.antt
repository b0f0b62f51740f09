-- Which words of a comment speak of labels, and how a comment reads with changed labels (Metamath book, sections 4.4.1, 4.4.2).
use Rattle.std.specs.Prelude.{◌||◌, ◌&&◌, ◌==◌, ℕ, Bool, false, List, [], ◌∷◌, ◌++◌, take, drop, position, Option, Some, None}
use Rattle.std.specs.Prelude.{if◌then◌else◌, codes}
use Rattle.std.specs.Option.{option_map}
use Rattle.std.specs.Str.{bytes_eq}
use mathlib.Core.Bool.{not}
use Rattle.mmtext.specs.Words.{Word}
use Rattle.giving.specs.Staying.{Change, changed}
use Rattle.commentwords.specs.declared.comment_place.CommentPlace.{CommentPlace}
use Rattle.commentwords.specs.declared.comment_place.CommentPlace.TheVariants.{AtFirst, Described, Typeset, MarkedUp}

-- ---- where the words of a comment stand

abbrev pub at_first : CommentPlace
at_first = AtFirst

-- an odd number of backquotes: the word leads from words to symbols, or back (section 4.4.1)
abbrev pub leads_across : Word → Bool
leads_across [] = false
leads_across (b ∷ bs) = if b == 96 then not (leads_across bs) else leads_across bs

-- behind a word of a description: ~ counts outside of symbols, and not where it stands behind another (section 4.4.1)
abbrev pub behind_described : Bool → Bool → Word → CommentPlace
behind_described among_symbols behind_tilde w =
    Described (if leads_across w then not among_symbols else among_symbols)
    (not among_symbols && not behind_tilde && bytes_eq w (codes "~"))

-- the first word says what the comment is: definitions for typesetting (section 4.4.2), markup for verifiers, or else a description
abbrev pub behind_first : Word → CommentPlace
behind_first w =
    if bytes_eq w (codes "$t") then Typeset false else (
    if bytes_eq w (codes "$j") then MarkedUp else behind_described false false w)

abbrev pub behind_word : CommentPlace → Word → CommentPlace
behind_word AtFirst w = behind_first w
behind_word (Described among_symbols behind_tilde) w = behind_described among_symbols behind_tilde w
behind_word (Typeset behind_exthtmllabel) w = Typeset (bytes_eq w (codes "exthtmllabel"))
behind_word MarkedUp w = MarkedUp

-- ---- which words speak of labels

-- a word that speaks of a label: what stands in front of the label, the label, and what stands behind it
pub record Parts : Type 0 where
  pub front : List ℕ
  pub label : Word
  pub back : List ℕ

-- ' or "
abbrev pub is_quote : ℕ → Bool
is_quote b = (b == 39) || (b == 34)

-- the label stands behind a mark, up to where this mark stands once more
abbrev pub label_up_to : ℕ → List ℕ → Option Parts
label_up_to mark bs =
    option_map (λ n. record { front = mark ∷ []; label = take n bs; back = drop n bs }) (position (λ b. b == mark) bs)

-- a quoted word
abbrev pub unquoted : Word → Option Parts
unquoted [] = None
unquoted (b ∷ bs) = if is_quote b then label_up_to b bs else None

-- right behind ~ a word is a label; right behind exthtmllabel, and in markup for verifiers, a quoted word has one
abbrev pub parted : CommentPlace → Word → Option Parts
parted AtFirst w = None
parted (Described among_symbols behind_tilde) w = if behind_tilde then Some (record { front = []; label = w; back = [] }) else None
parted (Typeset behind_exthtmllabel) w = if behind_exthtmllabel then unquoted w else None
parted MarkedUp w = unquoted w

-- ---- with changed labels

-- the label is changed, and what stands around it stays; a word that speaks of none stays
abbrev pub relabelled : List Change → Word → Option Parts → Word
relabelled cs w None = w
relabelled cs w (Some p) = p.front ++ (changed cs p.label ++ p.back)

abbrev pub word_then : List Change → CommentPlace → Word → Word
word_then cs s w = relabelled cs w (parted s w)

abbrev pub words_then : List Change → CommentPlace → List Word → List Word
words_then cs s [] = []
words_then cs s (w ∷ ws) = word_then cs s w ∷ words_then cs (behind_word s w) ws
