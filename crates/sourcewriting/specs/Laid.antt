-- Of the code's inside, apart from the rules: words in lines, one behind the other.
use Rattle.std.specs.Prelude.{◌≡◌, ◌≤◌, ◌+◌, ◌⊎◌, ℕ, suc, min, Bool, false, List, [], ◌∷◌, ◌++◌, length, All, IsTrue, IsFalse, codes}
use Rattle.std.specs.List.{list_all, list_any, flat_map}
use Rattle.std.specs.Str.{bytes_eq}
use Rattle.mmtext.specs.Words.{Word, is_label}
use Rattle.items.specs.Items.{Item, bytes_of, words}
use Rattle.items.specs.Layout.{column, is_laid_out, indents, is_word, is_compressed, IsLaidOut}
use Rattle.sourcewriting.specs.Indentations.{IsIndentation}
use Rattle.sourcewriting.specs.Lines.{words_laid, columns_then, laid_out, are_cut, parenthesized}
use Rattle.sourcewriting.specs.declared.layout.Layout.{Layout}

-- the column behind pieces, of which the first stands behind another column
abbrev pub column_behind : ℕ → Item → ℕ
column_behind at [] = at
column_behind at (p ∷ ps) = column_behind (column at p) ps

-- ) stands among words
abbrev pub has_closing : List Word → Bool
has_closing ws = list_any (λ w. bytes_eq w (codes ")")) ws

-- a text is words in lines of this indentation, up to a column; of columns from 79 on it tells no more than that
pub record AreLaid (indentation : List ℕ) (ws : List Word) (text : List ℕ) (at : ℕ) : Type 0 where
  pub begins : IsIndentation indentation
  pub pieces : Item
  pub words_are : words pieces ≡ ws
  pub bytes : text ≡ bytes_of pieces
  pub layout : IsTrue (is_laid_out 79 false pieces)
  pub indented : All (λ i. i ≡ indentation) (indents pieces)
  pub ends : min at 79 ≡ min (column_behind 79 pieces) 79
  pub lines : text ≡ words_laid indentation 79 ws
  pub there : min at 79 ≡ min (columns_then indentation 79 ws) 79
  pub spelled : IsTrue (list_all is_word ws)

-- these words were put, if all were words and there was memory for them
abbrev pub IsLaid : List ℕ → Layout → List Word → Type 0
IsLaid i l ws = IsFalse l.is_cut_off → IsFalse l.is_refused → (l.indentation.now ≡ i) × AreLaid i ws l.text.items l.column

-- these words, and labels behind them
abbrev pub HasLabels : List ℕ → Layout → List Word → List Word → Type 0
HasLabels i l front labels = IsLaid i l (front ++ labels) × (IsFalse l.is_refused → IsTrue (list_all is_label labels))

-- labels alone: a normal proof (section 4.2.8)
abbrev pub IsNormal : List ℕ → Layout → Type 0
IsNormal i l = (labels : List Word) × HasLabels i l [] labels

-- there was memory for all that was put, and it was right
abbrev pub IsWhole : Layout → Type 0
IsWhole l = IsFalse l.is_cut_off × IsFalse l.is_refused

-- pieces of letters behind words, cut where lines end
abbrev pub HasCut : List ℕ → Layout → List Word → List Word → Type 0
HasCut i l front cut = IsLaid i l (front ++ cut) × (IsWhole l → IsTrue (are_cut i (columns_then i 79 front) cut))

-- labels in parentheses, and these letters: a compressed proof (appendix B)
abbrev pub IsCompressed : List ℕ → Layout → List Word → List ℕ → Type 0
IsCompressed i l labels letters = (cut : List Word) × (flat_map (λ w. w) cut ≡ letters) × HasCut i l (parenthesized labels) cut

-- the words of a proof in one of these forms
abbrev pub IsInForm : List ℕ → Bool → Layout → Type 0
IsInForm i form l = (ws : List Word) × IsLaid i l ws × (IsFalse l.is_refused → is_compressed ws ≡ form)

-- a word of so many bytes is no longer than what is left of the line, or than a line
abbrev pub IsShort : Layout → ℕ → Type 0
IsShort l n = (l.column + suc n ≤ 79) ⊎ (length l.indentation.now + n ≤ 79)

-- a text is laid out, and these are its words
pub record IsLaidOutAs (i : List ℕ) (ws : List Word) (text : List ℕ) : Type 0 where
  pub laid : IsLaidOut i (is_compressed ws) text
  pub says : words laid.proof ≡ ws
  pub lines : text ≡ laid_out i ws
