-- Labels of the form L.k: the canonical layout gives them to the hypotheses of L, so no library has both L and L.k (a rule of the profile).
use Rattle.std.specs.Prelude.{◌≡◌, ℕ, Bool, false, ◌||◌, ◌&&◌, List, [], ◌∷◌, ◌++◌, length, Option, Some, None, find, map, take, is_some}
use Rattle.std.specs.Prelude.{Contains}
use mathlib.Core.Bool.{not}
use Rattle.std.specs.Fmt.{decimal}
use Rattle.std.specs.List.{range_with_len}
use Rattle.std.specs.Str.{bytes_eq}
use Rattle.mmtext.specs.Words.{Word}
use Rattle.mmsyntax.specs.declared.limits.TheConstants.{MOST_HYPOTHESES}

-- the label of the n-th hypothesis of an assertion, from 1: L.1, L.2, ..
abbrev pub hypothesis_label : Word → ℕ → Word
hypothesis_label label n = label ++ 46 ∷ decimal n

-- the number k from 1 to 1,000 for which a word is the label L.k of the k-th hypothesis of L
unfoldable pub hypothesis_numbered : Word → Word → Option ℕ
hypothesis_numbered label w = find (λ k. bytes_eq w (hypothesis_label label k)) (range_with_len 1 MOST_HYPOTHESES)

abbrev pub is_empty : Word → Bool
is_empty w = bytes_eq w []

-- a word is L.k, for a label L that isn't empty and some k from 1 to 1,000
unfoldable pub is_dotted : Word → Word → Bool
is_dotted label w = not (is_empty label) && is_some (hypothesis_numbered label w)

-- two labels of which one is L.k of the other
abbrev pub clash : Word → Word → Bool
clash l w = is_dotted l w || is_dotted w l

-- none of these labels is L.k of another of them
abbrev pub ClashNowhere : List Word → Type 0
ClashNowhere labels = (l w : Word) → Contains labels l → Contains labels w → is_dotted l w ≡ false

-- the fronts of a word, but the whole
abbrev pub fronts : Word → List Word
fronts w = map (λ n. take n w) (range_with_len 0 (length w))

abbrev pub or_whole : Word → Option Word → Word
or_whole w (Some front) = front
or_whole w None = w

-- L of a word L.k, and any other word as it is
unfoldable pub trunk : Word → Word
trunk w = or_whole w (find (λ front. is_dotted front w) (fronts w))
