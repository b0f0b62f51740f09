-- The words of scripts, and what they ask of a source.
use Rattle.std.specs.Prelude.{ℕ, Bool, ◌+◌, List, [], ◌∷◌, ◌++◌, map, slice_get, Option, Some, None, codes, if◌then◌else◌}
use Rattle.std.specs.List.{flat_map}
use Rattle.std.specs.Option.{option_map}
use Rattle.std.specs.Str.{bytes_eq}
use Rattle.mmtext.specs.Text.{Token}
use Rattle.mmtext.specs.Words.{Word}
use Rattle.source.specs.Scopes.{Scope, is_in}
use Rattle.spreading.specs.Spreading.{assertion_at}

-- a command by which an assertion gets another proof or another place, or goes
abbrev pub asks_for_proof : Word → Bool
asks_for_proof w = is_in (codes "reprove" ∷ codes "replace" ∷ codes "move" ∷ codes "delete" ∷ []) w

-- the word behind one that passes a test
abbrev pub word_behind : (Word → Bool) → Word → List Word → List Word
word_behind test v [] = []
word_behind test v (w ∷ ws) = if test v then w ∷ [] else []

-- the words behind such words
abbrev pub words_behind : (Word → Bool) → List Word → List Word
words_behind test [] = []
words_behind test (v ∷ ws) = word_behind test v ws ++ words_behind test ws

-- words without their places
abbrev pub spoken_in : List Token → List Word
spoken_in ts = map (λ t. t.text) ts

-- those of scripts behind such words
abbrev pub all_behind : (Word → Bool) → List (List Token) → List Word
all_behind test scripts = flat_map (λ ts. words_behind test (spoken_in ts)) scripts

-- the words with which scripts ask for a proof
abbrev pub asked : List (List Token) → List Word
asked scripts = all_behind asks_for_proof scripts

-- ---- what they speak of

-- an assertion is named behind which something is put
abbrev pub is_behind : Word → Bool
is_behind w = bytes_eq w (codes "behind")

abbrev pub as_list : Option Word → List Word
as_list None = []
as_list (Some w) = w ∷ []

-- the label of the assertion behind one, if one stands there
abbrev pub label_behind : Scope → Option ℕ → Option Word
label_behind s None = None
label_behind s (Some n) = option_map (λ a. a.label) (slice_get s.assertions (n + 1))

-- those of the assertions behind those with these labels
abbrev pub labels_behind : Scope → List Word → List Word
labels_behind s ws = flat_map (λ w. as_list (label_behind s (assertion_at s w))) ws

-- scripts speak of an assertion with all their words; and of each that stands behind one behind which something is put, since what is moved
-- there comes to stand in front of it
abbrev pub spoken : Scope → List (List Token) → List Word
spoken s scripts = flat_map spoken_in scripts ++ labels_behind s (all_behind is_behind scripts)
