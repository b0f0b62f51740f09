-- Of the labels of a list those that pass a test, and the lines for words, one more of them.
use Rattle.std.proofs.Common.{◌≡◌, ◌∙◌, ◌<◌, ◌+◌, ℕ, Bool, true, false, List, [], ◌∷◌, ◌++◌, length, map, take, get_or, Global}
use Rattle.std.proofs.Common.{codes, refl, sym, ap, ap₂}
use Rattle.std.specs.Prelude.{String, filter, string_bytes}
use Rattle.std.specs.Fmt.{decimal}
use Rattle.std.proofs.lemmas.List.{map-append, map_more, get_or-map}
use Rattle.std.proofs.lemmas.Simd.{map-map}
use mathlib.Core.Bool.{not}
use Rattle.mmtext.specs.Words.{Word}
use Rattle.mmtext.specs.Text.{Token}
use Rattle.mmtext.specs.Views.{seen}
use Rattle.mmtext.specs.declared.token.Token.{Token as CodeToken}
use Rattle.source.specs.Scopes.{is_in}
use Rattle.checking.specs.Checks.{Bytes}
use Rattle.checking.specs.FaultLines.{shown_label}
use Rattle.locating.specs.Lines.{line_at}
use Rattle.editedsource.specs.Gone.{spoken_line}

-- ---- labels

-- a test that says the opposite of another
pub other_way : (is other : Bool) → not is ≡ other → is ≡ not other
other_way true other e = ap not e
other_way false other e = ap not e

-- of no labels no word speaks
pub none_spoken : (ts : List Token) → filter (λ t. is_in [] t.text) ts ≡ []
none_spoken [] = refl
none_spoken (t ∷ ts) = none_spoken ts

-- ---- lines

-- `PATH:LINE: a comment speaks of LABEL, which was deleted`
abbrev pub spoken_at : Bytes → ℕ → Word → Bytes
spoken_at path line label =
    path ++ (codes ":" ++ (decimal line ++ (codes ": a comment speaks of " ++ (shown_label label ++ codes ", which was deleted"))))

-- the line at which a word stands, which is had of the places of all
pub line_there : (out : Bytes) (words : List CodeToken) (places lines : List ℕ) (n line : ℕ) (word : CodeToken) → n < length words
    → places ≡ map (λ t. t.place) words → lines ≡ map (λ place. line_at out place) places → line ≡ get_or lines n line
    → word ≡ get_or words n word → line ≡ line_at out word.place
line_there out words places lines n line word within are_places are_lines line_is word_is =
    line_is
    ∙ ap (λ ls. get_or ls n line) (are_lines ∙ ap (map (λ place. line_at out place)) are_places
    ∙ map-map (λ (place : ℕ). line_at out place) (λ (t : CodeToken). t.place) words)
    ∙ get_or-map (λ (t : CodeToken). line_at out t.place) words n word line within
    ∙ ap (λ (t : CodeToken). line_at out t.place) (sym word_is)

-- a line for one more word
pub said_next : (path out : Bytes) (words : List CodeToken) (n m line : ℕ) (word : CodeToken) (said more : List (String Global))
    (one : String Global) → m ≡ n + 1 → n < length words → word ≡ get_or words n word → line ≡ line_at out word.place
    → string_bytes one ≡ spoken_at path line word.text.now
    → map string_bytes said ≡ map (spoken_line path out) (map seen (take n words)) → more ≡ said ++ one ∷ []
    → map string_bytes more ≡ map (spoken_line path out) (map seen (take m words))
said_next path out words n m line word said more one next within word_is line_is says so_far is =
    let own = λ (t : CodeToken). spoken_line path out (seen t) in
    ap (map string_bytes) is
    ∙ map-append string_bytes said (one ∷ [])
    ∙ ap₂ (λ ls l. ls ++ l ∷ []) (so_far ∙ map-map (spoken_line path out) seen (take n words))
    (says ∙ ap (λ k. spoken_at path k word.text.now) line_is ∙ ap own word_is)
    ∙ sym (map_more own words n word within)
    ∙ sym (map-map (spoken_line path out) seen (take (n + 1) words))
    ∙ ap (λ k. map (spoken_line path out) (map seen (take k words))) (sym next)
