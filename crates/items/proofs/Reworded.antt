-- What is left of an item behind one more word of it.
use Rattle.std.proofs.Common.{◌≡◌, ◌∙◌, ℕ, ◌<◌, ◌≤◌, List, [], ◌∷◌, ◌++◌, refl, sym, ap, ap₂, subst, arith, append_assoc}
use Rattle.mmtext.specs.Text.{Token}
use Rattle.giving.specs.Staying.{Change}
use Rattle.items.specs.declared.place.WordPlace.{WordPlace}
use Rattle.items.specs.Items.{Item, bytes_of, words}
use Rattle.items.specs.Renaming.{with_words}
use Rattle.items.specs.Reading.{tokens_at, IsFirst, piece_at, end_of, Stands}
use Rattle.items.specs.Machine.{rest_then, TakesWord}

-- two tokens that are first at a place are one
same_first : (text : List ℕ) (at : ℕ) (t u : Token) → IsFirst text at t → IsFirst text at u → t ≡ u
same_first text at t u one other =
    let both : t ∷ tokens_at text (end_of t) ≡ u ∷ tokens_at text (end_of u) = sym one.next ∙ other.next in cc

-- what stands in a text to its end stands there from the end of its first token
pub stands_later : (text : List ℕ) (at end : ℕ) (x : Item) → Stands text at x end → at ≤ end
stands_later text at end [] h = subst (λ e. at ≤ e) h (omega arith)
stands_later text at end (p ∷ ps) h =
    let later = h.1.later in
    let rest = stands_later text (end_of h.0) end ps h.3 in
    omega (arith, later, rest)

-- nothing is left at its end
pub nothing_left : (text : List ℕ) (at end : ℕ) (x : Item) → Stands text at x end → end ≤ at → x ≡ []
nothing_left text at end [] h le = refl
nothing_left text at end (p ∷ ps) h le =
    let later = h.1.later in
    let rest = stands_later text (end_of h.0) end ps h.3 in
    absurd (omega (arith, later, rest, le))

-- something is left before it
pub something_left : (text : List ℕ) (at end : ℕ) (x : Item) → Stands text at x end → at < end → tokens_at text at ≡ [] → ⊥
something_left text at end [] h lt none = let same = h in omega (arith, same, lt)
something_left text at end (p ∷ ps) h lt none =
    let both : h.0 ∷ tokens_at text (end_of h.0) ≡ [] = sym h.1.next ∙ none in absurd cc

-- the next token is the first of what is left
pub one_left : (text : List ℕ) (at end : ℕ) (x : Item) (t : Token) → Stands text at x end → at < end → IsFirst text at t
    → (left : Item) × (x ≡ piece_at text at t ∷ left) × Stands text (end_of t) left end
one_left text at end [] t h lt first = let same = h in absurd (omega (arith, same, lt))
one_left text at end (p ∷ ps) t h lt first =
    let same = same_first text at h.0 t h.1 first in (
      ps,
      ap (λ q. q ∷ ps) h.2 ∙ ap (λ u. piece_at text at u ∷ ps) same,
      subst (λ u. Stands text (end_of u) ps end) same h.3,
    )

-- a word of it is put
pub word_put : (cs : List Change) (old new : WordPlace) (out space word now : List ℕ) (left : Item)
    → TakesWord cs old word now new
    → out ++ bytes_of (rest_then cs old (record { space = space; word = word } ∷ left))
    ≡ ((out ++ space) ++ now) ++ bytes_of (rest_then cs new left)
word_put cs old new out space word now left takes =
    let rest = bytes_of (rest_then cs new left) in
    ap (λ ws. out ++ bytes_of (with_words (record { space = space; word = word } ∷ left) ws)) (takes (words left))
    ∙ (ap (λ bs. out ++ bs) (append_assoc space now rest)
    ∙ (sym (append_assoc out space (now ++ rest)) ∙ sym (append_assoc (out ++ space) now rest)))

-- at places alike all reads alike
pub from_start : (cs : List Change) (one other : WordPlace) (x : Item) → one.comment ≡ other.comment → one.part ≡ other.part
    → rest_then cs one x ≡ rest_then cs other x
from_start cs one other x comment part =
    ap₂ (λ c p. rest_then cs (record { comment = c; part = p }) x) comment part
