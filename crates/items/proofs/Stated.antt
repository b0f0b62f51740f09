-- How a statement reads then, by what it is.
use Rattle.std.proofs.Common.{◌≡◌, ◌∙◌, Bool, true, false, cond, List, [], ◌∷◌, None, codes, refl, sym, ap, inl, inr}
use Rattle.std.specs.Str.{bytes_eq}
use Rattle.std.proofs.lemmas.Bool.{cases_Bool}
use Rattle.mmtext.specs.Words.{Word}
use Rattle.mmtext.proofs.Marks.{same_word}
use Rattle.giving.specs.Staying.{Change, changed}
use Rattle.items.specs.declared.part.Part.TheVariants.{Label, Fixed}
use Rattle.items.specs.declared.place.WordPlace.{WordPlace}
use Rattle.items.specs.Items.{Item, words, said, asserts, label_among, label_of, IsComment, outside}
use Rattle.items.specs.Renaming.{said_then, proof_then, symbols_then, renamed, with_words, reworded}
use Rattle.items.specs.Machine.{label_then, rest_then}
use Rattle.items.proofs.Commented.{comment_says_nothing}

-- $a and $p aren't $=
no_proof_yet : (mark : Word) → asserts mark ≡ true → bytes_eq mark (codes "$=") ≡ false
no_proof_yet mark is = elim (cases_Bool (bytes_eq mark (codes "$="))) [
  | inl y ↦ let same : asserts (codes "$=") ≡ true = ap asserts (sym (same_word mark (codes "$=") y)) ∙ is in absurd cc
  | inr n ↦ n
]

-- an assertion from its label on
labelled : (cs : List Change) (label mark l : Word) (ws : List Word) (b : Bool) → asserts mark ≡ b → cond b (label ∷ []) [] ≡ l ∷ []
    → changed cs label ∷ symbols_then cs (mark ∷ ws)
    ≡ cond b (changed cs label ∷ mark ∷ symbols_then cs ws) (label ∷ mark ∷ ws)
labelled cs label mark l ws true is has =
    ap (λ b. changed cs label ∷ cond b (mark ∷ proof_then cs ws) (mark ∷ symbols_then cs ws)) (no_proof_yet mark is)
labelled cs label mark l ws false is has = absurd cc

pub as_assertion : (cs : List Change) (ws : List Word) (l : Word) → label_among ws ≡ l ∷ [] → label_then cs ws ≡ said_then cs ws
as_assertion cs [] l has = absurd cc
as_assertion cs (w ∷ []) l has = absurd cc
as_assertion cs (label ∷ mark ∷ ws) l has = labelled cs label mark l ws (asserts mark) refl has

-- another statement stays
stays : (cs : List Change) (label mark : Word) (ws : List Word) (b : Bool) → cond b (label ∷ []) [] ≡ []
    → label ∷ mark ∷ ws ≡ cond b (changed cs label ∷ mark ∷ symbols_then cs ws) (label ∷ mark ∷ ws)
stays cs label mark ws true has = absurd cc
stays cs label mark ws false has = refl

pub as_other : (cs : List Change) (ws : List Word) → label_among ws ≡ [] → ws ≡ said_then cs ws
as_other cs [] has = refl
as_other cs (w ∷ []) has = refl
as_other cs (label ∷ mark ∷ ws) has = stays cs label mark ws (asserts mark) has

-- ---- items

abbrev pub at_label : WordPlace
at_label = record { comment = None; part = Label }

abbrev pub at_fixed : WordPlace
at_fixed = record { comment = None; part = Fixed }

pub assertion_reads : (cs : List Change) (x : Item) (l : Word) → label_of x ≡ l ∷ [] → rest_then cs at_label x ≡ renamed cs x
assertion_reads cs x l has = ap (λ ws. with_words x (reworded cs None ws (words x))) (as_assertion cs (said x) l has)

pub other_reads : (cs : List Change) (x : Item) → label_of x ≡ [] → rest_then cs at_fixed x ≡ renamed cs x
other_reads cs x has = ap (λ ws. with_words x (reworded cs None ws (words x))) (as_other cs (said x) has)

-- comments and marks have no labels
pub comment_unlabelled : (x : Item) → IsComment x → label_of x ≡ []
comment_unlabelled x is =
    ap (λ ws. label_among (outside false ws)) is.whole ∙ ap label_among (comment_says_nothing is.body is.inside)

pub mark_unlabelled : (x : Item) (w : Word) → words x ≡ w ∷ [] → bytes_eq w (codes "$(") ≡ false → label_of x ≡ []
mark_unlabelled x w is other =
    ap (λ ws. label_among (outside false ws)) is ∙ ap (λ b. label_among (cond b [] (w ∷ []))) other
