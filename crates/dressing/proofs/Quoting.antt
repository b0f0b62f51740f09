-- The texts of quotations: one more of them.
use Rattle.std.proofs.Common.{◌≡◌, ◌∙◌, ◌<◌, ◌+◌, ℕ, List, [], ◌∷◌, ◌++◌, drop, drop-cons, get_or, length, map, Bor, Vec, Global}
use Rattle.std.proofs.Common.{refl, sym, ap, subst, inl, inr, add-one}
use Rattle.std.proofs.lemmas.List.{append_assoc, map-append}
use Rattle.source.specs.Scopes.{Scope}
use Rattle.giving.specs.Staying.{Change}
use Rattle.giving.specs.Changes.{seen_texts}
use Rattle.items.specs.Items.{Item}
use Rattle.pasting.specs.Quotes.{GivenProof}
use Rattle.pasting.specs.Views.{seen_given_proof}
use Rattle.pasting.specs.declared.own_words.GivenProof.{GivenProof as CodeProof}
use Rattle.dressing.specs.Quoted.{AreQuoted, CanBeWritten, IsQuotable, IsQuotedAs}

-- what is left gives the rest of all texts
abbrev pub Leads : Scope → List Item → List GivenProof → List Change → List GivenProof → Type 0
Leads s items all so_far left = (rest : List Change) → AreQuoted s items left rest → AreQuoted s items all (so_far ++ rest)

module _ (s : Scope) (items : List Item) (all : List GivenProof) (so_far : List Change) (q : GivenProof) (left : List GivenProof)
    (leads : Leads s items all so_far (q ∷ left)) where
  pub has_one : (text : List ℕ) → IsQuotedAs s items q text → Leads s items all (so_far ++ (q.label, text) ∷ []) left
  has_one text is rest are =
      subst (AreQuoted s items all) (sym (append_assoc so_far ((q.label, text) ∷ []) rest))
      (leads ((q.label, text) ∷ rest) (inl (text, rest, refl, is, are)))

  pub has_none : (IsQuotable s q → CanBeWritten q.proof → ⊥) → Leads s items all so_far left
  has_none not rest are = leads rest (inr (not, are))

-- the quotations that are left, from the first of them on
pub left_are : (qs : List CodeProof) (i : ℕ) (d : CodeProof) → i < length qs
    → map seen_given_proof (drop i qs) ≡ seen_given_proof (get_or qs i d) ∷ map seen_given_proof (drop (i + 1) qs)
left_are qs i d within =
    ap (map seen_given_proof) (drop-cons qs i d within)
    ∙ ap (λ n. seen_given_proof (get_or qs i d) ∷ map seen_given_proof (drop n qs)) (sym (add-one i))

pub one_more : (texts : List (Bor (List ℕ) × Vec ℕ Global)) (label : Bor (List ℕ)) (text : Vec ℕ Global)
    → seen_texts (texts ++ (label, text) ∷ []) ≡ seen_texts texts ++ (label.now, text.items) ∷ []
one_more texts label text = map-append (λ (p : Bor (List ℕ) × Vec ℕ Global). (p.0.now, p.1.items)) texts ((label, text) ∷ [])
