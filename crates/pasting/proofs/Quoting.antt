-- What scripts give in their own words, part by part.
use Rattle.std.proofs.Common.{◌≡◌, ◌∙◌, ◌-◌, ◌<◌, ◌+◌, ℕ, List, [], ◌∷◌, ◌++◌, Option, length, map, take, get_or, sym, ap}
use Rattle.std.specs.Prelude.{filter_map}
use Rattle.std.proofs.lemmas.List.{append_assoc, map_more}
use Rattle.std.proofs.lemmas.List.Elements.{filter_map-append}
use Rattle.expanding.specs.Descriptions.{begun_behind}
use Rattle.spreading.specs.Forms.{Part}
use Rattle.pasting.specs.Quotes.{Quote, Quotation, quotes_of, quotes_behind}
use Rattle.pasting.specs.Views.{seen_quotation}
use Rattle.pasting.specs.declared.own_words.Quotation.{Quotation as CodeQuotation}

-- what is given with one more part, and what the parts behind it give
pub quoted_more : (found more : List Quote) (begun : ℕ) (p : Part) (done ps : List Part)
    → more ≡ found ++ quotes_of (begun_behind begun p - 1) p
    → found ++ quotes_behind begun (p ∷ ps) ≡ quotes_behind 0 (done ++ p ∷ ps)
    → more ++ quotes_behind (begun_behind begun p) ps ≡ quotes_behind 0 ((done ++ p ∷ []) ++ ps)
quoted_more found more begun p done ps is so_far =
    ap (λ qs. qs ++ quotes_behind (begun_behind begun p) ps) is
    ∙ append_assoc found (quotes_of (begun_behind begun p - 1) p) (quotes_behind (begun_behind begun p) ps)
    ∙ so_far
    ∙ ap (quotes_behind 0) (sym (append_assoc done (p ∷ []) ps))

-- what is picked of one more, if anything is
pub picked_more : {A : Type 0} (pick : Quotation → Option A) (qs : List CodeQuotation) (i : ℕ) (q : CodeQuotation) → i < length qs
    → q ≡ get_or qs i q → (made : List A) (o : Option A) → made ≡ filter_map pick (map seen_quotation (take i qs))
    → o ≡ pick (seen_quotation q) → made ++ filter_map (λ x. x) (o ∷ []) ≡ filter_map pick (map seen_quotation (take (i + 1) qs))
picked_more {A} pick qs i q within there made o so_far is =
    let front = map seen_quotation (take i qs) in
    ap (λ (l : List A). l ++ filter_map (λ x. x) (o ∷ [])) so_far
    ∙ ap (λ (y : Option A). filter_map pick front ++ filter_map (λ x. x) (y ∷ [])) is
    ∙ sym (filter_map-append pick front (seen_quotation q ∷ []))
    ∙ ap (λ (k : CodeQuotation). filter_map pick (front ++ seen_quotation k ∷ [])) there
    ∙ ap (filter_map pick) (sym (map_more seen_quotation qs i q within))
