-- Labels with a fast look-up: what is found.
use Rattle.std.proofs.Common.{◌≡◌, ◌∙◌, ℕ, Bool, List, map, Option, sym, ap}
use Rattle.std.specs.Prelude.{find, is_some}
use Rattle.std.specs.Option.{option_map}
use Rattle.std.specs.Borrow.{Bor}
use Rattle.std.specs.Str.{bytes_eq}
use Rattle.std.proofs.lemmas.List.{map-id}
use Rattle.std.proofs.lemmas.Simd.{map-map}
use Rattle.mmtext.specs.Words.{Word}
use Rattle.source.specs.Scopes.{is_in}
use Rattle.taking.specs.declared.reason.Reason.{Reason}
use Rattle.giving.specs.Staying.{Change}
use Rattle.giving.proofs.Finding.{text_found}
use Rattle.sourceediting.specs.Marked.{marked}

-- the labels of changes
abbrev pub firsts : List Change → List Word
firsts cs = map (λ c. c.0) cs

pub firsts_marked : (ws : List Word) → firsts (marked ws) ≡ ws
firsts_marked ws = map-map (λ (c : Change). c.0) (λ (w : Word). (w, w)) ws ∙ map-id ws

-- ---- theorems that were taken as axioms

abbrev pub Told : Type 0
Told = Bor (List ℕ) × Reason

-- a theorem is one of them
pub told_found : (axioms seen : List Told) (made : List Change) (l label : Word) (r : Option (Bor (List ℕ))) (b : Bool) → seen ≡ axioms
    → made ≡ marked (map (λ (p : Told). p.0.now) seen) → option_map (λ w. w.now) r ≡ option_map (λ c. c.1) (find (λ c. bytes_eq l c.0) made)
    → b ≡ is_some r → l ≡ label → b ≡ is_in (map (λ (p : Word × Reason). p.0) (map (λ (p : Told). (p.0.now, p.1)) axioms)) label
told_found axioms seen made l label r b are is e found same =
    let labels : List Told → List Word = map (λ (p : Told). p.0.now) in
    let seen_told : Told → Word × Reason = λ p. (p.0.now, p.1) in
    found
    ∙ text_found made l r e
    ∙ ap (λ (cs : List Change). is_in (firsts cs) l) is
    ∙ ap (λ (ws : List Word). is_in ws l) (firsts_marked (labels seen))
    ∙ ap (λ (ps : List Told). is_in (labels ps) l) are
    ∙ ap (λ (ws : List Word). is_in ws l) (sym (map-map (λ (p : Word × Reason). p.0) seen_told axioms))
    ∙ ap (is_in (map (λ (p : Word × Reason). p.0) (map seen_told axioms))) same
