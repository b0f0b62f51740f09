-- What is left to show of `part_length`.
use Rattle.std.proofs.Common.{◌≡◌, ℕ, List, ◌∷◌, map, take, drop, sym, subst, arith}
use Rattle.std.proofs.lemmas.List.{length-map}
use Rattle.mmtext.specs.Views.{seen}
use Rattle.mmtext.specs.declared.token.Token.{Token}
use Rattle.spreading.specs.Forms.{AreParts}
use Rattle.spreading.proofs.Parted.{first_part}
use Rattle.spreading.proofs.forms.part_length.Goals as goal

pub returns-in-Some-clause-part : goal.returns-in-Some-clause-part
returns-in-Some-clause-part c = λ ps parts some.
    let t = seen c.in-Some.first.now in
    let ts = map seen c.in-Some.rest.now in
    let long = length-map c.in-Some.rest.now seen in
    let short = c.min.ensures in
    let many = c.behind_word.ensures in
    let P = λ (n : ℕ) (ws : List Token). AreParts (drop n (map seen ws)) ps
    → (n ≡ 0 → ⊥) × AreParts (map seen ws) (take n (map seen ws) ∷ ps) in
    subst (P _) (sym c.in-Some.ensures.cases.0) (first_part t ts _ (omega arith) ps) parts
