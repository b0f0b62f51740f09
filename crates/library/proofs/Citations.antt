-- What cites a label: where a test of steps or of assertions finds something, and where nothing.
use Rattle.std.proofs.Common.{◌≡◌, ℕ, Bool, true, false, List, ap, subst, ◌∙◌}
use Rattle.std.specs.List.{list_any, Contains}
use Rattle.std.proofs.lemmas.List.Folds.{list_any_at}
use Rattle.mmsyntax.specs.declared.statement.Step.TheVariants.{Cite}
use Rattle.mmsyntax.proofs.Distinct.{any_at}
use Rattle.mmsyntax.proofs.Names.{bytes_eq-same}
use Rattle.library.specs.declared.library.Ranked.{Ranked}
use Rattle.library.specs.Edits.{is_citation, cites}

-- where a test finds nothing, no element passes
pub none_contained : {A : Type 0} (p : A → Bool) (xs : List A) (x : A) → list_any p xs ≡ false → Contains xs x → p x ≡ false
none_contained p xs x h at = subst (λ y. p y ≡ false) at.2 (any_at p xs at.0 x h at.1)

-- an assertion with such a step cites the label
pub cites_from : (label : List ℕ) (e : Ranked) → Contains e.assertion.proof (Cite label) → cites label e ≡ true
cites_from label e at =
    list_any_at (is_citation label) e.assertion.proof at.0 (Cite label) at.1
    (ap (is_citation label) at.2 ∙ bytes_eq-same label)
