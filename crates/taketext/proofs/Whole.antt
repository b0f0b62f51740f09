-- The whole text that is printed, and that it spells the library.
use Rattle.std.proofs.Common.{◌≡◌, ◌∙◌, ◌++◌, ◌∷◌, [], ℕ, List, ap, ap₂, append_assoc, refl, subst, sym}
use Rattle.mmsyntax.specs.Grammar.{Spells}
use Rattle.mmsyntax.specs.Layout.{text_of, HasSpelling}
use Rattle.mmsyntax.proofs.Canonical.{spelled_again}
use Rattle.taketext.proofs.Behind.{spelled_behind}
use Rattle.choosing.specs.declared.wish.Wish.{Wish}
use Rattle.intake.specs.declared.taken.Taken.{Taken}
use Rattle.intake.specs.Intakes.{IsTakenByWish}
use Rattle.taketext.specs.Answers.{taken_text}
use Rattle.taketext.specs.Comments.{comment_of}
use Rattle.taketext.proofs.Commented.{comment_silent}
use Rattle.taketext.proofs.Named.{wish_quiet, names_quiet, axioms_quiet}

pub whole_text : (path source : List ℕ) (w : Wish) (t : Taken) (empty front library slice out : List ℕ) → empty ≡ []
    → front ≡ empty ++ comment_of path source w t → library ≡ text_of t.database → slice ≡ library → out ≡ front ++ slice
    → out ≡ taken_text path source w t
whole_text path source w t empty front library slice out none comment text is all =
    all ∙ ap₂ (λ x y. x ++ y) (comment ∙ ap (λ x. x ++ comment_of path source w t) none) (is ∙ text)

-- the comment in front of it says nothing, so that the text spells what the library's own text spells
pub whole_spelled : (path source : List ℕ) (w : Wish) (t : Taken) → IsTakenByWish source w t → HasSpelling t.database
    → Spells (taken_text path source w t) t.database
whole_spelled path source w t taken spelling =
    let db = t.database in
    let names = names_quiet source w t taken spelling in
    let silent = comment_silent path source w t (wish_quiet source w t taken) names (axioms_quiet source w t taken) in
    let split : taken_text path source w t ≡ silent.front ++ 10 ∷ text_of db =
    ap (λ x. x ++ text_of db) silent.is ∙ append_assoc silent.front (10 ∷ []) (text_of db) in
    subst (λ (bytes : List ℕ). Spells bytes db) (sym split)
    ((spelled_behind silent.front (text_of db) 10 db silent.nothing refl).1 (spelled_again db spelling))
