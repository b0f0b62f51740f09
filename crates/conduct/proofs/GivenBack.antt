-- From edits that are given back to what is told of them.
use Rattle.std.proofs.Common.{Bool, ◌≡◌, ◌∷◌, [], ℕ, List, arith, inl, length, slice_index_or, subst, sym}
use Rattle.conduct.specs.Gives.{IsAnsweredGive, IsGiveTold}
use Rattle.givetext.specs.Answers.{IsGiveAnswer}
use Rattle.givetext.specs.declared.answering.Returned.{Returned}
use Rattle.outside.specs.Events.{Bytes, Event}

-- a list of three, by its places
pub only_three : {X : Type 0} (xs : List X) (x y z : X) → length xs ≡ 3 → x ≡ slice_index_or xs 0 x → y ≡ slice_index_or xs 1 y
    → z ≡ slice_index_or xs 2 z → xs ≡ x ∷ y ∷ z ∷ []
only_three [] x y z n first second third = absurd (omega arith)
only_three (a ∷ []) x y z n first second third = absurd (omega arith)
only_three (a ∷ b ∷ []) x y z n first second third = absurd (omega arith)
only_three (a ∷ b ∷ c ∷ []) x y z n first second third = cc
only_three (a ∷ b ∷ c ∷ d ∷ more) x y z n first second third = absurd (omega arith)

pub given_told : (keyed : Bool) (paths texts : List Bytes) (source library history : Bytes) (told : Returned) (es : List Event) (status : ℕ)
    → texts ≡ source ∷ library ∷ history ∷ [] → IsGiveAnswer paths source library history told → IsGiveTold told es status
    → IsAnsweredGive keyed paths texts es status
given_told keyed paths texts source library history told es status are answer is =
    subst (λ (ts : List Bytes). IsAnsweredGive keyed paths ts es status) (sym are) (inl (told, answer, is))
