-- Words that lead across, byte by byte.
use Rattle.std.proofs.Common.{◌≡◌, ◌∙◌, ℕ, ◌+◌, ◌<◌, Bool, true, false, cond, List, [], ◌∷◌, ◌++◌, length, take, get_or, refl, ap}
use Rattle.std.specs.Prelude.{◌==◌}
use mathlib.Core.Bool.{not}
use Rattle.std.proofs.lemmas.List.{take_more}
use Rattle.commentwords.specs.Words.{leads_across}

abbrev pub turned : Bool → Bool → Bool
turned b across = cond b (not across) across

turned-turned : (a b c : Bool) → turned a (turned b c) ≡ turned b (turned a c)
turned-turned true true c = refl
turned-turned true false c = refl
turned-turned false true c = refl
turned-turned false false c = refl

across-push : (w : List ℕ) (b : ℕ) → leads_across (w ++ b ∷ []) ≡ turned (b == 96) (leads_across w)
across-push [] b = refl
across-push (a ∷ w) b = ap (turned (a == 96)) (across-push w b) ∙ turned-turned (a == 96) (b == 96) (leads_across w)

-- one more byte
pub across_more : (w : List ℕ) (i : ℕ) → i < length w
    → leads_across (take (i + 1) w) ≡ turned (get_or w i 0 == 96) (leads_across (take i w))
across_more w i lt = ap leads_across (take_more w i 0 lt) ∙ across-push (take i w) (get_or w i 0)
