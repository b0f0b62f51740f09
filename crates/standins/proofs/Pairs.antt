-- Which assertions of a library that was taken have labels of both kinds.
use Rattle.std.proofs.Common.{◌≡◌, Bool, true, false, cond, List, [], ◌∷◌, map, filter, Some, None, refl, ap}
use Rattle.std.specs.Prelude.{◌&&◌, filter_map}
use Rattle.std.specs.List.{cons_option}
use Rattle.mmtext.specs.Words.{Word}
use Rattle.source.specs.Scopes.{is_in}
use Rattle.sourceediting.specs.Following.{opened}
use Rattle.standins.specs.Views.{leaning_pair}

one_more : (b : Bool) (p : Word × Word) (xs ys : List (Word × Word)) → xs ≡ ys
    → cons_option (cond b (Some p) None) xs ≡ cond b (p ∷ ys) ys
one_more true p xs ys same = ap (λ zs. p ∷ zs) same
one_more false p xs ys same = same

-- of those that were taken these are their labels
pub leaning_pairs : (told again : List Word) (ps : List (Word × Word))
    → filter_map (leaning_pair told again) (map opened ps) ≡ filter (λ p. is_in told p.0 && is_in again p.1) ps
leaning_pairs told again [] = refl
leaning_pairs told again (p ∷ ps) =
    one_more (is_in told p.0 && is_in again p.1) p (filter_map (leaning_pair told again) (map opened ps))
    (filter (λ q. is_in told q.0 && is_in again q.1) ps) (leaning_pairs told again ps)
