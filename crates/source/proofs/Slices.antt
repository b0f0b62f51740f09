-- Slices of a text as the words that they show.
use Rattle.std.proofs.Common.{◌≡◌, ℕ, Bool, List, [], ◌∷◌, ◌++◌, refl, ap}
use Rattle.std.specs.Prelude.{◌||◌}
use Rattle.std.specs.List.{list_any}
use Rattle.std.specs.Borrow.{Bor}
use Rattle.std.proofs.lemmas.List.{map-append}
use Rattle.mmtext.specs.Words.{Word}
use Rattle.source.specs.Views.{seen_words}

-- a test of words is one of slices
pub any_seen : (test : Word → Bool) (ws : List (Bor (List ℕ))) → list_any (λ w. test w.now) ws ≡ list_any test (seen_words ws)
any_seen test [] = refl
any_seen test (w ∷ ws) = ap (λ b. test w.now || b) (any_seen test ws)

pub one_more_word : (ws : List (Bor (List ℕ))) (w : Bor (List ℕ)) → seen_words (ws ++ w ∷ []) ≡ seen_words ws ++ w.now ∷ []
one_more_word ws w = map-append (λ (x : Bor (List ℕ)). x.now) ws (w ∷ [])
