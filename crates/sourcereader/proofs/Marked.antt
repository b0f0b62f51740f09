-- The hypotheses that are marked, with one more symbol that the code keeps.
use Rattle.std.proofs.Common.{◌≡◌, ◌∙◌, ℕ, Bool, List, [], ◌∷◌, ◌++◌, sym, ap, subst}
use Rattle.std.specs.Borrow.{Bor}
use Rattle.source.specs.Counts.{mandatory_marks}
use Rattle.source.specs.Scopes.{Stand}
use Rattle.source.specs.Views.{seen_words}
use Rattle.source.proofs.Slices.{one_more_word}

-- what was marked for some symbols is marked for one more, which was put behind them
pub symbol_marked : (old new : Stand) (before after : List Bool) (ws us vs : List (Bor (List ℕ))) (w : Bor (List ℕ)) → us ≡ ws
    → vs ≡ ws ++ w ∷ [] → new ≡ old
    → (before ≡ mandatory_marks old.scope (seen_words us) → after ≡ mandatory_marks old.scope (seen_words us ++ w.now ∷ []))
    → before ≡ mandatory_marks old.scope (seen_words ws) → after ≡ mandatory_marks new.scope (seen_words vs)
symbol_marked old new before after ws us vs w seen more same step marks =
    let at = subst (λ (xs : List (Bor (List ℕ))). before ≡ mandatory_marks old.scope (seen_words xs)
    → after ≡ mandatory_marks old.scope (seen_words xs ++ w.now ∷ [])) seen step in
    at marks ∙ ap (mandatory_marks old.scope) (sym (ap seen_words more ∙ one_more_word ws w))
    ∙ ap (λ (s : Stand). mandatory_marks s.scope (seen_words vs)) (sym same)
