-- What a look-up among changes finds: a text for just the labels that have a change.
use Rattle.std.proofs.Common.{◌≡◌, ◌∙◌, ℕ, Bool, true, false, cond, List, [], ◌∷◌, map, Option, Some, None, refl, ap}
use Rattle.std.specs.Prelude.{find, is_some, ◌||◌}
use Rattle.std.specs.Option.{option_map}
use Rattle.std.specs.Borrow.{Bor}
use Rattle.std.specs.Str.{bytes_eq}
use Rattle.mmtext.specs.Words.{Word}
use Rattle.source.specs.Scopes.{is_in}
use Rattle.giving.specs.Staying.{Change}

some_or : (b : Bool) (c : Change) (o : Option Change) → is_some (cond b (Some c) o) ≡ (b || is_some o)
some_or true c o = refl
some_or false c o = refl

finds : (cs : List Change) (w : Word) → is_some (find (λ c. bytes_eq w c.0) cs) ≡ is_in (map (λ c. c.0) cs) w
finds [] w = refl
finds (c ∷ cs) w =
    some_or (bytes_eq w c.0) c (find (λ c. bytes_eq w c.0) cs) ∙ ap (λ (b : Bool). bytes_eq w c.0 || b) (finds cs w)

both_some : (r : Option (Bor (List ℕ))) (o : Option Change) → option_map (λ w. w.now) r ≡ option_map (λ c. c.1) o → is_some r ≡ is_some o
both_some None None same = refl
both_some (Some w) (Some c) same = refl
both_some None (Some c) same = cc
both_some (Some w) None same = cc

pub text_found : (cs : List Change) (w : Word) (r : Option (Bor (List ℕ)))
    → option_map (λ w. w.now) r ≡ option_map (λ c. c.1) (find (λ c. bytes_eq w c.0) cs) → is_some r ≡ is_in (map (λ c. c.0) cs) w
text_found cs w r same = both_some r (find (λ c. bytes_eq w c.0) cs) same ∙ finds cs w
