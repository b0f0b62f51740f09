-- What is left to show of `apart_at`.
use Rattle.std.proofs.Common.{◌≡◌, ◌∙◌, ◌≤◌, ◌++◌, ◌∷◌, ℕ, Option, [], List, Bor, Some, None, length, map, ap, refl, sym, rules}
use Rattle.std.specs.List.{slice_get}
use Rattle.std.specs.Option.{option_map, option_map_or}
use Rattle.std.proofs.lemmas.Option.{slice_get-map, slice_get_read, slice_get_past}
use Rattle.mmtext.specs.Words.{Word}
use Rattle.source.specs.Views.{seen_words}
use Rattle.scopes.specs.Paths.{path}
use Rattle.scopes.specs.Views.{SetApart, set_apart}
use Rattle.scopes.proofs.PathSteps.{path_none, path_past, path_step}
use Rattle.scopes.proofs.chains.apart_at.Goals as goal

-- what the variables of a $d and the number before it stand for
unfoldable told : List SetApart → Option (Bor (List (Bor (List ℕ))) × Option ℕ) → List (List Word)
told aparts o = option_map_or (λ p. path aparts p.1 ++ seen_words p.0.now ∷ []) o []

pub returns-in_err-number-clause-path : goal.returns-in_err-number-clause-path
unfolding told
returns-in_err-number-clause-path c =
    let aparts = map set_apart c.args.aparts.now in
    let none : c.args.number ≡ None = search rules in
    let gone : c.from_residual.result ≡ None = search rules in
    ap (path aparts) none ∙ path_none aparts ∙ sym (ap (told aparts) gone)

pub returns-in_err-apart-clause-path : goal.returns-in_err-apart-clause-path
unfolding told
returns-in_err-apart-clause-path c =
    let aparts = map set_apart c.args.aparts.now in
    let n = c.in_ok-number.number in
    let some : c.args.number ≡ Some n = search rules in
    let past : length c.args.aparts.now ≤ n = search rules in
    let there : slice_get aparts n ≡ None =
    slice_get-map set_apart c.args.aparts.now n ∙ ap (option_map set_apart) (slice_get_past c.args.aparts.now n past) in
    let gone : c.from_residual-in_err-apart.result ≡ None = search rules in
    ap (path aparts) some ∙ path_past aparts n there ∙ sym (ap (told aparts) gone)

pub returns-clause-path : goal.returns-clause-path
returns-clause-path c =
    let aparts = map set_apart c.args.aparts.now in
    let n = c.in_ok-number.number in
    let a = c.in_ok-apart.apart.now in
    let some : c.args.number ≡ Some n = search rules in
    let read = c.in_ok-apart.ensures.lookup in
    let at : slice_get c.args.aparts.now n ≡ Some a = slice_get_read c.args.aparts.now _ n a refl read.3.0 read.1 in
    let there : slice_get aparts n ≡ Some (set_apart a) = slice_get-map set_apart c.args.aparts.now n ∙ ap (option_map set_apart) at in
    let shown : c.as_slice.result.now ≡ a.variables.items = search rules in
    ap (path aparts) some ∙ path_step aparts n (set_apart a) there
    ∙ ap (λ (o : Option ℕ). path aparts o ++ seen_words a.variables.items ∷ []) (sym c.earlier.ensures)
    ∙ ap (λ (vs : List (Bor (List ℕ))). path aparts c.earlier.result ++ seen_words vs ∷ []) (sym shown)
