-- What is left to show of `hypothesis_at`.
use Rattle.std.proofs.Common.{◌≡◌, ◌∙◌, ◌≤◌, ◌++◌, ◌∷◌, ℕ, Option, [], List, Bor, Some, None, length, map, ap, refl, sym, rules}
use Rattle.std.specs.List.{slice_get}
use Rattle.std.specs.Option.{option_map, option_map_or}
use Rattle.std.proofs.lemmas.Option.{slice_get-map, slice_get_read, slice_get_past}
use Rattle.source.specs.declared.contents.HypothesisWords.{HypothesisWords}
use Rattle.source.specs.Scopes.{Hypothesis}
use Rattle.source.specs.Views.{seen_hypothesis}
use Rattle.scopes.specs.Paths.{path}
use Rattle.scopes.specs.Views.{Linked, linked}
use Rattle.scopes.proofs.PathSteps.{path_none, path_past, path_step}
use Rattle.scopes.proofs.chains.hypothesis_at.Goals as goal

-- what a hypothesis and the number before it stand for
unfoldable told : List Linked → Option (Bor HypothesisWords × Option ℕ) → List Hypothesis
told links o = option_map_or (λ p. path links p.1 ++ seen_hypothesis p.0.now ∷ []) o []

pub returns-in_err-number-clause-path : goal.returns-in_err-number-clause-path
unfolding told
returns-in_err-number-clause-path c =
    let links = map linked c.args.links.now in
    let none : c.args.number ≡ None = search rules in
    let gone : c.from_residual.result ≡ None = search rules in
    ap (path links) none ∙ path_none links ∙ sym (ap (told links) gone)

pub returns-in_err-link-clause-path : goal.returns-in_err-link-clause-path
unfolding told
returns-in_err-link-clause-path c =
    let links = map linked c.args.links.now in
    let n = c.in_ok-number.number in
    let some : c.args.number ≡ Some n = search rules in
    let past : length c.args.links.now ≤ n = search rules in
    let there : slice_get links n ≡ None =
    slice_get-map linked c.args.links.now n ∙ ap (option_map linked) (slice_get_past c.args.links.now n past) in
    let gone : c.from_residual-in_err-link.result ≡ None = search rules in
    ap (path links) some ∙ path_past links n there ∙ sym (ap (told links) gone)

pub returns-clause-path : goal.returns-clause-path
returns-clause-path c =
    let links = map linked c.args.links.now in
    let n = c.in_ok-number.number in
    let a = c.in_ok-link.link.now in
    let some : c.args.number ≡ Some n = search rules in
    let read = c.in_ok-link.ensures.lookup in
    let at : slice_get c.args.links.now n ≡ Some a = slice_get_read c.args.links.now _ n a refl read.3.0 read.1 in
    let there : slice_get links n ≡ Some (linked a) = slice_get-map linked c.args.links.now n ∙ ap (option_map linked) at in
    ap (path links) some ∙ path_step links n (linked a) there
    ∙ ap (λ (o : Option ℕ). path links o ++ seen_hypothesis a.hypothesis ∷ []) (sym c.earlier.ensures)
