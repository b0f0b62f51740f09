-- What is left to show of `variable`.
use Rattle.std.proofs.Common.{◌≡◌, ◌∙◌, Option, Some, None, ℕ, sym, subst, rules}
use Rattle.std.specs.Prelude.{find}
use Rattle.source.specs.Scopes.{is_float_of}
use Rattle.sites.specs.Given.{given_hypotheses}
use Rattle.sites.specs.Indexes.{looks_up}
use Rattle.sites.specs.Actives.{Placed, float_at}
use Rattle.sites.proofs.Actives.{place_in, flat_some, flat_none}
use Rattle.sites.proofs.active.Active.variable.Goals as goal

pub returns-in-Some : goal.returns-in-Some
returns-in-Some c =
    let w = c.args.word.now in
    let i = c.self.inside in
    let at : looks_up i.floats w ≡ Some c.in-Some.place.now = search rules in
    subst (λ (p : Placed). c.in-Some.place.now ≡ float_at p w) c.self.view_is
    (flat_some (place_in i.sites.now.floats) (find (is_float_of w) (given_hypotheses i.hypotheses.now)) c.in-Some.place.now
    (sym at ∙ c.self.invariant w))

pub returns-in-None : goal.returns-in-None
returns-in-None c =
    let w = c.args.word.now in
    let i = c.self.inside in
    let at : looks_up i.floats w ≡ None = search rules in
    subst (λ (p : Placed). None ≡ float_at p w) c.self.view_is
    (flat_none (place_in i.sites.now.floats) (find (is_float_of w) (given_hypotheses i.hypotheses.now)) (sym at ∙ c.self.invariant w))
