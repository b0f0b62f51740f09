-- What is left to show of `frame_at`.
use Rattle.std.proofs.Common.{◌≡◌, ℕ, List, Some, sym, ap, ◌∙◌}
use Rattle.std.specs.Prelude.{slice_get}
use Rattle.std.specs.Option.{option_map}
use Rattle.std.specs.Borrow.{Bor}
use Rattle.std.proofs.lemmas.Result.{IfOk-weaker}
use Rattle.source.specs.Scopes.{Assertion}
use Rattle.source.specs.Views.{seen_words}
use Rattle.source.proofs.Asked.{whole_at, statement_is}
use Rattle.sourcecheck.proofs.sources.frame_at.Goals as goal

pub returns-clause-made : goal.returns-clause-made
returns-clause-made g c =
    let s = g.D.Declared.scope c.args.declared.now in
    let place = c.args.place in
    let words = seen_words c.in-Some.statement.now in
    let said : option_map (λ (a : Assertion). a.statement) (slice_get s.assertions place) ≡ Some words =
    sym c.statement.ensures ∙ ap (option_map (λ (ws : Bor (List (Bor (List ℕ)))). seen_words ws.now)) c.in-Some.is in
    IfOk-weaker c.frame_of.result _ _
    (λ f made x at. made x at (whole_at s place x c.requires.whole at).mandatory (statement_is s.assertions place x at words said))
    c.frame_of.ensures.made
