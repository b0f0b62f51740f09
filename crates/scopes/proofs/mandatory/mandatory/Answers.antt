-- What is left to show of `mandatory`.
use Rattle.std.proofs.Common.{◌≡◌, ◌∙◌, List, Bor, Some, map, ap, sym}
use Rattle.std.specs.Option.{option_map}
use Rattle.std.proofs.lemmas.Result.{IfOk-weaker}
use Rattle.source.specs.declared.contents.HypothesisWords.{HypothesisWords}
use Rattle.source.specs.Views.{seen_hypotheses}
use Rattle.scopes.specs.Views.{linked, hypotheses_at}
use Rattle.scopes.proofs.Numbered.{numbered_at}
use Rattle.scopes.proofs.mandatory.mandatory.Goals as goal

pub hypotheses_at-requires : goal.hypotheses_at-requires
hypotheses_at-requires c =
    let t = c.args.tables.now in
    let a = c.asserted_there-asserted.result.now in
    let numbered = numbered_at t c.args.place a c.requires.sound c.asserted_there-asserted.ensures.entry in
    rw (c.as_slice.ensures.value, c.as_slice-2.ensures.value) numbered.mandatory_there

pub returns : goal.returns
returns c =
    let t = c.args.tables.now in
    let a = c.asserted_there-asserted.result.now in
    let numbered = numbered_at t c.args.place a c.requires.sound c.asserted_there-asserted.ensures.entry in
    let there = ap (option_map (λ a. a.hypotheses)) c.asserted_there-asserted.ensures.stands in
    let same = ap (λ ls. map linked ls) c.as_slice.ensures.value in
    let given : List (Bor HypothesisWords) → Type 0 =
    λ xs. seen_hypotheses xs ≡ hypotheses_at (map linked c.as_slice.result.now) c.as_slice-2.result.now in
    IfOk-weaker c.hypotheses_at.result (λ hs. given hs.items) _
    (λ hs e. there ∙ ap (λ xs. Some xs) (sym (e ∙ ap (λ ls. hypotheses_at ls c.as_slice-2.result.now) same
    ∙ ap (hypotheses_at (map linked t.links.items)) c.as_slice-2.ensures.value ∙ numbered.mandatory_are))) c.hypotheses_at.ensures
