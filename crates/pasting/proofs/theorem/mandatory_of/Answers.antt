-- What is left to show of `mandatory_of`.
use Rattle.std.proofs.Common.{◌∙◌, ◌++◌, map, ap}
use Rattle.std.specs.Prelude.{filter}
use Rattle.source.specs.Scopes.{is_mandatory}
use Rattle.source.specs.Views.{seen_hypothesis, seen_hypotheses, seen_words}
use Rattle.pasting.proofs.Adding.{mandatory_both}
use Rattle.pasting.proofs.theorem.mandatory_of.Goals as goal

pub returns : goal.returns
returns c = λ are.
    let fs = map seen_hypothesis c.args.floats.now in
    let ps = map seen_hypothesis c.args.premises.now in
    let statement = seen_words c.args.statement.now in
    c.in_ok-keep_mandatory-2.ensures
    ∙ ap (λ hs. hs ++ filter (is_mandatory ps statement) ps)
    (c.in_ok-keep_mandatory.ensures ∙ ap (λ hs. seen_hypotheses hs ++ filter (is_mandatory ps statement) fs) c.new-made.ensures.items)
    ∙ mandatory_both fs ps statement are
