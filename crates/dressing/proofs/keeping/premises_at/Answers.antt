-- What is left to show of `premises_at`.
use Rattle.std.proofs.Common.{◌∙◌, ◌∷◌, [], ℕ, List, Bool, Bor, ap}
use Rattle.std.specs.Prelude.{if◌then◌else◌}
use Rattle.std.proofs.lemmas.List.{map_push}
use Rattle.source.specs.Views.{seen_words}
use Rattle.dressing.proofs.Premises.{one_more, one_less}
use Rattle.dressing.proofs.keeping.premises_at.Goals as goal

pub loop-hypothesis-preserved-in-Continue-branch-2 : goal.loop-hypothesis-preserved-in-Continue-branch-2
loop-hypothesis-preserved-in-Continue-branch-2 g c =
    let label = c.label_of-is_premise.result.0 in
    let made = c.loop-hypothesis.made.items in
    ap seen_words c.in_ok-push.ensures.items
    ∙ map_push (λ (w : Bor (List ℕ)). w.now) made label
    ∙ one_more c.loop-hypothesis.yielded c.in-Some.hypothesis (seen_words made) c.loop-hypothesis.invariant label.now
    (c.label_of-is_premise.ensures ∙ ap (λ (b : Bool). if b then label.now ∷ [] else []) c.if-is_premise.true)

pub loop-hypothesis-preserved : goal.loop-hypothesis-preserved
loop-hypothesis-preserved g c =
    let label = c.label_of-is_premise.result.0 in
    one_less c.loop-hypothesis.yielded c.in-Some.hypothesis (seen_words c.loop-hypothesis.made.items) c.loop-hypothesis.invariant
    (c.label_of-is_premise.ensures ∙ ap (λ (b : Bool). if b then label.now ∷ [] else []) c.if-is_premise.false)
