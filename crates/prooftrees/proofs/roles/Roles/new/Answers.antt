-- What is left to show of `new`.
use Rattle.std.proofs.Common.{◌∷◌, [], List, sym, subst}
use Rattle.std.proofs.lemmas.List.{map-append}
use Rattle.std.specs.Borrow.{Bor}
use Rattle.source.specs.declared.contents.HypothesisWords.{HypothesisWords}
use Rattle.source.specs.Scopes.{Hypothesis}
use Rattle.source.specs.Views.{seen_hypothesis, seen_hypotheses}
use Rattle.prooftrees.specs.Roles.{looks_up, AreRoles}
use Rattle.prooftrees.proofs.roles.Roles.new.Goals as goal

pub loop-hypothesis-preserved : goal.loop-hypothesis-preserved
loop-hypothesis-preserved c =
    let done = c.loop-hypothesis.yielded in
    subst (λ (hs : List Hypothesis). AreRoles hs (looks_up c.note_hypothesis.new.roles) c.in_ok-premises.premises)
    (sym (map-append (λ (h : Bor HypothesisWords). seen_hypothesis h.now) done (c.in-Some.hypothesis ∷ [])))
    (c.in_ok-premises.ensures (seen_hypotheses done) c.loop-hypothesis.invariant)
