-- What is left to show of `floats_of`.
use Rattle.std.proofs.Common.{◌≡◌, ℕ, List, [], ◌∷◌, Some, None, ap, sym, ◌∙◌}
use Rattle.std.specs.List.{filter_map}
use Rattle.std.specs.Borrow.{Bor}
use Rattle.std.proofs.lemmas.List.{map-append}
use Rattle.source.specs.declared.contents.HypothesisWords.{HypothesisWords}
use Rattle.source.specs.Views.{seen_hypothesis, seen_hypotheses}
use Rattle.sourceframes.specs.Names.{words_of}
use Rattle.sourceframes.specs.Frames.{variable_of, seen_variable}
use Rattle.sourceframes.proofs.Numbered.{grows_on, lasts_next}
use Rattle.sourceframes.proofs.Framed.{given_some, given_none}
use Rattle.sourceframes.proofs.thesis.floats_of.Goals as goal

pub loop-hypothesis-preserved-in_ok-push : goal.loop-hypothesis-preserved-in_ok-push
loop-hypothesis-preserved-in_ok-push c =
    let done = c.loop-hypothesis.yielded in
    let h = c.in-Some.hypothesis in
    let v : List ℕ = c.in-Some-variable_of.variable.now in
    let is : variable_of (seen_hypothesis h.now) ≡ Some v = sym c.variable_of.ensures ∙ ap seen_variable c.in-Some-variable_of.is in
    record {
      sound = c.in_ok-number_at.ensures.keeps.sound;
      grows = grows_on _ _ _ c.loop-hypothesis.invariant.grows c.in_ok-number_at.ensures.keeps.grows;
      made = lasts_next (λ name. name) (words_of c.loop-hypothesis.table) (words_of c.number_at.new.self) c.loop-hypothesis.floats.items _
          c.in_ok-number_at.field-0 (filter_map variable_of (seen_hypotheses done)) _ v c.in_ok-number_at.ensures.keeps.grows
          c.in_ok-push.ensures.items
          (ap (filter_map variable_of) (map-append (λ (h : Bor HypothesisWords). seen_hypothesis h.now) done (h ∷ []))
          ∙ given_some variable_of (seen_hypotheses done) (seen_hypothesis h.now) v is)
          c.loop-hypothesis.invariant.made c.in_ok-number_at.ensures.named;
    }

pub loop-hypothesis-preserved : goal.loop-hypothesis-preserved
loop-hypothesis-preserved c =
    let done = c.loop-hypothesis.yielded in
    let h = c.in-Some.hypothesis in
    let is : variable_of (seen_hypothesis h.now) ≡ None = sym c.variable_of.ensures ∙ ap seen_variable c.in_default.is in
    record {
      sound = c.loop-hypothesis.invariant.sound;
      grows = c.loop-hypothesis.invariant.grows;
      made = λ more.
          c.loop-hypothesis.invariant.made more
          ∙ sym (ap (filter_map variable_of) (map-append (λ (h : Bor HypothesisWords). seen_hypothesis h.now) done (h ∷ []))
          ∙ given_none variable_of (seen_hypotheses done) (seen_hypothesis h.now) is);
    }
