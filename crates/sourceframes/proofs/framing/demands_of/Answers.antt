-- What is left to show of `demands_of`.
use Rattle.std.proofs.Common.{◌≡◌, [], ◌∷◌, length, map, ap, sym, subst, ◌∙◌, rules}
use Rattle.std.specs.Vec.Iter.{into_iter_items, into_iter_len}
use Rattle.std.proofs.lemmas.Iterator.Adapters.{YieldsList-from_vec}
use Rattle.std.proofs.lemmas.Iterator.Consumers.{YieldsList-end}
use Rattle.std.specs.Borrow.{Bor}
use Rattle.std.proofs.lemmas.List.{map-append}
use Rattle.source.specs.declared.contents.HypothesisWords.{HypothesisWords}
use Rattle.source.specs.Views.{seen_hypothesis, seen_hypotheses}
use Rattle.sourceframes.specs.Names.{words_of, Lasts}
use Rattle.sourceframes.specs.Frames.{asked_in, asked_of}
use Rattle.sourceframes.proofs.Numbered.{grows_on, lasts_next}
use Rattle.sourceframes.proofs.Framed.{map_same}
use Rattle.sourceframes.proofs.framing.demands_of.Goals as goal

pub loop-hypothesis-preserved : goal.loop-hypothesis-preserved
loop-hypothesis-preserved c = record {
  sound = c.in_ok-demand_of.ensures.keeps.sound;
  grows = grows_on _ _ _ c.loop-hypothesis.invariant.grows c.in_ok-demand_of.ensures.keeps.grows;
  made = λ hs is.
      let done = c.loop-hypothesis.yielded in
      lasts_next asked_of (words_of c.loop-hypothesis.table) (words_of c.demand_of.new.table) c.loop-hypothesis.demands.items _
      c.in_ok-demand_of.field-0 (map (asked_in hs) (seen_hypotheses done)) _ _ c.in_ok-demand_of.ensures.keeps.grows
      c.in_ok-push.ensures.items
      (ap (map (asked_in hs)) (map-append (λ (h : Bor HypothesisWords). seen_hypothesis h.now) done (c.in-Some.hypothesis ∷ []))
      ∙ map-append (asked_in hs) (seen_hypotheses done) (_ ∷ []))
      (c.loop-hypothesis.invariant.made hs is) (c.in_ok-demand_of.ensures.made hs is);
}

pub returns-clause-made : goal.returns-clause-made
returns-clause-made c =
    let iterator = c.into_iter-hypothesis-iterator.result in
    let items : into_iter_items iterator ≡ c.args.hypotheses.items = search rules in
    let long : into_iter_len iterator ≡ length c.args.hypotheses.items = search rules in
    let end = YieldsList-end (YieldsList-from_vec c.args.hypotheses.items items long) c.loop-hypothesis.yielded
    c.loop-hypothesis.hypothesis-iterator c.loop-hypothesis.yielded_by c.next.result c.next.new.self c.in-None.is c.next.ensures.steps in
    let all : c.loop-hypothesis.yielded ≡ c.args.hypotheses.items = sym (map_same c.loop-hypothesis.yielded) ∙ end.0 in
    λ hs is.
    subst (λ ys. Lasts (words_of c.loop-hypothesis.table) (λ name. map (asked_of name) c.loop-hypothesis.demands.items
    ≡ map (asked_in hs) (seen_hypotheses ys))) all (c.loop-hypothesis.invariant.made hs is)
