-- What is left to show of `take_label`.
use Rattle.std.proofs.Common.{◌+◌, refl, sym, ap, ◌∙◌}
use Rattle.std.proofs.lemmas.Option.{slice_get_read}
use Rattle.source.specs.Proofs.{push}
use Rattle.sourcecheck.specs.Spans.{last_length}
use Rattle.sourcecheck.proofs.Leading.{last_shown, hypothesis_leads, citation_leads, citation_fails}
use Rattle.sourcecheck.proofs.Running.{match_both}
use Rattle.sourcecheck.proofs.stepping.take_label.Goals as goal

pub returns-in-Ok : goal.returns-in-Ok
returns-in-Ok c = λ name earlier x w stands named.
    let h = rw c.in-Hypothesis.is at named in
    let old = c.args.stack.now in
    let pushed = c.in-Ok.ensures.stack ∙ ap (push old.stack) c.as_slice.ensures.value in
    record {
      leads = rw pushed (hypothesis_leads name earlier x w h.0 c.in-Hypothesis.said.items old.stack h.1 h.2);
      written = c.in-Ok.ensures.written
          ∙ ap (λ k. old.written + k)
          (sym (last_shown name c.push.new.self.stack.entries ∙ ap (λ s. last_length s.entries) c.in-Ok.ensures.stack));
    }

pub returns-in-Assertion : goal.returns-in-Assertion
returns-in-Assertion c = λ name earlier x w stands named.
    let h = rw c.in-Assertion.is at named in
    let fs = c.args.frames.now in
    let f = c.index-frames-place.result in
    let lt = rw c.in-Assertion.is at c.requires in
    let there = slice_get_read fs _ c.in-Assertion.place f refl lt c.index-frames-place.is in
    let is = stands.frames c.in-Assertion.place h.0 f h.3 there in
    let old = c.args.stack.now in
    let new = c.cite.new.stack in
    match_both c.cite.result c.cite.ensures.ok c.cite.ensures.written c.cite.ensures.err
    (λ cited size. record {
      leads = citation_leads name earlier x fs c.args.thesis.now stands w h.0 f h.1 h.2 is old.stack new.stack cited;
      written = size ∙ ap (λ k. old.written + k) (sym (last_shown name new.stack.entries));
    })
    (citation_fails name earlier x fs c.args.thesis.now stands w h.0 f h.1 h.2 is old)
