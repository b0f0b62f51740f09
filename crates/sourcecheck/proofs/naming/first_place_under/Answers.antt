-- What is left to show of `first_place_under`.
use Rattle.std.proofs.Common.{sym, ap, ◌∙◌, arith}
use Rattle.std.specs.Str.{bytes_eq}
use Rattle.std.specs.Borrow.{Bor}
use Rattle.source.specs.Scopes.{label_of}
use Rattle.source.specs.declared.contents.HypothesisWords.{HypothesisWords}
use Rattle.source.specs.Views.{seen_hypothesis}
use Rattle.sourceframes.proofs.Framed.{first_of, still_none}
use Rattle.sourcecheck.proofs.naming.first_place_under.Goals as goal

pub returns-then-eq : goal.returns-then-eq
returns-then-eq c =
    let w = c.args.label.now in
    sym (first_of (λ (h : Bor HypothesisWords). bytes_eq w (label_of (seen_hypothesis h.now))) c.args.active.now.items c.loop-place.place
    c.index.result.now (omega arith) c.loop-place.invariant
    (ap (λ (h : Bor HypothesisWords). bytes_eq w (label_of (seen_hypothesis h.now))) (sym c.index.ensures)
    ∙ sym (ap (bytes_eq w) c.label_of.ensures) ∙ sym c.eq.ensures ∙ c.if-eq.true))

pub loop-place-preserved : goal.loop-place-preserved
loop-place-preserved c =
    let w = c.args.label.now in
    still_none (λ (h : Bor HypothesisWords). bytes_eq w (label_of (seen_hypothesis h.now))) c.args.active.now.items c.loop-place.place
    c.index.result.now (omega arith) c.loop-place.invariant
    (ap (λ (h : Bor HypothesisWords). bytes_eq w (label_of (seen_hypothesis h.now))) (sym c.index.ensures)
    ∙ sym (ap (bytes_eq w) c.label_of.ensures) ∙ sym c.eq.ensures ∙ c.if-eq.false)
