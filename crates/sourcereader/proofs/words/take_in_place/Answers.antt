-- What is left to show of `take_in_place`.
use Rattle.std.proofs.Common.{sym, subst}
use Rattle.mmtext.specs.Takings.{TakesWord}
use Rattle.mmtext.specs.Views.{seen}
use Rattle.source.specs.Faults.{source_language}
use Rattle.source.specs.Views.{seen_words}
use Rattle.sourcereader.specs.declared.place.Place.TheVariants.{InHypothesis, InAxiom, InTheorem}
use Rattle.sourcereader.specs.Standing.{IsCounted}
use Rattle.sourcereader.specs.Views.{seen_at}
use Rattle.sourcereader.proofs.Taken.{hypothesis_taken, axiom_taken, theorem_taken}
use Rattle.sourcereader.proofs.words.take_in_place.Goals as goal

pub returns-in-InHypothesis-clause-taken : goal.returns-in-InHypothesis-clause-taken
returns-in-InHypothesis-clause-taken g c =
    let stand = g.S.Standing.stand c.args.standing.now in
    let t = seen c.args.token in
    let here = c.in-InHypothesis in
    let r = c.take_symbol in
    let next = seen_at stand (InHypothesis here.field-0 r.new.words) in
    subst (λ p. TakesWord source_language (seen_at stand p) t next r.result) (sym here.is)
    (hypothesis_taken stand here.field-0.now t (seen_words here.words.items) (seen_words r.new.words.items) r.result r.ensures.taken)

pub returns-in-InAxiom-clause-taken : goal.returns-in-InAxiom-clause-taken
returns-in-InAxiom-clause-taken g c =
    let stand = g.S.Standing.stand c.args.standing.now in
    let t = seen c.args.token in
    let here = c.in-InAxiom in
    let r = c.take_symbol-in-InAxiom in
    subst (λ p. TakesWord source_language (seen_at stand p) t (seen_at stand (InAxiom here.field-0 r.new.words)) r.result) (sym here.is)
    (axiom_taken stand here.field-0.now t (seen_words here.words.items) (seen_words r.new.words.items) r.result r.ensures.taken)

pub returns-in-InTheorem-clause-taken : goal.returns-in-InTheorem-clause-taken
returns-in-InTheorem-clause-taken g c =
    let stand = g.S.Standing.stand c.args.standing.now in
    let t = seen c.args.token in
    let here = c.in-InTheorem in
    let r = c.take_symbol-in-InTheorem in
    subst (λ p. TakesWord source_language (seen_at stand p) t (seen_at stand (InTheorem here.field-0 r.new.words)) r.result) (sym here.is)
    (theorem_taken stand here.field-0.now t (seen_words here.words.items) (seen_words r.new.words.items) r.result r.ensures.taken)

pub returns-in-InAxiom-clause-counted : goal.returns-in-InAxiom-clause-counted
returns-in-InAxiom-clause-counted g c =
    let scope = (g.S.Standing.stand c.args.standing.now).scope in
    let marks = g.S.Standing.marks c.args.standing.now in
    c.take_symbol-in-InAxiom.ensures.marks (subst (IsCounted scope marks) c.in-InAxiom.is c.requires.counted)

pub returns-in-InTheorem-clause-counted : goal.returns-in-InTheorem-clause-counted
returns-in-InTheorem-clause-counted g c =
    let scope = (g.S.Standing.stand c.args.standing.now).scope in
    let marks = g.S.Standing.marks c.args.standing.now in
    c.take_symbol-in-InTheorem.ensures.marks (subst (IsCounted scope marks) c.in-InTheorem.is c.requires.counted)
