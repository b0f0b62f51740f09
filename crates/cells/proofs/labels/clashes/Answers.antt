use Rattle.std.proofs.Common.{◌≡◌, sym, ◌∙◌, inl, inr}
use Rattle.mmsyntax.specs.Dotted.{trunk}
use Rattle.mmsyntax.proofs.Names.{same_bytes}
use Rattle.cells.proofs.Sights.{looks_trans}
use Rattle.cells.proofs.Asking.{nothing_trans}
use Rattle.cells.proofs.Bodies.{knows_later}
use Rattle.cells.proofs.Clashing.{differs, clash_front, clash_other}
use Rattle.cells.proofs.labels.clashes.Goals as goal

pub returns-then-eq-clause-same : goal.returns-then-eq-clause-same
returns-then-eq-clause-same g c = λ words k.
    let label = c.args.label.now in
    let whole : trunk label ≡ label = sym c.trunk-front.ensures
    ∙ same_bytes c.trunk-front.result.now label (sym c.eq.ensures ∙ c.if-eq.true) in
    c.has_dotted.ensures.same words k ∙ clash_other words label (inl whole)

pub returns-then-has_words-clause-same : goal.returns-then-has_words-clause-same
returns-then-has_words-clause-same g c = λ words k.
    let label = c.args.label.now in
    let front = c.trunk-front.result.now in
    let is : front ≡ trunk label = c.trunk-front.ensures in
    let part = differs front label (sym c.eq.ensures ∙ c.if-eq.false) in
    let iff = c.has_words.ensures.same words k in
    c.if-has_words.true ∙ sym (clash_front words label (λ e. part (is ∙ e)) (iff.0 c.if-has_words.true ∙ is))

pub has_dotted-requires-else-has_words : goal.has_dotted-requires-else-has_words
has_dotted-requires-else-has_words g c = (c.requires.0, knows_later _ _ _ _ c.has_words.ensures.looks.onward c.requires.1)

pub returns-else-has_words-clause-looks : goal.returns-else-has_words-clause-looks
returns-else-has_words-clause-looks g c = looks_trans _ _ _ c.has_words.ensures.looks c.has_dotted-else-has_words.ensures.looks

pub returns-else-has_words-clause-reads : goal.returns-else-has_words-clause-reads
returns-else-has_words-clause-reads g c = nothing_trans c.has_words.ensures.reads c.has_dotted-else-has_words.ensures.reads

pub returns-else-has_words-clause-same : goal.returns-else-has_words-clause-same
returns-else-has_words-clause-same g c = λ words k.
    let label = c.args.label.now in
    let is : c.trunk-front.result.now ≡ trunk label = c.trunk-front.ensures in
    let iff = c.has_words.ensures.same words k in
    c.has_dotted-else-has_words.ensures.same words (knows_later _ _ _ _ c.has_words.ensures.looks.onward k)
    ∙ clash_other words label (inr (λ e. let yes = iff.1 (e ∙ sym is) in let no = c.if-has_words.false in absurd cc))
