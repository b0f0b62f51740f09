use Rattle.std.proofs.Common.{sym, ◌∙◌, inl, inr, arith}
use Rattle.cells.proofs.Sights.{looks_trans}
use Rattle.cells.proofs.Asking.{nothing_trans}
use Rattle.cells.proofs.Bodies.{knows_later}
use Rattle.cells.proofs.DottedTails.{none_of_empty, none_shorter, none_of_tail, told_by_front, filled}
use Rattle.cells.proofs.words.has_dotted.Goals as goal

pub returns-then-is_empty-clause-same : goal.returns-then-is_empty-clause-same
returns-then-is_empty-clause-same g c = λ words k.
    let len = k.len in
    let label = c.args.label.now in
    elim c.then-is_empty.either [
      | inl empty ↦ none_of_empty label words (sym c.is_empty.ensures ∙ empty)
      | inr short ↦ none_shorter label words (omega (arith, short.1, len))
    ]

pub begins_with-requires-clause-known : goal.begins_with-requires-clause-known
begins_with-requires-clause-known g c =
    let looks = c.is_numbered.ensures.looks in
    (c.requires.0, knows_later _ _ _ _ looks.onward c.requires.1)

pub returns-then-is_numbered-clause-looks : goal.returns-then-is_numbered-clause-looks
returns-then-is_numbered-clause-looks g c = looks_trans _ _ _ c.is_numbered.ensures.looks c.begins_with.ensures.looks

pub returns-then-is_numbered-clause-reads : goal.returns-then-is_numbered-clause-reads
returns-then-is_numbered-clause-reads g c = nothing_trans c.is_numbered.ensures.reads c.begins_with.ensures.reads

pub returns-then-is_numbered-clause-same : goal.returns-then-is_numbered-clause-same
returns-then-is_numbered-clause-same g c = λ words k.
    let looks = c.is_numbered.ensures.looks in
    let label = c.args.label.now in
    let iff = c.begins_with.ensures.same words (knows_later _ _ _ _ looks.onward k) in
    told_by_front label words c.begins_with.result (filled label (sym c.is_empty.ensures ∙ c.if-is_empty.false))
    (sym (c.is_numbered.ensures.same words k) ∙ c.if-is_numbered.true) iff.0 iff.1

pub returns-else-is_numbered-clause-same : goal.returns-else-is_numbered-clause-same
returns-else-is_numbered-clause-same g c = λ words k.
    c.if-is_numbered.false ∙ none_of_tail c.args.label.now words (sym (c.is_numbered.ensures.same words k) ∙ c.if-is_numbered.false)
