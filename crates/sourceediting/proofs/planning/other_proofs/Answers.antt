-- What is left to show of `other_proofs`.
use Rattle.std.proofs.Common.{sym, subst}
use Rattle.std.specs.Borrow.{Bor}
use Rattle.std.specs.Prelude.{All, IfSome, List, ℕ}
use Rattle.mmsyntax.specs.declared.statement.Assertion.{Assertion}
use Rattle.items.specs.Walking.{AreIndentations}
use Rattle.sourceediting.specs.Reproved.{ListsAnew}
use Rattle.sourceediting.specs.Views.{seen_living, edition_of}
use Rattle.sourceediting.proofs.planning.other_proofs.Goals as goal

pub returns-clause-made : goal.returns-clause-made
returns-clause-made g c =
    let source = c.args.source.now in
    let e = edition_of c.args.planned.now in
    let living = seen_living c.args.planned.now.living.now in
    let Anew : Bor (List ℕ) × Bor Assertion → Type 0 = λ p. ListsAnew e living p.0.now p.1.now in
    let all = subst (All Anew) (sym c.as_slice.ensures.value) c.in_ok-others.ensures in
    let indented = subst (λ o. IfSome o (AreIndentations source)) c.in-Some.is c.in_ok-indented.ensures.indentations in
    c.texts_of.ensures.made source e living indented c.requires.names all

pub returns-clause-refused : goal.returns-clause-refused
returns-clause-refused g c = λ text.
    let e = edition_of c.args.planned.now in
    let living = seen_living c.args.planned.now.living.now in
    let Anew : Bor (List ℕ) × Bor Assertion → Type 0 = λ p. ListsAnew e living p.0.now p.1.now in
    let all = subst (All Anew) (sym c.as_slice.ensures.value) c.in_ok-others.ensures in
    c.texts_of.ensures.refused e living text all

pub returns-clause-unwritten : goal.returns-clause-unwritten
returns-clause-unwritten g c = λ steps.
    let e = edition_of c.args.planned.now in
    let living = seen_living c.args.planned.now.living.now in
    let Anew : Bor (List ℕ) × Bor Assertion → Type 0 = λ p. ListsAnew e living p.0.now p.1.now in
    let all = subst (All Anew) (sym c.as_slice.ensures.value) c.in_ok-others.ensures in
    c.texts_of.ensures.unwritten e living c.requires.names steps all
