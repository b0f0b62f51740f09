-- What is left to show of `symbol_fault`.
use Rattle.std.proofs.Common.{◌≡◌, ◌∙◌, [], ◌∷◌, ◌++◌, subst}
use Rattle.mmsyntax.specs.Rows.{first_fault}
use Rattle.source.specs.Counts.{mandatory_marks}
use Rattle.source.specs.Scopes.{Scope}
use Rattle.source.specs.Tests.{symbol_tests}
use Rattle.source.specs.Views.{seen_words}
use Rattle.scopes.specs.Views.{kept_of, marks_of}
use Rattle.scopes.proofs.Seeing.{seen_scope, seen_marks}
use Rattle.scopes.proofs.scopes.ScopesStanding.symbol_fault.Goals as goal

pub returns-clause-fault : goal.returns-clause-fault
returns-clause-fault c =
    let w = c.args.word.now in
    subst (λ (s : Scope). c.symbol_fault.result ≡ first_fault (symbol_tests s (seen_words c.args.others.now) w))
    (seen_scope (kept_of c.self.inside.tables) c.args.self.now c.self.view_is) c.symbol_fault.ensures.fault

pub returns-clause-marks : goal.returns-clause-marks
returns-clause-marks c = λ marks.
    let k = kept_of c.self.inside.tables in
    let ws = seen_words c.args.others.now in
    let known = subst (λ (s : Scope). marks_of k ≡ mandatory_marks s ws
    → marks_of (kept_of c.symbol_fault.new.tables) ≡ mandatory_marks s (ws ++ c.args.word.now ∷ []))
    (seen_scope k c.args.self.now c.self.view_is) c.symbol_fault.ensures.marks in
    known (seen_marks k c.args.self.now c.self.view_is ∙ marks)
