-- What is left to show of `cited`.
use Rattle.std.proofs.Common.{◌≡◌, ◌∙◌, Bool, true, false, cond, [], ◌∷◌, ◌++◌, None, Some, Err, ap, refl, sym, rules}
use Rattle.std.specs.Result.{result_err}
use Rattle.std.specs.List.{list_any}
use Rattle.std.specs.Str.{bytes_eq}
use Rattle.mmtext.specs.declared.fault.FaultKind.{FaultKind}
use Rattle.mmtext.specs.declared.fault.FaultKind.TheVariants.{BadToken}
use Rattle.mmsyntax.specs.Rows.{Tests, first_fault}
use Rattle.source.specs.Scopes.{label_of, mandatory}
use Rattle.source.specs.Tests.{named_tests}
use Rattle.scopes.specs.Views.{kept_of, scope_of}
use Rattle.scopes.proofs.labels.cited.Goals as goal

-- the fault of tests that pass and then others
behind_tests : (ts us : Tests) → first_fault ts ≡ None → first_fault (ts ++ us) ≡ first_fault us
behind_tests [] us h = refl
behind_tests (t ∷ ts) us h =
    let head : (b : Bool) → cond b (Some t.1) (first_fault ts) ≡ None → cond b (Some t.1) (first_fault (ts ++ us)) ≡ first_fault us =
    λ b. elim b as (λ b. cond b (Some t.1) (first_fault ts) ≡ None → cond b (Some t.1) (first_fault (ts ++ us)) ≡ first_fault us) [
      | true ↦ λ e. absurd cc
      | false ↦ λ e. behind_tests ts us e
    ] in
    head t.0 h

-- the fault of tests, whatever stands behind them
front_tests : (ts us : Tests) (f : FaultKind) → first_fault ts ≡ Some f → first_fault (ts ++ us) ≡ Some f
front_tests [] us f h = absurd cc
front_tests (t ∷ ts) us f h =
    let head : (b : Bool) → cond b (Some t.1) (first_fault ts) ≡ Some f → cond b (Some t.1) (first_fault (ts ++ us)) ≡ Some f =
    λ b. elim b as (λ b. cond b (Some t.1) (first_fault ts) ≡ Some f → cond b (Some t.1) (first_fault (ts ++ us)) ≡ Some f) [
      | true ↦ λ e. e
      | false ↦ λ e. front_tests ts us f e
    ] in
    head t.0 h

pub returns-in_err-citation-clause-fault : goal.returns-in_err-citation-clause-fault
returns-in_err-citation-clause-fault c = λ e marks.
    let s = scope_of (kept_of c.args.tables.now) in
    let w = c.args.word.now in
    let same : c.from_residual.result ≡ Err c.in_err-citation.field-0.0 = search rules in
    ap result_err same
    ∙ sym (front_tests (named_tests s w) ((list_any (λ h. bytes_eq w (label_of h)) (mandatory s.hypotheses e), BadToken) ∷ []) _
    (sym c.in_err-citation.ensures.fault))

pub returns-then-is_marked_label-clause-fault : goal.returns-then-is_marked_label-clause-fault
returns-then-is_marked_label-clause-fault c = λ e marks.
    let s = scope_of (kept_of c.args.tables.now) in
    let w = c.args.word.now in
    let label = sym (c.is_marked_label.ensures e marks) ∙ c.if-is_marked_label.true in
    sym (behind_tests (named_tests s w) ((list_any (λ h. bytes_eq w (label_of h)) (mandatory s.hypotheses e), BadToken) ∷ [])
    (sym c.in_ok-citation.ensures.fault)
    ∙ ap (λ b. cond b (Some BadToken) None) label)

pub returns-else-is_marked_label-clause-fault : goal.returns-else-is_marked_label-clause-fault
returns-else-is_marked_label-clause-fault c = λ e marks.
    let s = scope_of (kept_of c.args.tables.now) in
    let w = c.args.word.now in
    let label = sym (c.is_marked_label.ensures e marks) ∙ c.if-is_marked_label.false in
    sym (behind_tests (named_tests s w) ((list_any (λ h. bytes_eq w (label_of h)) (mandatory s.hypotheses e), BadToken) ∷ [])
    (sym c.in_ok-citation.ensures.fault)
    ∙ ap (λ b. cond b (Some BadToken) None) label)
