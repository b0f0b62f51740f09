use Rattle.std.proofs.Common.{rules, ◌≡◌, List, ℕ, true, false, length, refl, sym, ap, ◌∙◌}
use Rattle.std.specs.Prelude.{nat_le}
use Rattle.std.proofs.lemmas.Bool.{ne_eqb}
use Rattle.mmsyntax.specs.declared.statement.Kind.{Kind}
use Rattle.mmsyntax.specs.declared.statement.Kind.TheVariants.{Axiom, Theorem}
use Rattle.library.specs.declared.library.Ranked.{Ranked}
use Rattle.library.specs.declared.reason.Reason.TheVariants as reason
use Rattle.library.specs.Library.{Setting}
use Rattle.library.specs.Edits.{is_axiom, where_so, label_tests, proof_tests}
use Rattle.history.specs.Drafts.{now_in}
use Rattle.history.specs.Refusals.{first_reason}
use Rattle.history.proofs.Commands.{so, not_so, first-some, first-none, first-some_more, first-none_more, add_labelled, add_front}
use Rattle.history.proofs.draft.Draft.refuse_add.Goals as goal

not_axiom : (k : Kind) → (k ≡ Axiom → ⊥) → is_axiom k ≡ false
not_axiom Axiom h = absurd (h refl)
not_axiom Theorem h = refl

-- the tests of a label, of a label that is equal
as_label : (s : Setting) (lib : List Ranked) (v w : List ℕ) → v ≡ w
    → first_reason (label_tests s lib w w) ≡ first_reason (label_tests s lib v v)
as_label s lib v w e = ap (λ x. first_reason (label_tests s lib x x)) (sym e)

pub returns-in-Some : goal.returns-in-Some
returns-in-Some c =
    let d = c.args.self.now in
    let s = d.setting in
    let lib = now_in d in
    let a = c.args.assertion.now in
    let rank = c.args.rank in
    let ranked = ne_eqb rank 0 c.if-rank-eq0.false in
    let labelled = as_label s lib c.as_slice-label.result.now a.label c.as_slice-label.ensures ∙ sym c.refuse_label.ensures in
    sym (add_labelled s lib rank a c.in-Some.reason ranked (labelled ∙ c.in-Some.is))

pub returns-in-Axiom : goal.returns-in-Axiom
returns-in-Axiom c =
    let d = c.args.self.now in
    let s = d.setting in
    let lib = now_in d in
    let a = c.args.assertion.now in
    let rank = c.args.rank in
    let ranked = ne_eqb rank 0 c.if-rank-eq0.false in
    let labelled = as_label s lib c.as_slice-label.result.now a.label c.as_slice-label.ensures ∙ sym c.refuse_label.ensures in
    let front = add_front s lib rank a ranked (labelled ∙ c.in_default.is) in
    sym (front ∙ first-some (where_so (is_axiom a.kind) reason.AxiomNotAllowed) _ reason.AxiomNotAllowed
    (so (is_axiom a.kind) reason.AxiomNotAllowed (ap is_axiom c.in-Axiom.is)))

pub returns-in-Some-2 : goal.returns-in-Some-2
returns-in-Some-2 c =
    let d = c.args.self.now in
    let s = d.setting in
    let lib = now_in d in
    let a = c.args.assertion.now in
    let rank = c.args.rank in
    let ranked = ne_eqb rank 0 c.if-rank-eq0.false in
    let labelled = as_label s lib c.as_slice-label.result.now a.label c.as_slice-label.ensures ∙ sym c.refuse_label.ensures in
    let front = add_front s lib rank a ranked (labelled ∙ c.in_default.is) in
    let theorem = first-none (where_so (is_axiom a.kind) reason.AxiomNotAllowed) _
    (not_so (is_axiom a.kind) reason.AxiomNotAllowed (not_axiom a.kind c.in_default-kind.not-Axiom)) in
    sym (front ∙ theorem ∙ first-some_more (proof_tests s lib rank a) _ c.in-Some-2.reason (sym c.in_ok-reason.ensures ∙ c.in-Some-2.is))

pub returns-then-self : goal.returns-then-self
returns-then-self c =
    let d = c.args.self.now in
    let s = d.setting in
    let lib = now_in d in
    let a = c.args.assertion.now in
    let rank = c.args.rank in
    let ranked = ne_eqb rank 0 c.if-rank-eq0.false in
    let labelled = as_label s lib c.as_slice-label.result.now a.label c.as_slice-label.ensures ∙ sym c.refuse_label.ensures in
    let full : nat_le s.slots (length lib) ≡ true = search rules in
    let front = add_front s lib rank a ranked (labelled ∙ c.in_default.is) in
    let theorem = first-none (where_so (is_axiom a.kind) reason.AxiomNotAllowed) _
    (not_so (is_axiom a.kind) reason.AxiomNotAllowed (not_axiom a.kind c.in_default-kind.not-Axiom)) in
    sym (front ∙ theorem ∙ first-none_more (proof_tests s lib rank a) _ (sym c.in_ok-reason.ensures ∙ c.in_default-2.is)
    ∙ first-some (where_so (nat_le s.slots (length lib)) reason.LibraryFull) _ reason.LibraryFull
    (so (nat_le s.slots (length lib)) reason.LibraryFull full))

pub returns : goal.returns
returns c =
    let d = c.args.self.now in
    let s = d.setting in
    let lib = now_in d in
    let a = c.args.assertion.now in
    let rank = c.args.rank in
    let ranked = ne_eqb rank 0 c.if-rank-eq0.false in
    let labelled = as_label s lib c.as_slice-label.result.now a.label c.as_slice-label.ensures ∙ sym c.refuse_label.ensures in
    let room : nat_le s.slots (length lib) ≡ false = search rules in
    let front = add_front s lib rank a ranked (labelled ∙ c.in_default.is) in
    let theorem = first-none (where_so (is_axiom a.kind) reason.AxiomNotAllowed) _
    (not_so (is_axiom a.kind) reason.AxiomNotAllowed (not_axiom a.kind c.in_default-kind.not-Axiom)) in
    sym (front ∙ theorem ∙ first-none_more (proof_tests s lib rank a) _ (sym c.in_ok-reason.ensures ∙ c.in_default-2.is)
    ∙ first-none (where_so (nat_le s.slots (length lib)) reason.LibraryFull) _
    (not_so (nat_le s.slots (length lib)) reason.LibraryFull room))
