-- What is left to show of `outcome_at`.
use Rattle.std.proofs.Common.{◌≡◌, ◌∙◌, None, take, ap, subst}
use Rattle.std.proofs.lemmas.Bool.{cond-true}
use Rattle.std.specs.Prelude.{Some, slice_get, IfSome}
use Rattle.prooftrees.specs.declared.form.ProofForm.{ProofForm}
use Rattle.prooftrees.specs.declared.form.ProofForm.TheVariants as form
use Rattle.prooftrees.specs.Forms.{IsForm}
use Rattle.gathering.specs.Outcomes.{HasStepsFor}
use Rattle.source.specs.Proofs.{is_unfinished}
use Rattle.source.specs.Scopes.{Assertion}
use Rattle.taking.specs.declared.reason.Reason.TheVariants.{Unfinished}
use Rattle.taking.specs.Reasons.{reason, reason_of}
use Rattle.gathering.proofs.Forms.{if_so, if_then}
use Rattle.gathering.proofs.proving.outcome_at.Goals as goal

pub returns-in-Absent-clause-frames : goal.returns-in-Absent-clause-frames
returns-in-Absent-clause-frames g c = c.in_ok-read_proof.ensures.frames

pub returns-in-Absent-clause-outcome : goal.returns-in-Absent-clause-outcome
returns-in-Absent-clause-outcome g c =
    let s = g.D.Declared.scope c.args.declared.now in
    let m = g.P.StepPlaces.places c.args.places.now in
    let earlier = take c.args.place s.assertions in
    let o = slice_get s.assertions c.args.place in
    let is : IfSome o (λ x. x.proof ≡ None) =
    subst (λ (f : ProofForm). IfSome o (λ x. IsForm m earlier x f)) c.in-Absent.is c.in_ok-read_proof.ensures.form in
    λ choice are.
    if_then o (λ x. HasStepsFor m choice s x) (λ x. x.proof ≡ None) (λ x. x.proof ≡ None) (λ x none. none) is

pub returns-in-Unfinished-clause-frames : goal.returns-in-Unfinished-clause-frames
returns-in-Unfinished-clause-frames g c = c.in_ok-read_proof.ensures.frames

pub returns-in-Unfinished-clause-outcome : goal.returns-in-Unfinished-clause-outcome
returns-in-Unfinished-clause-outcome g c =
    let s = g.D.Declared.scope c.args.declared.now in
    let m = g.P.StepPlaces.places c.args.places.now in
    let earlier = take c.args.place s.assertions in
    let o = slice_get s.assertions c.args.place in
    let is : IfSome o (λ x. IsForm m earlier x form.Unfinished) =
    subst (λ (f : ProofForm). IfSome o (λ x. IsForm m earlier x f)) c.in-Unfinished.is c.in_ok-read_proof.ensures.form in
    λ choice are.
    if_then o (λ x. HasStepsFor m choice s x) (λ x. IsForm m earlier x form.Unfinished)
    (λ (x : Assertion). reason choice earlier x ≡ Some Unfinished)
    (λ x u. ap (reason_of choice earlier x) u.1 ∙ cond-true (is_unfinished u.0) (Some Unfinished) _ u.2) is

pub returns-in-Tree-clause-outcome : goal.returns-in-Tree-clause-outcome
returns-in-Tree-clause-outcome g c =
    let s = g.D.Declared.scope c.args.declared.now in
    let m = g.P.StepPlaces.places c.args.places.now in
    let earlier = take c.args.place s.assertions in
    let o = slice_get s.assertions c.args.place in
    let is : IfSome o (λ x. IsForm m earlier x (form.Tree c.in-Tree.tree)) =
    subst (λ (f : ProofForm). IfSome o (λ x. IsForm m earlier x f)) c.in-Tree.is c.in_ok-read_proof.ensures.form in
    λ choice are.
    if_so o (λ x. HasStepsFor m choice s x) (λ x. IsForm m earlier x (form.Tree c.in-Tree.tree)) _
    (c.outcome_of_tree.ensures m choice are) is
