-- What is left to show of `finding_of`.
use Rattle.std.proofs.Common.{◌≡◌, ◌∙◌, ℕ, Option, Some, None, take, refl, sym, ap, subst as transport}
use Rattle.std.specs.Prelude.{slice_get}
use Rattle.std.specs.Str.{bytes_eq}
use Rattle.std.proofs.lemmas.Option.{same_Some}
use Rattle.mmsyntax.proofs.FirstPlace.{place_within}
use Rattle.derivation.specs.declared.fault.ProofFault.{ProofFault}
use Rattle.verifying.specs.Faults.{fault_of}
use Rattle.explaining.specs.declared.finding.Explained.{Explained}
use Rattle.explaining.specs.Findings.{kind_of, HasFinding, IsExplained}
use Rattle.verifytext.proofs.FirstFaults.{fault_is_at, placed_by_label}
use Rattle.verifytext.proofs.verifying_text.finding_of.Goals as goal

pub unreachable-requires : goal.unreachable-requires
unreachable-requires c =
    let s = c.args.scopes.now.stand.scope in
    let f = fault_is_at s c.args.label.now c.args.fault c.requires.faulty in
    let placed = placed_by_label s c.requires.whole f.place f.assertion c.args.label.now f.stands f.labelled in
    let wrong : Some f.place ≡ None = sym placed ∙ sym c.place_of.ensures ∙ c.in_default.is in
    absurd cc

pub explain-requires : goal.explain-requires
explain-requires c κs =
    let s = c.args.scopes.now.stand.scope in (
      (refl, tt),
      (
        c.requires.whole,
        place_within (λ a. bytes_eq c.args.label.now a.label) s.assertions c.in-Some.place
            (sym c.place_of.ensures ∙ c.in-Some.is),
      ),
    )

pub unreachable-requires-in-None : goal.unreachable-requires-in-None
unreachable-requires-in-None c =
    let s = c.args.scopes.now.stand.scope in
    let f = fault_is_at s c.args.label.now c.args.fault c.requires.faulty in
    let placed = placed_by_label s c.requires.whole f.place f.assertion c.args.label.now f.stands f.labelled in
    let there : f.place ≡ c.in-Some.place =
    same_Some f.place c.in-Some.place (sym placed ∙ sym c.place_of.ensures ∙ c.in-Some.is) in
    let at : slice_get s.assertions c.in-Some.place ≡ Some f.assertion = ap (slice_get s.assertions) (sym there) ∙ f.stands in
    let its : fault_of (take c.in-Some.place s.assertions) f.assertion ≡ Some c.args.fault =
    ap (λ k. fault_of (take k s.assertions) f.assertion) (sym there) ∙ f.is_its in
    let none : fault_of (take c.in-Some.place s.assertions) f.assertion ≡ None =
    transport (λ (o : Option Explained). IsExplained (take c.in-Some.place s.assertions) f.assertion o) c.in-None.is
    (c.in_ok-explained.ensures f.assertion at) in
    absurd cc

pub returns : goal.returns
returns c =
    let s = c.args.scopes.now.stand.scope in
    let f = fault_is_at s c.args.label.now c.args.fault c.requires.faulty in
    let placed = placed_by_label s c.requires.whole f.place f.assertion c.args.label.now f.stands f.labelled in
    let there : f.place ≡ c.in-Some.place =
    same_Some f.place c.in-Some.place (sym placed ∙ sym c.place_of.ensures ∙ c.in-Some.is) in
    let at : slice_get s.assertions c.in-Some.place ≡ Some f.assertion = ap (slice_get s.assertions) (sym there) ∙ f.stands in
    let its : fault_of (take c.in-Some.place s.assertions) f.assertion ≡ Some c.args.fault =
    ap (λ k. fault_of (take k s.assertions) f.assertion) (sym there) ∙ f.is_its in
    let e = c.in-Some-2.explained in
    let has : HasFinding (take c.in-Some.place s.assertions) f.assertion e.step e.finding =
    transport (λ (o : Option Explained). IsExplained (take c.in-Some.place s.assertions) f.assertion o) c.in-Some-2.is
    (c.in_ok-explained.ensures f.assertion at) in
    let own : ProofFault = record { step = e.step; kind = kind_of e.finding } in
    let steps : e.step ≡ c.args.fault.step =
    ap (λ (g : ProofFault). g.step) (same_Some own c.args.fault (sym has.fault ∙ its)) in
    record {
      is_first = c.requires.faulty;
      place = c.in-Some.place;
      assertion = f.assertion;
      stands = at;
      labelled = f.labelled;
      finds = transport (λ (n : ℕ). HasFinding (take c.in-Some.place s.assertions) f.assertion n e.finding) steps has;
    }
