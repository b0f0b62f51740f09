-- What is left to show of `put_part`.
use Rattle.std.proofs.Common.{◌≡◌, ◌∙◌, ◌++◌, List, map, true, false, refl, sym, ap, subst, Some}
use Rattle.mmtext.specs.Text.{Token}
use Rattle.mmtext.specs.Views.{seen}
use Rattle.expanding.specs.Views.{IsLaid}
use Rattle.pasting.specs.Views.{IsProving, IsProvingIf, places_by, seen_given}
use Rattle.pasting.specs.Proofs.{is_compressed}
use Rattle.pasting.specs.Pasted.{Proving, fault_of, pasted, proving}
use Rattle.pasting.specs.declared.given.Given.TheVariants.{Faulty}
use Rattle.pasting.proofs.Pasting.{pasted_is, fault_is, with_told}
use Rattle.pasting.proofs.paster.Paster.put_part.Goals as goal
use Rattle.pasting.proofs.paster.Paster.put_part.Goals.{in-Steps+in_ok-put_given-in-Steps, in-Untaken+in_ok-put_words-in-Untaken, in-Faulty+else-is_compressed+in_ok-put_words-in-Faulty}

pub returns-then-is_compressed-clause-faulty : goal.returns-then-is_compressed-clause-faulty
returns-then-is_compressed-clause-faulty g c = λ xs known.
    let s = g.D.Declared.scope c.args.declared.now in
    let m = places_by c.args.self.now in
    let t = c.args.self.now.database.now.prelude in
    let p = map seen c.args.part.now in
    let is : IsProvingIf m t s (Some c.in-Some.proving) (proving m t s xs p) =
    subst (λ o. IsProvingIf m t s o (proving m t s xs p)) c.in-Some.is (c.in_ok-proving.ensures.proving m t xs known) in
    sym (fault_is m t s xs p c.in-Some.proving (Faulty c.in-Faulty.word c.in-Faulty.kind) true is
    (λ r i. ap seen_given (sym c.in-Faulty.is) ∙ c.in_ok-steps.ensures xs r known i)
    (sym c.if-is_compressed.true ∙ c.is_compressed.ensures))

pub returns-clause-pasted : goal.returns-clause-pasted
returns-clause-pasted g c = λ xs known ts laid.
    let s = g.D.Declared.scope c.args.declared.now in
    let m = places_by c.args.self.now in
    let t = c.args.self.now.database.now.prelude in
    let p = map seen c.args.part.now in
    let r = c.in-Some.proving in
    let is : IsProvingIf m t s (Some r) (proving m t s xs p) =
    subst (λ o. IsProvingIf m t s o (proving m t s xs p)) c.in-Some.is (c.in_ok-proving.ensures.proving m t xs known) in
    let all : with_told t p r c.in_ok-steps.field-0 ≡ pasted m t s xs p =
    pasted_is m t s xs p r c.in_ok-steps.field-0 is (λ q i. c.in_ok-steps.ensures xs q known i) in
    elim c.match-branch-5.branch [
      | in-Steps+in_ok-put_given-in-Steps w ↦
          subst (IsLaid (ts ++ pasted m t s xs p)) (sym w.laid-is)
          (subst (λ (us : List Token). IsLaid (ts ++ us) w.put_given.new.laid) (ap (with_told t p r) (sym w.in-Steps.is) ∙ all)
          (w.in_ok-put_given-in-Steps.ensures ts laid))
      | in-Untaken+in_ok-put_words-in-Untaken w ↦
          subst (IsLaid (ts ++ pasted m t s xs p)) (sym w.laid-is)
          (subst (λ (us : List Token). IsLaid (ts ++ us) w.put_words-in-Untaken.new.self) (ap (with_told t p r) (sym w.in-Untaken.is) ∙ all)
          (w.in_ok-put_words-in-Untaken.ensures.laid ts laid))
      | in-Faulty+else-is_compressed+in_ok-put_words-in-Faulty w ↦
          subst (IsLaid (ts ++ pasted m t s xs p)) (sym w.laid-is)
          (subst (λ (us : List Token). IsLaid (ts ++ us) w.put_words-in-Faulty.new.self) (ap (with_told t p r) (sym w.in-Faulty.is) ∙ all)
          (w.in_ok-put_words-in-Faulty.ensures.laid ts laid))
    ]

pub returns-clause-fits : goal.returns-clause-fits
returns-clause-fits g c = λ xs known.
    let s = g.D.Declared.scope c.args.declared.now in
    let m = places_by c.args.self.now in
    let t = c.args.self.now.database.now.prelude in
    let p = map seen c.args.part.now in
    let r = c.in-Some.proving in
    let is : IsProvingIf m t s (Some r) (proving m t s xs p) =
    subst (λ o. IsProvingIf m t s o (proving m t s xs p)) c.in-Some.is (c.in_ok-proving.ensures.proving m t xs known) in
    let b = is_compressed (map seen r.cut.proof.now) in
    let told = λ (q : Proving) (i : IsProving m t s r q). c.in_ok-steps.ensures xs q known i in
    elim c.match-branch-5.branch [
      | in-Steps+in_ok-put_given-in-Steps w ↦
          sym (ap (λ o. fault_of b (seen_given o)) (sym w.in-Steps.is) ∙ fault_is m t s xs p r c.in_ok-steps.field-0 b is told refl)
      | in-Untaken+in_ok-put_words-in-Untaken w ↦
          sym (ap (λ o. fault_of b (seen_given o)) (sym w.in-Untaken.is) ∙ fault_is m t s xs p r c.in_ok-steps.field-0 b is told refl)
      | in-Faulty+else-is_compressed+in_ok-put_words-in-Faulty w ↦
          sym (ap (λ o. fault_of false (seen_given o)) (sym w.in-Faulty.is)
          ∙ fault_is m t s xs p r c.in_ok-steps.field-0 false is told (sym w.if-is_compressed.false ∙ w.is_compressed.ensures))
    ]
