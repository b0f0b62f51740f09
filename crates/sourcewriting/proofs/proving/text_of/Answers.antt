use Rattle.std.proofs.Common.{◌≡◌, ◌∙◌, ◌<◌, IsTrue, sym, ap, subst, List, ℕ, length, Option}
use Rattle.std.specs.Prelude.{All, IfSome, is_some}
use Rattle.std.specs.Borrow.{Bor}
use Rattle.std.proofs.lemmas.List.{length-map}
use Rattle.taking.specs.Listings.{premise_labels}
use Rattle.sourcewriting.specs.Leaving.{LeaveOne, StepTakes}
use Rattle.mmsyntax.specs.declared.limits.TheConstants.{MOST_STEPS}
use Rattle.sourcewriting.specs.Nodes.{AreNodes, AreFew}
use Rattle.sourcewriting.proofs.Stacks.{lettered}
use Rattle.std.proofs.lemmas.List.Elements.{All-nil}
use Rattle.mmtext.specs.Words.{Word}
use Rattle.source.specs.Views.{seen_words}
use Rattle.sourcewriting.specs.declared.shared.CountedLabel.{CountedLabel}
use Rattle.sourcewriting.specs.Counting.{Takes}
use Rattle.sourcewriting.specs.Reading.{counts_of}
use Rattle.sourcewriting.proofs.Named.{all_named}
use Rattle.sourcewriting.proofs.MarkedProofs.{marked_proof}
use Rattle.sourcewriting.proofs.MarkedWords.{if_some}
use Rattle.sourcewriting.proofs.proving.text_of.Goals as goal

pub returns-in-Some-clause-marked : goal.returns-in-Some-clause-marked
returns-in-Some-clause-marked g c = λ hs are is_compressed.
    let s = g.D.Declared.scope c.args.declared.now in
    let m = c.args.names.now in
    let P : Word × ℕ → Type 0 = λ p. Takes s m hs p.0 p.1 in
    let none = subst (λ (cs : List CountedLabel). All P (counts_of cs)) (sym c.new-shared.ensures.words) (All-nil P) in
    let all = c.in_ok-root.ensures.taken hs (ap seen_words c.as_slice-premises.ensures.value ∙ are.premises) none in
    if_some c.text_in_form.result
    (λ text is.
    marked_proof c.args.indentation.now s m hs (seen_words c.as_slice-mandatory.result.now) c.put_nodes.new.shared.words.items text.items
    (ap seen_words c.as_slice-mandatory.ensures.value ∙ are.mandatory) all is)
    (c.text_in_form.ensures.marked is_compressed)

pub returns-in-Some-clause-some : goal.returns-in-Some-clause-some
returns-in-Some-clause-some g c = λ hs are can.
    let s = g.D.Declared.scope c.args.declared.now in
    let m = c.args.names.now in
    let P : Word × ℕ → Type 0 = λ p. Takes s m hs p.0 p.1 in
    let none = subst (λ (cs : List CountedLabel). All P (counts_of cs)) (sym c.new-shared.ensures.words) (All-nil P) in
    let premises = ap seen_words c.as_slice-premises.ensures.value ∙ are.premises in
    let mandatory = ap seen_words c.as_slice-mandatory.ensures.value ∙ are.mandatory in
    let all = c.in_ok-root.ensures.taken hs premises none in
    let few = subst (λ (o : Option ℕ). IfSome o (λ _. AreFew MOST_STEPS c.new-shared.result c.put_nodes.new.shared)) c.in-Some.is
    c.in_ok-root.ensures.few in
    c.text_in_form.ensures.some (all_named s m hs c.put_nodes.new.shared can.0.names all)
    (λ is.
    let made = subst
    (λ (o : Option ℕ). IfSome o (λ root. AreNodes c.put_nodes.new.shared × (root < length c.put_nodes.new.shared.nodes.items))) c.in-Some.is
    (c.in_ok-root.ensures.nodes hs premises none (can.1 is) c.new-shared.ensures.sound) in
    lettered s m hs c.new-shared.result c.put_nodes.new.shared (seen_words c.as_slice-mandatory.result.now) c.in-Some.root mandatory all
    (can.1 is) c.new-shared.ensures.words c.new-shared.ensures.nodes few made.0 made.1)

pub returns-clause-some : goal.returns-clause-some
returns-clause-some g c = λ hs are can.
    let s = g.D.Declared.scope c.args.declared.now in
    let m = c.args.names.now in
    let premises = c.as_slice-premises.result.now in
    let many : length (premise_labels hs) ≡ length premises =
    sym (ap length (ap seen_words c.as_slice-premises.ensures.value ∙ are.premises)) ∙ length-map premises (λ (w : Bor (List ℕ)). w.now) in
    let one = c.in_ok-root.ensures.one can.0.few (subst (λ n. LeaveOne (StepTakes s m n) c.args.steps.now) many can.0.one) in
    subst (λ (o : Option ℕ). IsTrue (is_some o)) c.in-None.is one
