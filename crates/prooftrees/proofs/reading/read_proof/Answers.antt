-- What is left to show of `read_proof`.
use Rattle.std.proofs.Common.{◌≡◌, ◌∙◌, ℕ, false, map, arith, inl, inr, List, Option, Some, None, take, refl, sym, ap, subst}
use Rattle.std.specs.Prelude.{slice_get, All, MatchOption}
use Rattle.std.specs.Option.{option_map}
use Rattle.std.proofs.lemmas.Option.{slice_get_cases}
use Rattle.source.specs.Statements.{Proof}
use Rattle.source.specs.Scopes.{Hypothesis, Assertion, Scope}
use Rattle.source.specs.Whole.{IsWhole}
use Rattle.source.specs.Proofs.{denoted, is_unfinished}
use Rattle.source.specs.Views.{seen_proof, seen_hypotheses}
use Rattle.prooftrees.specs.declared.form.ProofTree.{ProofTree}
use Rattle.taking.specs.Names.{Map}
use Rattle.mmtext.specs.Words.{Word}
use Rattle.mmsyntax.proofs.Options.{if_there}
use Rattle.source.proofs.Asked.{hypotheses_are, proof_is, whole_at}
use Rattle.taking.specs.Settings.{is_float}
use Rattle.prooftrees.specs.declared.roles.Role.{Role}
use Rattle.taking.specs.Counted.{counted_labels}
use Rattle.prooftrees.specs.Names.{AreEnough, AreFrames, IsKnown, labelled}
use Rattle.prooftrees.specs.Roles.{looks_up, role_of}
use Rattle.prooftrees.specs.Forms.{IsTree}
use Rattle.prooftrees.proofs.Mandatory.{mandatory_enough}
use Rattle.prooftrees.proofs.Whole.{counted_known, tree_there}
use Rattle.prooftrees.proofs.reading.read_proof.Goals as goal

-- the proof of an assertion is its own
own_tree : (m : Map) (earlier : List Assertion) (x : Assertion) (own : Proof) (o : Option ProofTree) → x.proof ≡ Some own
    → MatchOption o (denoted earlier (record x { proof = Some own }) ≡ None) (IsTree m earlier (record x { proof = Some own }))
    → MatchOption o (denoted earlier x ≡ None) (IsTree m earlier x)
own_tree m earlier x own o is h =
    subst
    (λ (p : Option Proof). MatchOption o (denoted earlier (record x { proof = p }) ≡ None) (IsTree m earlier (record x { proof = p })))
    (sym is) h

-- what is read of the proof of the assertion at a place
module _ (s : Scope) (m : Map) (place : ℕ) (x : Assertion) (own : Proof) (o : Option ProofTree) (roles : Word → Option Role)
    (hs ks : List Hypothesis) (whole : IsWhole s) (at : slice_get s.assertions place ≡ Some x) (is : x.proof ≡ Some own)
    (finished : is_unfinished own ≡ false) (same : x.hypotheses ≡ hs) (as_well : x.hypotheses ≡ ks)
    (are : (w : Word) → roles w ≡ role_of hs w) where
  tree_there_is : ((earlier : List Assertion) (y : Assertion)
      → AreFrames earlier (λ w. option_map (λ a. map is_float a.hypotheses) (labelled (take place s.assertions) w))
      → AreEnough earlier y.active roles → y.hypotheses ≡ ks → All (IsKnown earlier y.active) (counted_labels y.hypotheses own)
      → is_unfinished own ≡ false
      → MatchOption o (denoted earlier (record y { proof = Some own }) ≡ None) (IsTree m earlier (record y { proof = Some own })))
      → MatchOption o (denoted (take place s.assertions) x ≡ None) (IsTree m (take place s.assertions) x)
  tree_there_is h =
      own_tree m (take place s.assertions) x own o is
      (h (take place s.assertions) x (λ w. refl)
      (mandatory_enough s place x roles whole at (λ w. are w ∙ ap (λ ls. role_of ls w) (sym same))) as_well
      (counted_known s (take place s.assertions) x own (whole_at s place x whole at) is finished) finished)

pub returns-in_default-clause-form : goal.returns-in_default-clause-form
returns-in_default-clause-form g c =
    let xs = (g.D.Declared.scope c.args.declared.now).assertions in
    if_there (slice_get xs c.args.place)
    (λ x at. proof_is xs c.args.place x at None (sym (ap (option_map (λ p. seen_proof p.now)) c.in_default.is) ∙ c.proof.ensures))

pub returns-then-is_unfinished-clause-form : goal.returns-then-is_unfinished-clause-form
returns-then-is_unfinished-clause-form g c =
    let xs = (g.D.Declared.scope c.args.declared.now).assertions in
    let own = seen_proof c.in-Some.proof.now in
    if_there (slice_get xs c.args.place)
    (λ x at. (
      own,
      proof_is xs c.args.place x at (Some own) (sym (ap (option_map (λ p. seen_proof p.now)) c.in-Some.is) ∙ c.proof.ensures),
      sym c.is_unfinished.ensures ∙ c.if-is_unfinished.true,
    ))

pub unreachable-requires : goal.unreachable-requires
unreachable-requires g c =
    let s = g.D.Declared.scope c.args.declared.now in
    let m = g.P.StepPlaces.places c.args.places.now in
    let own = seen_proof c.in-Some.proof.now in
    let within = c.requires.within in
    let there : (x : Assertion) × (slice_get s.assertions c.args.place ≡ Some x) =
    elim (slice_get_cases s.assertions c.args.place).1 [ inl y ↦ (y.0, y.2) | inr past ↦ absurd (omega arith) ] in
    let x = there.0 in
    let is = proof_is s.assertions c.args.place x there.1 (Some own)
    (sym (ap (option_map (λ p. seen_proof p.now)) c.in-Some.is) ∙ c.proof.ensures) in
    let finished = sym c.is_unfinished.ensures ∙ c.if-is_unfinished.false in
    let hs = seen_hypotheses c.in_ok-mandatory.field-0.items in
    let ks = seen_hypotheses c.in_ok-mandatory-2.mandatory.items in
    let none : denoted (take c.args.place s.assertions) x ≡ None =
    subst (λ (o : Option ProofTree). MatchOption o (denoted (take c.args.place s.assertions) x ≡ None) (IsTree m (take c.args.place
    s.assertions) x)) c.in-None.is
    (tree_there_is s m c.args.place x own c.in_ok-tree.tree (looks_up c.in_ok-roles.roles.roles) hs ks c.requires.whole there.1 is finished
    (hypotheses_are s.assertions c.args.place x there.1 hs c.in_ok-mandatory.ensures)
    (hypotheses_are s.assertions c.args.place x there.1 ks c.in_ok-mandatory-2.ensures) c.in_ok-roles.ensures c.in_ok-tree.ensures.tree) in
    tree_there s (take c.args.place s.assertions) x own (whole_at s c.args.place x c.requires.whole there.1) is finished none

pub returns-clause-form : goal.returns-clause-form
returns-clause-form g c =
    let s = g.D.Declared.scope c.args.declared.now in
    let xs = s.assertions in
    let m = g.P.StepPlaces.places c.args.places.now in
    let own = seen_proof c.in-Some.proof.now in
    let finished = sym c.is_unfinished.ensures ∙ c.if-is_unfinished.false in
    let hs = seen_hypotheses c.in_ok-mandatory.field-0.items in
    let ks = seen_hypotheses c.in_ok-mandatory-2.mandatory.items in
    if_there (slice_get xs c.args.place)
    (λ x at.
    let is = proof_is xs c.args.place x at (Some own) (sym (ap (option_map (λ p. seen_proof p.now)) c.in-Some.is) ∙ c.proof.ensures) in (
      own,
      is,
      finished,
      subst (λ (o : Option ProofTree). MatchOption o (denoted (take c.args.place xs) x ≡ None) (IsTree m (take c.args.place xs) x))
          c.in-Some-tree.is
          (tree_there_is s m c.args.place x own c.in_ok-tree.tree (looks_up c.in_ok-roles.roles.roles) hs ks c.requires.whole at is
          finished (hypotheses_are xs c.args.place x at hs c.in_ok-mandatory.ensures)
          (hypotheses_are xs c.args.place x at ks c.in_ok-mandatory-2.ensures) c.in_ok-roles.ensures c.in_ok-tree.ensures.tree),
    ))
