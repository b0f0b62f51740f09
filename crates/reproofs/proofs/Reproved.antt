-- The tests of a theorem with another proof, and what becomes of the library where it passes them.
use Rattle.std.proofs.Common.{◌≡◌, ℕ, List, [], ◌++◌, Ok, Err, refl, sym, ap, subst, ◌∙◌}
use Rattle.mmsyntax.specs.declared.statement.Kind.TheVariants.{Axiom, Theorem}
use Rattle.mmsyntax.specs.declared.statement.Step.{Step}
use Rattle.mmsyntax.specs.declared.statement.Assertion.{Assertion}
use Rattle.library.specs.declared.library.Ranked.{Ranked}
use Rattle.library.specs.declared.command.Command.TheVariants as command
use Rattle.library.specs.declared.command.Reply.TheVariants.{Done}
use Rattle.library.specs.declared.reason.Reason.{Reason}
use Rattle.library.specs.declared.reason.Reason.TheVariants as reason
use Rattle.library.specs.Library.{Setting}
use Rattle.library.specs.Edits.{changed, with_proof, is_axiom, done, edit, proof_tests, tested}
use Rattle.library.proofs.Places.{found_in}
use Rattle.bodystore.specs.declared.statement.Statement.{Statement}
use Rattle.bodystore.specs.declared.stored.StoredStep.{StoredStep}
use Rattle.bodystore.specs.Bodies.{statement_of}
use Rattle.cells.specs.State.{State}
use Rattle.cells.specs.Shows.{AreStoredAs}
use Rattle.cells.specs.Sight.{Sight, Views, Onward, Looks, after}
use Rattle.cells.specs.Lookups.{ForEach, ForEachHeld, IsFoundAt}
use Rattle.cells.proofs.Sights.{matches_back, setting_kept}
use Rattle.cells.proofs.ReadBack.{assembled}
use Rattle.cells.specs.Answers.{WritesSome, Does}
use Rattle.groundwork.specs.Changes.{ReprovesAt}
use Rattle.groundwork.specs.Citing.{Passes, Fails}
use Rattle.groundwork.proofs.Seeing.{views_later}
use Rattle.groundwork.proofs.Refusing.{first_refuses, first_passes, of_some}

-- the assertion of a statement, with a label and a proof
abbrev pub titled : List ℕ → Statement → List Step → Assertion
titled label made proof =
    record { label = label; kind = made.kind; pairs = made.pairs; hyps = made.hyps; statement = made.statement; proof = proof }

pub retitled : (made : Statement) (label own : List ℕ) (proof steps : List Step) → label ≡ own → proof ≡ steps
    → titled label made proof ≡ titled own made steps
retitled made label own proof steps is proves = ap (λ l. titled l made proof) is ∙ ap (titled own made) proves

-- the statement of what was found in the slot was read
module _ {O : Type 0} (s : Sight O) (i : ℕ) (label : List ℕ) (made : Statement)
    (stated : ForEachHeld s i (λ st lib e. made ≡ statement_of e.assertion))
    (here : ForEach s (λ st lib. IsFoundAt s.setting.slots st lib label i)) (steps : List Step) where
  same_kind : (st : State) (lib : List Ranked) → Views s st lib → (at : IsFoundAt s.setting.slots (after s st) lib label i)
      → made.kind ≡ at.entry.assertion.kind
  same_kind st lib v at = ap (λ (x : Statement). x.kind) (stated st lib v at.entry (found_in lib label at.entry at.found).0 at.holds)

  -- an axiom has no proof
  pub axiom_refused : made.kind ≡ Axiom → ForEach s (λ st lib. edit s.setting lib (command.Reprove label steps) ≡ Err reason.NotATheorem)
  axiom_refused none st lib v =
      let at = here st lib v in
      of_some lib label _ at.entry at.found
      ∙ first_refuses (is_axiom at.entry.assertion.kind) reason.NotATheorem _ _ (ap is_axiom (sym (same_kind st lib v at) ∙ none))

  -- a theorem is tested with the steps, at its rank
  module _ (theorem : made.kind ≡ Theorem) (rank : ℕ) (ranked : ForEachHeld s i (λ st lib e. rank ≡ e.rank)) (a : Assertion)
      (is : a ≡ titled label made steps) where
    reprove_tested : (st : State) (lib : List Ranked) → Views s st lib
        → edit s.setting lib (command.Reprove label steps)
        ≡ tested (proof_tests s.setting lib rank a ++ []) (done (changed label (with_proof steps) lib))
    reprove_tested st lib v =
        let at = here st lib v in
        let next = done (changed label (with_proof steps) lib) in
        let own = found_in lib label at.entry at.found in
        let is_rank = ranked st lib v at.entry own.0 at.holds in
        let read = stated st lib v at.entry own.0 at.holds in
        let is_theorem : a ≡ (with_proof steps at.entry).assertion =
        is ∙ assembled (with_proof steps at.entry).assertion label made steps own.1 read refl in
        of_some lib label _ at.entry at.found
        ∙ first_passes (is_axiom at.entry.assertion.kind) reason.NotATheorem _ _ (ap is_axiom (sym (same_kind st lib v at) ∙ theorem))
        ∙ ap (λ n. tested (proof_tests s.setting lib n (with_proof steps at.entry).assertion ++ []) next) (sym is_rank)
        ∙ ap (λ x. tested (proof_tests s.setting lib rank x ++ []) next) (sym is_theorem)

    pub reprove_refused : (r : Reason) → Fails s rank a r → ForEach s (λ st lib. edit s.setting lib (command.Reprove label steps) ≡ Err r)
    reprove_refused r fails st lib v = reprove_tested st lib v ∙ fails st lib v [] (done (changed label (with_proof steps) lib))

    -- the steps that pass are put into the slot
    pub reproved : (old new : Sight O) (kept : List StoredStep) → Looks old s → Onward s new → Passes s rank a kept
        → ReprovesAt s new i label kept → WritesSome new → Does old new (command.Reprove label steps) Done
    reproved old new kept looks on passes reproves writes =
        record {
          edits = λ st lib m v.
              let now = views_later old s st lib looks (matches_back s new st on m) v in
              let at = here st lib now in
              let next = changed label (with_proof steps) lib in (
                next,
                subst (λ (x : Setting). edit x lib (command.Reprove label steps) ≡ Ok (done next)) (setting_kept looks.onward)
                    (reprove_tested st lib now ∙ passes.passes st lib now [] (done next)),
                reproves st lib m now at steps (sym (same_kind st lib now at) ∙ theorem)
                    (subst (λ (x : List Step). AreStoredAs s.setting.slots (after s st) x kept) (ap (λ (x : Assertion). x.proof) is)
                    (passes.stored st lib now)),
              );
          writes = writes;
        }
