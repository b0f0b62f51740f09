use Rattle.std.proofs.Common.{◌≡◌, ℕ, refl, Bool, Option, None, Some, false, [], ◌∷◌, sym, ap, ◌∙◌}
use Rattle.std.specs.List.{list_any}
use Rattle.std.specs.Option.{option_map}
use Rattle.mmsyntax.specs.declared.statement.Assertion.{Assertion}
use Rattle.derivation.specs.declared.fault.ProofFault.{ProofFault}
use Rattle.library.specs.declared.reason.Reason.{Reason}
use Rattle.library.specs.declared.reason.Reason.TheVariants as reason
use Rattle.library.specs.Library.{Setting}
use Rattle.library.specs.Edits.{is_of_unknown, cites_not_below, proof_fails, cites_unknown, cited_not_lower, proof_tests}
use Rattle.catalog.specs.Entries.{Entries, living}
use Rattle.history.specs.Drafts.{Drafted}
use Rattle.history.specs.Refusals.{first_reason}
use Rattle.history.proofs.Commands.{not_so, first-none}
use Rattle.history.proofs.draft.Draft.refuse_proof.Goals as goal

-- the steps pass, and what is left is the fault of the proof
passed : (s : Setting) (slice held : Entries) (rank : ℕ) (a : Assertion) (u v : Bool) (o : Option ProofFault) → slice ≡ held
    → u ≡ list_any (is_of_unknown (living slice)) a.proof → u ≡ false
    → v ≡ list_any (cites_not_below (living slice) rank) a.proof → v ≡ false
    → option_map reason.ProofFails o ≡ proof_fails s (living slice) rank a
    → option_map reason.ProofFails o ≡ first_reason (proof_tests s (living held) rank a)
passed s slice held rank a u v o same known no_unknown below no_above fault =
    let lib = living held in
    let first : list_any (is_of_unknown lib) a.proof ≡ false =
    sym (known ∙ ap (λ l. list_any (is_of_unknown (living l)) a.proof) same) ∙ no_unknown in
    let second : list_any (cites_not_below lib rank) a.proof ≡ false =
    sym (below ∙ ap (λ l. list_any (cites_not_below (living l) rank) a.proof) same) ∙ no_above in
    fault ∙ ap (λ l. proof_fails s (living l) rank a) same ∙ only (proof_fails s lib rank a)
    ∙ sym (first-none (cites_unknown lib a.proof) _ (not_so _ reason.CitesUnknown first)
    ∙ first-none (cited_not_lower lib rank a.proof) _ (not_so _ reason.CitedNotLower second))
  where
    only : (t : Option Reason) → t ≡ first_reason (t ∷ [])
    only None = refl
    only (Some r) = refl

pub returns-in-Some : goal.returns-in-Some
returns-in-Some c =
    let d = c.args.self.now in
    let i = c.self.inside in
    let a = c.args.assertion.now in
    let held = c.as_slice-entries.ensures.value ∙ ap (λ (x : Drafted). x.entries) c.self.view_is in
    let fault = c.in_ok-fault.ensures i.slots ∙ ap (λ (x : Drafted). proof_fails x.setting
    (living c.as_slice-entries.result.now) c.args.rank a) c.self.view_is in
    ap (option_map reason.ProofFails) (sym c.in-Some.is)
    ∙ passed d.setting c.as_slice-entries.result.now d.entries c.args.rank a _ _ c.in_ok-fault.fault held
    c.cites_unknown.ensures c.if-cites_unknown.false c.cites_not_below.ensures c.if-cites_not_below.false fault

pub returns-in-None : goal.returns-in-None
returns-in-None c =
    let d = c.args.self.now in
    let i = c.self.inside in
    let a = c.args.assertion.now in
    let held = c.as_slice-entries.ensures.value ∙ ap (λ (x : Drafted). x.entries) c.self.view_is in
    let fault = c.in_ok-fault.ensures i.slots ∙ ap (λ (x : Drafted). proof_fails x.setting
    (living c.as_slice-entries.result.now) c.args.rank a) c.self.view_is in
    ap (option_map reason.ProofFails) (sym c.in-None.is)
    ∙ passed d.setting c.as_slice-entries.result.now d.entries c.args.rank a _ _ c.in_ok-fault.fault held
    c.cites_unknown.ensures c.if-cites_unknown.false c.cites_not_below.ensures c.if-cites_not_below.false fault
