-- What is left to show of `check_theorem`.
use Rattle.std.proofs.Common.{◌≡◌, Some, take, sym, ap, ◌∙◌}
use Rattle.std.specs.Option.{option_map}
use Rattle.std.specs.Borrow.{Bor}
use Rattle.source.specs.declared.standing.ProofWords.{ProofWords}
use Rattle.source.specs.Views.{seen_proof}
use Rattle.source.proofs.Asked.{whole_at, proof_is}
use Rattle.sourceframes.proofs.Numbered.{grows_not}
use Rattle.sourcecheck.proofs.Told.{assertion_told}
use Rattle.sourcecheck.proofs.theorem.check_theorem.Goals as goal

pub returns-in_default-clause-keeps : goal.returns-in_default-clause-keeps
returns-in_default-clause-keeps g c = record { sound = c.requires.sound; grows = grows_not _ }

pub returns-then-is_unfinished-clause-keeps : goal.returns-then-is_unfinished-clause-keeps
returns-then-is_unfinished-clause-keeps g c = record { sound = c.requires.sound; grows = grows_not _ }

pub returns-clause-tells : goal.returns-clause-tells
returns-clause-tells g c = λ x at.
    let s = g.D.Declared.scope c.args.declared.now in
    let proof = seen_proof c.in-Some.proof.now in
    let is : x.proof ≡ Some proof =
    proof_is s.assertions c.args.place x at (Some proof)
    (sym (ap (option_map (λ (p : Bor ProofWords). seen_proof p.now)) c.in-Some.is) ∙ c.proof.ensures) in
    let finished = sym c.is_unfinished.ensures ∙ c.if-is_unfinished.false in
    assertion_told (take c.args.place s.assertions) x s (whole_at s c.args.place x c.requires.whole at) proof is finished
    c.check_proof.result (c.check_proof.ensures.tells x at finished)
