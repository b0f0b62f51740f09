-- What is left to show of `cites`.
use Rattle.std.proofs.Common.{◌∙◌, Bor, List, ℕ, sym, ap}
use Rattle.std.specs.Option.{option_map}
use Rattle.std.specs.Str.{bytes_eq}
use Rattle.mmsyntax.proofs.Distinct.{any-map}
use Rattle.source.specs.declared.standing.ProofWords.{ProofWords}
use Rattle.source.specs.Scopes.{is_in}
use Rattle.source.specs.Views.{seen_proof}
use Rattle.spreading.specs.Spreading.{cites}
use Rattle.spreading.proofs.spreading.cites.Goals as goal

pub returns-in-Some : goal.returns-in-Some
returns-in-Some g c =
    let w = c.args.label.now in
    c.is_among.ensures
    ∙ (sym (any-map (bytes_eq w) (λ (v : Bor (List ℕ)). v.now) c.labels_in.result.now)
    ∙ (ap (λ ws. is_in ws w) c.labels_in.ensures
    ∙ ap (cites w) (ap (option_map (λ (p : Bor ProofWords). seen_proof p.now)) (sym c.in-Some.is) ∙ c.proof.ensures)))
