-- What is left to show of `step_fault`.
use Rattle.std.proofs.Common.{◌≡◌, true, false, Some, sym, ap, subst, ◌∙◌}
use Rattle.std.specs.Prelude.{IfOk}
use Rattle.std.specs.Result.{result_err}
use Rattle.std.specs.Str.{bytes_eq}
use Rattle.source.specs.Counts.{citation_of}
use Rattle.source.specs.Scopes.{is_unknown}
use Rattle.sourcereader.proofs.Named.{unknown_step, known_step}
use Rattle.sourcereader.proofs.proof_rows.step_fault.Goals as goal

pub returns-then-eq : goal.returns-then-eq
returns-then-eq g c ws counts =
    let s = (g.S.Standing.stand c.args.standing.now).scope in
    let unknown : is_unknown c.args.word.now ≡ true =
    ap (bytes_eq c.args.word.now) (sym c.as_slice.ensures) ∙ sym c.eq.ensures ∙ c.if-eq.true in
    (sym (unknown_step s ws c.args.word.now unknown), λ same. c.in_ok-take_unknown.ensures s ws c.args.word.now counts unknown)

pub returns-then-branch : goal.returns-then-branch
returns-then-branch g c ws counts =
    let s = (g.S.Standing.stand c.args.standing.now).scope in
    let w = c.args.word.now in
    let known : is_unknown w ≡ false = ap (bytes_eq w) (sym c.as_slice.ensures) ∙ sym c.eq.ensures ∙ c.if-eq.false in
    let names = subst (λ r. IfOk r (λ n. citation_of s.assertions s.hypotheses w ≡ Some n)) c.in-Ok.is c.named.ensures.names in
    let took = c.in_ok-take.ensures s ws w counts known names in (
      sym (known_step s ws w known (sym c.named.ensures.fault ∙ ap result_err c.in-Ok.is) (sym took.0 ∙ c.if-branch.true)),
      λ same. took.1 c.if-branch.true,
    )
