-- What is left to show of `verify_dressed`.
use Rattle.std.proofs.Common.{◌≡◌, ◌∙◌, ◌++◌, ℕ, ap, codes, sym, subst, Vec, Global}
use Rattle.std.specs.Prelude.{◌≢◌, IfErr, IfOk}
use Rattle.std.specs.Borrow.{Bor}
use Rattle.std.specs.Option.{option_map, unwrap_or}
use Rattle.checking.specs.Checks.{Bytes}
use Rattle.verifytext.specs.Lines.{refusal_line}
use Rattle.verifytext.specs.Verdicts.{IsRefused, IsVerifiedText}
use Rattle.verifytext.specs.declared.refusal.Refusal.TheVariants.{NoMemory}
use Rattle.editedsource.specs.Refusals.{IsFaultyThenLine}
use Rattle.editscripts.proofs.Lines.{told_more}
use Rattle.editedsource.proofs.verified.verify_dressed.Goals as goal
use Rattle.editedsource.proofs.verified.verify_dressed.Goals.{in-Some, in-None}

pub returns-in-Ok-clause-verified : goal.returns-in-Ok-clause-verified
returns-in-Ok-clause-verified g c = λ declares.
    let much = c.in-Ok.much in
    let printed = c.printed_of-printed.result.now in
    elim c.match-dressed.branch [
      | in-Some w ↦
          subst (λ (bytes : Bytes). IsVerifiedText bytes much) c.printed_of-printed.ensures
          (subst (λ r. IfOk r (IsVerifiedText printed)) (sym w.verified-is ∙ c.in-Ok.is) w.verify-verified.ensures.verified)
      | in-None w ↦
          rw w.in-None.is (subst (λ r. IfOk r (IsVerifiedText c.args.text.now)) (sym w.verified-is ∙ c.in-Ok.is)
          (w.verify_followed-verified.ensures.verified c.args.text.now declares))
    ]

pub returns-clause-refused : goal.returns-clause-refused
returns-clause-refused g c = λ declares.
    let path = c.args.path.now in
    let text = c.args.text.now in
    let printed = c.printed_of-printed.result.now in
    let out = unwrap_or (option_map (λ (out : Bor (Vec ℕ Global)). out.now.items) c.args.dressed) text in
    let why = c.in-Err.why in
    let refused : IsRefused out why = (
    elim c.match-dressed.branch [
      | in-Some w ↦
          subst (λ (bytes : Bytes). IsRefused bytes why) c.printed_of-printed.ensures
          (subst (λ r. IfErr r (IsRefused printed)) (sym w.verified-is ∙ c.in-Err.is) w.verify-verified.ensures.refused)
      | in-None w ↦
          rw w.in-None.is (subst (λ r. IfErr r (IsRefused text)) (sym w.verified-is ∙ c.in-Err.is)
          (w.verify_followed-verified.ensures.refused text declares))
    ]
    ) in
    let line_of : Bytes → Bytes = λ bytes. refusal_line (path ++ codes ": the source with these edits") bytes why in
    told_more (λ line. (why ≢ NoMemory) × (line ≡ line_of printed))
    (IsFaultyThenLine path out)
    (λ line h. record { why = why; refused = refused; told = h.0; says = h.1 ∙ ap line_of c.printed_of-printed.ensures })
    c.in_ok-unverified-in-Err.field-0 c.in_ok-unverified-in-Err.ensures
