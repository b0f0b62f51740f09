-- What is left to show of `read_text`.
use Rattle.std.proofs.Common.{sym, ap, ◌∙◌}
use Rattle.mmtext.specs.Views.{fault_of_bytes}
use Rattle.mmtext.proofs.Turns.{same_reading, faulty_bytes, clean_bytes}
use Rattle.mmtext.proofs.reading.read_text.Goals as goal

pub returns-in-Some : goal.returns-in-Some
returns-in-Some g c =
    faulty_bytes (g.R.Reader.language c.args.reader) c.args.text.now c.in-Some.fault
    (ap (λ most. fault_of_bytes most c.args.text.now) (sym c.most_bytes.ensures) ∙ sym c.text_fault.ensures ∙ c.in-Some.is)

pub returns : goal.returns
returns g c =
    let l = g.R.Reader.language c.args.reader in
    same_reading _ c.read_tokens.result _ _
    (clean_bytes l c.args.text.now
    (ap (λ most. fault_of_bytes most c.args.text.now) (sym c.most_bytes.ensures) ∙ sym c.text_fault.ensures ∙ c.in_default.is))
    c.read_tokens.ensures
