-- What is left to show of `first_symbols`.
use Rattle.std.proofs.Common.{ℕ, List, ap, sym, ◌∙◌}
use Rattle.std.specs.Borrow.{Bor}
use Rattle.std.proofs.lemmas.List.{take-map}
use Rattle.source.specs.Views.{seen_words}
use Rattle.verifytext.proofs.Spaced.{first_of}
use Rattle.verifytext.proofs.finding_lines.first_symbols.Goals as goal

pub returns : goal.returns
returns c =
    ap seen_words (first_of c.args.symbols.now 400 c.min.result c.min.ensures)
    ∙ sym (take-map (λ (w : Bor (List ℕ)). w.now) 400 c.args.symbols.now)
