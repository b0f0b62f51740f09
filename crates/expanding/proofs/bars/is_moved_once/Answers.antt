-- What is left to show of `is_moved_once`.
use Rattle.std.proofs.Common.{◌∙◌, ℕ, List, Bor, length, sym, ap}
use Rattle.std.specs.Prelude.{◌==◌}
use Rattle.std.proofs.lemmas.List.{length-map}
use Rattle.mmtext.specs.Words.{Word}
use Rattle.expanding.specs.Bars.{moved_in}
use Rattle.expanding.proofs.Moving.{many_moved}
use Rattle.expanding.proofs.bars.is_moved_once.Goals as goal

pub returns-in-None : goal.returns-in-None
returns-in-None c = λ cs moved.
    ap (λ (ws : List Word). length ws == 1) (c.in-None.ensures (moved_in cs) moved)
    ∙ ap (λ n. n == 1) (many_moved c.args.label.now cs)

pub returns-in-Some : goal.returns-in-Some
returns-in-Some c = λ cs moved.
    let now = λ (w : Bor (List ℕ)). w.now in
    let many = sym (length-map c.in-Some.labels.now.items now) ∙ ap length (c.in-Some.ensures (moved_in cs) moved) in
    ap (λ n. n == 1) (ap length c.as_slice.ensures.value ∙ (many ∙ many_moved c.args.label.now cs))
