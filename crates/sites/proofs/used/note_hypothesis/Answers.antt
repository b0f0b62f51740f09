-- What is left to show of `note_hypothesis`.
use Rattle.std.proofs.Common.{◌≡◌, ◌∙◌, sym, ap, ℕ, List}
use Rattle.std.specs.Prelude.{◌||◌}
use Rattle.std.specs.Borrow.{Bor}
use Rattle.source.specs.Views.{has, seen_hypothesis}
use Rattle.taking.specs.Names.{is_symbol_of_hypothesis}
use Rattle.sites.specs.Used.{noted, typed_by}
use Rattle.source.proofs.Lent.{has_more}
use Rattle.sites.proofs.Noted.{noted_more}
use Rattle.sites.proofs.used.note_hypothesis.Goals as goal

pub returns-in_ok-insert-in-Typing-2-clause-symbols : goal.returns-in_ok-insert-in-Typing-2-clause-symbols
returns-in_ok-insert-in-Typing-2-clause-symbols c = λ w.
    let old = c.args.used.now.symbols in
    has_more old c.insert.new.self c.in-Typing.kind.now c.in_ok-insert-in-Typing.ensures.updates w
    ∙ ap (λ h. has old w || is_symbol_of_hypothesis w (seen_hypothesis h)) (sym c.in-Typing.is)

pub returns-in_ok-insert-in-Typing-2-clause-floats : goal.returns-in_ok-insert-in-Typing-2-clause-floats
returns-in_ok-insert-in-Typing-2-clause-floats c = λ w.
    let old = c.args.used.now in
    noted_more (λ (p : Bor (List ℕ) × Bor (List ℕ)). (p.0.now, p.1.now)) old.floats c.insert-in-Typing.new.self c.in-Typing.label.now
    (c.in-Typing.kind, c.in-Typing.variable) c.in_ok-insert-in-Typing-2.ensures.updates w
    ∙ ap (λ h. typed_by w (noted old w) (seen_hypothesis h)) (sym c.in-Typing.is)
