-- What is left to show of `write_assertion`.
use Rattle.std.proofs.Common.{◌≡◌, List, ℕ, sym, subst, rules}
use Rattle.mmsyntax.specs.Grammar.{SpellsUnit}
use Rattle.mmsyntax.specs.Layout.{assertion_text}
use Rattle.mmsyntax.proofs.Canonical.{unit_spelled_again}
use Rattle.mmwriter.proofs.writing.write_assertion.Goals as goal

pub returns-clause-spelled : goal.returns-clause-spelled
returns-clause-spelled c = λ has.
    let e : c.put_assertion.new.out.items ≡ assertion_text c.args.prelude.now c.args.assertion.now = search rules in
    subst (λ (bytes : List ℕ). SpellsUnit c.args.prelude.now bytes c.args.assertion.now) (sym e)
    (unit_spelled_again c.args.prelude.now c.args.assertion.now c.floats-floats.ensures.sound has)
