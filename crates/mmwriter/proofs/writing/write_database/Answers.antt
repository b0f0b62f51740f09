-- What is left to show of `write_database`.
use Rattle.std.proofs.Common.{◌≡◌, List, ℕ, sym, subst, rules}
use Rattle.mmsyntax.specs.Grammar.{Spells}
use Rattle.mmsyntax.specs.Layout.{text_of}
use Rattle.mmsyntax.proofs.Canonical.{spelled_again}
use Rattle.mmsyntax.proofs.Declarable.{declarable}
use Rattle.mmwriter.proofs.writing.write_database.Goals as goal

pub put_units-requires : goal.put_units-requires
put_units-requires c = rw (c.assertions.ensures.value, c.prelude-2.ensures)
    (λ i d lt. ((declarable c.args.db.now c.assertions.ensures.sound).units i d lt).fits)

pub returns-clause-spelled : goal.returns-clause-spelled
returns-clause-spelled c =
    let e : c.put_units.new.out.items ≡ text_of c.args.db.now = search rules in
    subst (λ (bytes : List ℕ). Spells bytes c.args.db.now) (sym e) (spelled_again c.args.db.now c.assertions.ensures.sound)
