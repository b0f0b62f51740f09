-- What is left to show of `is_number_of`.
use Rattle.std.proofs.Common.{◌≡◌, ℕ, List, Some, length, refl, sym, ap, ◌∙◌, arith}
use Rattle.std.specs.Prelude.{slice_get}
use Rattle.std.specs.Option.{option_map}
use Rattle.std.specs.Borrow.{Bor}
use Rattle.std.proofs.lemmas.Option.{slice_get-map, slice_get_read}
use Rattle.mmsyntax.proofs.Names.{same_bytes}
use Rattle.sourceframes.proofs.table.Table.is_number_of.Goals as goal

pub returns-then-place-len : goal.returns-then-place-len
returns-then-place-len c = λ h.
    let words = c.args.self.now.words.items in
    let there : slice_get words c.args.number ≡ Some c.index.result.now =
    slice_get_read words (length words) c.args.number c.index.result.now refl
    (omega (arith, c.if-place-len.true, c.len.ensures, c.args.self.now.words.small)) c.index.ensures in
    slice_get-map (λ (b : Bor (List ℕ)). b.now) words c.args.number ∙ ap (option_map (λ (b : Bor (List ℕ)). b.now)) there
    ∙ ap (λ w. Some w) (same_bytes c.index.result.now.now c.args.word.now (sym c.eq.ensures ∙ h))
