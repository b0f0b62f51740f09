-- What is left to show of `fill_one`.
use Rattle.std.proofs.Common.{◌≡◌, ◌++◌, ◌+◌, ◌∙◌, Some, drop, length, refl, sym, ap, subst}
use Rattle.std.specs.Prelude.{OnOk, slice_get, slice_range}
use Rattle.sourcecheck.specs.Spans.{cut}
use Rattle.sourcecheck.specs.Coded.{piece_value}
use Rattle.std.proofs.lemmas.Option.{slice_get_read}
use Rattle.std.proofs.lemmas.Bool.{ltb-true}
use Rattle.sourcecheck.proofs.Spans.{value-at}
use Rattle.sourcecheck.proofs.stack.fill_one.Goals as goal

pub returns-in-Itself-clause-kinds : goal.returns-in-Itself-clause-kinds
returns-in-Itself-clause-kinds c =
    let s = c.args.symbols.now.items in c.add.ensures.kinds (length s + length (piece_value (cut s c.args.spans.now) c.args.piece))

pub returns-in-Some-clause-made : goal.returns-in-Some-clause-made
returns-in-Some-clause-made c =
    let s = c.args.symbols.now.items in
    let es = cut s c.args.spans.now in
    let p = c.in-Some.span.now in
    let ps = c.args.spans.now in
    let k = c.in-Argument.place in
    let there = c.in-Some.ensures.lookup in
    let at : slice_get ps k ≡ Some p = slice_get_read ps (length ps) k p refl (ltb-true k (length ps) (sym there.0)) there.1 in
    let value : drop 1 (slice_range s p.0 p.1) ≡ piece_value es c.args.piece =
    sym (ap (piece_value es) c.in-Argument.is ∙ ap (drop 1) (value-at s c.args.spans.now c.in-Argument.place p at)) in
    subst (λ v. OnOk c.add_again.result (c.add_again.new.symbols.items ≡ s ++ v)) value c.add_again.ensures.made
