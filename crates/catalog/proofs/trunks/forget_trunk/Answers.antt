use Rattle.std.proofs.Common.{Some, sym, refl, subst}
use Rattle.std.specs.Option.{IsSome}
use Rattle.mmsyntax.proofs.Names.{after_update}
use Rattle.catalog.proofs.Dotted.{listed-relisted}
use Rattle.catalog.proofs.trunks.forget_trunk.Goals as goal

pub returns : goal.returns
returns c =
    let m = c.args.trunks.now in
    let front = c.trunk-front.result.now in
    let new = c.drop_label.new.list in
    let n = c.get_mut.follows.lender new in
    let at = sym c.in-Some.ensures.value in
    let there = subst (λ o. IsSome o) (sym at) refl in
    let relists = after_update front m n (Some new) ((c.get_mut.follows.holds new).3 there) in
    record {
      keeps = λ l w other h. c.drop_empty.ensures.keeps l w
          (listed-relisted m n front l w c.in-Some.list.now new relists at (c.drop_label.ensures w other) h);
    }
