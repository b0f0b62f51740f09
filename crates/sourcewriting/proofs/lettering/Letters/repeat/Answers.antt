-- What is left to show of `repeat`.
use Rattle.std.proofs.Common.{◌≡◌, ◌∷◌, [], ◌+◌, length, subst, arith}
use Rattle.source.specs.declared.letters.Code.TheVariants.{Number}
use Rattle.taking.proofs.Turned.{if_ok}
use Rattle.sourcewriting.specs.Letters.{ArePut}
use Rattle.sourcewriting.proofs.Lettered.{mark_there, mark_low, repeated}
use Rattle.sourcewriting.proofs.lettering.Letters.repeat.Goals as goal

pub returns-clause-read : goal.returns-clause-read
returns-clause-read c = λ s cs old new counted again is was.
    let l = c.args.self.now in
    let n = c.args.node in
    let there = mark_there s cs l n old new counted again is was in
    let low = mark_low s cs l n old new counted again is was in
    let mark = c.mark_of-mark.ensures there.0 there.1 in
    let same : c.saturating_add.result ≡ length cs + there.0 = omega (arith, c.saturating_add.ensures, mark, counted.labels, low) in
    if_ok c.put_number.result
    (λ _ put. (
      repeated s cs l n old new counted again is was c.put_number.new.letters
          (subst (λ k. ArePut (record { codes = Number (k + 1) ∷ []; front = 0 }) l.text.items c.put_number.new.letters.items) same
          (put (omega (arith, same, low)))),
      record { numbers = counted.numbers; labels = counted.labels; few = counted.few },
    ))
    c.put_number.ensures
