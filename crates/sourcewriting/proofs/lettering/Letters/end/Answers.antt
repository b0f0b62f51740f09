-- What is left to show of `end`.
use Rattle.std.proofs.Common.{◌≡◌, ◌∷◌, ◌<◌, [], ◌+◌, Some, length, sym, subst, inl, inr, arith}
use Rattle.std.specs.Prelude.{slice_get}
use Rattle.std.proofs.lemmas.Bool.Decides.{nat_tests}
use Rattle.source.specs.declared.letters.Code.TheVariants.{Number}
use Rattle.taking.proofs.Turned.{if_ok}
use Rattle.sourcewriting.specs.declared.lettering.Letters.{Letters}
use Rattle.sourcewriting.specs.Letters.{ArePut}
use Rattle.sourcewriting.specs.Lettered.{AreCounted, IsLettered}
use Rattle.sourcewriting.proofs.Named.{refuted}
use Rattle.sourcewriting.proofs.Lettered.{own_node, own_number, number_low, ended, marked_too, marked_low}
use Rattle.sourcewriting.proofs.lettering.Letters.end.Goals as goal
use Rattle.sourcewriting.proofs.lettering.Letters.end.Goals.{then-is_empty-via-then-is_empty, then-is_empty-via-else-is_empty+then-not-is_again}

pub returns-then-is_empty-clause-read : goal.returns-then-is_empty-clause-read
returns-then-is_empty-clause-read c = λ cs old new sound counted once was.
    let s = c.args.shared.now in
    let l = c.args.self.now in
    let n = c.args.node in
    let d = own_node s cs sound l n old new counted once was in
    let k = own_number s cs sound l n old new counted once was in
    let low = number_low s cs sound l n old new counted once was in
    let same = c.number_at-number.ensures k.0 (subst (λ w. slice_get l.numbers.now w ≡ Some k.0) (sym (c.word.ensures d.0 d.1)) k.1) in
    let put = subst (λ k. ArePut (record { codes = Number (k + 1) ∷ []; front = 0 }) l.text.items c.put_number.new.letters.items) same
    (c.in_ok-put_number.ensures (omega (arith, same, low))) in (
      ended s cs sound l n old new counted once was c.put_number.new.letters put
          (elim c.then-is_empty.branch [
            | then-is_empty-via-then-is_empty b ↦
                let none : length c.arguments.result.now ≡ 0 = grind (arith, nat_tests, c.is_empty.ensures, b.if-is_empty.true) in
                inl (subst (λ xs. length xs ≡ 0) (c.arguments.ensures.are sound) none)
            | then-is_empty-via-else-is_empty+then-not-is_again b ↦
                inr (λ is. refuted b.is_again.result (b.is_again.ensures.1 is) b.if-not-is_again.true)
          ]),
      record { numbers = counted.numbers; labels = counted.labels; few = counted.few },
    )

pub returns-clause-read : goal.returns-clause-read
returns-clause-read c = λ cs old new sound counted once was.
    let s = c.args.shared.now in
    let l = c.args.self.now in
    let n = c.args.node in
    let d = own_node s cs sound l n old new counted once was in
    let k = own_number s cs sound l n old new counted once was in
    let low = number_low s cs sound l n old new counted once was in
    let few = marked_low s cs l old counted was in
    let same = c.number_at-number.ensures k.0 (subst (λ w. slice_get l.numbers.now w ≡ Some k.0) (sym (c.word.ensures d.0 d.1)) k.1) in
    let put = subst (λ k. ArePut (record { codes = Number (k + 1) ∷ []; front = 0 }) l.text.items c.put_number.new.letters.items) same
    (c.in_ok-put_number.ensures (omega (arith, same, low))) in
    let some : 0 < length c.arguments.result.now = grind (arith, nat_tests, c.is_empty.ensures, c.if-is_empty.false) in
    let m = c.mark.new.self in
    if_ok c.mark.result
    (λ _ marked.
    subst (λ (x : Letters). IsLettered s cs x new × AreCounted s cs x) (sym marked.0) (
      marked_too s cs sound l n old new counted once was (subst (λ xs. 0 < length xs) (c.arguments.ensures.are sound) some)
          c.put_number.new.letters m.text m.marks m.marked put marked.1 marked.2 (marked.3 (omega (arith, few))),
      record { numbers = counted.numbers; labels = counted.labels; few = counted.few },
    ))
    c.mark.ensures
