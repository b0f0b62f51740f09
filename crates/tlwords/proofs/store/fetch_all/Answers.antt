use Rattle.std.proofs.Common.{arith, ap, sym, refl, inl, length, ◌∙◌}
use Rattle.std.proofs.lemmas.List.{append-nil}
use Rattle.tlwords.proofs.Turns.{seat_trans, seated_on}
use Rattle.tlwords.proofs.Fillings.{fetched_more}
use Rattle.tlwords.proofs.store.fetch_all.Goals as goal

pub fetch_word-word-requires-clause-seated : goal.fetch_word-word-requires-clause-seated
fetch_word-word-requires-clause-seated g c =
    let is = c.loop-index.invariant.1.is in
    seated_on c.args.words.now c.args.seat.now c.loop-index.seat c.requires.seated c.loop-index.invariant.0 (ap (λ v. v.setting) is)
    (ap (λ v. length v.base) is)

pub fetch_word-word-requires-clause-sizes : goal.fetch_word-word-requires-clause-sizes
fetch_word-word-requires-clause-sizes g c =
    (c.requires.room ∙ sym (ap (λ v. v.room) c.loop-index.invariant.1.is), c.requires.within c.loop-index.index c.loop-index-test.true)

pub loop-index-init : goal.loop-index-init
loop-index-init g c = (
  (refl, refl, refl),
  record { moves = inl refl; is = refl; words = λ words has len. sym (append-nil _) },
  omega arith,
  c.requires.reserved,
)

pub loop-index-preserved : goal.loop-index-preserved
loop-index-preserved g c = (
  seat_trans c.args.seat.now c.loop-index.seat c.fetch_word-word.new.seat c.loop-index.invariant.0 c.fetch_word-word.ensures.seat,
  fetched_more g.L.Law.terms c.args.range c.loop-index.index c.fetch_word-word.result c.args.seat.now.me c.loop-index.seat.me
      c.fetch_word-word.new.seat.me c.args.fetched.now.items c.loop-index.fetched.items c.push_reserved.new.self.items
      c.loop-index-test.true
      c.loop-index.invariant.1 c.fetch_word-word.ensures.told c.push_reserved.ensures.items,
  omega arith,
  omega arith,
)
