use Rattle.std.proofs.Common.{◌≡◌, ◌≤◌, ℕ, List, [], ◌∷◌, ◌++◌, length, is_ok, true, sym, subst, arith, length-append}
use Rattle.std.proofs.lemmas.Grind.{common_steps}
use Rattle.ranges.specs.declared.range.Range.{Range as Span}
use Rattle.cells.specs.Sight.{Stages}
use Rattle.cells.proofs.Halting.{looks_full, nothing_full}
use Rattle.library.specs.Library.{Setting}
use Rattle.plaincells.specs.Plain.{HoldNames, LieInStore, BeganWithSome, ranges_in, undone, behind, plain_sight}
use Rattle.plaincells.specs.PlainViews.{cells_setting, cells_sight}
use Rattle.plaincells.proofs.Stores.{has_some, lie_staged}
use Rattle.plaincells.proofs.PlainSights.{staged_or_not, hold_staged, began_staged, plain_stages}
use Rattle.plaincells.proofs.plain.PlainCellsCells.stage.Goals as goal

pub invariant_of-self : goal.invariant_of-self
invariant_of-self c =
    let p = c.args.self.now in
    record {
      some = p.some;
      few = p.few;
      long = p.long;
      roomy = p.roomy;
      stored = p.stored;
      logged = p.logged;
      lie = p.lie;
      names = p.names;
      began_with_names = p.began_with_names;
      began = p.began;
    }

pub invariant_of-self-2 : goal.invariant_of-self-2
invariant_of-self-2 c =
    let p = c.args.self.now in
    let s : Setting = cells_setting p in
    let old = p.store.items in
    let places = p.ranges.items in
    let words = c.args.words.now in
    let n : length old ≡ c.len.result = grind (arith, common_steps) in
    let fits : length (old ++ words) ≤ p.room = omega (arith, length-append old words, n, p.stored, c.if-words-self.false) in
    let either = λ (P : List ℕ → List Span → Type 0) (yes : P (old ++ words) (places ++ behind old words ∷ [])) (no : P old places).
    staged_or_not P (is_ok c.put_behind.result) old words c.put_behind.new.store.items places c.put_behind.new.ranges.items
    c.put_behind.ensures.store c.put_behind.ensures.ranges yes no in
    record {
      some = p.some;
      few = p.few;
      long = p.long;
      roomy = p.roomy;
      stored = either (λ st pl. length st ≤ p.room) fits p.stored;
      logged = p.logged;
      lie = either LieInStore (lie_staged old words places (has_some words c.requires.some) p.lie) p.lie;
      names = either (λ st pl. HoldNames p.slots p.values.items (ranges_in st pl))
          (hold_staged p.slots p.values.items old words places p.lie p.names) p.names;
      began_with_names = either (λ st pl. HoldNames p.slots (undone p.values.items p.log.items) (ranges_in st pl))
          (hold_staged p.slots (undone p.values.items p.log.items) old words places p.lie p.began_with_names) p.began_with_names;
      began = either (λ st pl. ∥ BeganWithSome s p.room p.values.items p.log.items st pl ∥₁)
          (began_staged s p.room p.values.items p.log.items old words places p.lie (omega (arith, fits, p.roomy)) p.began) p.began;
    }

pub returns-in-Ok-clause-ok : goal.returns-in-Ok-clause-ok
returns-in-Ok-clause-ok c =
    let p = c.args.self.now in
    let s : Setting = cells_setting p in
    let old = p.store.items in
    let places = p.ranges.items in
    let words = c.args.words.now in
    let before = plain_sight s p.room p.values.items p.log.items old places p.full in
    let made = plain_stages s p.room p.values.items p.log.items old words places p.full p.lie in
    subst (λ r. Stages words r before (plain_sight s p.room p.values.items p.log.items c.put_behind.new.store.items
    c.put_behind.new.ranges.items p.full)) (sym c.in-Ok.ensures.range)
    (subst (λ st. Stages words (behind old words) before
    (plain_sight s p.room p.values.items p.log.items st c.put_behind.new.ranges.items p.full))
    (sym c.in-Ok.ensures.store)
    (subst (λ pl. Stages words (behind old words) before (plain_sight s p.room p.values.items p.log.items (old ++ words) pl p.full))
    (sym c.in-Ok.ensures.ranges) made))

pub returns-then-words-self-clause-err : goal.returns-then-words-self-clause-err
returns-then-words-self-clause-err c = looks_full (cells_sight c.args.self.now) true

pub returns-then-words-self-clause-reads : goal.returns-then-words-self-clause-reads
returns-then-words-self-clause-reads c = nothing_full (cells_sight c.args.self.now) true
