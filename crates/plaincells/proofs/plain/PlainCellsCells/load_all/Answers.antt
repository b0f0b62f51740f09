use Rattle.std.proofs.Common.{◌≡◌, ◌+◌, ◌-◌, ◌≤◌, ◌++◌, ℕ, List, length, take, drop, sym, ap, ◌∙◌, arith}
use Rattle.ranges.specs.declared.range.Range.{Range as Span}
use Rattle.cells.specs.Sight.{KnowsRange}
use Rattle.plaincells.specs.PlainViews.{cells_sight}
use Rattle.plaincells.specs.declared.plain.PlainCells.{PlainCells}
use Rattle.plaincells.proofs.Stores.{known_words}
use Rattle.plaincells.proofs.plain.PlainCellsCells.load_all.Goals as goal

-- where a range that is known ends
ends : (p : PlainCells) (r : Span) (words : List ℕ) → KnowsRange (cells_sight p) r words
    → (r.start + r.len ≤ length p.store.items) × (r.start + r.len ≤ 16777216)
ends p r words known =
    let w = known_words p.store.items p.ranges.items r.start r.len words p.lie known.finished known.len in
    (w.0, omega (arith, w.0, p.stored, p.roomy))

pub overflow_add-range : goal.overflow_add-range
overflow_add-range c = omega (arith, (ends c.args.self.now c.args.range c.requires.0 c.requires.1).1)

pub offset_bounds-deref-range : goal.offset_bounds-deref-range
offset_bounds-deref-range c = omega (arith, (ends c.args.self.now c.args.range c.requires.0 c.requires.1).1)

pub slice_bounds-extend_from_slice-end : goal.slice_bounds-extend_from_slice-end
slice_bounds-extend_from_slice-end c =
    let long : length c.deref.result.now ≡ length c.args.self.now.store.items = ap (λ (s : List ℕ). length s) c.deref.ensures.value in
    omega (arith, (ends c.args.self.now c.args.range c.requires.0 c.requires.1).0, long)

pub returns-clause-ok : goal.returns-clause-ok
returns-clause-ok c = λ found known.
    let p = c.args.self.now in
    let r = c.args.range in
    let w = known_words p.store.items p.ranges.items r.start r.len found p.lie known.finished known.len in
    let all : r.len ≡ r.start + r.len - r.start = omega arith in
    let part = w.2 ∙ ap (λ (s : List ℕ). take r.len (drop r.start s)) (sym c.deref.ensures.value)
    ∙ ap (λ (n : ℕ). take n (drop r.start c.deref.result.now)) all in
    c.in_ok-extend_from_slice.ensures.items ∙ ap (λ (l : List ℕ). c.args.words.now.items ++ l) (sym part)
