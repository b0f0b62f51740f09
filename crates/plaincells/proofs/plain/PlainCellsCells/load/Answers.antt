use Rattle.std.proofs.Common.{◌≡◌, ◌+◌, ◌<◌, ℕ, length, get_or, Some, sym, ap, ◌∙◌, arith}
use Rattle.std.proofs.lemmas.Grind.{common_steps}
use Rattle.plaincells.proofs.Stores.{known_words}
use Rattle.plaincells.proofs.plain.PlainCellsCells.load.Goals as goal

pub overflow_add-range : goal.overflow_add-range
overflow_add-range c =
    let p = c.args.self.now in
    let w = known_words p.store.items p.ranges.items c.args.range.start c.args.range.len c.requires.0 p.lie c.requires.1.finished
    c.requires.1.len in
    omega (arith, w.0, p.stored, p.roomy, c.requires.2)

pub index-requires : goal.index-requires
index-requires c =
    let p = c.args.self.now in
    let w = known_words p.store.items p.ranges.items c.args.range.start c.args.range.len c.requires.0 p.lie c.requires.1.finished
    c.requires.1.len in
    let within : c.args.range.start + c.args.index < length p.store.items = omega (arith, w.0, c.requires.2) in
    grind (arith, common_steps)

pub returns-clause-word : goal.returns-clause-word
returns-clause-word c words known =
    let p = c.args.self.now in
    let w = known_words p.store.items p.ranges.items c.args.range.start c.args.range.len words p.lie known.finished known.len in
    let within : c.args.range.start + c.args.index < length p.store.items = omega (arith, w.0, c.requires.2) in
    let at : c.index.result.now ≡ get_or p.store.items (c.args.range.start + c.args.index) 0 = grind (arith, common_steps) in
    w.1 c.args.index c.requires.2 ∙ ap (λ (x : ℕ). Some x) (sym at)
