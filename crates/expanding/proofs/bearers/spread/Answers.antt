-- What is left to show of `spread`.
use Rattle.std.proofs.Common.{◌≡◌, ◌∙◌, ◌++◌, ◌∷◌, [], List, ℕ, Bor, ap}
use Rattle.std.proofs.lemmas.List.{map_push}
use Rattle.std.proofs.Common.{map}
use Rattle.mmtext.specs.Words.{Word}
use Rattle.source.specs.Views.{seen_words, seen_pairs}
use Rattle.expanding.specs.Bearing.{bearers_for}
use Rattle.expanding.proofs.Renaming.{new_among}
use Rattle.expanding.proofs.Raising.{among_among, spread_more, fewer_left}
use Rattle.expanding.proofs.bearers.spread.Goals as goal

pub loop-label-smaller : goal.loop-label-smaller
loop-label-smaller c =
    let rs = seen_pairs c.args.renames.now.pairs.items in
    let x = c.in-Some.label.now in
    let todo = seen_words c.loop-label.todo.items in
    let rest = seen_words c.pop.new.self.items in
    let popped : todo ≡ rest ++ x ∷ [] =
    ap seen_words c.in-Some.ensures.items ∙ map_push (λ (v : Bor (List ℕ)). v.now) c.pop.new.self.items c.in-Some.label in
    let rises = c.in_ok-raise_next.ensures.rises rs c.requires.renames in
    fewer_left rs (bearers_for c.loop-label.called) (bearers_for c.raise_next.new.called) x todo rest
    (seen_words c.raise_next.new.todo.items) popped rises (map (λ (r : Word × Word). r.1) rs) (λ w h. new_among rs x w h)

pub loop-label-preserved : goal.loop-label-preserved
loop-label-preserved c =
    let rs = seen_pairs c.args.renames.now.pairs.items in
    let x = c.in-Some.label.now in
    let f = bearers_for c.loop-label.called in
    let g = bearers_for c.raise_next.new.called in
    let todo = seen_words c.loop-label.todo.items in
    let rest = seen_words c.pop.new.self.items in
    let popped : todo ≡ rest ++ x ∷ [] =
    ap seen_words c.in-Some.ensures.items ∙ map_push (λ (v : Bor (List ℕ)). v.now) c.pop.new.self.items c.in-Some.label in
    let rises = c.in_ok-raise_next.ensures.rises rs c.requires.renames in
    let so_far = c.loop-label.invariant in
    record {
      spread = spread_more rs f g x todo rest (seen_words c.raise_next.new.todo.items) popped rises
          (c.in_ok-raise_next.ensures.raised rs c.requires.renames) so_far.spread;
      up = λ w. among_among (bearers_for c.args.called.now w) (f w) (g w) (so_far.up w) (rises.up w);
      backed = λ test all. c.in_ok-raise_next.ensures.backed rs test c.requires.renames (so_far.backed test all);
    }
