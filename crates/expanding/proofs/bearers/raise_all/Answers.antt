-- What is left to show of `raise_all`.
use Rattle.std.proofs.Common.{◌≡◌, ◌++◌, ◌∷◌, [], List, ℕ, Bor, ◌+◌, get_or, take, sym, subst, arith}
use Rattle.std.specs.Prelude.{Contains}
use Rattle.std.proofs.lemmas.List.{map_more}
use Rattle.source.specs.Views.{seen_words}
use Rattle.expanding.specs.Bearing.{bearers_for, seen_bearers, Rises}
use Rattle.expanding.proofs.Raising.{rises_more, rises_not, raised_more, seen_member}
use Rattle.expanding.proofs.bearers.raise_all.Goals as goal

pub loop-label-init : goal.loop-label-init
loop-label-init c = record {
  rises = rises_not [] (bearers_for c.args.called.now) (seen_words c.args.todo.now.items);
  raised = λ w none. absurd (let bad = none.1 in omega (arith, bad));
  backed = λ rs test all each. all;
}

pub loop-label-preserved : goal.loop-label-preserved
loop-label-preserved c =
    let labels = c.args.labels.now in
    let i = c.loop-label.label-index in
    let d : Bor (List ℕ) = record { ref_ptr = (0, 0); now = [] } in
    let x = (get_or labels i d).now in
    let front = seen_words (take i labels) in
    let start = bearers_for c.args.called.now in
    let before = bearers_for c.loop-label.called in
    let after = bearers_for c.raise.new.called in
    let more : seen_words (take (i + 1) labels) ≡ front ++ x ∷ [] =
    map_more (λ (v : Bor (List ℕ)). v.now) labels i d c.loop-label-test.true in
    let one = c.in_ok-raise.ensures in
    let so_far = c.loop-label.invariant in
    record {
      rises = subst (λ at. Rises at start after (seen_words c.args.todo.now.items) (seen_words c.raise.new.todo.items)) (sym more)
          (rises_more front x start before after _ _ _ so_far.rises one.rises);
      raised = λ w h. raised_more front x (seen_bearers c.args.more) before after w so_far.raised one.rises.up one.raised
          (subst (λ ws. Contains ws w) more h);
      backed = λ rs test all each.
          one.backed rs test (so_far.backed rs test all each) (each x (seen_member labels i d c.loop-label-test.true));
    }
