-- What is left to show of `begin`.
use Rattle.std.proofs.Common.{◌≡◌, ◌∙◌, ◌++◌, ◌∷◌, [], ◌+◌, List, ℕ, Bor, get_or, take, refl, sym, subst, inl, inr}
use Rattle.std.specs.List.{All}
use Rattle.std.proofs.lemmas.List.{map_more, take_all}
use Rattle.std.proofs.lemmas.List.Elements.{All-push}
use Rattle.source.specs.Scopes.{is_in}
use Rattle.source.specs.Views.{seen_words}
use Rattle.expanding.specs.Called.{only}
use Rattle.expanding.specs.Bearing.{bearers_for, AreAmong}
use Rattle.expanding.proofs.Raising.{all_among, is_among, seen_member}
use Rattle.expanding.proofs.bearers.begin.Goals as goal

pub loop-label-preserved : goal.loop-label-preserved
loop-label-preserved c =
    let labels = c.args.labels.now in
    let i = c.loop-label.label-index in
    let d : Bor (List ℕ) = record { ref_ptr = (0, 0); now = [] } in
    let x = (get_or labels i d).now in
    let front = seen_words (take i labels) in
    let f = bearers_for c.loop-label.called in
    let g = bearers_for c.raise.new.called in
    let more : seen_words (take (i + 1) labels) ≡ front ++ x ∷ [] =
    map_more (λ (v : Bor (List ℕ)). v.now) labels i d c.loop-label-test.true in
    let one = c.in_ok-raise.ensures in
    let so_far = c.loop-label.invariant in
    record {
      noted = λ w. elim (one.rises.noted w) [
        | inl there ↦ inl there
        | inr same ↦ elim (so_far.noted w) [ inl k ↦ inl (one.rises.kept w k) | inr e ↦ inr (same ∙ e) ]
      ];
      each = subst (All (λ w. AreAmong (only w) (g w))) (sym more)
          (All-push (λ w. AreAmong (only w) (g w)) front x (all_among f g front one.rises.up so_far.each) one.raised);
      backed = λ rs. one.backed rs (is_in (seen_words labels)) (so_far.backed rs)
          (is_among (seen_words labels) x (seen_member labels i d c.loop-label-test.true), record { row = []; lead = refl });
    }

pub returns-clause-each : goal.returns-clause-each
returns-clause-each c =
    subst (λ ws. All (λ w. AreAmong (only w) (bearers_for c.loop-label.called w)) (seen_words ws))
    (take_all c.loop-label.label-index c.args.labels.now c.loop-label-test.false) c.loop-label.invariant.each
