-- What is left to show of `labels_of_premises`.
use Rattle.std.proofs.Common.{◌≡◌, ◌∙◌, ◌+◌, ◌-◌, ◌++◌, ◌∷◌, ℕ, [], cond, map, ap, arith}
use Rattle.std.specs.Prelude.{Vec}
use Rattle.std.specs.declared.alloc.Global.{Global}
use Rattle.std.proofs.lemmas.List.{length-map}
use mathlib.Core.Bool.{not}
use Rattle.sourcewriting.specs.Added.{is_name}
use Rattle.sourcewriting.proofs.Added.{free_of, free_more, free_all, free_enough}
use Rattle.sourcewriting.proofs.adding.labels_of_premises.Goals as goal

pub loop-number-preserved : goal.loop-number-preserved
loop-number-preserved g c =
    let taken = is_name (g.D.Declared.scope c.args.declared.now) c.args.edited.now in
    let label = c.args.label.now in
    let l = c.loop-number in
    let n = l.number - 1 in
    let old = map (λ w. w.items) l.labels.items in
    let one : 1 + n ≡ l.number = omega arith in
    let same : n + 1 ≡ (l.number + 1) - 1 = omega arith in
    record {
      made =
          c.in_ok-push_free.ensures.more
          ∙ ap (λ w. old ++ cond (not (taken w)) (w ∷ []) []) c.in_ok-name.ensures
          ∙ free_more taken label n l.number old one l.invariant.made
          ∙ ap (free_of taken label) same;
      few = omega (arith, c.in_ok-push_free.ensures.few, l.invariant.few);
    }

pub returns-then-len-count : goal.returns-then-len-count
returns-then-len-count g c =
    let taken = is_name (g.D.Declared.scope c.args.declared.now) c.args.edited.now in
    let labels = c.loop-number.labels.items in
    let made = map (λ (w : Vec ℕ Global). w.items) labels in
    let long = length-map labels (λ (w : Vec ℕ Global). w.items) in
    free_enough taken c.args.label.now (c.loop-number.number - 1) 4294967294 c.args.count made (omega (arith, c.loop-number-test.true))
    c.loop-number.invariant.made (omega (arith, long, c.if-len-count.true, c.len.ensures))

pub returns : goal.returns
returns g c =
    let taken = is_name (g.D.Declared.scope c.args.declared.now) c.args.edited.now in
    let label = c.args.label.now in
    let labels = c.loop-number.labels.items in
    let made = map (λ (w : Vec ℕ Global). w.items) labels in
    let long = length-map labels (λ (w : Vec ℕ Global). w.items) in
    let within = c.loop-number.auto.number-end (omega arith) in
    let last : c.loop-number.number - 1 ≡ 4294967294 = omega (arith, c.loop-number-test.false, within) in
    free_all taken label 4294967294 c.args.count made (c.loop-number.invariant.made ∙ ap (free_of taken label) last)
    (omega (arith, long, c.loop-number.invariant.few))
