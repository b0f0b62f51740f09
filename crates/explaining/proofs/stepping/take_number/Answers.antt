-- What is left to show of `take_number`.
use Rattle.std.proofs.Common.{◌≡◌, ◌<◌, ◌≤◌, ◌-◌, ℕ, List, [], length, take, sym, ap, subst as transport, ◌∙◌, Some, None, arith}
use Rattle.std.specs.Prelude.{IfOk, slice_get, if◌then◌else◌}
use Rattle.std.specs.Borrow.{Bor}
use Rattle.std.proofs.lemmas.List.{length-map, get_or-map}
use Rattle.source.specs.Proofs.{names, stepped, repeat}
use Rattle.source.specs.Views.{seen_words}
use Rattle.taking.proofs.Numbering.{names_label}
use Rattle.verifying.specs.Verifies.{entry}
use Rattle.explaining.specs.Shown.{seen_assertion, seen_stack, Turns}
use Rattle.explaining.proofs.Stepped.{number_again}
use Rattle.explaining.proofs.stepping.take_number.Goals as goal

pub returns-then-number-labels : goal.returns-then-number-labels
returns-then-number-labels g c =
    let earlier = take c.args.place (g.D.Declared.scope c.args.declared.now).assertions in
    let x = seen_assertion c.args.listed.now.theorem.now in
    let labels = c.args.listed.now.labels.now in
    let k = c.args.number in
    let long : length (seen_words labels) ≡ length labels = length-map labels (λ (w : Bor (List ℕ)). w.now) in
    let lt : k < length (seen_words labels) = omega (arith, long, c.if-number-labels.true) in
    transport (λ step. IfOk c.take_label.result (Turns earlier x step (seen_stack c.args.stack.now) (seen_stack c.take_label.new.stack)))
    (sym (names_label (seen_words labels) k lt
    ∙ ap names (get_or-map (λ (w : Bor (List ℕ)). w.now) labels k _ [] c.if-number-labels.true)))
    c.take_label.ensures

pub returns-then-branch : goal.returns-then-branch
returns-then-branch g c =
    let earlier = take c.args.place (g.D.Declared.scope c.args.declared.now).assertions in
    let x = seen_assertion c.args.listed.now.theorem.now in
    let labels = c.args.listed.now.labels.now in
    let k = c.args.number in
    let old = seen_stack c.args.stack.now in
    let long : length (seen_words labels) ≡ length labels = length-map labels (λ (w : Bor (List ℕ)). w.now) in
    let le : length (seen_words labels) ≤ k = omega (arith, long, c.if-number-labels.false) in
    ap (stepped (entry earlier x) earlier x.active old) (number_again (seen_words labels) k le)
    ∙ ap (λ m. repeat old (slice_get old.marked (k - m))) long
    ∙ c.in_ok-repeat.ensures
    ∙ ap (λ b. if b then Some (seen_stack c.repeat.new.self) else None) c.if-branch.true

pub returns-else-branch : goal.returns-else-branch
returns-else-branch g c =
    let earlier = take c.args.place (g.D.Declared.scope c.args.declared.now).assertions in
    let x = seen_assertion c.args.listed.now.theorem.now in
    let labels = c.args.listed.now.labels.now in
    let k = c.args.number in
    let old = seen_stack c.args.stack.now in
    let long : length (seen_words labels) ≡ length labels = length-map labels (λ (w : Bor (List ℕ)). w.now) in
    let le : length (seen_words labels) ≤ k = omega (arith, long, c.if-number-labels.false) in
    ap (stepped (entry earlier x) earlier x.active old) (number_again (seen_words labels) k le)
    ∙ ap (λ m. repeat old (slice_get old.marked (k - m))) long
    ∙ c.in_ok-repeat.ensures
    ∙ ap (λ b. if b then Some (seen_stack c.repeat.new.self) else None) c.if-branch.false
