-- What is left to show of `selected`.
use Rattle.std.proofs.Common.{◌≡◌, ◌∙◌, ◌+◌, ◌-◌, ◌++◌, ℕ, true, false, length, take, arith, ap}
use Rattle.std.specs.Prelude.{replicate}
use Rattle.std.proofs.lemmas.List.Elements.{same_from_all_zip}
use Rattle.choosing.proofs.Parts.{resized}
use Rattle.choosing.proofs.between.selected.Goals as goal

pub returns-clause-chosen : goal.returns-clause-chosen
returns-clause-chosen c =
    let chosen = c.in_ok-chosen.chosen.items in
    let first = c.resize.new.self.items in
    let next = c.args.last + 1 in
    let n = c.len-count.result in
    let made : chosen ≡ take c.args.begin c.args.wanted.items =
    same_from_all_zip _ c.truncate.new.self.items chosen c.in_ok-chosen.ensures.cases.0 (λ x y e. e) ∙ c.truncate.ensures.items in
    let long : n ≡ length c.args.wanted.items = c.len-count.ensures ∙ c.args.wanted.ok.0 in
    resized c.args.wanted.items chosen first c.resize-2.new.self.items c.args.begin next n (omega arith) (omega arith) long made
    (c.in_ok-resize.ensures.items ∙ ap (λ (k : ℕ). take next chosen ++ replicate (next - k) true) c.in_ok-chosen.chosen.ok.0)
    (c.in_ok-resize-2.ensures.items ∙ ap (λ (k : ℕ). take n first ++ replicate (n - k) false) c.resize.new.self.ok.0)
