-- What is left to show of `new`.
use Rattle.std.proofs.Common.{◌≡◌, ◌∙◌, ◌+◌, [], length, replicate, rules, sym, ap, subst, arith}
use Rattle.std.specs.List.{count_by}
use Rattle.std.proofs.lemmas.List.{length-replicate}
use Rattle.expanding.specs.Views.{AreCounts}
use Rattle.expanding.proofs.Fronts.{taken_all}
use Rattle.expanding.proofs.Gaps.{counts_none}
use Rattle.expanding.proofs.ranking.Ranker.new.Goals as goal

pub returns : goal.returns
returns c =
    let flags = c.args.flags.now in
    let taken : c.count-taken.result ≡ count_by (λ f. f) flags = search rules in
    let n = c.count-taken.result + 1 in
    let all = taken_all flags in
    let none : c.in_ok-counts.counts.items ≡ replicate n 0 = c.in_ok-counts.ensures.items_if_clones_equal (λ y h. h) in
    record {
      fronts = c.in_ok-fronts.ensures;
      many = ap length none ∙ (length-replicate n 0 ∙ omega arith);
      counts = subst (AreCounts []) (sym none) (counts_none n);
    }
