-- What is left to show of `are_kept`.
use Rattle.std.proofs.Common.{◌≡◌, ◌∙◌, Bool, true, false, [], List, sym, ap, subst, IsTrue}
use Rattle.source.specs.Views.{seen_pairs}
use Rattle.giving.specs.Staying.{Change}
use Rattle.comments.specs.Insides.{labels_in}
use Rattle.comments.specs.Walks.{seen_texts, AreTexts}
use Rattle.comments.proofs.Stayed.{kept_by, lost_by}
use Rattle.comments.proofs.keeping.are_kept.Goals as goal

not_both : (b : Bool) → b ≡ false → IsTrue b → ⊥
not_both b isnt is = let e : ◌≡◌ {A = Bool} false true = sym isnt ∙ is in absurd cc

pub returns-clause-kept : goal.returns-clause-kept
returns-clause-kept c = λ yes.
    let cs = c.args.changes.now in
    let out = c.args.out.now in
    let wanted = c.in_ok-wanted.wanted.items in
    let there = c.in_ok-there.there.items in
    let us = c.sort_unstable.new.self.items in
    let vs = c.sort_unstable-2.new.self.items in
    let none : c.in_ok-nothing.nothing ≡ [] = c.in_ok-nothing.ensures ∙ ap seen_pairs c.new.ensures.items in
    let found : AreTexts [] [] out (seen_texts there) =
    subst (λ (ns : List Change). AreTexts ns (labels_in ns) out (seen_texts there)) none c.in_ok-there.ensures in
    let same : seen_texts us ≡ seen_texts vs =
    sym (ap seen_texts c.as_slice.ensures.value) ∙ c.are_equal.ensures.0 yes ∙ ap seen_texts c.as_slice-2.ensures.value in
    kept_by cs (labels_in c.args.gone.now) c.args.source.now out wanted there us vs c.in_ok-wanted.ensures found
    c.sort_unstable.ensures.permutation c.sort_unstable-2.ensures.permutation same

pub returns-clause-lost : goal.returns-clause-lost
returns-clause-lost c = λ isnt.
    let cs = c.args.changes.now in
    let out = c.args.out.now in
    let wanted = c.in_ok-wanted.wanted.items in
    let there = c.in_ok-there.there.items in
    let us = c.sort_unstable.new.self.items in
    let vs = c.sort_unstable-2.new.self.items in
    let none : c.in_ok-nothing.nothing ≡ [] = c.in_ok-nothing.ensures ∙ ap seen_pairs c.new.ensures.items in
    let found : AreTexts [] [] out (seen_texts there) =
    subst (λ (ns : List Change). AreTexts ns (labels_in ns) out (seen_texts there)) none c.in_ok-there.ensures in
    lost_by cs (labels_in c.args.gone.now) c.args.source.now out wanted there us vs c.in_ok-wanted.ensures found
    c.sort_unstable.ensures.permutation c.sort_unstable-2.ensures.permutation c.sort_unstable.ensures.sorted
    c.sort_unstable-2.ensures.sorted
    (λ same. not_both c.are_equal.result isnt (c.are_equal.ensures.1
    (ap seen_texts c.as_slice.ensures.value ∙ same ∙ sym (ap seen_texts c.as_slice-2.ensures.value))))
