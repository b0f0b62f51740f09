-- What is left to show of `changes_of`.
use Rattle.std.proofs.Common.{◌≡◌, ◌∙◌, ◌++◌, [], ◌+◌, ℕ, List, Bor, length, map, take, drop, get_or, sym, ap, arith, append_assoc}
use Rattle.std.proofs.lemmas.List.{drop_more, length-map}
use Rattle.source.specs.Views.{seen_pairs}
use Rattle.giving.specs.Staying.{Change}
use Rattle.pasting.specs.Views.{seen_given_labels}
use Rattle.pasting.specs.declared.own_words.GivenLabels.{GivenLabels as CodeLabels}
use Rattle.dressing.specs.Labels.{changes_by, changes_from}
use Rattle.dressing.proofs.Wanted.{asked, front, within, one_more, one_longer}
use Rattle.dressing.proofs.keeping.changes_of.Goals as goal

abbrev none : CodeLabels
none = record { label = record { ref_ptr = (0, 0); now = [] }; premises = record { ref_ptr = (0, 0); now = [] } }

pub overflow_add-before : goal.overflow_add-before
overflow_add-before g c =
    let gs = c.args.given.now in
    let i = c.loop-one.one-index in
    let longer = one_longer gs i none c.loop-one-test.true in
    let before = c.loop-one.invariant.before in
    let few = within gs (i + 1) in
    let long = ap length (sym c.loop-one.invariant.wanted) ∙ ap length (sym c.words-words.ensures)
    ∙ length-map c.words-words.result.now (λ (w : Bor (List ℕ)). w.now) in
    omega (arith, longer, before, few, long)

pub loop-one-preserved : goal.loop-one-preserved
loop-one-preserved g c =
    let s = g.D.Declared.scope c.args.declared.now in
    let gs = c.args.given.now in
    let i = c.loop-one.one-index in
    let lt = c.loop-one-test.true in
    let one = seen_given_labels (get_or gs i none) in
    let before = c.loop-one.invariant.before in
    let wanted = c.loop-one.invariant.wanted in
    let old = seen_pairs c.loop-one.changes.items in
    let rest = map seen_given_labels (drop (i + 1) gs) in
    let behind : take c.loop-one.before c.in_ok-wanted.wanted ≡ asked gs i =
    ap (λ n. take n c.in_ok-wanted.wanted) before ∙ ap (take (length (asked gs i))) wanted ∙ front gs i in
    let ahead = ap (map seen_given_labels) (drop_more gs i none lt) in
    record {
      wanted = wanted;
      before = ap (λ n. n + length (get_or gs i none).premises.now) before ∙ sym (one_longer gs i none lt);
      so_far =
          ap (λ (cs : List Change). cs ++ changes_from s (asked gs (i + 1)) rest)
          (c.in_ok-put_given.ensures ∙ ap (λ ws. old ++ changes_by s ws one) behind)
          ∙ append_assoc old (changes_by s (asked gs i) one) (changes_from s (asked gs (i + 1)) rest)
          ∙ ap (λ ws. old ++ (changes_by s (asked gs i) one ++ changes_from s ws rest)) (one_more gs i none lt)
          ∙ ap (λ gs'. old ++ changes_from s (asked gs i) gs') (sym ahead)
          ∙ c.loop-one.invariant.so_far;
    }
