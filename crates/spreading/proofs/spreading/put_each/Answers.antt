-- What is left to show of `put_each`.
use Rattle.std.proofs.Common.{◌≡◌, ◌∙◌, ◌++◌, ◌∷◌, List, ℕ, map, take, suc, get_or, Bor, [], length, sym, ap, arith}
use Rattle.mmtext.specs.Views.{seen}
use Rattle.mmtext.specs.Words.{Word}
use Rattle.std.proofs.lemmas.List.{take_all}
use Rattle.source.specs.Views.{seen_words}
use Rattle.spreading.specs.Spreading.{replaced_in_each, replaced_in}
use Rattle.spreading.specs.Views.{seen_star}
use Rattle.spreading.proofs.Citing.{put_next, one_further, so_far}
use Rattle.spreading.proofs.spreading.put_each.Goals as goal

pub loop-label-init : goal.loop-label-init
loop-label-init c =
    c.in_ok-put_in.ensures
    ∙ ap (λ ws. map seen c.args.out.now.items ++ replaced_in_each (seen_star c.args.star) ws)
    (sym (so_far c.args.labels.now c.in-Some.others.now c.in-Some.first.now 0 c.in-Some.ensures.cases.0))

pub loop-label-preserved : goal.loop-label-preserved
loop-label-preserved c =
    let x = seen_star c.args.star in
    let others = c.in-Some.others.now in
    let k = c.loop-label.label-index in
    let first = c.in-Some.first.now in
    let start = map seen c.args.out.now.items in
    let words = c.in-Some.ensures.cases.0 in
    let none : Bor (List ℕ) = record { ref_ptr = (0, 0); now = [] } in
    let word : Word = (get_or others k none).now in
    let before : map seen c.loop-label.out.items ≡ start ++ replaced_in_each x (first.now ∷ seen_words (take k others)) =
    c.loop-label.invariant ∙ ap (λ ws. start ++ replaced_in_each x ws) (so_far c.args.labels.now others first k words) in
    c.in_ok-put_in-2.ensures
    ∙ (ap (λ ts. ts ++ replaced_in x word) c.in_ok-begin_next.ensures
    ∙ (put_next x start (map seen c.loop-label.out.items) first.now word (seen_words (take k others)) before
    ∙ ap (λ ws. start ++ replaced_in_each x ws)
    (sym (one_further c.args.labels.now others first k none words c.loop-label-test.true))))

pub returns : goal.returns
returns c =
    let x = seen_star c.args.star in
    let short = c.loop-label-test.false in
    let long = ap length c.in-Some.ensures.cases.0 in
    c.loop-label.invariant
    ∙ ap (λ ws. map seen c.args.out.now.items ++ replaced_in_each x (seen_words ws))
    (take_all (suc c.loop-label.label-index) c.args.labels.now (omega arith))
