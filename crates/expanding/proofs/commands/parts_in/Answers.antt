-- What is left to show of `parts_in`.
use Rattle.std.proofs.Common.{◌++◌, ◌∷◌, [], refl, map, take, sym, ap, subst, arith}
use Rattle.std.proofs.lemmas.List.{drop_all, append-nil}
use Rattle.mmtext.specs.Views.{seen}
use Rattle.spreading.specs.Forms.{AreParts}
use Rattle.expanding.specs.Bars.{seen_part}
use Rattle.expanding.proofs.Commanding.{part_more}
use Rattle.spreading.proofs.Parted.{more_within, some_first, part_first, words_behind}
use Rattle.expanding.proofs.commands.parts_in.Goals as goal

pub loop-at-preserved : goal.loop-at-preserved
loop-at-preserved c =
    let words = c.args.words.now in
    let at = c.loop-at.at in
    let n = c.part_length.result in
    let lt = c.loop-at-test.true in
    let part = take n (words_behind words at) in
    let within = c.part_length.ensures.within in
    let first = c.part_length.ensures.part in
    record {
      within = more_within words at n lt within first part refl;
      cut = λ ps parts.
          subst (λ ys. AreParts (map seen words) (map seen_part ys ++ ps)) (sym c.in_ok-push.ensures.items)
          (part_more seen_part (map seen words) c.loop-at.parts.items _ ps
          (c.loop-at.invariant.cut (map seen part ∷ ps) (part_first words at n lt within first part refl ps parts)));
    }

pub loop-at-smaller : goal.loop-at-smaller
loop-at-smaller c =
    let words = c.args.words.now in
    let at = c.loop-at.at in
    let n = c.part_length.result in
    let lt = c.loop-at-test.true in
    let part = take n (words_behind words at) in
    let some = some_first words at n lt c.part_length.ensures.within c.part_length.ensures.part part refl in
    omega arith

pub returns : goal.returns
returns c =
    let words = c.args.words.now in
    subst (AreParts (map seen words)) (append-nil (map seen_part c.loop-at.parts.items))
    (c.loop-at.invariant.cut [] (ap (map seen) (drop_all c.loop-at.at words c.loop-at-test.false)))
