-- What is left to show of `spread`.
use Rattle.std.proofs.Common.{◌∙◌, ◌+◌, ◌++◌, [], false, length, map, drop, sym, ap, subst, arith}
use Rattle.std.specs.Prelude.{◌&&◌, codes}
use Rattle.std.proofs.lemmas.List.{drop_all}
use Rattle.mmtext.specs.Views.{seen}
use Rattle.spreading.specs.Forms.{begins_with}
use Rattle.spreading.specs.Views.{seen_misfit}
use Rattle.spreading.proofs.Parted.{behind_first, more_within, some_first, part_first}
use Rattle.spreading.proofs.PartByPart.{IsSpreading, at_first, at_last, goes_on}
use Rattle.spreading.proofs.spreading.spread.Goals as goal

pub loop-at-preserved : goal.loop-at-preserved
loop-at-preserved g c =
    let s = g.D.Declared.scope c.args.declared.now in
    let words = c.args.words.now in
    let ts = map seen words in
    let at = c.loop-at.at in
    let n = c.part_length.result in
    let lt = c.loop-at-test.true in
    let part = c.split_at.result.0.now in
    let within = c.part_length.ensures.within in
    let first = c.part_length.ensures.part in
    let front = c.split_at.ensures.front in
    let left = behind_first words at n lt within first part front in
    let back = ap (map seen) (c.split_at.ensures.back ∙ left) in
    let behind = map seen (drop (at + length part) words) in
    let alone = c.is_enclosed.result in
    let out = map seen c.loop-at.out.words.items in
    let ms = map seen_misfit c.loop-at.out.misfits.items in
    let more = goes_on s ts (map seen (drop at words)) (map seen part) behind c.loop-at.is_begun alone out ms
    c.loop-at.invariant.spreading
    (part_first words at n lt within first part front)
    (c.is_enclosed.ensures ∙ ap (λ us. c.loop-at.is_begun && begins_with (codes "commit") us) back) in
    record {
      within = more_within words at n lt within first part front;
      spreading =
          subst (λ b. IsSpreading s ts behind b (map seen c.put.new.self.words.items) (map seen_misfit c.put.new.self.misfits.items))
          (sym c.begins_with-is_begun.ensures)
          (subst (λ us. IsSpreading s ts behind (begins_with (codes "begin") (map seen part)) us (map seen_misfit c.put.new.self.misfits.items))
          (sym c.in_ok-put.ensures.words)
          (subst (IsSpreading s ts behind (begins_with (codes "begin") (map seen part)) _) (sym c.in_ok-put.ensures.misfits) more));
    }

pub loop-at-smaller : goal.loop-at-smaller
loop-at-smaller g c =
    let words = c.args.words.now in
    let at = c.loop-at.at in
    let n = c.part_length.result in
    let lt = c.loop-at-test.true in
    let part = c.split_at.result.0.now in
    let some = some_first words at n lt c.part_length.ensures.within c.part_length.ensures.part part c.split_at.ensures.front in
    omega arith

pub returns : goal.returns
returns g c =
    let s = g.D.Declared.scope c.args.declared.now in
    let words = c.args.words.now in
    let none = ap (map seen) (drop_all c.loop-at.at words c.loop-at-test.false) in
    let out = map seen c.loop-at.out.words.items in
    let ms = map seen_misfit c.loop-at.out.misfits.items in
    at_last s (map seen words) c.loop-at.is_begun out ms
    (subst (λ ts. IsSpreading s (map seen words) ts c.loop-at.is_begun out ms) none c.loop-at.invariant.spreading)
