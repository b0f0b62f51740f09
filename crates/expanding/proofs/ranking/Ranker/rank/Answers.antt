-- What is left to show of `rank`.
use Rattle.std.proofs.Common.{◌+◌, ◌++◌, length, map, take, drop, refl, sym, ap, subst, arith}
use Rattle.std.proofs.lemmas.List.{drop_all}
use Rattle.std.proofs.lemmas.Result.{err_from_is_err_and}
use Rattle.mmtext.specs.Views.{seen}
use Rattle.expanding.specs.Ranking.{gaps_of}
use Rattle.expanding.specs.Refusals.{IsUnranked}
use Rattle.expanding.specs.Views.{IsRankerOf}
use Rattle.spreading.proofs.Parted.{more_within, some_first, part_first, parts_of, words_behind}
use Rattle.expanding.proofs.PartsRanked.{IsRanking, ranking_none, ranking_more, ranking_all, unranked}
use Rattle.expanding.proofs.ranking.Ranker.rank.Goals as goal

pub loop-at-init : goal.loop-at-init
loop-at-init g c =
    let s = g.D.Declared.scope c.args.declared.now in
    record {
      within = omega arith;
      ranking = λ flags earlier ready.
          ranking_none s flags earlier (map seen c.args.words.now) c.new-laid.result c.args.self.now ready c.new-laid.ensures.laid
          c.new-laid.ensures.beginnings;
    }

pub loop-at-preserved : goal.loop-at-preserved
loop-at-preserved g c =
    let s = g.D.Declared.scope c.args.declared.now in
    let words = c.args.words.now in
    let at = c.loop-at.at in
    let n = c.part_length.result in
    let lt = c.loop-at-test.true in
    let part = take n (words_behind words at) in
    let within = c.part_length.ensures.within in
    let first = c.part_length.ensures.part in
    record {
      within = more_within words at n lt within first part refl;
      ranking = λ flags earlier ready.
          let h = c.loop-at.invariant.ranking flags earlier ready in
          let before = earlier ++ gaps_of s flags h.done in
          ranking_more s flags earlier (map seen words) (map seen (drop at words)) (map seen part)
          (map seen (drop (at + length part) words)) c.loop-at.laid c.loop-at.self h (part_first words at n lt within first part refl)
          c.put_part.new.laid c.put_part.new.self (c.in_ok-put_part.ensures.uncrowded flags before h.ranker)
          (c.in_ok-put_part.ensures.laid flags before h.ranker) c.in_ok-put_part.ensures.beginnings
          (c.in_ok-put_part.ensures.ranker flags before h.ranker);
    }

pub loop-at-smaller : goal.loop-at-smaller
loop-at-smaller g c =
    let words = c.args.words.now in
    let at = c.loop-at.at in
    let n = c.part_length.result in
    let lt = c.loop-at-test.true in
    let part = take n (words_behind words at) in
    let some = some_first words at n lt c.part_length.ensures.within c.part_length.ensures.part part refl in
    omega arith

pub returns-in_err-put_part-clause-crowded : goal.returns-in_err-put_part-clause-crowded
returns-in_err-put_part-clause-crowded g c = λ flags earlier ranker each.
    let s = g.D.Declared.scope c.args.declared.now in
    let words = c.args.words.now in
    let at = c.loop-at.at in
    let n = c.part_length.result in
    let lt = c.loop-at-test.true in
    let part = take n (words_behind words at) in
    let within = c.part_length.ensures.within in
    let first = c.part_length.ensures.part in
    let ready : IsRankerOf s flags earlier c.args.self.now = record { ranker = ranker; each = each } in
    let h = c.loop-at.invariant.ranking flags earlier ready in
    let before = earlier ++ gaps_of s flags h.done in
    let behind = map seen (drop (at + length part) words) in
    let parts = parts_of behind in
    let why = unranked s flags earlier (map seen words) (map seen (drop at words)) (map seen part) behind c.loop-at.laid c.loop-at.self h
    (part_first words at n lt within first part refl) parts.0 parts.1 _ (c.in_err-put_part.ensures.crowded flags before h.ranker) in
    let p = err_from_is_err_and c.from_residual.result c.from_residual.ensures.1 in
    rw p.1 (subst (IsUnranked s flags earlier (map seen words)) (sym p.2) why)

pub returns-clause-ranked : goal.returns-clause-ranked
returns-clause-ranked g c = λ flags earlier ranker each.
    let s = g.D.Declared.scope c.args.declared.now in
    let words = c.args.words.now in
    let ready : IsRankerOf s flags earlier c.args.self.now = record { ranker = ranker; each = each } in
    let none = ap (map seen) (drop_all c.loop-at.at words c.loop-at-test.false) in
    ranking_all s flags earlier (map seen words) c.loop-at.laid c.loop-at.self
    (subst (λ rest. IsRanking s flags earlier (map seen words) rest c.loop-at.laid c.loop-at.self) none
    (c.loop-at.invariant.ranking flags earlier ready))
