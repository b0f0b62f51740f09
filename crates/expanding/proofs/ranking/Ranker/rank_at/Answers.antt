-- What is left to show of `rank_at`.
use Rattle.std.proofs.Common.{sym}
use Rattle.std.proofs.lemmas.Option.{slice_get_within}
use Rattle.expanding.proofs.Gaps.{given, full, no_gap_there}
use Rattle.expanding.proofs.ranking.Ranker.rank_at.Goals as goal

pub note-requires : goal.note-requires
note-requires c = slice_get_within c.args.self.now.counts.items c.args.gap c.in_ok-count.count (sym c.in_ok-count.ensures)

pub returns-in_err-count : goal.returns-in_err-count
returns-in_err-count c = λ flags earlier ranker le.
    absurd (no_gap_there flags earlier c.args.gap c.args.self.now ranker le c.in_err-count.ensures)

pub returns-then-count-ge-MOST_BESIDE : goal.returns-then-count-ge-MOST_BESIDE
returns-then-count-ge-MOST_BESIDE c = λ flags earlier ranker le.
    full flags earlier c.args.gap c.in_ok-count.count c.args.self.now c.args.self.now ranker le c.in_ok-count.ensures
    c.if-count-ge-MOST_BESIDE.true

pub returns : goal.returns
returns c = λ flags earlier ranker le.
    given flags earlier c.args.gap c.in_ok-count.count c.args.self.now c.note.new.self ranker le c.in_ok-count.ensures
    c.if-count-ge-MOST_BESIDE.false c.note.ensures.fronts c.note.ensures.counts
