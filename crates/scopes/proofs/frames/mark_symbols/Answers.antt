-- What is left to show of `mark_symbols`.
use Rattle.std.proofs.Common.{◌≡◌, ◌∙◌, ◌≤◌, ◌+◌, ◌++◌, List, length, take, map, ap, subst, arith}
use Rattle.std.proofs.lemmas.List.{take_all}
use Rattle.mmtext.specs.Words.{Word}
use Rattle.source.specs.Scopes.{Hypothesis, is_mandatory}
use Rattle.scopes.specs.Views.{kept_of, scope_of, marks_of}
use Rattle.scopes.specs.Symbols.{symbols_at}
use Rattle.scopes.proofs.Seeing.{same_scope}
use Rattle.scopes.proofs.frames.mark_symbols.Goals as goal

pub loop-index-preserved : goal.loop-index-preserved
loop-index-preserved c =
    let k = kept_of c.loop-index.tables in
    let j = kept_of c.args.tables.now in
    let i = c.loop-index.index in
    let same : (scope_of k).hypotheses ≡ (scope_of j).hypotheses =
    ap (λ s. s.hypotheses) (same_scope k j c.loop-index.invariant.stand) in
    record {
      sound = c.mark_symbol.ensures.sound;
      stand = c.mark_symbol.ensures.stand ∙ c.loop-index.invariant.stand;
      marks = λ premises front marks.
          subst (λ (hs : List Hypothesis).
          marks_of k ≡ map (is_mandatory premises (front ++ take i (symbols_at hs c.args.place))) hs
          → marks_of (kept_of c.mark_symbol.new.tables)
          ≡ map (is_mandatory premises (front ++ take (i + 1) (symbols_at hs c.args.place))) hs)
          same (c.mark_symbol.ensures.marks premises front) (c.loop-index.invariant.marks premises front marks);
    }

pub returns-clause-marks : goal.returns-clause-marks
returns-clause-marks c = λ premises front marks.
    let hs = (scope_of (kept_of c.args.tables.now)).hypotheses in
    let ws = symbols_at hs c.args.place in
    let count : c.count_symbols-index-end.result ≡ length ws = c.count_symbols-index-end.ensures in
    let all : length ws ≤ c.loop-index.index = omega arith in
    c.loop-index.invariant.marks premises front marks
    ∙ ap (λ (us : List Word). map (is_mandatory premises (front ++ us)) hs) (take_all c.loop-index.index ws all)
