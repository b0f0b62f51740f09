-- What is left to show of `begin`.
use Rattle.std.proofs.Common.{◌≡◌, ◌∙◌, ◌≤◌, ◌+◌, [], ℕ, suc, List, length, take, map, ap, sym, subst, arith, rules}
use Rattle.std.proofs.lemmas.List.{take_all, length-map}
use Rattle.source.specs.Scopes.{Hypothesis, is_mandatory}
use Rattle.scopes.specs.Views.{kept_of, scope_of, marks_of}
use Rattle.scopes.specs.Symbols.{symbols_at}
use Rattle.scopes.proofs.Seeing.{same_scope}
use Rattle.scopes.proofs.Marking.{mark_next}
use Rattle.scopes.proofs.frames.begin.Goals as goal

pub loop-place-preserved : goal.loop-place-preserved
loop-place-preserved c =
    let k = kept_of c.loop-place.tables in
    let j = kept_of c.args.tables.now in
    let hs = (scope_of j).hypotheses in
    let i = c.loop-place.place in
    let next : suc i ≡ i + 1 = omega arith in
    let same : (scope_of k).hypotheses ≡ hs = ap (λ s. s.hypotheses) (same_scope k j c.loop-place.invariant.stand) in
    let marks = subst (λ (xs : List Hypothesis). marks_of k ≡ map (is_mandatory (take i hs) []) xs
    → marks_of (kept_of c.mark_symbols.new.tables) ≡ map (is_mandatory (take i hs) (symbols_at xs i)) xs)
    same (c.mark_symbols.ensures.marks (take i hs) []) c.loop-place.invariant.marks in
    record {
      sound = c.mark_symbols.ensures.sound;
      stand = c.mark_symbols.ensures.stand ∙ c.loop-place.invariant.stand;
      marks = marks ∙ mark_next hs hs [] i ∙ ap (λ (n : ℕ). map (is_mandatory (take n hs) []) hs) next;
    }

pub returns-clause-marks : goal.returns-clause-marks
returns-clause-marks c =
    let k = kept_of c.mark_premises.new.tables in
    let j = kept_of c.args.tables.now in
    let hs = (scope_of j).hypotheses in
    let i = c.loop-place.place in
    let same : (scope_of k).hypotheses ≡ hs = ap (λ s. s.hypotheses) (same_scope k j c.mark_premises.ensures.stand) in
    let size : length hs ≡ length c.mark_premises.new.tables.active.items =
    ap length (sym same) ∙ length-map c.mark_premises.new.tables.active.items _ in
    let count : c.len-place-end.result ≡ length c.mark_premises.new.tables.active.items = search rules in
    let all : length hs ≤ i = omega arith in
    c.loop-place.invariant.marks ∙ ap (λ (xs : List Hypothesis). map (is_mandatory xs []) hs) (take_all i hs all)
