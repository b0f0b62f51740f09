-- What is left to show of `last_typed`.
use Rattle.std.proofs.Common.{◌≡◌, ℕ, suc, ◌+◌, ◌-◌, ◌<◌, length, map, take, drop, get_or, reverse, Some, sym, ap, ◌∙◌, arith}
use Rattle.std.specs.Prelude.{◌&&◌, ◌==◌, find}
use Rattle.std.specs.Option.{option_map}
use Rattle.std.proofs.lemmas.List.{get_or-map}
use Rattle.mmtext.specs.Views.{seen}
use Rattle.locating.specs.Fronts.{says, front_of}
use Rattle.locating.specs.Taken.{Spoken, spoken, is_float_front, is_typed, closed_with, closed_by}
use Rattle.locating.proofs.Spoken.{earlier, here_last, closed_next, within, within_spoken, behind_is, one, at_words, all_spoken, none_closed, few_closed, past}
use Rattle.locating.proofs.taken.last_typed.Goals as goal

pub loop-at-init : goal.loop-at-init
loop-at-init c =
    let words = c.args.words.now in
    let p = λ (s : Spoken). says c.args.name.now s.word && is_typed s in
    record {
      within = omega arith;
      few = omega arith;
      closes = none_closed words;
      kept = ap (λ l. find p (reverse l)) (all_spoken words);
    }

pub returns-then-is_typed : goal.returns-then-is_typed
returns-then-is_typed c =
    let words = c.args.words.now in
    let ts = map seen words in
    let i = c.loop-at.at - 1 in
    let next : c.loop-at.at ≡ i + 1 = omega (arith, c.loop-at-test.true) in
    let then : c.loop-at.at ≡ suc i = omega (arith, c.loop-at-test.true) in
    let lt : i < length words = omega (arith, c.loop-at-test.true, c.loop-at.invariant.within) in
    let p = λ (s : Spoken). says c.args.name.now s.word && is_typed s in
    let is = at_words words i past lt in
    let front = map seen (take i words) in
    let word = seen (get_or words i past) in
    let behind = map seen (take (length words - (i + 1)) (drop (i + 1) words)) in
    let closes : closed_by behind ≡ c.loop-at.closed =
    ap closed_by (behind_is words i past lt) ∙ ap (λ n. closed_by (drop n ts)) (sym next) ∙ sym c.loop-at.invariant.closes in
    let tested = λ (n : ℕ). says c.args.name.now word && (is_float_front (front_of front) && n == 0) in
    let kept : find p (reverse (take (suc i) (spoken ts))) ≡ find p (reverse (spoken ts)) =
    ap (λ n. find p (reverse (take n (spoken ts)))) (sym then) ∙ c.loop-at.invariant.kept in
    sym (ap (option_map (λ (s : Spoken). s.word))
    (here_last p (spoken ts) i (one words i past lt) (within_spoken words i past lt) kept
    (ap p is ∙ ap tested closes ∙ sym c.is_typed.ensures ∙ c.if-is_typed.true))
    ∙ ap (λ (s : Spoken). Some s.word) is)

pub loop-at-preserved : goal.loop-at-preserved
loop-at-preserved c =
    let words = c.args.words.now in
    let ts = map seen words in
    let i = c.loop-at.at - 1 in
    let next : c.loop-at.at ≡ i + 1 = omega (arith, c.loop-at-test.true) in
    let then : c.loop-at.at ≡ suc i = omega (arith, c.loop-at-test.true) in
    let lt : i < length words = omega (arith, c.loop-at-test.true, c.loop-at.invariant.within) in
    let p = λ (s : Spoken). says c.args.name.now s.word && is_typed s in
    let is = at_words words i past lt in
    let front = map seen (take i words) in
    let word = seen (get_or words i past) in
    let behind = map seen (take (length words - (i + 1)) (drop (i + 1) words)) in
    let closes : closed_by behind ≡ c.loop-at.closed =
    ap closed_by (behind_is words i past lt) ∙ ap (λ n. closed_by (drop n ts)) (sym next) ∙ sym c.loop-at.invariant.closes in
    let tested = λ (n : ℕ). says c.args.name.now word && (is_float_front (front_of front) && n == 0) in
    let kept : find p (reverse (take (suc i) (spoken ts))) ≡ find p (reverse (spoken ts)) =
    ap (λ n. find p (reverse (take n (spoken ts)))) (sym then) ∙ c.loop-at.invariant.kept in
    record {
      within = omega (arith, lt);
      few = few_closed word c.loop-at.closed c.closed_with-closed.result i c.loop-at.at (length words) c.closed_with-closed.ensures next
          c.loop-at.invariant.few;
      closes = c.closed_with-closed.ensures
          ∙ ap (closed_with word) (c.loop-at.invariant.closes ∙ ap (λ n. closed_by (drop n ts)) next)
          ∙ sym (closed_next ts i (seen past) (within words i past lt) ∙ ap (λ t. closed_with t (closed_by (drop (i + 1) ts)))
          (get_or-map seen words i past (seen past) lt));
      kept = earlier p (spoken ts) i (one words i past lt) (within_spoken words i past lt) kept
          (ap p is ∙ ap tested closes ∙ sym c.is_typed.ensures ∙ c.if-is_typed.false);
    }
