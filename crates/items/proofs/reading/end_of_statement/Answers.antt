-- What is left to show of `end_of_statement`.
use Rattle.std.proofs.Common.{◌≡◌, ◌∙◌, ◌+◌, true, false, length, codes, sym, ap, subst, rules, arith}
use Rattle.std.specs.Option.{unwrap_or}
use Rattle.std.specs.Str.{bytes_eq}
use Rattle.std.proofs.lemmas.Bool.{or_left, or_right}
use Rattle.mmtext.specs.Views.{seen}
use Rattle.items.specs.Items.{ends_statement}
use Rattle.items.specs.Reading.{IsFirst, IsStatementTo}
use Rattle.items.specs.Divided.{is_mark}
use Rattle.items.proofs.Divided.{comment_entered, comment_within, statement_goes, statement_ends as divided_ends, statement_on, no_mark_within}
use Rattle.items.proofs.Kinded.{none_of}
use Rattle.items.proofs.Passed.{nothing_begun, comment_begun, word_begun, statement_ends}
use Rattle.items.proofs.reading.end_of_statement.Goals as goal
use Rattle.items.proofs.reading.end_of_statement.Goals.{then-eq-3-via-then-eq-3, then-eq-3-via-else-eq-3+then-eq-4}

pub loop-token-init : goal.loop-token-init
loop-token-init c = record {
  within = c.requires;
  so_far = omega arith;
  passed = nothing_begun c.args.text.now c.args.from;
  divided = λ h. h;
}

pub loop-token-preserved-then-eq : goal.loop-token-preserved-then-eq
loop-token-preserved-then-eq c =
    let text = c.args.text.now in
    let next = c.in-Some.ensures in
    let t = seen c.in-Some.token in
    let is : IsFirst text c.loop-token.at t = record { next = next.some; later = next.later; within = next.within } in
    let opens : t.text ≡ codes "$(" = search rules in
    let begins : bytes_eq t.text (codes "$(") ≡ true = search rules in
    let so_far = c.loop-token.invariant.so_far in
    let end = c.in_ok-at.ensures in
    record {
      within = end.within;
      so_far = omega (arith, next.later, so_far, end.later);
      passed =
          comment_begun text c.args.from c.loop-token.at c.loop-token.first t c.loop-token.invariant.passed is c.in_ok-at.at opens
          end.comment;
      divided = λ h.
          let d = c.loop-token.invariant.divided h in
          comment_within text c.loop-token.at t is true d c.in_ok-at.at
          (end.outside d.outside (comment_entered text c.loop-token.at d.outside t is d.outside_are begins));
    }

pub returns-then-eq-2-clause-statement : goal.returns-then-eq-2-clause-statement
returns-then-eq-2-clause-statement c =
    let next = c.in-Some.ensures in
    let is : c.in-Some.token.text.now ≡ codes "$." = search rules in
    subst (IsStatementTo c.args.text.now c.args.from (c.in-Some.token.place + length c.in-Some.token.text.now))
    (sym c.unwrap_or-asserts.ensures)
    (statement_ends c.args.text.now c.args.from c.loop-token.at c.loop-token.first (seen c.in-Some.token) c.loop-token.invariant.passed
    (record { next = next.some; later = next.later; within = next.within }) is)

pub loop-token-preserved : goal.loop-token-preserved
loop-token-preserved c =
    let text = c.args.text.now in
    let next = c.in-Some.ensures in
    let t = seen c.in-Some.token in
    let is : IsFirst text c.loop-token.at t = record { next = next.some; later = next.later; within = next.within } in
    let opens : bytes_eq t.text (codes "$(") ≡ false = search rules in
    let ends : bytes_eq t.text (codes "$.") ≡ false = search rules in
    let opens_block : bytes_eq t.text (codes "${") ≡ false = search rules in
    let closes_block : bytes_eq t.text (codes "$}") ≡ false = search rules in
    let other : ends_statement t.text ≡ false =
    none_of (bytes_eq t.text (codes "$.")) (bytes_eq t.text (codes "${")) (bytes_eq t.text (codes "$}")) ends opens_block closes_block in
    let so_far = c.loop-token.invariant.so_far in
    let first = c.unwrap_or.ensures ∙ ap (unwrap_or c.loop-token.first) c.asserts.ensures in
    record {
      within = next.within;
      so_far = omega (arith, next.later, so_far);
      passed =
          word_begun text c.args.from c.loop-token.at c.loop-token.first t c.loop-token.invariant.passed is c.unwrap_or.result first opens
          other;
      divided = λ h. statement_on text c.loop-token.at t is (c.loop-token.invariant.divided h) opens ends;
    }

pub returns-then-eq-2-clause-divided : goal.returns-then-eq-2-clause-divided
returns-then-eq-2-clause-divided c = λ h.
    let next = c.in-Some.ensures in
    let opens : bytes_eq c.in-Some.token.text.now (codes "$(") ≡ false = search rules in
    let is : bytes_eq c.in-Some.token.text.now (codes "$.") ≡ true = search rules in
    divided_ends c.args.text.now c.loop-token.at (seen c.in-Some.token)
    (record { next = next.some; later = next.later; within = next.within }) (c.loop-token.invariant.divided h) opens is

pub returns-clause-divided : goal.returns-clause-divided
returns-clause-divided c = λ h. statement_goes c.args.text.now c.loop-token.at (c.loop-token.invariant.divided h) c.in_default.ensures.none

pub returns-then-eq-3-clause-divided : goal.returns-then-eq-3-clause-divided
returns-then-eq-3-clause-divided c = λ h.
    let next = c.in-Some.ensures in
    let t = seen c.in-Some.token in
    let opens : bytes_eq t.text (codes "$(") ≡ false = search rules in
    let other : bytes_eq t.text (codes "$.") ≡ false = search rules in
    let marks : is_mark t.text ≡ true =
    elim c.then-eq-3.branch [
      | then-eq-3-via-then-eq-3 w ↦
          let is : bytes_eq t.text (codes "${") ≡ true = search rules in
          or_left (bytes_eq t.text (codes "${")) (bytes_eq t.text (codes "$}")) is
      | then-eq-3-via-else-eq-3+then-eq-4 w ↦
          let is : bytes_eq t.text (codes "$}") ≡ true = search rules in
          or_right (bytes_eq t.text (codes "${")) (bytes_eq t.text (codes "$}")) is
    ] in
    no_mark_within c.args.text.now c.loop-token.at t (record { next = next.some; later = next.later; within = next.within })
    (c.loop-token.invariant.divided h) opens other marks
