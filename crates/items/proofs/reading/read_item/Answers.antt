-- What is left to show of `read_item`.
use Rattle.std.proofs.Common.{◌≡◌, ◌∷◌, ◌∙◌, [], codes, refl, sym, ap, subst, inl, inr, false}
use Rattle.mmtext.specs.Views.{seen}
use Rattle.mmtext.proofs.Marks.{Says, says}
use Rattle.std.specs.Str.{bytes_eq}
use Rattle.items.specs.Reading.{IsFirst, piece_at, tokens_at}
use Rattle.items.proofs.Kinded.{is_comment}
use Rattle.items.proofs.Divided.{comment_entered, comment_within, opening_over, closing_over, end_begins_none}
use Rattle.items.specs.Divided.{IsDividedFrom}
use Rattle.items.proofs.Divided.{proof_begins_none, other_begins, there}
use Rattle.items.proofs.reading.read_item.Goals as goal

pub returns-in_ok-end-in-Comment-clause-item : goal.returns-in_ok-end-in-Comment-clause-item
returns-in_ok-end-in-Comment-clause-item c =
    let text = c.args.text.now in
    let t = seen c.in_ok-first.first in
    let first = c.in_ok-first.ensures in
    let comment = c.in_ok-end-in-Comment.ensures.comment in
    let is : t.text ≡ codes "$(" = subst (λ m. Says m t.text) (sym c.mark_word.ensures ∙ c.in-Comment.is) (says t.text) in
    record {
      item = piece_at text c.args.from t ∷ comment.left;
      stands = (t, record { next = first.some; later = first.later; within = first.within }, refl, comment.stands);
      kind = is_comment text c.args.from c.in_ok-end-in-Comment.end t is comment;
    }

pub returns-in-Opening-clause-item : goal.returns-in-Opening-clause-item
returns-in-Opening-clause-item c =
    let t = seen c.in_ok-first.first in
    let first = c.in_ok-first.ensures in
    let is : t.text ≡ codes "${" = subst (λ m. Says m t.text) (sym c.mark_word.ensures ∙ c.in-Opening.is) (says t.text) in
    record {
      item = piece_at c.args.text.now c.args.from t ∷ [];
      stands = (t, record { next = first.some; later = first.later; within = first.within }, refl, refl);
      kind = ap (λ w. w ∷ []) is;
    }

pub returns-in-Closing-clause-item : goal.returns-in-Closing-clause-item
returns-in-Closing-clause-item c =
    let t = seen c.in_ok-first.first in
    let first = c.in_ok-first.ensures in
    let is : t.text ≡ codes "$}" = subst (λ m. Says m t.text) (sym c.mark_word.ensures ∙ c.in-Closing.is) (says t.text) in
    record {
      item = piece_at c.args.text.now c.args.from t ∷ [];
      stands = (t, record { next = first.some; later = first.later; within = first.within }, refl, refl);
      kind = ap (λ w. w ∷ []) is;
    }

pub returns-in_err-end-in-Comment-clause-divided : goal.returns-in_err-end-in-Comment-clause-divided
returns-in_err-end-in-Comment-clause-divided c = λ d.
    let text = c.args.text.now in
    let t = seen c.in_ok-first.first in
    let first = c.in_ok-first.ensures in
    let is : t.text ≡ codes "$(" = subst (λ m. Says m t.text) (sym c.mark_word.ensures ∙ c.in-Comment.is) (says t.text) in
    absurd (c.in_err-end-in-Comment.ensures.outside d.outside (comment_entered text c.args.from d.outside t
    (record { next = first.some; later = first.later; within = first.within }) d.outside_are (ap (λ w. bytes_eq w (codes "$(")) is)))

pub returns-in_ok-end-in-Comment-clause-divided : goal.returns-in_ok-end-in-Comment-clause-divided
returns-in_ok-end-in-Comment-clause-divided c = λ d.
    let text = c.args.text.now in
    let t = seen c.in_ok-first.first in
    let first = c.in_ok-first.ensures in
    let is_first : IsFirst text c.args.from t = record { next = first.some; later = first.later; within = first.within } in
    let is : t.text ≡ codes "$(" = subst (λ m. Says m t.text) (sym c.mark_word.ensures ∙ c.in-Comment.is) (says t.text) in
    comment_within text c.args.from t is_first false d c.in_ok-end-in-Comment.end
    (c.in_ok-end-in-Comment.ensures.outside d.outside
    (comment_entered text c.args.from d.outside t is_first d.outside_are (ap (λ w. bytes_eq w (codes "$(")) is)))

pub returns-in-Opening-clause-divided : goal.returns-in-Opening-clause-divided
returns-in-Opening-clause-divided c = λ d.
    let t = seen c.in_ok-first.first in
    let first = c.in_ok-first.ensures in
    let is : t.text ≡ codes "${" = subst (λ m. Says m t.text) (sym c.mark_word.ensures ∙ c.in-Opening.is) (says t.text) in
    opening_over c.args.text.now c.args.from t (record { next = first.some; later = first.later; within = first.within }) d is

pub returns-in-Closing-clause-divided : goal.returns-in-Closing-clause-divided
returns-in-Closing-clause-divided c = λ d.
    let t = seen c.in_ok-first.first in
    let first = c.in_ok-first.ensures in
    let is : t.text ≡ codes "$}" = subst (λ m. Says m t.text) (sym c.mark_word.ensures ∙ c.in-Closing.is) (says t.text) in
    closing_over c.args.text.now c.args.from t (record { next = first.some; later = first.later; within = first.within }) d is

pub returns-in-End-clause-divided : goal.returns-in-End-clause-divided
returns-in-End-clause-divided c = λ d.
    let t = seen c.in_ok-first.first in
    let first = c.in_ok-first.ensures in
    let is_first : IsFirst c.args.text.now c.args.from t = record { next = first.some; later = first.later; within = first.within } in
    elim c.in-End.is [
      | inl e ↦
          absurd (end_begins_none c.args.text.now c.args.from t is_first d
          (subst (λ m. Says m t.text) (sym c.mark_word.ensures ∙ e) (says t.text)))
      | inr e ↦
          absurd (proof_begins_none c.args.text.now c.args.from t is_first d
          (subst (λ m. Says m t.text) (sym c.mark_word.ensures ∙ e) (says t.text)))
    ]

pub returns-in_default-clause-divided : goal.returns-in_default-clause-divided
returns-in_default-clause-divided c = λ d.
    let text = c.args.text.now in
    let t = seen c.in_ok-first.first in
    let first = c.in_ok-first.ensures in
    there c.read_statement.result (tokens_at text c.args.from ≡ []) (λ i. IsDividedFrom false text i.end)
    (c.read_statement.ensures.divided (other_begins text c.args.from t
    (record { next = first.some; later = first.later; within = first.within }) d (λ e. c.in_default.not-Comment (c.mark_word.ensures ∙ e))
    (λ e. c.in_default.not-Opening (c.mark_word.ensures ∙ e)) (λ e. c.in_default.not-Closing (c.mark_word.ensures ∙ e))))
