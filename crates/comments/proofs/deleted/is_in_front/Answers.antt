-- What is left to show of `is_in_front`.
use Rattle.std.proofs.Common.{◌∙◌, ◌+◌, length, sym, false, rules}
use Rattle.mmtext.specs.Views.{seen}
use Rattle.comments.specs.Outside.{outside, tokens_at}
use Rattle.comments.proofs.Opened.{next_is}
use Rattle.comments.proofs.deleted.is_in_front.Goals as goal

pub returns-in-Some-next_outside : goal.returns-in-Some-next_outside
returns-in-Some-next_outside c = λ yes words.
    let text = c.args.text.now in
    let label = seen c.in-Some.label in
    let mark = seen c.in-Some-next_outside.mark in
    let behind = label.place + length label.text in
    let end = mark.place + length mark.text in record {
      label = label;
      rest = tokens_at text behind;
      mark = mark;
      after = outside false (tokens_at text end);
      stands = c.in-Some.ensures.some;
      next =
          next_is (tokens_at text behind) (tokens_at text end) mark c.in-Some-next_outside.ensures.next;
      is_mark = sym c.asserts.ensures ∙ yes;
      deleted = c.is_gone.ensures (search rules);
    }
