-- What is left to show of `comment_texts`.
use Rattle.std.proofs.Common.{◌≡◌, ◌+◌, ◌≤◌, true, false, None, length, codes, refl, ap, rules, arith}
use Rattle.std.proofs.lemmas.Result.{IfOk-from_err}
use Rattle.std.specs.Str.{bytes_eq}
use mathlib.Core.Bool.{not}
use Rattle.mmtext.specs.Views.{seen}
use Rattle.comments.specs.Outside.{tokens_at}
use Rattle.comments.specs.Insides.{labels_in}
use Rattle.comments.specs.Walks.{IsCommentTaken}
use Rattle.comments.specs.Comments.{comments_from}
use Rattle.comments.proofs.Walked.{walked_outside, walked_comment, texts_walked}
use Rattle.comments.proofs.walking.comment_texts.Goals as goal

pub loop-token-init : goal.loop-token-init
loop-token-init c = record {
  within = omega arith;
  walked = c.new-walk.ensures c.args.changes.now (labels_in c.args.gone.now) c.args.source.now;
}

pub next_token-requires : goal.next_token-requires
next_token-requires c = c.loop-token.invariant.within

pub take_comment-requires : goal.take_comment-requires
take_comment-requires c = c.in-Some.ensures.within

pub until_behind-requires : goal.until_behind-requires
until_behind-requires c = c.in-Some.ensures.within

pub returns-in_err-closed : goal.returns-in_err-closed
returns-in_err-closed c = IfOk-from_err _ _ c.from_residual.ensures.0

pub returns : goal.returns
returns c =
    let walk = c.loop-token.walk in
    texts_walked c.args.changes.now (labels_in c.args.gone.now) c.args.source.now (tokens_at c.args.source.now c.loop-token.at)
    c.loop-token.at walk c.loop-token.invariant.walked (ap (comments_from walk.stating None) c.in_default.ensures.none)

pub loop-token-preserved : goal.loop-token-preserved
loop-token-preserved c =
    let cs = c.args.changes.now in
    let gone = labels_in c.args.gone.now in
    let source = c.args.source.now in
    let at = c.loop-token.at in
    let t = seen c.in-Some.token in
    let end = t.place + length t.text in
    let next = c.in-Some.ensures in
    let other : bytes_eq t.text (codes "$(") ≡ false = search rules in
    let le : at ≤ end = omega (arith, next.later) in record {
      within = next.within;
      walked =
          walked_outside cs gone source (tokens_at source at) (tokens_at source end) t at le next.some
          c.loop-token.walk _ c.loop-token.invariant.walked other (ap not c.stands_between.ensures) c.until_behind.ensures refl;
    }

pub loop-token-preserved-then-eq : goal.loop-token-preserved-then-eq
loop-token-preserved-then-eq c =
    let cs = c.args.changes.now in
    let gone = labels_in c.args.gone.now in
    let source = c.args.source.now in
    let at = c.loop-token.at in
    let t = seen c.in-Some.token in
    let end = t.place + length t.text in
    let next = c.in-Some.ensures in
    let closed = c.in-Some-2.closed in
    let old = c.loop-token.walk in
    let new = c.take_comment.new.self in
    let opens : bytes_eq t.text (codes "$(") ≡ true = search rules in
    let le : at ≤ end = omega (arith, next.later) in
    let taken : IsCommentTaken cs gone source end old new closed = rw c.in-Some-2.is at c.in_ok-closed.ensures in record {
      within = taken.within;
      walked =
          walked_comment cs gone source (tokens_at source at) (tokens_at source end) t at le next.some old new c.loop-token.invariant.walked
          taken.words (tokens_at source closed) closed opens taken.closed taken.later taken.stating taken.until taken.texts;
    }
