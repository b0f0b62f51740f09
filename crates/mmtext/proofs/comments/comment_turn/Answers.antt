-- What a token is that is part of a comment.
use Rattle.std.proofs.Common.{◌≡◌, sym, subst, Ok, true}
use Rattle.mmtext.specs.declared.comments.Turn.TheVariants as turn
use Rattle.mmtext.specs.Views.{seen, turn_at}
use Rattle.mmtext.proofs.Turns.{part_of_comment}
use Rattle.mmtext.proofs.comments.comment_turn.Goals as goal

pub returns-then-in_comment : goal.returns-then-in_comment
returns-then-in_comment c = subst (λ b. turn_at b (seen c.args.token) c.args.mark ≡ Ok (turn.Skipped true)) (sym c.if-in_comment.true)
    (part_of_comment (seen c.args.token) c.args.mark (sym c.if-eq.ensures) (sym c.if-contains_comment_mark.ensures))
