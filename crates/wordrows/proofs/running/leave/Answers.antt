use Rattle.std.proofs.Common.{◌∙◌, ap, subst, sym}
use Rattle.ranges.specs.Ranges.{Within}
use Rattle.wordrows.proofs.Later.{rests_later}
use Rattle.wordrows.proofs.running.leave.Goals as goal

pub returns : goal.returns
returns c =
    let known = c.leave.ensures ∙ ap (λ g. g.known) c.into_parts-run.ensures.run in
    rests_later c.args.words.now c.args.playing c.leave.result c.into_parts-run.result.1 (ap (λ k. k.home) known)
    (subst (λ k. Within c.args.playing.run.known.seen.ranges k.seen.ranges) (sym known)
    (λ r has. has)) c.into_parts-run.ensures.ranges c.requires
