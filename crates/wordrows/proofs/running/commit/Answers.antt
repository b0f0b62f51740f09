use Rattle.std.proofs.Common.{◌∙◌, ap, subst}
use Rattle.ranges.specs.Ranges.{Within}
use Rattle.wordrows.proofs.Later.{run_lawful, rests_later, commit_within}
use Rattle.wordrows.proofs.running.commit.Goals as goal

pub commit-pass-requires : goal.commit-pass-requires
commit-pass-requires c = record {
  lawful =
      λ _. run_lawful c.args.words.now c.args.playing c.into_parts-run.result.0 c.args.note c.into_parts-run.ensures.run c.requires;
}

pub returns : goal.returns
returns c =
    let run = c.into_parts-run.ensures.run in
    let ends = c.commit-pass.ensures in
    let within = commit_within c.args.note c.into_parts-run.result.0 c.commit-pass.result.0 c.commit-pass.result.1 ends.over ends.ended in
    rests_later c.args.words.now c.args.playing c.commit-pass.result.0 c.into_parts-run.result.1 (ends.home ∙ ap (λ g. g.known.home) run)
    (subst (λ g. Within g.known.seen.ranges c.commit-pass.result.0.seen.ranges) run within) c.into_parts-run.ensures.ranges c.requires
