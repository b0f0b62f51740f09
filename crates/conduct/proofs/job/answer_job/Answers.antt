use Rattle.std.proofs.Common.{ap, ℕ, List, Bor, map, option_map}
use Rattle.conduct.proofs.Followed.{job_answered}
use Rattle.conduct.proofs.job.answer_job.Goals as goal

pub returns-in-Ok : goal.returns-in-Ok
returns-in-Ok g c =
    let told = c.tell.ensures in
    let same = ap (λ (ps : List (Bor (List ℕ))). map (λ (p : Bor (List ℕ)). p.now) ps) c.as_slice-paths.ensures.value in
    let history = option_map (λ (s : Bor (List ℕ)). s.now) c.args.order.now.history in
    let answer = c.in-Ok.ensures in (
      told.0,
      told.1,
      job_answered _ _ history c.args.options c.args.job.now c.in-Ok.told told.0 c.tell.result same
          (record { answers = answer.answers; refused = answer.refused; own = answer.own }) told.2,
    )
