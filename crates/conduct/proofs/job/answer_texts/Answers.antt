use Rattle.std.proofs.Common.{ℕ, List, Bor, map, option_map}
use Rattle.std.specs.Prelude.{is_some, Vec}
use Rattle.std.specs.declared.alloc.Global.{Global}
use Rattle.conduct.proofs.Followed.{texts_answered}
use Rattle.conduct.proofs.job.answer_texts.Goals as goal

pub returns : goal.returns
returns g c =
    let told = c.answer_job.ensures in
    let paths = map (λ (p : Bor (List ℕ)). p.now) c.args.order.now.paths.items in
    let history = option_map (λ (s : Bor (List ℕ)). s.now) c.args.order.now.history in
    let texts = map (λ (t : Vec ℕ Global). t.items) c.args.texts.items in (
      told.0,
      told.1,
      texts_answered (is_some c.args.keys) c.args.order.now.task paths history texts c.in-Some.job c.options_of-options.result told.0
          c.answer_job.result c.options_of-options.ensures c.in-Some.ensures.job told.2,
    )
