use Rattle.std.proofs.Common.{◌++◌, ap, ℕ, List, Bor, map, option_map}
use Rattle.std.specs.Prelude.{is_some, Vec}
use Rattle.std.specs.declared.alloc.Global.{Global}
use Rattle.conduct.specs.declared.manner.Manner.TheVariants.{Short}
use Rattle.conduct.specs.Jobs.{IsAnswered}
use Rattle.conduct.proofs.Behind.{adds_more}
use Rattle.conduct.proofs.Followed.{all_read, one_unread}
use Rattle.conduct.proofs.job.read_and_answer.Goals as goal

pub returns-in-Err : goal.returns-in-Err
returns-in-Err g c =
    let read = c.in-Err.ensures in
    let told = c.tell_unread.ensures in
    let same = ap (λ (ps : List (Bor (List ℕ))). map (λ (p : Bor (List ℕ)). p.now) ps) c.as_slice-paths.ensures.value in
    let history = option_map (λ (s : Bor (List ℕ)). s.now) c.args.order.now.history in
    let paths = map (λ (p : Bor (List ℕ)). p.now) c.args.order.now.paths.items in (
      read.0 ++ told.0,
      adds_more read.1 told.1,
      one_unread Short (IsAnswered (is_some c.args.keys) c.args.order.now.task paths history) paths _ _ c.in-Err.unread read.0 told.0
          c.tell_unread.result same read.2 told.2,
    )

pub returns : goal.returns
returns g c =
    let read = c.in_default.ensures in
    let rest = c.answer_texts.ensures in
    let same = ap (λ (ps : List (Bor (List ℕ))). map (λ (p : Bor (List ℕ)). p.now) ps) c.as_slice-paths.ensures.value in
    let history = option_map (λ (s : Bor (List ℕ)). s.now) c.args.order.now.history in
    let paths = map (λ (p : Bor (List ℕ)). p.now) c.args.order.now.paths.items in
    let texts = map (λ (t : Vec ℕ Global). t.items) c.read_all.new.texts.items in (
      read.0 ++ rest.0,
      adds_more read.1 rest.1,
      all_read Short (IsAnswered (is_some c.args.keys) c.args.order.now.task paths history) paths _ texts read.0 rest.0
          c.answer_texts.result same read.2.0 read.2.1 rest.2,
    )
