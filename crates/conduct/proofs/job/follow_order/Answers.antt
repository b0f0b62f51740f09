use Rattle.std.proofs.Common.{◌++◌, ◌∷◌, [], ℕ, List, Bor, codes, inl, map, option_map, refl}
use Rattle.std.specs.Prelude.{is_some}
use Rattle.outside.specs.Events.{says}
use Rattle.conduct.specs.Jobs.{IsReadAndAnswered, history_clashes}
use Rattle.conduct.proofs.Behind.{adds_more, apart_then}
use Rattle.conduct.proofs.job.follow_order.Goals as goal

pub returns-in-Some : goal.returns-in-Some
returns-in-Some g c =
    let (asked, did, compared) = rw c.as_slice.ensures.value at c.in-Some.ensures in
    let line = c.in-Some.path.now ++ codes ": cannot write" in (
      asked ++ says line ∷ [],
      adds_more did c.say_of.ensures,
      (asked, says line ∷ [], refl, inl (line, compared, (refl, refl))),
    )

pub returns-in-None : goal.returns-in-None
returns-in-None g c =
    let (asked, did, compared) = rw c.as_slice.ensures.value at c.in-None.ensures in
    let rest = c.read_and_answer.ensures in
    let order = c.args.order.now in
    let paths = map (λ (p : Bor (List ℕ)). p.now) order.paths.items in
    let history = option_map (λ (s : Bor (List ℕ)). s.now) order.history in (
      asked ++ rest.0,
      adds_more did rest.1,
      apart_then (history_clashes history paths) (IsReadAndAnswered (is_some c.args.keys) order.task paths history) asked rest.0
          c.read_and_answer.result compared rest.2,
    )
