use Rattle.std.specs.Prelude.{is_some}
use Rattle.std.proofs.Common.{◌∙◌, ap, ℕ, List, Bor, map, option_map}
use Rattle.conduct.proofs.Taken.{wished}
use Rattle.conduct.proofs.take.follow_take.Goals as goal

pub returns : goal.returns
returns g c =
    let done = c.take_source.ensures in
    let seen = λ (ps : List (Bor (List ℕ))). map (λ (p : Bor (List ℕ)). p.now) ps in
    let order = c.args.order.now in
    let same = ap seen c.as_slice-2.ensures.value ∙ (c.in-Ok.ensures ∙ ap seen c.as_slice.ensures.value) in (
      done.0,
      done.1,
      wished (is_some c.args.keys) order.path.now _ (seen order.labels.items)
          (option_map (λ (s : Bor (List ℕ)). s.now) order.from) (option_map (λ (s : Bor (List ℕ)). s.now) order.to)
          c.in-Some.wish done.0 c.take_source.result same c.in-Some.ensures.some done.2,
    )
