-- What is left to show of `is_held`.
use Rattle.std.proofs.Common.{List, ℕ, ap}
use Rattle.std.specs.Prelude.{IsTrue}
use Rattle.std.specs.Borrow.{Bor}
use Rattle.std.specs.Option.{option_map}
use Rattle.std.proofs.lemmas.Result.{IfOk-weaker}
use Rattle.arranging.specs.Held.{IsHeldBehind}
use Rattle.sourceediting.specs.Views.{seen_followed}
use Rattle.sourceediting.proofs.holding.is_held.Goals as goal

pub returns : goal.returns
returns c =
    let two = c.in-Some-Some in
    let neighbour = c.in-Some.neighbour.now in
    IfOk-weaker c.is_held_behind.result
    (λ held. IsTrue held → IsHeldBehind c.args.known.now.text.now c.args.coming neighbour c.args.needed.name.now)
    _
    (λ held behind yes. (
      record {
        followed = seen_followed two.theirs;
        lives = two.ensures.0;
        now = two.ensures.1;
        in_source = c.is_same.ensures c.if-not-is_same.false;
      },
      (
        neighbour,
        record {
          followed = seen_followed two.other;
          lives = two.ensures'.0;
          now = two.ensures'.1;
          in_source = ap (option_map (λ (w : Bor (List ℕ)). w.now)) c.in-Some.is;
        },
        behind yes,
      ),
    )) c.is_held_behind.ensures
