-- What is left to show of `empty_lists`: behind ascending lists an empty one ascends.
use Rattle.std.proofs.Common.{ℕ, ◌+◌, Vec, length, ap, ◌∙◌, arith}
use Rattle.std.specs.List.Sorted.{IsStrictlyIncreasing}
use Rattle.std.specs.declared.alloc.Global.{Global}
use Rattle.std.proofs.lemmas.List.{length_push}
use Rattle.std.proofs.lemmas.List.Elements.{All-push}
use Rattle.catalog.proofs.citers.empty_lists.Goals as goal

pub loop-preserved : goal.loop-preserved
loop-preserved c =
    let lists = c.loop.citers.items in
    let list = c.new.result in
    let none = ap length c.new.ensures.items in
    rw c.in_ok-push.ensures.items (record {
      long = length_push lists list ∙ ap (λ n. n + 1) c.loop.invariant.long;
      ascending = All-push (λ (l : Vec ℕ Global). IsStrictlyIncreasing l.items) lists list c.loop.invariant.ascending
          (λ k lt. absurd (omega (arith, none)));
    })
