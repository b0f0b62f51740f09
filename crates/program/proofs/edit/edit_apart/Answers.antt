use Rattle.std.proofs.Common.{◌++◌, ◌∷◌, [], ℕ, List, Bor, map}
use Rattle.std.specs.Prelude.{is_some}
use Rattle.outside.specs.Events.{says}
use Rattle.conduct.proofs.Behind.{adds_more}
use Rattle.program.specs.Edits.{clash_line}
use Rattle.program.proofs.Apart.{emptied, not_emptied, over}
use Rattle.program.proofs.edit.edit_apart.Goals as goal

pub returns-in-Some : goal.returns-in-Some
returns-in-Some g c =
    let (asked, did, found) = rw c.as_slice.ensures.value at c.in-Some.ensures in
    let order = c.args.order.now in
    let paths = map (λ (p : Bor (List ℕ)). p.now) order.paths.items in
    let line = clash_line c.in-Some.found.text.now c.in-Some.found.path.now in (
      asked ++ says line ∷ [],
      adds_more did c.say_of.ensures,
      over (is_some c.args.keys) paths order.workers order.room c.args.outputs order.allowed asked line found,
    )

pub returns-then-not-empty : goal.returns-then-not-empty
returns-then-not-empty g c =
    let (asked, did, none) = rw c.as_slice.ensures.value at c.in_default.ensures in
    let (rest, then, not) = c.if-not-empty.ensures in
    let order = c.args.order.now in
    let paths = map (λ (p : Bor (List ℕ)). p.now) order.paths.items in (
      asked ++ rest,
      adds_more did then,
      not_emptied (is_some c.args.keys) paths order.workers order.room c.args.outputs order.allowed asked rest none not,
    )

pub returns : goal.returns
returns g c =
    let (asked, did, none) = rw c.as_slice.ensures.value at c.in_default.ensures in
    let (before, then, done) = c.if-not-empty.ensures in
    let (rest, last, follows) = c.edit_files.ensures in
    let order = c.args.order.now in
    let paths = map (λ (p : Bor (List ℕ)). p.now) order.paths.items in (
      asked ++ (before ++ rest),
      adds_more did (adds_more then last),
      emptied (is_some c.args.keys) paths order.workers order.room c.args.outputs order.allowed asked before rest
          c.edit_files.result none done follows,
    )
