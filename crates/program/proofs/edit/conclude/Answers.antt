use Rattle.std.proofs.Common.{◌++◌, [], ℕ, List, Bor, map}
use Rattle.std.specs.Prelude.{is_some}
use Rattle.conduct.proofs.Behind.{adds_more}
use Rattle.program.proofs.Apart.{not_plain, plain}
use Rattle.program.proofs.EditedThen.{first_and_rest}
use Rattle.program.proofs.edit.conclude.Goals as goal

pub returns-then-not-may_be_replaced : goal.returns-then-not-may_be_replaced
returns-then-not-may_be_replaced g c =
    let (asked, did, is) = rw c.as_slice.ensures.value at c.if-not-may_be_replaced.ensures in
    let order = c.args.order.now in
    let paths = map (λ (p : Bor (List ℕ)). p.now) order.paths.items in
    let named = first_and_rest (λ (p : Bor (List ℕ)). p.now) order.paths.items (record { ref_ptr = (0, 0); now = [] }) c.requires.any in
    rw c.as_slice.ensures.value (
      asked,
      did,
      not_plain (is_some c.args.keys) paths _ _ order.workers order.room c.args.outputs order.allowed asked named is,
    )

pub returns : goal.returns
returns g c =
    let (asked, did, is) = rw c.as_slice.ensures.value at c.if-not-may_be_replaced.ensures in
    let rest = c.conclude_read.ensures in
    let order = c.args.order.now in
    let paths = map (λ (p : Bor (List ℕ)). p.now) order.paths.items in
    let named = first_and_rest (λ (p : Bor (List ℕ)). p.now) order.paths.items (record { ref_ptr = (0, 0); now = [] }) c.requires.any in (
      asked ++ rest.0,
      adds_more did rest.1,
      plain (is_some c.args.keys) paths _ _ order.workers order.room c.args.outputs order.allowed asked rest.0 c.conclude_read.result named
          is rest.2,
    )
