use Rattle.std.proofs.Common.{◌+◌, refl, subst, Some, None}
use Rattle.finishing.specs.Ordering.{IsFirstMissing, IsFirstHeld}
use Rattle.finishing.proofs.Ended.{finish_missing, finish_held, at_end, finished}
use Rattle.finishing.proofs.ending.conclude.Goals as goal

pub returns-in-Some : goal.returns-in-Some
returns-in-Some c home members is =
    let ordered = c.in_ok-ordered.ordered.items in
    let k = c.in-Some.index in
    finish_missing home members c.args.closed is ordered c.in_ok-ordered.ensures k (k + 1) refl
    (subst (λ xs. IsFirstMissing xs (Some k)) c.as_slice.ensures.value c.in-Some.ensures)

pub returns-in-Some-first_held : goal.returns-in-Some-first_held
returns-in-Some-first_held c home members is =
    let ordered = c.in_ok-ordered.ordered.items in
    let k = c.in-Some-first_held.cell in
    finish_held home members c.args.closed is ordered c.in_ok-ordered.ensures
    (subst (λ xs. IsFirstMissing xs None) c.as_slice.ensures.value c.in_default.ensures) k
    (subst (λ xs. IsFirstHeld xs (Some k)) c.as_slice-2.ensures.value c.in-Some-first_held.ensures)

pub shown-requires : goal.shown-requires
shown-requires c =
    let r = c.requires in
    at_end r.0 r.1 c.args.closed r.2 c.in_ok-ordered.ordered.items c.in_ok-ordered.ensures c.in_ok-history.history c.in_ok-history.ensures
    (subst (λ xs. IsFirstHeld xs None) c.as_slice-2.ensures.value c.in_default-first_held.ensures)

pub returns : goal.returns
returns c home members is =
    finished home members c.args.closed is c.in_ok-ordered.ordered.items c.in_ok-ordered.ensures c.in_ok-history.history
    c.in_ok-history.ensures (subst (λ xs. IsFirstHeld xs None) c.as_slice-2.ensures.value c.in_default-first_held.ensures)
    c.in_ok-library.library c.in_ok-library.ensures
