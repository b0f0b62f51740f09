-- What is left to show of `from_source`.
use Rattle.std.proofs.Common.{ℕ, List, [], None, false, get_or, refl}
use Rattle.std.specs.Borrow.{Bor}
use Rattle.std.proofs.lemmas.List.{get_or_default}
use Rattle.library.proofs.Filtered.{contains_mapped}
use Rattle.sourceediting.specs.declared.following.Followed.{Followed}
use Rattle.sourceediting.specs.Views.{seen_followed}
use Rattle.sourceediting.proofs.beside.from_source.Goals as goal

pub returns-then-is_same : goal.returns-then-is_same
returns-then-is_same c =
    let xs = c.args.living.now in
    let k = c.loop-followed.followed-index in
    let e : Bor (List ℕ) = record { ref_ptr = (0, 0); now = [] } in
    let d : Followed = record { source = None; first = e; now = e; moved = false } in
    let x : Followed = get_or xs k d in record {
      followed = seen_followed x;
      lives = contains_mapped seen_followed xs x (k, c.loop-followed-test.true, get_or_default xs k x d c.loop-followed-test.true);
      now = refl;
      in_source = c.is_same.ensures c.if-is_same.true;
    }
