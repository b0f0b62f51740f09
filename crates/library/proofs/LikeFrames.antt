-- When one assertion may stand where another is cited: the test, and what it means.
use Rattle.std.proofs.Common.{◌≡◌, ℕ, true, List, length, refl, ap, ◌∙◌}
use Rattle.std.specs.Prelude.{All, Contains, filter, nat_lt, ◌&&◌, ◌||◌}
use Rattle.std.specs.Bool.{Decides}
use Rattle.std.specs.Cmp.Lexicographic.{pointwise}
use Rattle.std.specs.List.{list_any, list_all, range_with_len}
use Rattle.std.proofs.lemmas.Bool.Decides.{Decides-and, Decides-by_and}
use Rattle.std.proofs.lemmas.List.Elements.{All-contains}
use Rattle.std.proofs.lemmas.Slice.Eq.{slice_eq-Decides}
use Rattle.mmsyntax.specs.Blocks.{is_same_pair}
use Rattle.mmsyntax.specs.Tables.{Tables}
use Rattle.mmsyntax.specs.declared.statement.Assertion.{Assertion}
use Rattle.mmsyntax.specs.declared.statement.Frame.{Frame}
use Rattle.mmsyntax.specs.declared.statement.Symbol.{Symbol}
use Rattle.mmframes.specs.Frames.{frame, occurs}
use Rattle.derivation.specs.Laws.{StandsFor}
use Rattle.derivation.specs.Outcomes.{same_expression}
use Rattle.derivation.proofs.Decisions.{expressions-decide, pairs-decide, contains-decides}
use Rattle.library.specs.Edits.{is_alike}
use Rattle.library.specs.LikeFrames.{SaysNoLess}

pub all-contained-decides : (pairs others : List (ℕ × ℕ))
    → Decides (list_all (λ q. list_any (λ r. is_same_pair r q) pairs) others) (All (Contains pairs) others)
all-contained-decides pairs others =
    let test = λ (q : ℕ × ℕ). list_any (λ r. is_same_pair r q) pairs in
    Decides-by_and test (Contains pairs) (list_all test) (λ q. contains-decides is_same_pair pairs-decide pairs q) refl (λ _ _. refl) others

pub alike-decides : (old new : Frame) → Decides (is_alike old new) (SaysNoLess old new)
alike-decides old new =
    let hyps = pointwise same_expression new.hyps old.hyps in
    let statement = same_expression new.statement old.statement in
    let pairs = list_all (λ q. list_any (λ r. is_same_pair r q) old.pairs) new.pairs in
    Decides-and (hyps && statement) pairs
    (Decides-and hyps statement (slice_eq-Decides expressions-decide new.hyps old.hyps hyps refl)
    (expressions-decide new.statement old.statement))
    (all-contained-decides old.pairs new.pairs)

-- so the frame of the one stands for that of the other
pub alike-stands : (p : Tables) (old new : Assertion) → is_alike (frame p old) (frame p new) ≡ true → StandsFor (frame p new) (frame p old)
alike-stands p old new h =
    let says = (alike-decides (frame p old) (frame p new)).0 h in
    let floats = λ (hyps : List (List Symbol)) (statement : List Symbol).
    filter (λ j. nat_lt j (length p.floats) && (list_any (occurs j) hyps || occurs j statement)) (range_with_len 0 (length p.floats)) in
    record {
      floats = ap (λ hyps. floats hyps new.statement) says.0.0 ∙ ap (floats old.hyps) says.0.1;
      hyps = says.0.0;
      statement = says.0.1;
      pairs = λ q at. All-contains (Contains (frame p old).pairs) (frame p new).pairs q says.1 at;
    }
