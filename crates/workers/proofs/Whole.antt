-- All workers together: from what each did follows what became of all scripts.
use Rattle.std.proofs.Common.{◌≡◌, ◌≢◌, ℕ, suc, ◌+◌, ◌<◌, List, [], ◌∷◌, ◌++◌, length, map, flat_map, get_or, Some, true}
use Rattle.std.proofs.Common.{All, IsPermutation, inl, inr, refl, sym, ap, subst, ◌∙◌, arith}
use Rattle.std.specs.Prelude.{slice_get, slice_index_or}
use Rattle.std.specs.List.{AllZip, sum_by}
use Rattle.std.proofs.lemmas.Grind.{flat_map-append}
use Rattle.std.proofs.lemmas.List.{length-map, map-append, get_or-map, nil_from_length}
use Rattle.std.proofs.lemmas.List.Elements.{All-nil, All-cons, All-head, All-tail, All-append, AllZip-get_or, length_all_zip}
use Rattle.std.proofs.lemmas.List.Folds.{flat_map-map}
use Rattle.std.proofs.lemmas.List.Sorted.{IsPermutation-sym, IsPermutation-map, All-permutation, sum_by-IsPermutation}
use Rattle.std.proofs.lemmas.List.Sums.{sum_by-append, sum_by-cons}
use Rattle.library.specs.declared.command.Command.{Command}
use Rattle.ranges.specs.Ranges.{Has}
use Rattle.ranges.proofs.Members.{all_from_has, contains_from_has, has_append_left, has_append_right, has_permutation}
use Rattle.cells.proofs.Tallies.{is_one, permutation_from_counts}
use Rattle.claims.specs.Claims.{Counting, Claimant, IsClaimantOf, IsNewOf, up_to}
use Rattle.transaction.specs.declared.outcome.Outcome.{Outcome}
use Rattle.transaction.specs.Members.{Home, Member, IsSessionOf, IsLater}
use Rattle.workers.specs.declared.shift.Row.{Row}
use Rattle.workers.specs.declared.shift.Shift.{Shift}
use Rattle.transaction.specs.Closings.{HasOutcomes}
use Rattle.workers.specs.Works.{Works, IsRunBy, IsShareOf, AreSharesOf, IsHandedBack, all_of, all_newly_done, numbers_of}
use Rattle.workers.specs.Shifts.{IsShift, AreShifts, AreWhole, AreCollected}
use Rattle.workers.proofs.Collected.{length-up_to, at_up_to, rows_of}
use Rattle.workers.proofs.Numbers.{numbers_all}
use Rattle.workers.proofs.Runs.{told_in, row_outcomes, runs_later, runs_share, runs_numbers}

abbrev Script : Type 0
Script = List (List Command)

-- ---- lists

sum_by-flat_map : {A B : Type 0} (h : B → ℕ) (f : A → List B) (xs : List A) → sum_by h (flat_map f xs) ≡ sum_by (λ x. sum_by h (f x)) xs
sum_by-flat_map h f [] = refl
sum_by-flat_map {A = A} h f (x ∷ xs) =
    sum_by-append h (f x) (flat_map f xs)
    ∙ (ap (λ n. sum_by h (f x) + n) (sum_by-flat_map h f xs) ∙ sym (sum_by-cons (λ (y : A). sum_by h (f y)) x xs))

-- the numbers of a list in another order are those of the list
flat_permutation : {A : Type 0} (f : A → List ℕ) (xs ys : List A) → IsPermutation xs ys → IsPermutation (flat_map f xs) (flat_map f ys)
flat_permutation f xs ys same =
    permutation_from_counts (flat_map f xs) (flat_map f ys) (λ w.
    sum_by-flat_map (is_one w) f xs ∙ sym (sum_by-IsPermutation (λ x. sum_by (is_one w) (f x)) xs ys same)
    ∙ sym (sum_by-flat_map (is_one w) f ys))

-- ---- the rows in the order of the scripts

-- the rows from the k-th on, each of its script, are those of the scripts from the k-th on
rows_from : {X : Type 0} (R : X → List Outcome → Type 0) (all : List X) (k : ℕ) (xs : List X) (rows : List Row)
    → ((i : ℕ) → slice_get xs i ≡ slice_get all (k + i))
    → ((i : ℕ) → i < length rows → get_or (map (λ row. row.script) rows) i 0 ≡ k + i)
    → length rows ≡ length xs
    → All (λ row. (x : X) × (slice_get all row.script ≡ Some x) × R x row.outcomes.items) rows
    → AllZip R xs (map (λ row. row.outcomes.items) rows)
rows_from R all k [] [] here at long each = tt
rows_from R all k [] (row ∷ rows) here at long each = absurd (omega (arith, long))
rows_from R all k (x ∷ xs) [] here at long each = absurd (omega (arith, long))
rows_from {X} R all k (x ∷ xs) (row ∷ rows) here at long each =
    let own = λ (r : Row). (y : X) × (slice_get all r.script ≡ Some y) × R y r.outcomes.items in
    let first = All-head own row rows each in
    let script : row.script ≡ k + 0 = at 0 (omega arith) in
    let found : Some first.0 ≡ Some x = sym first.1 ∙ (ap (slice_get all) script ∙ sym (here 0)) in
    let is : first.0 ≡ x = cc in
    let next : (n : ℕ) → k + suc n ≡ suc k + n = λ n. omega arith in (
      subst (λ (y : X). R y row.outcomes.items) is first.2,
      rows_from R all (suc k) xs rows (λ i. here (suc i) ∙ ap (slice_get all) (next i))
          (λ i within. at (suc i) (omega (arith, within)) ∙ next i) (omega (arith, long)) (All-tail own row rows each),
    )

in_turn : {X : Type 0} (R : X → List Outcome → Type 0) (all : List X) (rows : List Row) → map (λ row. row.script) rows ≡ up_to (length all)
    → All (λ row. (x : X) × (slice_get all row.script ≡ Some x) × R x row.outcomes.items) rows
    → AllZip R all (map (λ row. row.outcomes.items) rows)
in_turn R all rows scripts each =
    let long : length rows ≡ length all =
    sym (length-map rows (λ (row : Row). row.script)) ∙ (ap length scripts ∙ length-up_to (length all)) in
    let from : (i : ℕ) → i ≡ 0 + i = λ i. omega arith in
    rows_from R all 0 all rows (λ i. ap (slice_get all) (from i))
    (λ i within. ap (λ (ns : List ℕ). get_or ns i 0) scripts ∙ (at_up_to (length all) i 0 (omega (arith, within, long)) ∙ from i)) long each

-- ---- the sessions

abbrev sessions_of : List Shift → List Member
sessions_of shifts = map (λ s. s.session) shifts

-- the indexes of the scripts that a worker ran
abbrev share_of : Shift → List ℕ
share_of s = map (λ row. row.script) s.rows.items

-- of all workers together
shares_are : (ss : List Shift) → flat_map (λ share. share) (map share_of ss) ≡ map (λ row. row.script) (rows_of ss)
shares_are [] = refl
shares_are (s ∷ ss) =
    ap (λ ns. share_of s ++ ns) (shares_are ss) ∙ sym (map-append (λ (row : Row). row.script) s.rows.items (rows_of ss))

-- in rows that are in the order of their scripts each stands at its script
at_script : (n : ℕ) (rows : List Row) → map (λ row. row.script) rows ≡ up_to n → (row : Row) → Has row rows
    → slice_index_or (map (λ r. r.outcomes.items) rows) row.script [] ≡ row.outcomes.items
at_script n rows scripts row has =
    let script = λ (r : Row). r.script in
    let outcomes = λ (r : Row). r.outcomes.items in
    let at = contains_from_has rows row has in
    let size = length-map rows script in
    let long = ap length scripts ∙ length-up_to n in
    let here : row.script ≡ at.0 =
    sym (get_or-map script rows at.0 row 0 at.1 ∙ ap script at.2) ∙ (ap (λ (ns : List ℕ). get_or ns at.0 0) scripts
    ∙ at_up_to n at.0 0 (omega (arith, size, long, at.1))) in
    ap (λ i. get_or (map outcomes rows) i []) here ∙ (get_or-map outcomes rows at.0 row [] at.1 ∙ ap outcomes at.2)

-- what is told of a worker's scripts, one after another
share_told : (outcomes : List (List Outcome)) (rows : List Row)
    → ((row : Row) → Has row rows → slice_index_or outcomes row.script [] ≡ row.outcomes.items)
    → all_of outcomes (map (λ row. row.script) rows) ≡ told_in rows
share_told outcomes [] each = refl
share_told outcomes (row ∷ rows) each =
    let first = each row (inl refl) in
    let rest = share_told outcomes rows (λ r has. each r (inr has)) in
    λ i. first i ++ rest i

-- the row is of a script, and has its outcomes
abbrev IsOfScript : List Script → Row → Type 0
IsOfScript scripts row = (script : Script) × (slice_get scripts row.script ≡ Some script) × HasOutcomes script row.outcomes.items

abbrev numbers_in : Row → List ℕ
numbers_in row = numbers_of row.outcomes.items

module _ (home : Home) (opened : home.words.setting ≡ Some home.given) (scripts : List Script) where
  -- what a session was given is what the library was given
  given_is : (old new : Member) → IsSessionOf home old → IsLater old new → new.given ≡ home.given
  given_is old new own later =
      let told : Some new.given ≡ Some home.given = sym later.stands.setting ∙ (ap (λ h. h.setting) (later.home ∙ own) ∙ opened) in
      cc

  handed_back : (ms : List Member) (cs : List Claimant) (ss : List Shift) → AreShifts scripts ms cs ss
      → AllZip IsHandedBack ms (sessions_of ss)
  handed_back [] [] [] shifts = tt
  handed_back (m ∷ ms) (c ∷ cs) (s ∷ ss) shifts =
      (runs_later scripts m s.session s.rows.items shifts.0.runs shifts.0.stands, handed_back ms cs ss shifts.1)
  handed_back _ _ _ shifts = absurd shifts

  new_numbers : (ms : List Member) (cs : List Claimant) (ss : List Shift) → AreShifts scripts ms cs ss
      → all_newly_done ms (sessions_of ss) ≡ flat_map numbers_in (rows_of ss)
  new_numbers [] [] [] shifts = refl
  new_numbers (m ∷ ms) (c ∷ cs) (s ∷ ss) shifts =
      let told = λ (row : Row). row.outcomes.items in
      let here = runs_numbers scripts m s.session s.rows.items shifts.0.runs shifts.0.stands ∙ numbers_all told s.rows.items in
      let rest = new_numbers ms cs ss shifts.1 in
      ap (λ ns. ns ++ all_newly_done ms (sessions_of ss)) here
      ∙ (ap (λ ns. flat_map numbers_in s.rows.items ++ ns) rest ∙ sym (flat_map-append numbers_in s.rows.items (rows_of ss)))
  new_numbers _ _ _ shifts = absurd shifts

  all_outcomes : (ms : List Member) (cs : List Claimant) (ss : List Shift) → AreShifts scripts ms cs ss
      → All (IsOfScript scripts) (rows_of ss)
  all_outcomes [] [] [] shifts = All-nil (IsOfScript scripts)
  all_outcomes (m ∷ ms) (c ∷ cs) (s ∷ ss) shifts =
      All-append (IsOfScript scripts) s.rows.items (rows_of ss)
      (all_from_has (IsOfScript scripts) s.rows.items (row_outcomes scripts m s.session s.rows.items shifts.0.runs))
      (all_outcomes ms cs ss shifts.1)
  all_outcomes _ _ _ shifts = absurd shifts

  all_shares : (outcomes : List (List Outcome)) (ms : List Member) (cs : List Claimant) (ss : List Shift) → All (IsSessionOf home) ms
      → AreShifts scripts ms cs ss
      → ((row : Row) → Has row (rows_of ss) → slice_index_or outcomes row.script [] ≡ row.outcomes.items)
      → AreSharesOf home.given scripts outcomes ms (sessions_of ss) (map share_of ss)
  all_shares outcomes [] [] [] own shifts each = tt
  all_shares outcomes (m ∷ ms) (c ∷ cs) (s ∷ ss) own shifts each =
      let shift = shifts.0 in
      let later = (runs_later scripts m s.session s.rows.items shift.runs shift.stands).0 in
      let same = given_is m s.session (All-head (IsSessionOf home) m ms own) later in
      let told = share_told outcomes s.rows.items (λ row has. each row (has_append_left s.rows.items (rows_of ss) row has)) in
      let run = runs_share scripts m s.session s.rows.items shift.runs shift.stands home.given same in
      let share : IsShareOf home.given scripts outcomes m s.session (share_of s) = record {
        rising = shift.rises;
        run = subst (IsRunBy home.given m s.session (all_of scripts (share_of s))) (sym told) run;
      } in (
        share,
        all_shares outcomes ms cs ss (All-tail (IsSessionOf home) m ms own) shifts.1
            (λ row has. each row (has_append_right s.rows.items (rows_of ss) row has)),
      )
  all_shares outcomes _ _ _ own shifts each = absurd shifts

  -- what became of all scripts
  pub works : (before : List Member) (cs : List Claimant) (ss : List Shift) (outcomes : List (List Outcome)) (after : List Member)
      → All (IsSessionOf home) before → AreShifts scripts before cs ss → AreCollected (length scripts) ss outcomes after
      → Works home.given before scripts outcomes after
  works before cs ss outcomes after own shifts made =
      let outcomes_of = λ (row : Row). row.outcomes.items in
      let script_of = λ (row : Row). row.script in
      let all : List (List Outcome) = map outcomes_of made.rows in
      let each = All-permutation (IsOfScript scripts) (rows_of ss) made.rows made.same (all_outcomes before cs ss shifts) in
      let back = flat_permutation numbers_in made.rows (rows_of ss) (IsPermutation-sym (rows_of ss) made.rows made.same) in
      let numbers : IsPermutation (flat_map numbers_of all) (all_newly_done before (sessions_of ss)) =
      subst (λ ns. IsPermutation ns (all_newly_done before (sessions_of ss))) (sym (flat_map-map numbers_of outcomes_of made.rows))
      (subst (λ ns. IsPermutation (flat_map numbers_in made.rows) ns) (sym (new_numbers before cs ss shifts)) back) in
      let whole : Works home.given before scripts all (sessions_of ss) =
      record {
        each = in_turn HasOutcomes scripts made.rows made.each each;
        back = handed_back before cs ss shifts;
        shares = map share_of ss;
        parts =
            subst (IsPermutation (up_to (length scripts))) (sym (shares_are ss))
            (subst (λ ns. IsPermutation ns (map script_of (rows_of ss))) made.each
            (IsPermutation-sym (map script_of (rows_of ss)) (map script_of made.rows)
            (IsPermutation-map script_of (rows_of ss) made.rows made.same)));
        run =
            all_shares all before cs ss own shifts (λ row has.
            at_script (length scripts) made.rows made.each row (has_permutation (rows_of ss) made.rows row made.same has));
        numbers = numbers;
      } in
      subst (λ (os : List (List Outcome)). Works home.given before scripts os after) (sym made.outcomes_are)
      (subst (λ (ms : List Member). Works home.given before scripts all ms) (sym made.sessions_are) whole)

-- the sessions that are handed back are of the library
pub still_of : (home : Home) (before after : List Member) → All (IsSessionOf home) before → AllZip IsHandedBack before after
    → All (IsSessionOf home) after
still_of home before after own back i d within =
    let same = length_all_zip IsHandedBack before after back in
    let here : i < length before = omega (arith, same, within) in
    (AllZip-get_or IsHandedBack before after i d d back here).0.home ∙ own i d here

-- ---- the claimants

module _ (numbers : Counting) (scripts : List Script) where
  -- what is so of each shift of a new claimant
  each_shift : (P : Shift → Type 0)
      → ((m : Member) (c : Claimant) (s : Shift) → IsNewOf numbers c → IsShift scripts m c s.session s.claimant s.rows.items → P s)
      → (ms : List Member) (cs : List Claimant) (ss : List Shift) → All (IsNewOf numbers) cs → AreShifts scripts ms cs ss → All P ss
  each_shift P so [] [] [] new shifts = All-nil P
  each_shift P so (m ∷ ms) (c ∷ cs) (s ∷ ss) new shifts =
      All-cons P s ss (so m c s (All-head (IsNewOf numbers) c cs new) shifts.0)
      (each_shift P so ms cs ss (All-tail (IsNewOf numbers) c cs new) shifts.1)
  each_shift P so _ _ _ new shifts = absurd shifts

  as_many : (ms : List Member) (cs : List Claimant) (ss : List Shift) → AreShifts scripts ms cs ss
      → (length ss ≡ length ms) × (length ss ≡ length cs)
  as_many [] [] [] shifts = (refl, refl)
  as_many (m ∷ ms) (c ∷ cs) (s ∷ ss) shifts =
      let rest = as_many ms cs ss shifts.1 in
      (omega (arith, rest.0), omega (arith, rest.1))
  as_many _ _ _ shifts = absurd shifts

  -- so the claimants can be closed
  pub are_whole : (ms : List Member) (cs : List Claimant) (ss : List Shift) → ms ≢ [] → All (IsNewOf numbers) cs
      → length cs ≡ numbers.claimants → AreShifts scripts ms cs ss → AreWhole numbers ss
  are_whole ms cs ss some new long shifts =
      let many = as_many ms cs ss shifts in
      let each = λ (P : Shift → Type 0) (so : (m : Member) (c : Claimant) (s : Shift) → IsNewOf numbers c
      → IsShift scripts m c s.session s.claimant s.rows.items → P s). each_shift P so ms cs ss new shifts in
      record {
        some = λ none. some (nil_from_length ms (sym many.0 ∙ ap length none));
        all = many.1 ∙ long;
        own = each (λ s. IsClaimantOf numbers s.claimant) (λ m c s is shift.
            (shift.table ∙ ap (λ (x : Claimant). x.table) is, shift.count ∙ ap (λ (x : Claimant). x.count) is));
        ended = each (λ s. s.claimant.ended ≡ true) (λ m c s is shift. shift.ended);
        claimed = each (λ s. s.claimant.claimed ≡ map (λ row. row.script) s.rows.items) (λ m c s is shift.
            shift.claimed ∙ ap (λ (x : Claimant). x.claimed ++ map (λ row. row.script) s.rows.items) is);
      }
