-- One transaction more of a script, and one script more of a worker.
use Rattle.std.proofs.Common.{◌≡◌, ℕ, ◌+◌, ◌-◌, ◌<◌, List, [], ◌∷◌, ◌++◌, length, take, get_or, Some, inl, inr, refl, sym, ap, subst, ◌∙◌, append_assoc, arith}
use Rattle.std.specs.Prelude.{All, map, slice_get, Vec}
use Rattle.std.specs.List.Sorted.{IsStrictlyIncreasing}
use Rattle.std.proofs.lemmas.Bool.{cases_lt}
use Rattle.std.proofs.lemmas.List.{length-append, get_or_append_left, get_or-append_right}
use Rattle.std.proofs.Math.Seq.{drop-append_seam}
use Rattle.std.proofs.lemmas.List.Elements.{All-drop}
use Rattle.std.specs.declared.alloc.Global.{Global}
use Rattle.std.proofs.lemmas.Option.{slice_get-get_or}
use Rattle.std.proofs.lemmas.List.{map-append, take_more}
use Rattle.library.specs.declared.command.Command.{Command}
use Rattle.transaction.specs.declared.outcome.Outcome.{Outcome}
use Rattle.transaction.specs.Members.{Member, IsSoundMember}
use Rattle.transaction.specs.Attempts.{Submits}
use Rattle.claims.specs.Claims.{Counting, Claimant, IsClaimantOf, Claims, Ends}
use Rattle.workers.specs.declared.shift.Row.{Row}
use Rattle.workers.specs.Works.{SubmitsAll}
use Rattle.workers.specs.Shifts.{RunsAll, RunsNext, IsShift}

submits_more : (script : List (List Command)) (old mid new : Member) (os : List Outcome) (cs : List Command) (o : Outcome)
    → SubmitsAll script old mid os → Submits cs mid new o → SubmitsAll (script ++ cs ∷ []) old new (os ++ o ∷ [])
submits_more [] old mid new [] cs o same submits = (new, subst (λ (m : Member). Submits cs m new o) same submits, refl)
submits_more [] old mid new (p ∷ os) cs o none submits = absurd none
submits_more (ds ∷ rest) old mid new [] cs o none submits = absurd none
submits_more (ds ∷ rest) old mid new (p ∷ os) cs o (next, first, others) submits =
    (next, first, submits_more rest next mid new os cs o others submits)

-- as the code goes on
pub submits_next : (all : List (List Command)) (n : ℕ) (old mid new : Member) (os after : List Outcome) (cs : List Command) (o : Outcome)
    → n < length all → cs ≡ get_or all n cs → after ≡ os ++ o ∷ [] → SubmitsAll (take n all) old mid os → Submits cs mid new o
    → SubmitsAll (take (n + 1) all) old new after
submits_next all n old mid new os after cs o within is pushed so_far submits =
    let fronts : take (n + 1) all ≡ take n all ++ cs ∷ [] =
    take_more all n cs within ∙ ap (λ (z : List Command). take n all ++ z ∷ []) (sym is) in
    subst (λ (z : List (List Command)). SubmitsAll z old new after) (sym fronts)
    (subst (SubmitsAll (take n all ++ cs ∷ []) old new) (sym pushed) (submits_more (take n all) old mid new os cs o so_far submits))

runs_more : (scripts : List (List (List Command))) (old mid new : Member) (rows : List Row) (row : Row) (script : List (List Command))
    → RunsAll scripts old mid rows → slice_get scripts row.script ≡ Some script → SubmitsAll script mid new row.outcomes.items
    → RunsAll scripts old new (rows ++ row ∷ [])
runs_more scripts old mid new [] row script same is submits =
    (new, script, is, subst (λ (m : Member). SubmitsAll script m new row.outcomes.items) same submits, refl)
runs_more scripts old mid new (r ∷ rows) row script (next, own, there, first, others) is submits =
    (next, own, there, first, runs_more scripts next mid new rows row script others is submits)

-- a script that was run, with what became of it
pub script_ran : (scripts : List (List (List Command))) (n : ℕ) (given script : List (List Command)) (old new : Member)
    (rows kept after : List Row) (outcomes : Vec Outcome Global) → n < length scripts → script ≡ get_or scripts n given → kept ≡ rows
    → after ≡ kept ++ record { script = n; outcomes = outcomes } ∷ [] → SubmitsAll script old new outcomes.items
    → RunsNext scripts n old new rows after
script_ran scripts n given script old new rows kept after outcomes within is same pushed submits = (
  record { script = n; outcomes = outcomes },
  refl,
  pushed ∙ ap (λ (rs : List Row). rs ++ record { script = n; outcomes = outcomes } ∷ []) same,
  (script, slice_get-get_or scripts n given within ∙ ap (λ (z : List (List Command)). Some z) (sym is), submits),
)

pub runs_next : (scripts : List (List (List Command))) (n : ℕ) (old mid new : Member) (rows after : List Row) → RunsAll scripts old mid rows
    → RunsNext scripts n mid new rows after → RunsAll scripts old new after
runs_next scripts n old mid new rows after so_far (row, index, pushed, (script, is, submits)) =
    subst (RunsAll scripts old new) (sym pushed)
    (runs_more scripts old mid new rows row script so_far (ap (λ (k : ℕ). slice_get scripts k) index ∙ is) submits)

-- the rows are of one script more
pub scripts_next : (scripts : List (List (List Command))) (n : ℕ) (old new : Member) (rows after : List Row)
    → RunsNext scripts n old new rows after → map (λ row. row.script) after ≡ map (λ row. row.script) rows ++ n ∷ []
scripts_next scripts n old new rows after (row, index, pushed, ran) =
    ap (map (λ (r : Row). r.script)) pushed
    ∙ (map-append (λ (r : Row). r.script) rows (row ∷ []) ∙ ap (λ (k : ℕ). map (λ (r : Row). r.script) rows ++ k ∷ []) index)

-- ---- claims

-- one more number behind all of them
rises_more : (xs : List ℕ) (n : ℕ) → IsStrictlyIncreasing xs → All (λ m. m < n) xs → IsStrictlyIncreasing (xs ++ n ∷ [])
rises_more xs n rises below k within =
    let size = length-append xs (n ∷ []) in
    let first = get_or_append_left xs (n ∷ []) 0 k (omega (arith, size, within)) in
    elim (cases_lt (k + 1) (length xs)) [
      | inl inside ↦
          let second = get_or_append_left xs (n ∷ []) 0 (k + 1) inside in
          let up = rises k inside in
          omega (arith, first, second, up)
      | inr behind ↦
          let at : k + 1 - length xs ≡ 0 = omega (arith, size, within, behind) in
          let second = get_or-append_right xs (n ∷ []) (length xs) (k + 1) 0 refl behind ∙ ap (λ i. get_or (n ∷ []) i 0) at in
          let up = below k 0 (omega (arith, size, within)) in
          omega (arith, first, second, up)
    ]

module _ (home : Counting) (n : ℕ) (old new : Claimant) (claims : Claims home n old new) where
  pub claims_on : IsClaimantOf home old → IsClaimantOf home new
  claims_on is = subst (IsClaimantOf home) (sym claims.is) is

  pub same_table : new.table ≡ old.table
  same_table = ap (λ (c : Claimant). c.table) claims.is

  pub same_count : new.count ≡ old.count
  same_count = ap (λ (c : Claimant). c.count) claims.is

  -- behind what was claimed since comes this one
  pub claimed_next : (first own : List ℕ) → old.claimed ≡ first ++ own → new.claimed ≡ first ++ (own ++ n ∷ [])
  claimed_next first own so_far =
      ap (λ (c : Claimant). c.claimed) claims.is
      ∙ (ap (λ (ns : List ℕ). ns ++ n ∷ []) so_far ∙ append_assoc first own (n ∷ []))

  -- they rise, as each claim is behind those before it
  pub rising_next : (first own : List ℕ) → old.claimed ≡ first ++ own → IsStrictlyIncreasing own → IsStrictlyIncreasing (own ++ n ∷ [])
  rising_next first own so_far rises =
      let behind = All-drop (λ m. m < n) (length first) (first ++ own) (subst (All (λ m. m < n)) so_far claims.later) in
      rises_more own n rises (subst (All (λ m. m < n)) (drop-append_seam first own) behind)

-- a worker that is told that there are no more ends its shift
pub shift_ends : (scripts : List (List (List Command))) (session after : Member) (claimant last told : Claimant) (rows : List Row)
    → RunsAll scripts session after rows → IsSoundMember after → last.table ≡ claimant.table → last.count ≡ claimant.count
    → last.claimed ≡ claimant.claimed ++ map (λ row. row.script) rows → IsStrictlyIncreasing (map (λ row. row.script) rows) → Ends last told
    → IsShift scripts session claimant after told rows
shift_ends scripts session after claimant last told rows runs stands table count claimed rises ends =
    record {
      runs = runs;
      stands = stands;
      table = ap (λ (c : Claimant). c.table) ends ∙ table;
      count = ap (λ (c : Claimant). c.count) ends ∙ count;
      claimed = ap (λ (c : Claimant). c.claimed) ends ∙ claimed;
      rises = rises;
      ended = ap (λ (c : Claimant). c.ended) ends;
    }
