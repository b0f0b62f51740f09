use Rattle.std.proofs.Common.{rules, ◌≡◌, [], ◌∷◌, ◌++◌, append_assoc, length, map, flat_map, All, IsPermutation, List}
use Rattle.std.proofs.Common.{refl, sym, ap, subst, ◌∙◌, arith}
use Rattle.std.specs.Vec.Iter.{into_iter_items}
use Rattle.std.proofs.lemmas.Simd.{map-map}
use Rattle.std.proofs.lemmas.List.Elements.{All-map}
use Rattle.std.proofs.lemmas.List.Sorted.{IsNonDecreasingBy-from_sort_by}
use Rattle.claims.specs.Claims.{IsClaimantOf, AreClaimed}
use Rattle.workers.specs.declared.shift.Row.{Row}
use Rattle.workers.specs.declared.shift.Shift.{Shift}
use Rattle.transaction.specs.Closings.{lists_of}
use Rattle.workers.proofs.Collected.{all_done, in_order}
use Rattle.workers.proofs.working.collect.Goals as goal

-- one more stands before, and one fewer is left
one_done : {A B : Type 0} (of : List A → List B) (before after own : List B) (x : A) (left rest : List A) (all : List B)
    → of (x ∷ rest) ≡ own ++ of rest → after ≡ before ++ own → left ≡ x ∷ rest → before ++ of left ≡ all → after ++ of rest ≡ all
one_done of before after own x left rest all step put next was =
    ap (λ ys. ys ++ of rest) put ∙ append_assoc before own (of rest) ∙ ap (λ ys. before ++ ys) (sym step)
    ∙ ap (λ xs. before ++ of xs) (sym next) ∙ was

pub close-requires-clause-own : goal.close-requires-clause-own
close-requires-clause-own c =
    let i = c.loop-shift.invariant in
    let claimant = λ (s : Shift). s.claimant in
    let ended : length (into_iter_items c.loop-shift.shift-iterator) ≡ 0 = omega (arith, c.in-None.ensures.steps, i.left) in
    let claimants = all_done (map claimant) c.loop-shift.claimants.items _ _ refl ended i.claimants in
    subst (All (IsClaimantOf c.args.numbers)) (sym claimants)
    (All-map (IsClaimantOf c.args.numbers) claimant c.args.shifts.items c.requires.whole.own)

pub returns : goal.returns
returns c =
    let i = c.loop-shift.invariant in
    let j = c.loop-row.invariant in
    let ended : length (into_iter_items c.loop-shift.shift-iterator) ≡ 0 = omega (arith, c.in-None.ensures.steps, i.left) in
    let over : length (into_iter_items c.loop-row.row-iterator) ≡ 0 = omega (arith, c.in-None-row.ensures.steps, j.left) in
    let sessions = all_done (λ ss. map (λ (s : Shift). s.session) ss) c.loop-shift.sessions.items _ _ refl ended i.sessions in
    let claimants = all_done (λ ss. map (λ (s : Shift). s.claimant) ss) c.loop-shift.claimants.items _ _ refl ended i.claimants in
    let rows = all_done (λ ss. flat_map (λ (s : Shift). s.rows.items) ss) c.loop-shift.rows.items _ _ refl ended i.rows in
    let sorted = c.sort_unstable_by.new.self.items in
    let rises = IsNonDecreasingBy-from_sort_by (λ (row : Row). row.script) sorted c.sort_unstable_by.ensures.sorted
    (λ a r q k. search rules) in
    let same = subst (λ (xs : List Row). IsPermutation xs sorted) rows c.sort_unstable_by.ensures.permutation in
    let claimed = subst (AreClaimed c.args.numbers) claimants c.close.ensures in
    let rows_are : into_iter_items c.into_iter-row-iterator.result ≡ sorted = search rules in
    let own = λ (row : Row). row.outcomes in
    let outcomes = all_done (map own) c.loop-row.outcomes.items _ _ refl over j.outcomes in
    record {
      sessions_are = sessions;
      rows = sorted;
      same = same;
      each = in_order c.args.numbers c.args.shifts.items sorted c.requires.whole claimed same rises;
      outcomes_are = ap lists_of outcomes ∙ (ap (λ rows. lists_of (map own rows)) rows_are ∙ map-map (λ os. os.items) own sorted);
    }

pub loop-shift-init : goal.loop-shift-init
loop-shift-init c =
    let given = c.into_iter-shift-iterator.ensures.into_iter_gives in
    let sessions = c.in_ok-sessions.ensures in
    let claimants = c.in_ok-claimants.ensures in
    let long = ap length given.0 in
    record {
      sessions = rw (sessions.items, given.0) refl;
      claimants = rw (claimants.items, given.0) refl;
      rows = rw (c.requires.none, given.0) refl;
      left = omega (arith, long, given.1, c.args.shifts.ok.0);
      room_sessions = omega (arith, long, sessions.len, sessions.capacity, c.len.ensures, c.args.shifts.ok.0);
      room_claimants = omega (arith, long, claimants.len, claimants.capacity, c.len-2.ensures, c.args.shifts.ok.0);
    }

pub loop-shift-preserved : goal.loop-shift-preserved
loop-shift-preserved c =
    let l = c.loop-shift in
    let i = l.invariant in
    let shift : Shift = c.in-Some.shift in
    let rest = into_iter_items c.next.new.self in
    let next = c.in-Some.ensures.steps in
    let fewer = ap length next.0 in
    let session = c.push_reserved.ensures in
    let claimant = c.push_reserved-in-loop-shift.ensures in
    record {
      sessions = one_done (map (λ (s : Shift). s.session)) l.sessions.items _ (shift.session ∷ []) shift _ rest _ refl session.items next.0
          i.sessions;
      claimants = one_done (map (λ (s : Shift). s.claimant)) l.claimants.items _ (shift.claimant ∷ []) shift _ rest _ refl claimant.items
          next.0 i.claimants;
      rows = one_done (flat_map (λ (s : Shift). s.rows.items)) l.rows.items _ shift.rows.items shift _ rest _ refl
          c.in_ok-append.ensures.items next.0 i.rows;
      left = let was = i.left in omega (arith, fewer, next.1, was);
      room_sessions = let was = i.room_sessions in omega (arith, fewer, was, session.len, session.capacity);
      room_claimants = let was = i.room_claimants in omega (arith, fewer, was, claimant.len, claimant.capacity);
    }

pub loop-row-init : goal.loop-row-init
loop-row-init c =
    let given = c.into_iter-row-iterator.ensures.into_iter_gives in
    let outcomes = c.in_ok-outcomes.ensures in
    let long = ap length given.0 in
    let sorted = c.sort_unstable_by.new.self.ok.0 in
    record {
      outcomes = rw outcomes.items refl;
      left = omega (arith, long, given.1, sorted);
      room = omega (arith, long, outcomes.len, outcomes.capacity, c.len-3.ensures, sorted);
    }
