-- Cells of counts that are changed one after another, and the slots that steps cite.
use Rattle.std.proofs.Common.{◌≡◌, ◌≢◌, ℕ, zero, suc, ◌+◌, ◌-◌, ◌*◌, ◌^◌, ◌<◌, ◌%◌, false, List, [], ◌∷◌, ◌++◌, length, take, get_or, refl, sym, ap, subst, ◌∙◌}
use Rattle.std.proofs.Common.{inl, inr, ⊎_elim, arith, nat_eq}
use Rattle.std.specs.Prelude.{nat_lt, min}
use Rattle.std.proofs.lemmas.Bool.{le-ltb, and_right}
use Rattle.std.proofs.lemmas.List.{take_more}
use Rattle.mmsyntax.specs.Assertions.{Distinct}
use Rattle.ranges.specs.Ranges.{Has}
use Rattle.cells.specs.State.{State, with_value}
use Rattle.cells.specs.Slots.{rank_cell, citers_cell, is_ranged}
use Rattle.cells.specs.Counts.{CountsIn, CountsOut}
use Rattle.ranges.proofs.Members.{has_append_left, has_append_right, has_append_cases, absent}
use Rattle.cells.specs.Sight.{Sight, Looks, Writes, ReadsWithin, ReadsNothing, after}
use Rattle.cells.proofs.Sights.{after_looks, after_writes}
use Rattle.cells.specs.Aside.{KeepsAside, IsCitersOf}
use Rattle.cells.proofs.Keeping.{keeps_wider, keeps_put}
use Rattle.cells.proofs.Asking.{item_has, asks_cell, asks_still}
use Rattle.cells.proofs.Values.{value_there, value_elsewhere}

-- ---- cells that are no range cells

pub rank_plain : (slots i : ℕ) → is_ranged slots (rank_cell i) ≡ false
rank_plain slots i = and_right (nat_lt (rank_cell i) (5 * slots)) (nat_lt (rank_cell i % 5) 3) (le-ltb (rank_cell i % 5) 3 (omega arith))

-- ---- counts that change

abbrev pub one_more : ℕ → ℕ
one_more n = min (n + 1) (2 ^ 64 - 1)

abbrev pub one_less : ℕ → ℕ
one_less n = n - 1

-- the number of citers of each of these slots changes so, and nothing else
pub record Changes (f : ℕ → ℕ) (listed : List ℕ) (st next : State) : Type 0 where
  pub counted : (i : ℕ) → Has i listed → next.value (citers_cell i) ≡ f (st.value (citers_cell i))
  pub others : (c : ℕ) → ((i : ℕ) → Has i listed → c ≢ citers_cell i) → next.value c ≡ st.value c

pub changes_push : (f : ℕ → ℕ) (listed : List ℕ) (x : ℕ) (st mid : State) → Changes f listed st mid → (Has x listed → ⊥)
    → Changes f (listed ++ x ∷ []) st (with_value (citers_cell x) (f (mid.value (citers_cell x))) mid)
changes_push f listed x st mid ch free =
    record {
      counted = λ i has. ⊎_elim
          (λ before. value_elsewhere cell new mid (citers_cell i) (λ z. free (subst (λ n. Has n listed) (omega (arith, z)) before))
          ∙ ch.counted i before)
          (λ last. ⊎_elim
          (λ e. ap (λ n. (with_value cell new mid).value (citers_cell n)) e ∙ value_there cell new mid
          ∙ ap f (ch.others cell (λ j has z. free (subst (λ n. Has n listed) (omega (arith, z)) has)))
          ∙ ap (λ n. f (st.value (citers_cell n))) (sym e))
          (λ z. absurd z) last)
          (has_append_cases listed (x ∷ []) i has);
      others = λ c out. value_elsewhere cell new mid c (out x (has_append_right listed (x ∷ []) x (inl refl)))
          ∙ ch.others c (λ i has. out i (has_append_left listed (x ∷ []) i has));
    }
  where
    cell : ℕ
    cell = 5 * x + 4

    new : ℕ
    new = f (mid.value (citers_cell x))

pub index_has : (ys : List ℕ) (k : ℕ) → k < length ys → Has (get_or ys k 0) ys
index_has ys k below = item_has ys k 0 below

-- an element of numbers that differ does not stand before its place
pub before_apart : (xs : List ℕ) (i : ℕ) → Distinct nat_eq xs → i < length xs → Has (get_or xs i 0) (take i xs) → ⊥
before_apart [] i d lt h = omega (arith, lt)
before_apart (x ∷ xs) zero d lt h = h
before_apart (x ∷ xs) (suc i) d lt (inl e) = absent xs x d.0 (subst (λ n. Has n xs) e (index_has xs i (omega (arith, lt))))
before_apart (x ∷ xs) (suc i) d lt (inr h) = before_apart xs i d.1 (omega (arith, lt)) h

-- one step further along the list
pub changes_more : (f : ℕ → ℕ) (xs : List ℕ) (i x : ℕ) (st mid : State) → Distinct nat_eq xs → i < length xs → x ≡ get_or xs i 0
    → Changes f (take i xs) st mid → Changes f (take (i + 1) xs) st (with_value (citers_cell x) (f (mid.value (citers_cell x))) mid)
changes_more f xs i x st mid d lt is ch =
    subst (λ l. Changes f l st (with_value (citers_cell x) (f (mid.value (citers_cell x))) mid))
    (ap (λ n. take i xs ++ n ∷ []) is ∙ sym (take_more xs i 0 lt))
    (changes_push f (take i xs) x st mid ch (λ h. before_apart xs i d lt (subst (λ n. Has n (take i xs)) is h)))

pub counts_in : (xs : List ℕ) (st next : State) → ((i : ℕ) → Has i xs → st.value (citers_cell i) < 2 ^ 32) → Changes one_more xs st next
    → CountsIn xs st next
counts_in xs st next few ch =
    record { counted = λ i has. let m = few i has in let e = ch.counted i has in omega (arith, m, e); others = ch.others }

pub counts_out : (xs : List ℕ) (st next : State) → Changes one_less xs st next → CountsOut xs st next
counts_out xs st next ch = record { counted = ch.counted; others = ch.others }

-- for the citers cell of a listed slot
pub keeps_counted : {O : Type 0} → (xs : List ℕ) (i cell v : ℕ) (r s t : Sight O) → i < length xs → cell ≡ citers_cell (get_or xs i 0)
    → Looks r s → Writes cell v s t → KeepsAside (IsCitersOf xs) r t
keeps_counted xs i cell v r s t lt is looks writes =
    keeps_wider (λ c. c ≡ cell) (IsCitersOf xs) r t (λ c same. (get_or xs i 0, index_has xs i lt, same ∙ is))
    (keeps_put cell v r s t looks.writes writes)

-- a count that is read and written is one of these
pub asks_counted : {O : Type 0} → (xs : List ℕ) (i cell : ℕ) (r s t : Sight O) → i < length xs → cell ≡ citers_cell (get_or xs i 0)
    → ReadsWithin (λ c. c ≡ cell) r s → ReadsNothing s t → ReadsWithin (IsCitersOf xs) r t
asks_counted xs i cell r s t lt is read none = asks_still (asks_cell (get_or xs i 0, index_has xs i lt, is) read) none

-- what is written where a count was read
pub count_made : {O : Type 0} → (f : ℕ → ℕ) (r s t : Sight O) (st : State) (cell there v w x : ℕ) → Looks r s → Writes there w s t
    → there ≡ citers_cell x
    → w ≡ f v
    → v ≡ (after s st).value cell → cell ≡ citers_cell x
    → after t st ≡ with_value (citers_cell x) (f ((after r st).value (citers_cell x))) (after r st)
count_made f r s t st cell there v w x looks writes there_is w_is v_is cell_is =
    let same = after_looks r s st looks in
    let value : w ≡ f ((after r st).value (citers_cell x)) =
    w_is ∙ ap f (v_is ∙ ap (after s st).value cell_is ∙ ap (λ (y : State). y.value (citers_cell x)) same) in
    after_writes there w s t st writes ∙ (λ i. with_value (there_is i) (value i) (same i))
