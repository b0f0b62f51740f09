-- What the sights of a run have in common, before and after its calls.
use Rattle.std.proofs.Common.{◌≡◌, ℕ, List, length, Option, Some, None, refl, sym, ap, subst, ◌∙◌, true, false, arith}
use Rattle.std.specs.Prelude.{◌==◌, if◌then◌else◌}
use Rattle.std.specs.FinMap.{get}
use Rattle.std.proofs.lemmas.Bool.Decides.{Decides-eqb}
use Rattle.library.specs.declared.library.Ranked.{Ranked}
use Rattle.ranges.specs.Pairs.{written}
use Rattle.ranges.specs.Ranges.{Has, Within}
use Rattle.ranges.specs.declared.range.Range.{Range as Span}
use Rattle.ranges.proofs.Grown.{within_refl, within_trans}
use Rattle.bodystore.specs.Stages.{Staged}
use Rattle.cells.specs.State.{State, FitsReads, with_writes, value_or, with_value}
use Rattle.cells.specs.Sight.{Sight, Fixed, WasWritten, Matches, Views, Onward, TakesAtMost, Looks, Writes, Stages, after}
use Rattle.library.specs.Library.{Setting, Verifies}
use Rattle.cells.specs.Shows.{Shows}
use Rattle.cells.specs.Lookups.{ForEach}

-- ---- what never changes in a run

module _ {O : Type 0} {old new : Sight O} (on : Onward old new) where
  pub origin_kept : new.origin ≡ old.origin
  origin_kept = ap (λ (t : Fixed O). t.origin) on.fixed

  pub setting_kept : new.setting ≡ old.setting
  setting_kept = ap (λ (t : Fixed O). t.setting) on.fixed

  pub may_write_kept : new.may_write ≡ old.may_write
  may_write_kept = ap (λ (t : Fixed O). t.may_write) on.fixed

  pub may_stage_kept : new.may_stage ≡ old.may_stage
  may_stage_kept = ap (λ (t : Fixed O). t.may_stage) on.fixed

  pub room_kept : new.room ≡ old.room
  room_kept = ap (λ (t : Fixed O). t.room) on.fixed

-- ---- nothing is lost

pub onward_refl : {O : Type 0} → (s : Sight O) → Onward s s
onward_refl s =
    record {
      fixed = refl;
      ranges = within_refl s.ranges;
      reads = λ st h. h;
      read = λ c h. h;
      written = λ c h. h;
      taken = omega arith;
      staged = λ words start h. h;
    }

pub onward_trans : {O : Type 0} → (r s t : Sight O) → Onward r s → Onward s t → Onward r t
onward_trans r s t f g =
    record {
      fixed = g.fixed ∙ f.fixed;
      ranges = within_trans r.ranges s.ranges t.ranges f.ranges g.ranges;
      reads = λ st h. f.reads st (g.reads st h);
      read = λ c h. g.read c (f.read c h);
      written = λ c h. g.written c (f.written c h);
      taken = omega arith;
      staged = λ words start h. g.staged words start (f.staged words start h);
    }

pub looks_refl : {O : Type 0} → (s : Sight O) → Looks s s
looks_refl s = record { onward = onward_refl s; writes = refl; taken = refl; staged = refl }

pub looks_trans : {O : Type 0} → (r s t : Sight O) → Looks r s → Looks s t → Looks r t
looks_trans r s t f g =
    record {
      onward = onward_trans r s t f.onward g.onward;
      writes = g.writes ∙ f.writes;
      taken = g.taken ∙ f.taken;
      staged = g.staged ∙ f.staged;
    }

pub writes_onward : {O : Type 0} → (cell v : ℕ) (s t : Sight O) → Writes cell v s t → Onward s t
writes_onward cell v s t w =
    record {
      fixed = w.fixed;
      ranges = subst (Within s.ranges) (sym w.ranges) (within_refl s.ranges);
      reads = λ st h. subst (FitsReads st) w.reads h;
      read = λ c h. (h.0, subst (Has (c, h.0)) (sym w.reads) h.1);
      written = λ c h. written_on c h;
      taken = omega (arith, w.taken);
      staged = λ words start h. ap (λ (m : Staged). get m words) w.staged ∙ h;
    }
  where
    written_on : (c : ℕ) → WasWritten s c → WasWritten t c
    written_on c h =
        elim (c == cell) as (λ b. written c t.writes ≡ (if b then Some v else written c s.writes) → WasWritten t c) [
          | true ↦ λ e. (v, e)
          | false ↦ λ e. (h.0, e ∙ h.1)
        ] (w.writes c)

-- the cell is written then
pub writes_cell : {O : Type 0} → (cell v : ℕ) (s t : Sight O) → Writes cell v s t → WasWritten t cell
writes_cell cell v s t w =
    elim (cell == cell) as (λ b. (cell == cell) ≡ b → written cell t.writes ≡ (if b then Some v else written cell s.writes)
    → WasWritten t cell) [
      | true ↦ λ k e. (v, e)
      | false ↦ λ k e. absurd (let one = same_is_same cell in cc)
    ] refl (w.writes cell)
  where
    same_is_same : (n : ℕ) → (n == n) ≡ true
    same_is_same n = (Decides-eqb n n).1 refl

-- to stage words takes at most these
pub stages_take : {O : Type 0} → (words : List ℕ) (range : Span) (s t : Sight O) → Stages words range s t → TakesAtMost (length words) s t
stages_take words range s t f = go (get s.staged words) refl
  where
    go : (found : Option ℕ) → get s.staged words ≡ found → TakesAtMost (length words) s t
    go (Some start) e = let taken = (f.again start e).taken in omega (arith, taken)
    go None e = let taken = (f.anew e).taken in omega (arith, taken)

-- ---- the states that are left possible

pub matches_back : {O : Type 0} → (s t : Sight O) (st : State) → Onward s t → Matches t st → Matches s st
matches_back s t st f m =
    record { store = m.store; has = λ r h. m.has r (f.ranges r h); reads = f.reads st m.reads }

-- what is made of a state stays the same while nothing is written
pub after_same : {O : Type 0} → (s t : Sight O) (st : State) → t.writes ≡ s.writes → after t st ≡ after s st
after_same s t st e = ap (with_writes st) e

pub after_looks : {O : Type 0} → (s t : Sight O) (st : State) → Looks s t → after t st ≡ after s st
after_looks s t st f = after_same s t st f.writes

pub views_back : {O : Type 0} → (s t : Sight O) (st : State) (lib : List Ranked) → Looks s t → Views t st lib → Views s st lib
views_back s t st lib f v =
    record {
      matches = matches_back s t st f.onward v.matches;
      shows = subst (λ (x : State). Shows s.setting.slots x lib) (after_looks s t st f)
          (subst (λ (x : Setting). Shows x.slots (after t st) lib) (setting_kept f.onward) v.shows);
      verifies = subst (λ (x : Setting). Verifies x lib) (setting_kept f.onward) v.verifies;
    }

-- what was so of each state stays so while nothing is written
pub for_each_later : {O : Type 0} → (s t : Sight O) (told : State → List Ranked → Type 0) → Looks s t → ForEach s told → ForEach t told
for_each_later s t told f each st lib v =
    subst (λ (x : State). told x lib) (sym (after_looks s t st f)) (each st lib (views_back s t st lib f v))

-- a value that is kept aside is that of its cell
pub after_writes : {O : Type 0} → (cell v : ℕ) (s t : Sight O) (st : State) → Writes cell v s t
    → after t st ≡ with_value cell v (after s st)
after_writes cell v s t st w = λ i. record { value = λ c. value_at c i; ranges = st.ranges }
  where
    over : (c : ℕ) → value_or (if c == cell then Some v else written c s.writes) (st.value c)
        ≡ (if c == cell then v else value_or (written c s.writes) (st.value c))
    over c = elim (c == cell) as (λ b. value_or (if b then Some v else written c s.writes) (st.value c)
        ≡ (if b then v else value_or (written c s.writes) (st.value c))) [ true ↦ refl | false ↦ refl ]

    value_at : (c : ℕ) → value_or (written c t.writes) (st.value c) ≡ (if c == cell then v else value_or (written c s.writes) (st.value c))
    value_at c = ap (λ (o : Option ℕ). value_or o (st.value c)) (w.writes c) ∙ over c
