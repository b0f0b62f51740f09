-- What plain cells have seen: their calls, and the state that they began with.
use Rattle.std.proofs.Common.{◌≡◌, ℕ, List, [], ◌∷◌, ◌++◌, length, get_or, set, inl, inr, ⊎_elim, refl, sym, ap, subst, ◌∙◌, arith, true, length-append}
use Rattle.std.specs.Prelude.{◌<◌, ◌≤◌, ◌⊎◌, Bool, false, if◌then◌else◌, Some, slice_get}
use mathlib.Core.Logic.{∥∥₁_map}
use Rattle.std.specs.Cmp.Lexicographic.{slice_cmp}
use Rattle.std.specs.FinMap.{get-empty}
use Rattle.std.specs.Ordering.{nat_cmp}
use Rattle.std.proofs.lemmas.Bool.{cases_eq}
use Rattle.std.proofs.lemmas.Grind.{common_steps}
use Rattle.std.proofs.lemmas.Option.{slice_get-get_or}
use Rattle.library.specs.Library.{Setting}
use Rattle.ranges.specs.Pairs.{Pairs}
use Rattle.ranges.specs.Ranges.{Range, Has, Names}
use Rattle.ranges.specs.declared.range.Range.{Range as Span}
use Rattle.ranges.proofs.Grown.{within_refl}
use Rattle.cells.specs.State.{FitsReads, most_words}
use Rattle.cells.specs.Slots.{is_ranged}
use Rattle.cells.specs.Sight.{WasRead, Matches, Reads, Writes, Stages, WasAsked, ReadsWithin}
use Rattle.plaincells.specs.Plain.{undone, read_at_first, ranges_in, plain_sight, plain_state, behind, ShowsSome, BeganWithSome, LieInStore, HoldNames, names, IsLogOf}
use Rattle.ranges.proofs.Members.{has_append_cases}
use Rattle.plaincells.proofs.Logs.{logged_push, has_front, has_last, undone_read, undone_write, read_at_first-push, fits_front, fits_first}
use Rattle.plaincells.proofs.Numbered.{value_kept, written_set, slice_get-set_same, slice_get-set_other}
use Rattle.plaincells.proofs.Stores.{of_one_store, within_staged, has_staged, hold_more, names_true, true_names}
use Rattle.plaincells.proofs.Widened.{shows_widened}

-- a state of these values may be the one under the run, where the run began with them
pub plain_matches : (s : Setting) (room : ℕ) (values : List ℕ) (log : Pairs) (store : List ℕ) (places : List Span) (full : Bool)
    → length store ≤ most_words
    → Matches (plain_sight s room values log store places full) (plain_state (undone values log) store places)
plain_matches s room values log store places full short =
    record {
      store = of_one_store most_words store places short;
      has = within_refl (ranges_in store places);
      reads = fits_first (plain_state (undone values log) store places) (undone values log) log (λ c. refl);
    }

-- and it shows what they show
pub plain_began : (s : Setting) (room : ℕ) (values : List ℕ) (log : Pairs) (store : List ℕ) (places : List Span)
    → length store ≤ most_words
    → ShowsSome s (undone values log) store places → BeganWithSome s room values log store places
plain_began s room values log store places short b =
    (b.0, λ full. record { matches = plain_matches s room values log store places full short; shows = b.1; verifies = b.2 })

-- what the run began with stays as it was
pub began_on : (s : Setting) (room : ℕ) (values values' : List ℕ) (log log' : Pairs) (store store' : List ℕ) (places places' : List Span)
    → length store' ≤ most_words
    → (ShowsSome s (undone values log) store places → ShowsSome s (undone values' log') store' places')
    → ∥ BeganWithSome s room values log store places ∥₁ → ∥ BeganWithSome s room values' log' store' places' ∥₁
began_on s room values values' log log' store store' places places' short on began =
    ∥∥₁_map began (λ b. plain_began s room values' log' store' places' short (on (b.0, (b.1 false).shows, (b.1 false).verifies)))

pub began_same : (s : Setting) (room : ℕ) (values values' : List ℕ) (log log' : Pairs) (store : List ℕ) (places : List Span)
    → length store ≤ most_words → undone values' log' ≡ undone values log
    → ∥ BeganWithSome s room values log store places ∥₁ → ∥ BeganWithSome s room values' log' store places ∥₁
began_same s room values values' log log' store places short same began =
    began_on s room values values' log log' store store places places short
    (λ b. subst (λ xs. ShowsSome s xs store places) (sym same) b) began

-- one of two, by a test
pub either_way : {A : Type 0} (P : A → Type 0) (ok : Bool) (x y z : A) → z ≡ (if ok then x else y) → P x → P y → P z
either_way P true x y z e p q = subst P (sym e) p
either_way P false x y z e p q = subst P (sym e) q

-- ---- a cell is read

pub read_at : (values : List ℕ) (cell v : ℕ) → cell < length values → v ≡ get_or values cell v → v ≡ get_or values cell 0
read_at values cell v lt e = grind (arith, common_steps)

-- the log with the entry, or without it, is undone to the same values
pub undone_logged : (values : List ℕ) (log log' : Pairs) (cell v : ℕ) (ok : Bool) → v ≡ get_or values cell 0
    → log' ≡ (if ok then log ++ (cell, v) ∷ [] else log) → undone values log' ≡ undone values log
undone_logged values log log' cell v ok e made =
    either_way (λ l. undone values l ≡ undone values log) ok (log ++ (cell, v) ∷ []) log log' made
    (subst (λ w. undone values (log ++ (cell, w) ∷ []) ≡ undone values log) (sym e) (undone_read values log cell)) refl

pub logged_either : (count : ℕ) (log log' : Pairs) (cell v : ℕ) (ok : Bool) → IsLogOf count log → cell < count
    → log' ≡ (if ok then log ++ (cell, v) ∷ [] else log) → IsLogOf count log'
logged_either count log log' cell v ok l lt made =
    either_way (IsLogOf count) ok (log ++ (cell, v) ∷ []) log log' made (logged_push count log (cell, v) l lt) l

-- the cell comes behind those that were read
read_logged : (values : List ℕ) (log : Pairs) (cell v : ℕ) → v ≡ get_or values cell 0
    → read_at_first (undone values (log ++ (cell, v) ∷ [])) (log ++ (cell, v) ∷ [])
    ≡ read_at_first (undone values log) log ++ (cell, get_or (undone values log) cell 0) ∷ []
read_logged values log cell v e =
    ap (λ xs. read_at_first xs (log ++ (cell, v) ∷ [])) (undone_logged values log (log ++ (cell, v) ∷ []) cell v true e refl)
    ∙ read_at_first-push (undone values log) log (cell, v)

pub plain_reads : (s : Setting) (room : ℕ) (values : List ℕ) (log : Pairs) (store : List ℕ) (places : List Span) (full : Bool) (cell v : ℕ)
    → cell < length values → v ≡ get_or values cell 0 → HoldNames s.slots values (ranges_in store places)
    → Reads cell v (plain_sight s room values log store places full) (plain_sight s room values (log ++ (cell, v) ∷ []) store places full)
plain_reads s room values log store places full cell v lt e hold =
    record {
      looks = record {
        onward = record {
          fixed = refl;
          ranges = within_refl (ranges_in store places);
          reads = λ st h. fits_front st (read_at_first base log) _ (subst (FitsReads st) more h);
          read = λ c h. (h.0, subst (Has (c, h.0)) (sym more) (has_front (c, h.0) (read_at_first base log) _ h.1));
          written = λ c h. h;
          taken = omega arith;
          staged = λ words start h. h;
        };
        writes = refl;
        taken = refl;
        staged = refl;
      };
      value = λ st m. e ∙ sym (value_kept values cell (st.value cell) lt);
      read = (
        get_or base cell 0,
        subst (Has (cell, get_or base cell 0)) (sym more)
            (has_last (cell, get_or base cell 0) (read_at_first base log)),
      );
      named = λ ranged. names_true (ranges_in store places) v
          (hold cell v (slice_get-get_or values cell 0 lt ∙ ap (λ (x : ℕ). Some x) (sym e)) ranged);
    }
  where
    base : List ℕ
    base = undone values log

    more : read_at_first (undone values (log ++ (cell, v) ∷ [])) (log ++ (cell, v) ∷ []) ≡ read_at_first base log
        ++ (cell, get_or base cell 0) ∷ []
    more = read_logged values log cell v e

-- and no other
pub plain_asks : (s : Setting) (room : ℕ) (values : List ℕ) (log : Pairs) (store : List ℕ) (places : List Span) (full : Bool) (cell v : ℕ)
    → v ≡ get_or values cell 0
    → ReadsWithin (λ c. c ≡ cell) (plain_sight s room values log store places full)
    (plain_sight s room values (log ++ (cell, v) ∷ []) store places full)
plain_asks s room values log store places full cell v e = record { asked = either }
  where
    base : List ℕ
    base = undone values log

    either : (c : ℕ) → WasAsked (plain_sight s room values (log ++ (cell, v) ∷ []) store places full) c
        → WasAsked (plain_sight s room values log store places full) c ⊎ (c ≡ cell)
    either c (inl read) =
        elim (has_append_cases (read_at_first base log) ((cell, get_or base cell 0) ∷ []) (c, read.0)
        (subst (Has (c, read.0)) (read_logged values log cell v e) read.1)) [
          | inl before ↦ inl (inl (read.0, before))
          | inr last ↦ inr (⊎_elim (λ here. ap (λ (p : ℕ × ℕ). p.0) here) (λ none. absurd none) last)
        ]
    either c (inr never) = absurd (cc never)

-- ---- a cell is written

-- a cell that was read is one of the log
pub plain_undone : (s : Setting) (room : ℕ) (values : List ℕ) (log : Pairs) (store : List ℕ) (places : List Span) (full : Bool)
    (cell v : ℕ) → WasRead (plain_sight s room values log store places full) cell → undone (set values cell v) log ≡ undone values log
plain_undone s room values log store places full cell v read = undone_write values (undone values log) log cell v read.0 read.1

pub plain_writes : (s : Setting) (room : ℕ) (values : List ℕ) (log : Pairs) (store : List ℕ) (places : List Span) (full : Bool)
    (cell v : ℕ) → cell < length values
    → WasRead (plain_sight s room values log store places full) cell
    → Writes cell v (plain_sight s room values log store places full) (plain_sight s room (set values cell v) log store places full)
plain_writes s room values log store places full cell v lt read =
    record {
      fixed = refl;
      ranges = refl;
      reads = ap (λ xs. read_at_first xs log) (plain_undone s room values log store places full cell v read);
      taken = refl;
      writes = λ c. written_set values cell v c lt;
      staged = refl;
      halted = refl;
    }

-- a word that names a range may stand in the cell
pub hold_set : (slots : ℕ) (values : List ℕ) (ranges : List Range) (cell v : ℕ) → cell < length values → HoldNames slots values ranges
    → (is_ranged slots cell ≡ true → Names ranges v) → HoldNames slots (set values cell v) ranges
hold_set slots values ranges cell v lt hold named c w at ranged = go (cases_eq c cell)
  where
    go : (c ≡ cell) ⊎ (c ≡ cell → ⊥) → names ranges w ≡ true
    go (inl e) =
        let there : slice_get (set values cell v) c ≡ Some v = ap (slice_get (set values cell v)) e ∙ slice_get-set_same values cell v lt in
        let same : v ≡ w = cc in
        subst (λ x. names ranges x ≡ true) same (true_names ranges v (named (subst (λ d. is_ranged slots d ≡ true) e ranged)))
    go (inr ne) = hold c w (sym (slice_get-set_other values cell v c ne) ∙ at) ranged

-- ---- words are staged

pub plain_stages : (s : Setting) (room : ℕ) (values : List ℕ) (log : Pairs) (store words : List ℕ) (places : List Span) (full : Bool)
    → LieInStore store places
    → Stages words (behind store words) (plain_sight s room values log store places full)
    (plain_sight s room values log (store ++ words) (places ++ behind store words ∷ []) full)
plain_stages s room values log store words places full lie =
    record {
      onward = record {
        fixed = refl;
        ranges = within_staged store words places lie;
        reads = λ st h. h;
        read = λ c h. h;
        written = λ c h. h;
        taken = omega (arith, length-append store words);
        staged = λ others start h. h;
      };
      writes = refl;
      finished = has_staged store words places lie;
      len = refl;
      again = λ start e. absurd (let none = sym (get-empty (slice_cmp nat_cmp) words) ∙ e in cc none);
      anew = λ e. record { taken = length-append store words; staged = inl refl };
    }

-- the values show what they showed
pub shows_staged : (s : Setting) (values store words : List ℕ) (places : List Span) → LieInStore store places
    → ShowsSome s values store places → ShowsSome s values (store ++ words) (places ++ behind store words ∷ [])
shows_staged s values store words places lie h = (
  h.0,
  (shows_widened s.slots (λ c. get_or values c 0) (ranges_in store places) _ (within_staged store words places lie) h.0 h.1.held (
    h.1,
    refl,
  )).0,
  h.2,
)

-- a store with the words, or without them
pub staged_or_not : (P : List ℕ → List Span → Type 0) (ok : Bool) (store words store' : List ℕ) (places places' : List Span)
    → store' ≡ (if ok then store ++ words else store) → places' ≡ (if ok then places ++ behind store words ∷ [] else places)
    → P (store ++ words) (places ++ behind store words ∷ []) → P store places → P store' places'
staged_or_not P true store words store' places places' e f p q = subst (λ x. P x places') (sym e) (subst (P (store ++ words)) (sym f) p)
staged_or_not P false store words store' places places' e f p q = subst (λ x. P x places') (sym e) (subst (P store) (sym f) q)

pub hold_staged : (slots : ℕ) (values store words : List ℕ) (places : List Span) → LieInStore store places
    → HoldNames slots values (ranges_in store places)
    → HoldNames slots values (ranges_in (store ++ words) (places ++ behind store words ∷ []))
hold_staged slots values store words places lie hold =
    hold_more slots values (ranges_in store places) _ (within_staged store words places lie) hold

pub began_staged : (s : Setting) (room : ℕ) (values : List ℕ) (log : Pairs) (store words : List ℕ) (places : List Span)
    → LieInStore store places
    → length (store ++ words) ≤ most_words → ∥ BeganWithSome s room values log store places ∥₁
    → ∥ BeganWithSome s room values log (store ++ words) (places ++ behind store words ∷ []) ∥₁
began_staged s room values log store words places lie short began =
    began_on s room values values log log store (store ++ words) places (places ++ behind store words ∷ []) short
    (shows_staged s (undone values log) store words places lie) began
