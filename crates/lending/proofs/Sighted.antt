-- What the steps of a run of a session do to what commands see of it.
use Rattle.std.proofs.Common.{◌≡◌, ℕ, ◌+◌, ◌≤◌, ◌⊎◌, ◌==◌, if◌then◌else◌, inl, inr, Bool, true, is_some, Option, Some, None, List, length}
use Rattle.std.proofs.Common.{eq-eqb, ne_eqb, refl, sym, ap, ◌∙◌, ⊎_elim, subst, min, arith}
use Rattle.std.specs.Prelude.{Result, Ok, Err, OnOk, OnErr}
use Rattle.std.specs.Cmp.Lexicographic.{slice_cmp, nat_list_cmp_total, bytes_decides}
use Rattle.std.specs.FinMap.{get, insert, get-insert}
use Rattle.std.specs.Option.{option_map}
use Rattle.std.specs.Ordering.{nat_cmp, is_eq}
use Rattle.std.proofs.lemmas.Bool.{cases_Bool, cond-false}
use Rattle.std.proofs.lemmas.Map.Text.{is_eq-slice_cmp}
use mathlib.Core.Logic.{dite}
use native.Mathlib.Decide.{ℕ_discrete}
use Rattle.ranges.specs.declared.range.Range.{Range as Span}
use Rattle.ranges.specs.Pairs.{written}
use Rattle.tlwords.specs.declared.log.Slot.{Slot}
use Rattle.tlwords.specs.declared.outcome.Conflict.{Conflict}
use Rattle.tlwords.specs.Seen.{Seen, SeenGrows}
use Rattle.tlwords.specs.Known.{Going}
use Rattle.tlwords.specs.Runs.{value_kept, HasKept}
use Rattle.tlwords.specs.Commits.{writes_kept}
use Rattle.tlwords.specs.Calls.{HasRead, HasStopped, HasLoaded, HasLoadedSome, HasStaged, IsRefused}
use Rattle.bodystore.specs.Stages.{Staged, range_at}
use Rattle.bodystore.proofs.Staging.{found_is_staged}
use Rattle.cells.specs.State.{value_or}
use Rattle.cells.specs.Sight.{StaysStaged, Onward, Looks, Reads, Writes, Stages, WasAsked, ReadsWithin, ReadsNothing}
use Rattle.cells.proofs.Asking.{nothing_same}
use Rattle.cells.proofs.Halting.{looks_full}
use Rattle.cells.proofs.Sights.{onward_refl, looks_refl}
use Rattle.lawful.specs.declared.notes.Given.{Given}
use Rattle.lawful.specs.declared.notes.Note.{Note}
use Rattle.lawful.specs.Lawful.{library_terms}
use Rattle.lending.specs.Lent.{Lending, lent_sight, IsLent}
use Rattle.lending.proofs.Kept.{written_kept, kept_has}
use Rattle.lending.proofs.Lending.{pass_on, noted_values, noted_writes, later, read_on, slots_on}

-- ---- nothing is lost

later_onward : (l : Lending) (seen : Seen Note) (looked full : Option (ℕ × ℕ)) (taken added : ℕ) (over : Option Conflict) (no_room : Bool)
    → l.going.known.taken ≤ taken → SeenGrows l.going.known.seen seen
    → Onward (lent_sight l) (lent_sight (later l seen looked full taken added over no_room))
later_onward l seen looked full taken added over no_room more grows =
    record {
      fixed = refl;
      ranges = grows.2;
      reads = λ st f. f;
      read = λ c w. w;
      written = λ c w. w;
      taken = more;
      staged = λ words start w. w;
    }

later_looks : (l : Lending) (seen : Seen Note) (looked full : Option (ℕ × ℕ)) (added : ℕ) (over : Option Conflict) (no_room : Bool)
    → SeenGrows l.going.known.seen seen
    → Looks (lent_sight l) (lent_sight (later l seen looked full l.going.known.taken added over no_room))
later_looks l seen looked full added over no_room grows =
    record {
      onward = later_onward l seen looked full l.going.known.taken added over no_room (omega arith) grows;
      writes = refl;
      taken = refl;
      staged = refl;
    }

-- a word was loaded
pub loads_look : (l : Lending) (r : Going Given Note) → HasLoaded library_terms l.going r
    → Looks (lent_sight l) (lent_sight (record l { going = r }))
loads_look l r h =
    let k = l.going.known in
    subst (λ (x : Going Given Note). Looks (lent_sight l) (lent_sight (record l { going = x }))) (sym h.is)
    (later_looks l r.known.seen k.looked k.full k.added l.going.over l.full h.grows)

-- and no cell was read
pub loads_nothing : (l : Lending) (r : Going Given Note) → HasLoaded library_terms l.going r
    → ReadsNothing (lent_sight l) (lent_sight (record l { going = r }))
loads_nothing l r h =
    subst (λ (x : Going Given Note). ReadsNothing (lent_sight l) (lent_sight (record l { going = x }))) (sym h.is) (record {
      asked =
          λ c was. was;
    })

-- words were loaded, or none
pub loads_some : (l : Lending) (r : Going Given Note) → HasLoadedSome library_terms l.going r
    → Looks (lent_sight l) (lent_sight (record l { going = r })) × ReadsNothing (lent_sight l) (lent_sight (record l { going = r }))
loads_some l r h =
    let told : Going Given Note → Type 0 =
    λ x. Looks (lent_sight l) (lent_sight (record l { going = x })) × ReadsNothing (lent_sight l) (lent_sight (record l { going = x })) in
    ⊎_elim (λ same. subst told (sym same) (looks_refl (lent_sight l), nothing_same (lent_sight l)))
    (λ some. (loads_look l r some, loads_nothing l r some)) h

-- a read met a conflict
pub stops_look : (l : Lending) (cell : ℕ) (met : Conflict) (r : Going Given Note) → HasStopped library_terms cell met l.going r
    → Looks (lent_sight l) (lent_sight (record l { going = r }))
stops_look l cell met r h =
    let k = l.going.known in
    subst (λ (x : Going Given Note). Looks (lent_sight l) (lent_sight (record l { going = x }))) (sym h.is)
    (later_looks l r.known.seen (Some (cell, met.word)) k.full k.added (Some met) l.full h.grows)

-- and no cell was asked for but its own
pub stops_within : (l : Lending) (cell : ℕ) (met : Conflict) (r : Going Given Note) → HasStopped library_terms cell met l.going r
    → ReadsWithin (λ c. c ≡ cell) (lent_sight l) (lent_sight (record l { going = r }))
stops_within l cell met r h =
    subst (λ (x : Going Given Note). ReadsWithin (λ c. c ≡ cell) (lent_sight l) (lent_sight (record l { going = x }))) (sym h.is)
    (record { asked = either })
  where
    stopped : Lending
    stopped = later l r.known.seen (Some (cell, met.word)) l.going.known.full l.going.known.taken l.going.known.added (Some met) l.full

    either : (c : ℕ) → WasAsked (lent_sight stopped) c → WasAsked (lent_sight l) c ⊎ (c ≡ cell)
    either c (inl read) = inl (inl read)
    either c (inr is) = inr (let same : met.cell ≡ c = cc in sym same ∙ h.cell_is)

-- a staging was refused
pub refused_look : (l : Lending) (count : ℕ) (r : Going Given Note) → IsRefused library_terms count l.going r
    → Looks (lent_sight l) (lent_sight (record l { going = r; full = true }))
refused_look l count r (inl (p, e, same)) =
    subst (λ (x : Going Given Note). Looks (lent_sight l) (lent_sight (record l { going = x; full = true }))) (sym same)
    (looks_full (lent_sight l) true)
refused_look l count r (inr (tail, h)) =
    let k = l.going.known in
    subst (λ (x : Going Given Note). Looks (lent_sight l) (lent_sight (record l { going = x; full = true }))) (sym h.is)
    (later_looks l r.known.seen k.looked (Some (tail, count)) (min count (k.home.room + 1)) l.going.over true h.grows)

-- and no cell was read
pub refused_nothing : (l : Lending) (count : ℕ) (r : Going Given Note) → IsRefused library_terms count l.going r
    → ReadsNothing (lent_sight l) (lent_sight (record l { going = r; full = true }))
refused_nothing l count r (inl (p, e, same)) =
    subst (λ (x : Going Given Note). ReadsNothing (lent_sight l) (lent_sight (record l { going = x; full = true }))) (sym same)
    (record { asked = λ c was. was })
refused_nothing l count r (inr (tail, h)) =
    subst (λ (x : Going Given Note). ReadsNothing (lent_sight l) (lent_sight (record l { going = x; full = true }))) (sym h.is)
    (record { asked = λ c was. was })

-- ---- words are staged

-- a range that is staged besides changes none of those that were
stays_staged : (stage : Staged) (words : List ℕ) (start : ℕ) → get stage words ≡ None → StaysStaged stage (insert stage words start)
stays_staged stage words start none others place is =
    let at = get-insert nat_list_cmp_total stage words start others in
    elim (cases_Bool (is_eq (slice_cmp nat_cmp others words))) [
      | inl y ↦
          let same : others ≡ words = (bytes_decides others words).0 (sym (is_eq-slice_cmp others words) ∙ y) in
          absurd (let clash : Some place ≡ None = sym is ∙ ap (get stage) same ∙ none in cc)
      | inr n ↦ at ∙ cond-false _ (Some start) (get stage others) n ∙ is
    ]

-- and so where there is no memory for the note
stays_or_not : {A E : Type 0} (stage next : Staged) (words : List ℕ) (start : ℕ) (made : Result A E) → get stage words ≡ None
    → OnOk made (next ≡ insert stage words start) → OnErr made (next ≡ stage)
    → StaysStaged stage next × ((next ≡ stage) ⊎ (next ≡ insert stage words start))
stays_or_not stage next words start (Ok x) none ok err =
    (subst (StaysStaged stage) (sym ok) (stays_staged stage words start none), inr ok)
stays_or_not stage next words start (Err x) none ok err = (subst (StaysStaged stage) (sym err) (λ others place is. is), inl err)

-- what was not found was not staged
pub none_staged : (stage : Staged) (words : List ℕ) → option_map (range_at words) (get stage words) ≡ None → get stage words ≡ None
none_staged stage words e = go (get stage words) refl
  where
    go : (o : Option ℕ) → get stage words ≡ o → get stage words ≡ None
    go None is = is
    go (Some start) is = absurd (let clash = ap (option_map (range_at words)) (sym is) ∙ e in cc clash)

pub stages_sight : {A E : Type 0} (l : Lending) (words : List ℕ) (range : Span) (r : Going Given Note) (next : Staged) (made : Result A E)
    → HasStaged library_terms words range.start l.going r → get l.staged words ≡ None
    → OnOk made (next ≡ insert l.staged words range.start) → OnErr made (next ≡ l.staged)
    → range.len ≡ length words → Stages words range (lent_sight l) (lent_sight (record l { going = r; staged = next }))
stages_sight l words range r next made h none ok err len =
    let k = l.going.known in
    let taken = k.taken + length words in
    let stays = stays_or_not l.staged next words range.start made none ok err in
    let on = later_onward l r.known.seen k.looked k.full taken k.added l.going.over l.full (omega arith) h.grows in
    subst (λ (x : Going Given Note). Stages words range (lent_sight l) (lent_sight (record l { going = x; staged = next }))) (sym h.is)
    (record {
      onward = record {
        fixed = refl;
        ranges = on.ranges;
        reads = on.reads;
        read = on.read;
        written = on.written;
        taken = on.taken;
        staged = stays.0;
      };
      writes = refl;
      finished = h.finished;
      len = len;
      again = λ start e. absurd (let clash : Some start ≡ None = sym e ∙ none in cc);
      anew = λ e. record { taken = refl; staged = stays.1 };
    })

-- and no cell is read
pub stages_nothing : (l : Lending) (words : List ℕ) (start : ℕ) (r : Going Given Note) (next : Staged)
    → HasStaged library_terms words start l.going r
    → ReadsNothing (lent_sight l) (lent_sight (record l { going = r; staged = next }))
stages_nothing l words start r next h =
    subst (λ (x : Going Given Note). ReadsNothing (lent_sight l) (lent_sight (record l { going = x; staged = next }))) (sym h.is)
    (record { asked = λ c was. was })

-- words that were staged are taken again
pub again_sight : (l : Lending) (stage : Staged) (over : Option Conflict) → IsLent l stage over → (words : List ℕ) (range : Span)
    → l.staged ≡ stage → option_map (range_at words) (get stage words) ≡ Some range → Stages words range (lent_sight l) (lent_sight l)
again_sight l stage over i words range own found =
    let is = found_is_staged l.going.known.seen.ranges stage words range i.staged found in
    let at = staged_at stage words range found in
    record {
      onward = onward_refl (lent_sight l);
      writes = refl;
      finished = is.0;
      len = is.1;
      again = λ start e. record {
        start_is = (let same : Some range.start ≡ Some start = sym at ∙ sym (ap (λ (m : Staged). get m words) own) ∙ e in cc);
        taken = refl;
        staged = refl;
      };
      anew = λ none. absurd (let clash : Some range.start ≡ None = sym at ∙ sym (ap (λ (m : Staged). get m words) own) ∙ none in cc);
    }
  where
    staged_at : (stage : Staged) (words : List ℕ) (range : Span) → option_map (range_at words) (get stage words) ≡ Some range
        → get stage words ≡ Some range.start
    staged_at stage words range e = go (get stage words) refl
      where
        go : (o : Option ℕ) → get stage words ≡ o → get stage words ≡ Some range.start
        go None is = absurd (let clash = ap (option_map (range_at words)) (sym is) ∙ e in cc clash)
        go (Some start) is =
            let same : Some (range_at words start) ≡ Some range = ap (option_map (range_at words)) (sym is) ∙ e in
            let place : range_at words start ≡ range = cc in
            is ∙ ap (λ (p : Span). Some p.start) place

-- ---- a cell is read

module _ (l : Lending) (stage : Staged) (over : Option Conflict) (i : IsLent l stage over) (cell value : ℕ) where
  -- its value was kept
  pub rereads_sight : value_kept l.going.slots cell ≡ Some value → Reads cell value (lent_sight l) (lent_sight l)
  rereads_sight e =
      record {
        looks = looks_refl (lent_sight l);
        value = λ st m. sym (ap (λ (o : Option ℕ). value_or o (st.value cell)) (written_kept l.going.slots cell ∙ e));
        read = i.kept cell (ap is_some e);
        named = i.named cell value (kept_has l.going.slots cell value e);
      }

  module _ (r : Going Given Note) (h : HasRead library_terms cell value l.going r) where
    abbrev now : Lending
    now = read_on l r.known.seen cell h.word value r.slots

    same : writes_kept r.slots ≡ writes_kept l.going.slots
    same = noted_writes l.going.mode l.going.slots r.slots cell h.word h.notes

    looks_now : Looks (lent_sight l) (lent_sight now)
    looks_now =
        record {
          onward = record {
            fixed = refl;
            ranges = h.grows.2;
            reads = λ st f. f.1;
            read = λ c w. (w.0, inr w.1);
            written = λ c w. (w.0, ap (written c) same ∙ w.1);
            taken = omega arith;
            staged = λ words start w. w;
          };
          writes = same;
          taken = refl;
          staged = refl;
        }

    reads_now : value_kept l.going.slots cell ≡ None → Reads cell value (lent_sight l) (lent_sight now)
    reads_now unkept =
        record {
          looks = looks_now;
          value = λ st m. sym m.reads.0 ∙ sym (ap (λ (o : Option ℕ). value_or o (st.value cell)) (written_kept r.slots cell
              ∙ (noted_values l.going.mode l.going.slots r.slots cell h.word h.notes cell ∙ unkept)));
          read = (value, inl refl);
          named = h.named l.given (pass_on l stage over i).0;
        }

    -- it was read
    pub reads_sight : value_kept l.going.slots cell ≡ None → Reads cell value (lent_sight l) (lent_sight (record l { going = r }))
    reads_sight unkept =
        subst (λ (x : Going Given Note). Reads cell value (lent_sight l) (lent_sight (record l { going = x }))) (sym h.is)
        (reads_now unkept)

    -- and no other
    pub reads_within : ReadsWithin (λ c. c ≡ cell) (lent_sight l) (lent_sight (record l { going = r }))
    reads_within =
        subst (λ (x : Going Given Note). ReadsWithin (λ c. c ≡ cell) (lent_sight l) (lent_sight (record l { going = x }))) (sym h.is)
        (record { asked = either })
      where
        either : (c : ℕ) → WasAsked (lent_sight now) c → WasAsked (lent_sight l) c ⊎ (c ≡ cell)
        either c (inl (v, inl here)) = inr (ap (λ (p : ℕ × ℕ). p.0) here)
        either c (inl (v, inr before)) = inl (inl (v, before))
        either c (inr stopped) = inl (inr stopped)

-- ---- a value is kept aside for a cell

kept_sight : (l : Lending) (cell value : ℕ) (slots : List Slot) → HasKept l.going.slots slots cell value
    → Writes cell value (lent_sight l) (lent_sight (slots_on l slots))
kept_sight l cell value slots k =
    record {
      fixed = refl;
      ranges = refl;
      reads = refl;
      taken = refl;
      writes = written_now;
      staged = refl;
      halted = refl;
    }
  where
    written_now : (c : ℕ) → written c (writes_kept slots) ≡ (if c == cell then Some value else written c (writes_kept l.going.slots))
    written_now c = dite (ℕ_discrete c cell)
        (λ e. rw (eq-eqb c cell e) (written_kept slots c ∙ (ap (value_kept slots) e ∙ k.1)))
        (λ n. rw (ne_eqb c cell n) (written_kept slots c ∙ (k.2 c n ∙ sym (written_kept l.going.slots c))))

pub writes_sight : (l : Lending) (cell value : ℕ) (r : Going Given Note) → HasKept l.going.slots r.slots cell value
    → r ≡ record l.going { slots = r.slots } → Writes cell value (lent_sight l) (lent_sight (record l { going = r }))
writes_sight l cell value r k same =
    subst (λ (x : Going Given Note). Writes cell value (lent_sight l) (lent_sight (record l { going = x }))) (sym same)
    (kept_sight l cell value r.slots k)
