-- A run of a session goes on: what is so of it at all times stays so, and it agrees with some state of its library.
use Rattle.std.proofs.Common.{◌≡◌, ℕ, ◌+◌, ◌/◌, ◌%◌, ◌<◌, ◌≤◌, arith, inl, inr, Bool, true, false, is_some, Option, Some, None, List, ◌∷◌, length}
use Rattle.std.proofs.Common.{refl, sym, ap, ◌∙◌, ⊎_elim, subst, min, eq-eqb}
use Rattle.std.specs.Prelude.{Result, Ok, Err, OnOk, OnErr}
use Rattle.std.specs.FinMap.{insert}
use mathlib.Core.Logic.{dite}
use native.Mathlib.Decide.{ℕ_discrete}
use Rattle.tlcore.proofs.Growth.{WasWritten-kept}
use Rattle.ranges.specs.Pairs.{Pairs, written}
use Rattle.ranges.specs.Ranges.{Has, Names}
use Rattle.ranges.proofs.Grown.{names_grow}
use Rattle.tlwords.specs.declared.log.Slot.{Slot}
use Rattle.tlwords.specs.declared.mode.Mode.{Mode}
use Rattle.tlwords.specs.declared.mode.Mode.TheVariants.{Reading, Writing}
use Rattle.tlwords.specs.declared.outcome.Conflict.{Conflict}
use Rattle.tlwords.specs.Seen.{Seen, SeenGrows}
use Rattle.tlwords.specs.Known.{WordsHome, Going, Stands, word_told}
use Rattle.tlwords.specs.Runs.{word_seen, value_kept, was_read, HasKept, HasCause}
use Rattle.tlwords.specs.Commits.{writes_kept, HasForgotten}
use Rattle.tlwords.specs.Calls.{Begins, HasRead, HasStopped, HasLoaded, HasLoadedSome, HasStaged, IsRefused, Notes}
use Rattle.tlwords.proofs.Modes.{read_room}
use Rattle.tlwords.proofs.Seens.{seen_trans}
use Rattle.bodystore.specs.Stages.{Staged, AreStaged}
use Rattle.bodystore.proofs.Staging.{staged_go_on, noting_keeps}
use Rattle.cells.specs.State.{most_words}
use Rattle.cells.specs.Slots.{cell_count, is_ranged}
use Rattle.cells.specs.Sight.{WasRead}
use Rattle.lawful.specs.declared.notes.Given.{Given}
use Rattle.lawful.specs.declared.notes.Note.{Note}
use Rattle.lawful.specs.Lawful.{library_terms}
use Rattle.lawful.specs.History.{library_after, state_after}
use Rattle.lawful.specs.Laws.{IsPassOn}
use Rattle.lawful.proofs.Standing.{runs_suit}
use Rattle.lending.specs.declared.live.Live.TheInside.{Inside}
use Rattle.lending.specs.Lent.{Pass, Lending, lent_sight, AgreesWithSome, ExceedsRoom, HasMet, IsLent, FindsNone}
use Rattle.lending.proofs.Kept.{has_kept, kept_has, blank_writes, same_writes}

-- ---- it agrees with some state

-- its pass is one on words that hold the library
pub pass_on : (l : Lending) (stage : Staged) (over : Option Conflict) → IsLent l stage over → IsPassOn l.given l.going.known
pass_on l stage over i =
    let home : l.going.known.home ≡ l.began.home = ap (λ (k : Pass). k.home) i.since in
    subst (λ (h : WordsHome Given). (h.setting ≡ Some l.given) × (h.room ≤ most_words)) (sym home) i.on

-- with the cells at its place
pub agrees_of : (l : Lending) (stage : Staged) (over : Option Conflict) → IsLent l stage over → AgreesWithSome l
agrees_of l stage over i =
    let r = l.going in
    let s = runs_suit l.given r (writes_kept r.slots) (pass_on l stage over i) i.stands in (
      state_after r.known.home.base r.known.seen r.place,
      library_after l.given r.known.seen r.place,
      record {
        matches = record { store = s.matches.store; has = s.matches.has; reads = s.matches.reads };
        shows = s.shows;
        verifies = s.verifies;
      },
    )

-- each cell of the library has an opening value
pub base_count : (l : Lending) (stage : Staged) (over : Option Conflict) → IsLent l stage over
    → length l.going.known.home.base ≡ cell_count l.given.slots
base_count l stage over i =
    let o = i.stands.knows.opening l.given (pass_on l stage over i).0 in
    o.opens.count

-- the run among the fields of the code
abbrev pub lending_in : Inside → Lending
lending_in s = record {
  given = s.given.value;
  began = s.began.value;
  going = s.run;
  may_stage = s.may_stage;
  full = s.full;
  staged =
      s.stage;
}

-- ---- it begins

module _ (g : Given) (k : Pass) (stage : Staged) (mode : Mode) (may : Bool) (r : Going Given Note) (b : Begins library_terms mode k r) where
  abbrev begun : Lending
  begun = record { given = g; began = k; going = r; may_stage = may; full = false; staged = stage }

  unread : (c : ℕ) → WasRead (lent_sight begun) c → ⊥
  unread c w = subst (Has (c, w.0)) (ap (λ (x : Going Given Note). x.reads) b.is) w.1

  unkept : (c : ℕ) → is_some (value_kept r.slots c) ≡ true → ⊥
  unkept c is = let a : true ≡ false = sym is ∙ ap is_some (b.blank c).1 in cc

  begins_lent : IsPassOn g k → length k.seen.history ≤ r.place → AreStaged k.seen.ranges stage → IsLent begun stage None
  begins_lent on placed staged =
      record {
        on = on;
        since = ap (λ (x : Going Given Note). x.known) b.is ∙ (λ j. let z : Pass = record k {
          seen = r.known.seen;
          clocks = r.place ∷ k.clocks;
          looked = sym (ap (λ (x : Going Given Note). x.known.looked) b.is) j;
          found = sym (ap (λ (x : Going Given Note). x.known.found) b.is) j;
          full = sym (ap (λ (x : Going Given Note). x.known.full) b.is) j;
          taken = sym (ap (λ (x : Going Given Note). x.known.taken) b.is) j;
          added = sym (ap (λ (x : Going Given Note). x.known.added) b.is) j;
        } in z);
        grows = b.grows;
        placed = placed;
        stands = b.stands;
        unnoted = λ m c. (b.blank c).0;
        read = λ m c w. absurd (unread c w);
        kept = λ c is. absurd (unkept c is);
        named = λ c v h ranged. absurd (subst (Has (c, v)) (blank_writes r.slots b.blank) h);
        staged = staged_go_on k.seen.ranges r.known.seen.ranges stage b.grows.2 staged;
        over_is = ap (λ (x : Going Given Note). x.over) b.is;
        met = λ c e. absurd cc;
        clear = λ e c word told.
            let no : None ≡ Some (c, word) = sym (ap (λ (x : Going Given Note). x.known.looked) b.is) ∙ told in absurd cc;
        full = λ e. absurd cc;
        unrefused = λ e. ap (λ (x : Going Given Note). x.known.full) b.is;
        full_stays = λ p e. ap (λ (x : Going Given Note). x.known.full) b.is ∙ e;
        exceeds = subst (λ (x : Going Given Note). ExceedsRoom k → ExceedsRoom x.known) (sym b.is) (λ was. was);
      }

-- where the pass and what was given are known by other names
pub began_lent : (g : Given) (k : Pass) (stage : Staged) (mode : Mode) (may : Bool) (told : Given) (pass known : Pass)
    (r : Going Given Note)
    → pass ≡ k → told ≡ g → known ≡ pass → Begins library_terms mode pass r → IsPassOn g k
    → length pass.seen.history ≤ r.place → AreStaged pass.seen.ranges stage
    → IsLent (record { given = told; began = known; going = r; may_stage = may; full = false; staged = stage }) stage None
began_lent g k stage mode may told pass known r f m n b on placed staged =
    subst (λ (x : Given). IsLent (record { given = x; began = known; going = r; may_stage = may; full = false; staged = stage }) stage None)
    (sym m)
    (subst (λ (x : Pass). IsLent (record { given = g; began = x; going = r; may_stage = may; full = false; staged = stage }) stage None)
    (sym n)
    (begins_lent g pass stage mode may r b (subst (IsPassOn g) (sym f) on) placed staged))

-- ---- a read is noted

pub noted_values : (mode : Mode) (slots after : List Slot) (cell word : ℕ) → Notes mode slots after cell word
    → (c : ℕ) → value_kept after c ≡ value_kept slots c
noted_values Reading slots after cell word n c = ap (λ (z : List Slot). value_kept z c) n
noted_values Writing slots after cell word n c = n.1 c

noted_still : (mode : Mode) (slots after : List Slot) (cell word : ℕ) → Notes mode slots after cell word
    → (c : ℕ) → was_read slots c ≡ true → was_read after c ≡ true
noted_still Reading slots after cell word n c was = ap (λ (z : List Slot). was_read z c) n ∙ was
noted_still Writing slots after cell word n c was = n.3 c was

-- a run that only reads notes nothing
noted_unnoted : (mode : Mode) (slots after : List Slot) (cell word : ℕ) → Notes mode slots after cell word
    → (mode ≡ Reading → (c : ℕ) → word_seen slots c ≡ None) → mode ≡ Reading → (c : ℕ) → word_seen after c ≡ None
noted_unnoted Reading slots after cell word n unnoted is c = ap (λ (z : List Slot). word_seen z c) n ∙ unnoted is c
noted_unnoted Writing slots after cell word n unnoted is c = absurd cc

pub noted_writes : (mode : Mode) (slots after : List Slot) (cell word : ℕ) → Notes mode slots after cell word
    → writes_kept after ≡ writes_kept slots
noted_writes mode slots after cell word n =
    same_writes slots after (read_room mode slots after cell word n) (noted_values mode slots after cell word n)

-- the word under which a read has ended is no conflict: it is free, and of a version up to the place
abbrev NoCause : ℕ → Pairs → Option (ℕ × ℕ) → Type 0
NoCause place found None = Unit {0}
NoCause place found (Some p) = (HasCause place p.1 → ⊥) × (written p.0 found ≡ Some p.1)

finds_none : (place c word : ℕ) (found : Pairs) → word % 2 ≡ 0 → word / 2 ≤ place → FindsNone place (Some (c, word)) ((c, word) ∷ found)
finds_none place c word found free below d other told =
    let here : written c ((c, word) ∷ found) ≡ Some word = rw (eq-eqb c c refl) refl in
    subst (NoCause place ((c, word) ∷ found)) told (none, here)
  where
    none : HasCause place word → ⊥
    none (inl odd) = omega (arith, odd, free)
    none (inr above) = omega (arith, above, below)

-- ---- it goes on

-- the run later, with the same reads, and the same kept of the cells
abbrev pub later : Lending → Seen Note → Option (ℕ × ℕ) → Option (ℕ × ℕ) → ℕ → ℕ → Option Conflict → Bool → Lending
later l seen looked full taken added over no_room =
    record l {
      going = record l.going {
        known = record l.going.known { seen = seen; looked = looked; full = full; taken = taken; added = added };
        over = over;
      };
      full = no_room;
    }

-- after a read of a cell
abbrev pub read_on : Lending → Seen Note → ℕ → ℕ → ℕ → List Slot → Lending
read_on l seen cell word value slots =
    record l {
      going = record l.going {
        known = record l.going.known { seen = seen; looked = Some (cell, word); found = (cell, word) ∷ l.going.known.found };
        reads = (cell, value) ∷ l.going.reads;
        slots = slots;
      };
    }

-- with other slots
abbrev pub slots_on : Lending → List Slot → Lending
slots_on l slots = record l { going = record l.going { slots = slots } }

-- what is so of a run doesn't hang on what it shows of its stage
restaged : (l : Lending) (next : Staged) (over : Option Conflict) → IsLent l next over → IsLent (record l { staged = next }) next over
restaged l next over i =
    record {
      on = i.on;
      since = i.since;
      grows = i.grows;
      placed = i.placed;
      stands = i.stands;
      unnoted = i.unnoted;
      read = i.read;
      kept = i.kept;
      named = i.named;
      staged = i.staged;
      over_is = i.over_is;
      met = i.met;
      clear = i.clear;
      full = i.full;
      unrefused = i.unrefused;
      full_stays = i.full_stays;
      exceeds = i.exceeds;
    }

module _ (l : Lending) (stage : Staged) (over : Option Conflict) (i : IsLent l stage over) where
  later_lent : (seen : Seen Note) (looked full : Option (ℕ × ℕ)) (taken added : ℕ) (now : Option Conflict) (no_room : Bool)
      (next : Staged) (ended : Option Conflict)
      → SeenGrows l.going.known.seen seen → Stands library_terms (later l seen looked full taken added now no_room).going
      → AreStaged seen.ranges next → now ≡ ended
      → ((c : Conflict) → ended ≡ Some c → HasMet c (later l seen looked full taken added now no_room).going)
      → (ended ≡ None → FindsNone l.going.place looked l.going.known.found)
      → (no_room ≡ true → (is_some full ≡ true) × (l.may_stage ≡ true))
      → (no_room ≡ false → full ≡ l.began.full) → ((found : ℕ × ℕ) → l.going.known.full ≡ Some found → full ≡ Some found)
      → (ExceedsRoom l.going.known → ExceedsRoom (later l seen looked full taken added now no_room).going.known)
      → IsLent (later l seen looked full taken added now no_room) next ended
  later_lent seen looked full taken added now no_room next ended grows stands staged over_is met clear full_is unrefused stays exceeds =
      record {
        on = i.on;
        since = ap (λ (k : Pass). let z : Pass =
            record k { seen = seen; looked = looked; full = full; taken = taken; added = added } in z) i.since;
        grows = seen_trans l.began.seen l.going.known.seen seen i.grows grows;
        placed = i.placed;
        stands = stands;
        unnoted = i.unnoted;
        read = i.read;
        kept = i.kept;
        named = λ c v h ranged. names_grow l.going.known.seen.ranges seen.ranges v grows.2 (i.named c v h ranged);
        staged = staged;
        over_is = over_is;
        met = met;
        clear = clear;
        full = full_is;
        unrefused = unrefused;
        full_stays = λ p e. stays p (i.full_stays p e);
        exceeds = λ was. exceeds (i.exceeds was);
      }

  -- what it met it has met, while it looks no more
  met_on : (seen : Seen Note) (full : Option (ℕ × ℕ)) (taken added : ℕ) (no_room : Bool) → SeenGrows l.going.known.seen seen
      → (c : Conflict) → over ≡ Some c → HasMet c (later l seen l.going.known.looked full taken added l.going.over no_room).going
  met_on seen full taken added no_room grows c e =
      let m = i.met c e in
      record {
        looked = m.looked;
        written = WasWritten-kept l.going.known.seen.history seen.history c.cell (c.word / 2) grows.0 m.written;
        cause = m.cause;
        before = m.before;
      }

  -- the stage goes on
  staged_on : (seen : Seen Note) → SeenGrows l.going.known.seen seen → AreStaged seen.ranges stage
  staged_on seen grows = staged_go_on l.going.known.seen.ranges seen.ranges stage grows.2 i.staged

  -- a word was loaded
  pub loads_lent : (r : Going Given Note) → HasLoaded library_terms l.going r → IsLent (record l { going = r }) stage over
  loads_lent r h =
      let k = l.going.known in
      let seen = r.known.seen in
      subst (λ (x : Going Given Note). IsLent (record l { going = x }) stage over) (sym h.is)
      (later_lent seen k.looked k.full k.taken k.added l.going.over l.full stage over h.grows (subst (Stands library_terms) h.is h.stands)
      (staged_on seen h.grows) i.over_is (met_on seen k.full k.taken k.added l.full h.grows) i.clear i.full i.unrefused (λ p e. e)
      (λ was. was))

  -- words were loaded, or none
  pub loads_some_lent : (r : Going Given Note) → HasLoadedSome library_terms l.going r → IsLent (record l { going = r }) stage over
  loads_some_lent r h =
      ⊎_elim (λ same. subst (λ (x : Going Given Note). IsLent (record l { going = x }) stage over) (sym same) i) (loads_lent r) h

  -- words were staged
  stages_lent : (words : List ℕ) (start : ℕ) (r : Going Given Note) (next : Staged) → HasStaged library_terms words start l.going r
      → AreStaged r.known.seen.ranges next → IsLent (record l { going = r }) next over
  stages_lent words start r next h staged =
      let k = l.going.known in
      let seen = r.known.seen in
      let taken = k.taken + length words in
      subst (λ (x : Going Given Note). IsLent (record l { going = x }) next over) (sym h.is)
      (later_lent seen k.looked k.full taken k.added l.going.over l.full next over h.grows (subst (Stands library_terms) h.is h.stands)
      staged i.over_is (met_on seen k.full taken k.added l.full h.grows) i.clear i.full i.unrefused (λ p e. e) (λ was. was))

  noted_staged : (words : List ℕ) (start : ℕ) (r : Going Given Note) → HasStaged library_terms words start l.going r
      → AreStaged r.known.seen.ranges (insert stage words start)
  noted_staged words start r h =
      noting_keeps r.known.seen.ranges stage words start h.finished (staged_on r.known.seen h.grows)

  -- noted in the stage, or not for want of memory
  noted_or_not : {A E : Type 0} (words : List ℕ) (start : ℕ) (r : Going Given Note) (next : Staged) (made : Result A E)
      → HasStaged library_terms words start l.going r → OnOk made (next ≡ insert stage words start) → OnErr made (next ≡ stage)
      → AreStaged r.known.seen.ranges next
  noted_or_not words start r next (Ok x) h ok err = subst (AreStaged r.known.seen.ranges) (sym ok) (noted_staged words start r h)
  noted_or_not words start r next (Err x) h ok err = subst (AreStaged r.known.seen.ranges) (sym err) (staged_on r.known.seen h.grows)

  -- words were staged, and noted or not
  pub staged_lent : {A E : Type 0} (words : List ℕ) (start : ℕ) (r : Going Given Note) (next : Staged) (made : Result A E)
      → HasStaged library_terms words start l.going r → OnOk made (next ≡ insert stage words start) → OnErr made (next ≡ stage)
      → IsLent (record l { going = r; staged = next }) next over
  staged_lent words start r next made h ok err =
      restaged (record l { going = r }) next over (stages_lent words start r next h (noted_or_not words start r next made h ok err))

  -- a staging was refused
  pub refused_lent : (count : ℕ) (r : Going Given Note) → l.may_stage ≡ true → IsRefused library_terms count l.going r
      → IsLent (record l { going = r; full = true }) stage over
  refused_lent count r may (inl (p, e, same)) =
      subst (λ (x : Going Given Note). IsLent (record l { going = x; full = true }) stage over) (sym same)
      (record {
        on = i.on;
        since = i.since;
        grows = i.grows;
        placed = i.placed;
        stands = i.stands;
        unnoted = i.unnoted;
        read = i.read;
        kept = i.kept;
        named = i.named;
        staged = i.staged;
        over_is = i.over_is;
        met = i.met;
        clear = i.clear;
        full = λ t. (ap is_some e, may);
        unrefused = λ t. absurd cc;
        full_stays = i.full_stays;
        exceeds = i.exceeds;
      })
  refused_lent count r may (inr (tail, h)) =
      let k = l.going.known in
      let seen = r.known.seen in
      let added = min count (k.home.room + 1) in
      subst (λ (x : Going Given Note). IsLent (record l { going = x; full = true }) stage over) (sym h.is)
      (later_lent seen k.looked (Some (tail, count)) k.taken added l.going.over true stage over h.grows
      (subst (Stands library_terms) h.is h.stands) (staged_on seen h.grows) i.over_is
      (met_on seen (Some (tail, count)) k.taken added true h.grows) i.clear (λ t. (refl, may)) (λ t. absurd cc) (λ p e. let none =
      h.unrefused in absurd cc)
      (λ was at n is. let same : (tail, count) ≡ (at, n) = cc in
      subst (λ (p : ℕ × ℕ). k.home.room < p.0 + p.1) same h.above))

  -- a read met a conflict
  pub stops_lent : (cell : ℕ) (met : Conflict) (r : Going Given Note) → HasStopped library_terms cell met l.going r
      → IsLent (record l { going = r }) stage (Some met)
  stops_lent cell met r h =
      let k = l.going.known in
      let seen = r.known.seen in
      let looked : Option (ℕ × ℕ) = Some (cell, met.word) in
      let has : HasMet met (later l seen looked k.full k.taken k.added (Some met) l.full).going = record {
        looked = λ j. Some (sym h.cell_is j, met.word);
        written = h.finds.written;
        cause = h.cause;
        before = h.finds.told ∙ ap (λ (x : Going Given Note). word_told l.going.mode met.cell x.known.found) h.is;
      } in
      subst (λ (x : Going Given Note). IsLent (record l { going = x }) stage (Some met)) (sym h.is)
      (later_lent seen looked k.full k.taken k.added (Some met) l.full stage (Some met) h.grows
      (subst (Stands library_terms) h.is h.stands) (staged_on seen h.grows) refl
      (λ c e. let same : met ≡ c = cc in
      subst (λ (x : Conflict). HasMet x (later l seen looked k.full k.taken k.added (Some met) l.full).going) same has)
      (λ e. absurd cc) i.full i.unrefused (λ p e. e) (λ was. was))

  -- a cell was read
  module _ (cell value : ℕ) (r : Going Given Note) (h : HasRead library_terms cell value l.going r) where
    abbrev read_now : Lending
    read_now = read_on l r.known.seen cell h.word value r.slots

    was_on : (l.going.mode ≡ Writing → was_read r.slots cell ≡ true) → l.going.mode ≡ Writing → (c : ℕ)
        → WasRead (lent_sight read_now) c → was_read r.slots c ≡ true
    was_on noted m c (v, inl e) = ap (λ (p : ℕ × ℕ). was_read r.slots p.0) e ∙ noted m
    was_on noted m c (v, inr has) = noted_still l.going.mode l.going.slots r.slots cell h.word h.notes c (i.read m c (v, has))

    read_lent : l.going.over ≡ None → (l.going.mode ≡ Writing → was_read r.slots cell ≡ true) → IsLent read_now stage over
    read_lent none noted =
        record {
          on = i.on;
          since = ap (λ (k : Pass). let z : Pass =
              record k { seen = r.known.seen; looked = Some (cell, h.word); found = (cell, h.word) ∷ l.going.known.found } in z)
              i.since;
          grows = seen_trans l.began.seen l.going.known.seen r.known.seen i.grows h.grows;
          placed = i.placed;
          stands = subst (Stands library_terms) h.is h.stands;
          unnoted = noted_unnoted l.going.mode l.going.slots r.slots cell h.word h.notes i.unnoted;
          read = was_on noted;
          kept = λ c is.
              let w = i.kept c (ap is_some (sym (noted_values l.going.mode l.going.slots r.slots cell h.word h.notes c)) ∙ is) in
              (w.0, inr w.1);
          named = λ c v has ranged. names_grow l.going.known.seen.ranges r.known.seen.ranges v h.grows.2
              (i.named c v (subst (Has (c, v)) (noted_writes l.going.mode l.going.slots r.slots cell h.word h.notes) has) ranged);
          staged = staged_on r.known.seen h.grows;
          over_is = i.over_is;
          met = λ c e. let a : None ≡ Some c = sym none ∙ (i.over_is ∙ e) in absurd cc;
          clear = λ e. finds_none l.going.place cell h.word l.going.known.found h.free h.below;
          full = i.full;
          unrefused = i.unrefused;
          full_stays = i.full_stays;
          exceeds = i.exceeds;
        }

    pub reads_lent : l.going.over ≡ None → (l.going.mode ≡ Writing → was_read r.slots cell ≡ true)
        → IsLent (record l { going = r }) stage over
    reads_lent none noted =
        subst (λ (x : Going Given Note). IsLent (record l { going = x }) stage over) (sym h.is) (read_lent none noted)

  -- a value is kept aside
  kept_lent : (cell value : ℕ) (slots : List Slot) → HasKept l.going.slots slots cell value → WasRead (lent_sight l) cell
      → (is_ranged l.given.slots cell ≡ true → Names l.going.known.seen.ranges value) → IsLent (slots_on l slots) stage over
  kept_lent cell value slots k read named =
      record {
        on = i.on;
        since = i.since;
        grows = i.grows;
        placed = i.placed;
        stands = record { knows = i.stands.knows; placed = i.stands.placed; one = i.stands.one; ended = i.stands.ended };
        unnoted = λ m c. k.3 c ∙ i.unnoted m c;
        read = λ m c w. ap is_some (k.3 c) ∙ i.read m c w;
        kept = λ c is. dite (ℕ_discrete c cell) (λ e. subst (WasRead (lent_sight l)) (sym e) read)
            (λ n. i.kept c (ap is_some (sym (k.2 c n)) ∙ is));
        named = λ c v has ranged. dite (ℕ_discrete c cell)
            (λ e. let q : Some value ≡ Some v = sym k.1 ∙ (ap (value_kept slots) (sym e) ∙ has_kept slots c v has) in
            let same : value ≡ v = cc in
            subst (Names l.going.known.seen.ranges) same (named (subst (λ (d : ℕ). is_ranged l.given.slots d ≡ true) e ranged)))
            (λ n. i.named c v (kept_has l.going.slots c v (sym (k.2 c n) ∙ has_kept slots c v has)) ranged);
        staged = i.staged;
        over_is = i.over_is;
        met = λ c e. let m = i.met c e in record { looked = m.looked; written = m.written; cause = m.cause; before = m.before };
        clear = i.clear;
        full = i.full;
        unrefused = i.unrefused;
        full_stays = i.full_stays;
        exceeds = i.exceeds;
      }

  pub writes_lent : (cell value : ℕ) (r : Going Given Note) → HasKept l.going.slots r.slots cell value
      → r ≡ record l.going { slots = r.slots } → WasRead (lent_sight l) cell
      → (is_ranged l.given.slots cell ≡ true → Names l.going.known.seen.ranges value) → IsLent (record l { going = r }) stage over
  writes_lent cell value r k same read named =
      subst (λ (x : Going Given Note). IsLent (record l { going = x }) stage over) (sym same) (kept_lent cell value r.slots k read named)

  -- what was kept aside is thrown away
  forgotten_lent : (slots : List Slot) → HasForgotten l.going.slots slots → IsLent (slots_on l slots) stage over
  forgotten_lent slots k =
      record {
        on = i.on;
        since = i.since;
        grows = i.grows;
        placed = i.placed;
        stands = record { knows = i.stands.knows; placed = i.stands.placed; one = i.stands.one; ended = i.stands.ended };
        unnoted = λ m c. k.2 c ∙ i.unnoted m c;
        read = λ m c w. ap is_some (k.2 c) ∙ i.read m c w;
        kept = λ c is. let a : true ≡ false = sym is ∙ ap is_some (k.1 c) in absurd cc;
        named = λ c v has ranged. absurd (subst (Has (c, v)) k.3 has);
        staged = i.staged;
        over_is = i.over_is;
        met = λ c e. let m = i.met c e in record { looked = m.looked; written = m.written; cause = m.cause; before = m.before };
        clear = i.clear;
        full = i.full;
        unrefused = i.unrefused;
        full_stays = i.full_stays;
        exceeds = i.exceeds;
      }

  pub forgets_lent : (r : Going Given Note) → HasForgotten l.going.slots r.slots → r ≡ record l.going { slots = r.slots }
      → IsLent (record l { going = r }) stage over
  forgets_lent r k same =
      subst (λ (x : Going Given Note). IsLent (record l { going = x }) stage over) (sym same) (forgotten_lent r.slots k)
