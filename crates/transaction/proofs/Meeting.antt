-- What a try tells of cells is of the footprint of its commands: the cell of its conflict, and those that it wrote.
use Rattle.std.proofs.Common.{◌≡◌, ℕ, suc, ◌≤◌, true, false, List, [], ◌∷◌, ◌++◌, Option, Some, None, is_some, length, inl, inr, refl, sym, ap, subst, ◌∙◌, arith}
use Rattle.std.specs.Option.{option_map}
use Rattle.std.proofs.lemmas.Option.{slice_get_within}
use Rattle.library.specs.declared.command.Command.{Command}
use Rattle.library.specs.declared.command.Reply.{Reply}
use Rattle.ranges.specs.Pairs.{Pairs, written}
use Rattle.cells.specs.Sight.{WasAsked, Suits}
use Rattle.tlcore.specs.History.{One, deed, deed_in, deed_of, Did}
use Rattle.tlcore.specs.declared.entries.Status.{Status}
use Rattle.tlcore.specs.declared.entries.Status.TheVariants as status
use Rattle.tlcore.proofs.Growth.{One-kept}
use Rattle.tlwords.specs.declared.mode.Mode.{Mode}
use Rattle.tlwords.specs.declared.mode.Mode.TheVariants.{Reading, Writing}
use Rattle.tlwords.specs.declared.outcome.Conflict.{Conflict}
use Rattle.tlwords.specs.Seen.{Seen, Work, SeenGrows, IsDone}
use Rattle.tlwords.specs.Known.{word_told}
use Rattle.tlwords.specs.Commits.{writes_below, cells_of}
use Rattle.tlwords.specs.declared.log.Slot.{Slot}
use Rattle.tlwords.specs.declared.outcome.Outcome.{Outcome as Answer}
use Rattle.tlwords.specs.declared.outcome.Outcome.TheVariants.{Conflict as EndsConflict, NumbersUsed}
use Rattle.tlwords.specs.Calls.{work_done, IsCommitted, IsAnswered, IsRejected, Ends}
use Rattle.tlwords.proofs.Seens.{seen_refl, done_grows}
use Rattle.bodystore.specs.Stages.{Staged}
use Rattle.lawful.specs.declared.notes.Given.{Given}
use Rattle.lawful.specs.declared.notes.Note.{Note}
use Rattle.lawful.specs.Lawful.{library_terms}
use Rattle.lawful.specs.History.{library_after, state_after}
use Rattle.lawful.proofs.Standing.{one_fits}
use Rattle.lending.specs.Lent.{Pass, Lending, lent_sight, IsLent}
use Rattle.lending.specs.declared.live.GivenUp.{GivenUp}
use Rattle.lending.specs.declared.live.GivenUp.TheVariants as given
use Rattle.lending.specs.Ends.{IsForgotten, IsGivenUp}
use Rattle.lending.proofs.Lending.{pass_on}
use Rattle.lending.proofs.Kept.{cell_written}
use Rattle.transaction.specs.declared.outcome.Outcome.{Outcome}
use Rattle.transaction.specs.declared.outcome.Outcome.TheVariants as outcome
use Rattle.transaction.specs.Meeting.{met_at, conflict_of}
use Rattle.transaction.specs.Footprints.{IsLaterHistory, StaysWithin}
use Rattle.transaction.specs.Locks.{LocksWithin}
use Rattle.transaction.specs.Tries.{AsksWithin, KeepsWithin, EndsWithin}
use Rattle.transaction.proofs.Ended.{runs_once}
use Rattle.transaction.proofs.Committing.{told_of}

-- ---- a cell whose read has ended

ended_by : (mode : Mode) (c : ℕ) (found : Pairs) (before : Option ℕ) → is_some before ≡ true → before ≡ word_told mode c found
    → (w : ℕ) × (written c found ≡ Some w)
ended_by Reading c found before some told = let no : true ≡ false = sym some ∙ ap is_some told in absurd cc
ended_by Writing c found (Some w) some told = (w, sym told)
ended_by Writing c found None some told = absurd cc

-- ---- a value that an entry wrote

did_write : (t : Status) (w : Option ℕ) (v : ℕ) → deed_of t w ≡ Did v → w ≡ Some v
did_write status.Done (Some x) v is = cc
did_write status.Done None v is = absurd cc
did_write status.Open (Some x) v is = absurd cc
did_write status.Open None v is = absurd cc
did_write status.Void (Some x) v is = absurd cc
did_write status.Void None v is = absurd cc

done_wrote : (seen : Seen Note) (i : ℕ) (work : Work Note) (c v : ℕ) → IsDone seen i work → deed seen.history c i ≡ Did v
    → written c work.writes ≡ Some v
done_wrote seen i work c v d is =
    ap (λ (ps : Pairs). written c ps) (sym d.writes)
    ∙ did_write d.entry.status (written c d.entry.writes) v (sym (ap (deed_in c) d.here) ∙ is)

-- ---- a run over a later history

module _ (l : Lending) (stage : Staged) (over : Option Conflict) (lent : IsLent l stage over) (cs : List Command) where
  setting_is : l.going.known.home.setting ≡ Some l.given
  setting_is = (pass_on l stage over lent).0

  pub for_given : (k : Pass) (o : Outcome) → StaysWithin l.given k.home.base k.seen cs o → LocksWithin l.given cs l.began k
      → EndsWithin l.began cs k o
  for_given k o within locks g opened =
      let same : l.given ≡ g = (let q : Some l.given ≡ Some g = sym lent.on.0 ∙ opened in cc) in (
        subst (λ (x : Given). StaysWithin x k.home.base k.seen cs o) same within,
        subst (λ (x : Given). LocksWithin x cs l.began k) same locks,
      )

  -- what the run has read at last
  module _ (k : Pass) (home : k.home ≡ l.going.known.home) (grows : SeenGrows l.going.known.seen k.seen) (new : Seen Note)
      (later : IsLaterHistory l.given k.home.base k.seen new) where
    -- where it is one version at a place, it suits the state there
    suits_at : (p : ℕ) → p ≤ length k.seen.history → One k.home.base k.seen.history p l.going.reads
        → Suits (lent_sight l) (state_after k.home.base new p) (library_after l.given new p)
    suits_at p le one =
        record {
          matches = record {
            store = later.store;
            has = λ r at. later.grows.2 r (grows.2 r at);
            reads = one_fits k.home.base new p l.going.reads
                (One-kept k.home.base k.seen.history new.history p l.going.reads later.grows.0 le one);
          };
          shows = later.history.show p (let more : length k.seen.history ≤ length new.history = later.grows.0.0 in omega (arith, le, more));
          verifies = later.history.verify p;
        }

    one_then : One k.home.base k.seen.history l.going.place l.going.reads
    one_then =
        subst (λ (base : List ℕ). One base k.seen.history l.going.place l.going.reads) (ap (λ h. h.base) (sym home))
        (One-kept l.going.known.home.base l.going.known.seen.history k.seen.history l.going.place l.going.reads grows.0 lent.stands.placed
        (lent.stands.one l.given setting_is))

    -- at its own place
    suits_then : Suits (lent_sight l) (state_after k.home.base new l.going.place) (library_after l.given new l.going.place)
    suits_then =
        suits_at l.going.place
        (let own = lent.stands.placed in let more : length l.going.known.seen.history ≤ length k.seen.history =
        grows.0.0 in omega (arith, own, more)) one_then

  -- ---- what it locked

  -- nothing
  pub locks_none : (k : Pass) → k.clocks ≡ l.going.known.clocks → k.locked ≡ l.going.known.locked → LocksWithin l.given cs l.began k
  locks_none k clocks locked =
      record {
        places = l.going.place ∷ [];
        ran = clocks ∙ runs_once l stage over lent;
        cells = [];
        locked = locked ∙ ap (λ (z : Pass). z.locked) lent.since;
        within = λ later h cell none. absurd none;
      }

  -- as where its commit wrote nothing
  pub locks_answered : (k : Pass) (place : ℕ) (n : Note) → IsAnswered library_terms place (work_done l.going n) l.going.known k
      → LocksWithin l.given cs l.began k
  locks_answered k place n a = locks_none k (ap (λ (z : Pass). z.clocks) a.is) (ap (λ (z : Pass). z.locked) a.is)

  -- cells that are to be written
  locks_some : KeepsWithin l cs → (k : Pass) → k.home ≡ l.going.known.home → SeenGrows l.going.known.seen k.seen
      → k.clocks ≡ l.going.known.clocks → (n : ℕ) → k.locked ≡ cells_of (writes_below l.going.slots n) ++ l.going.known.locked
      → LocksWithin l.given cs l.began k
  locks_some keeps k home grows clocks n locked =
      record {
        places = l.going.place ∷ [];
        ran = clocks ∙ runs_once l stage over lent;
        cells = cells_of (writes_below l.going.slots n);
        locked = locked ∙ ap (λ (z : Pass). cells_of (writes_below l.going.slots n) ++ z.locked) lent.since;
        within = λ later h cell has.
            (l.going.place, inl refl, keeps cell (cell_written l.going.slots n cell has) _ _ (suits_then k home grows later h));
      }

  -- where its commit met a conflict
  locks_rejected : KeepsWithin l cs → (c : Conflict) (drawn : Option ℕ) (k : Pass) → IsRejected library_terms c drawn l.going k
      → LocksWithin l.given cs l.began k
  locks_rejected keeps c None k r =
      locks_some keeps k (ap (λ (z : Pass). z.home) r.entry) r.grows (ap (λ (z : Pass). z.clocks) r.entry) c.cell
      (ap (λ (z : Pass). z.locked) r.entry)
  locks_rejected keeps c (Some number) k r =
      let e = r.entry in
      locks_some keeps k (ap (λ (z : Pass). z.home) e.4) r.grows (ap (λ (z : Pass). z.clocks) e.4) (length l.going.slots)
      (ap (λ (z : Pass). z.locked) e.4)

  -- ---- a conflict

  module _ (asks : AsksWithin l cs) (k : Pass) (home : k.home ≡ l.going.known.home) (grows : SeenGrows l.going.known.seen k.seen)
      (locks : LocksWithin l.given cs l.began k) where
    -- at a cell that it asked for
    asked_within : (c : Conflict) → WasAsked (lent_sight l) c.cell → EndsWithin l.began cs k (conflict_of (met_at l.going.place c))
    asked_within c was = for_given k (conflict_of (met_at l.going.place c))
        (λ new later. asks c.cell was _ _ (suits_then k home grows new later)) locks

    -- which a read met
    pub read_within : (c : Conflict) → l.going.over ≡ Some c → EndsWithin l.began cs k (conflict_of (met_at l.going.place c))
    read_within c is = asked_within c (inr (ap (option_map (λ (x : Conflict). x.cell)) is))

  -- which a commit met
  pub rejected_within : AsksWithin l cs → KeepsWithin l cs → (c : Conflict) (drawn : Option ℕ) (k : Pass) → k.home ≡ l.going.known.home
      → k.found ≡ l.going.known.found
      → IsRejected library_terms c drawn l.going k → EndsWithin l.began cs k (conflict_of (met_at l.going.place c))
  rejected_within asks keeps c drawn k home same r =
      let word = ended_by l.going.mode c.cell k.found c.before r.read r.finds.told in
      let read = lent.stands.ended c.cell word.0 (ap (written c.cell) (sym same) ∙ word.1) in
      asked_within asks k home r.grows (locks_rejected keeps c drawn k r) c (inl read)

  -- ---- a commit

  pub committed_within : KeepsWithin l cs → (number : ℕ) (replies : List Reply) (n : Note) (k : Pass)
      → IsCommitted library_terms number (work_done l.going n) l.going.known k → EndsWithin l.began cs k (outcome.Committed number replies)
  committed_within keeps number replies n k d = for_given k (outcome.Committed number replies) (λ new later i cell v is did.
      let home = ap (λ (z : Pass). z.home) d.is in
      let work = work_done l.going n in
      let same : i ≡ d.index = (let a : suc i ≡ suc d.index = sym is ∙ d.number_is in omega (arith, a)) in
      let there = subst (λ (x : ℕ). IsDone k.seen x work) (sym same) d.done in
      let within = slice_get_within k.seen.history i there.entry there.here in
      let wrote = done_wrote new i work cell v (done_grows k.seen new i work later.grows there) did in
      let setting = ap (λ h. h.setting) home ∙ setting_is in
      let one = (d.knows.legal l.given setting i work there).2 in
      keeps cell (v, wrote) _ _ (suits_at k home d.grows new later i (omega (arith, within)) one))
      (locks_some keeps k (ap (λ (z : Pass). z.home) d.is) d.grows (ap (λ (z : Pass). z.clocks) d.is) (length l.going.slots)
      (ap (λ (z : Pass). z.locked) d.is))

  -- ---- what a run's end tells

  module _ (asks : AsksWithin l cs) (keeps : l.going.over ≡ None → KeepsWithin l cs) (n : Note) (k : Pass) (o : Answer)
      (stopped : (c : Conflict) → l.going.over ≡ Some c → (o ≡ EndsConflict c None) × (k ≡ l.going.known))
      (ended : l.going.over ≡ None → Ends library_terms n l.going k o) where
    rejected_by : KeepsWithin l cs → (c : Conflict) (drawn : Option ℕ) → IsRejected library_terms c drawn l.going k
        → EndsWithin l.began cs k (conflict_of (met_at l.going.place c))
    rejected_by aside c None r =
        rejected_within asks aside c None k (ap (λ (z : Pass). z.home) r.entry) (ap (λ (z : Pass). z.found) r.entry) r
    rejected_by aside c (Some number) r =
        let e = r.entry in
        rejected_within asks aside c (Some number) k (ap (λ (z : Pass). z.home) e.4) (ap (λ (z : Pass). z.found) e.4) r

    conflict_by : (c : Conflict) (drawn : Option ℕ) → o ≡ EndsConflict c drawn → (v : Option Conflict) → l.going.over ≡ v
        → EndsWithin l.began cs k (conflict_of (met_at l.going.place c))
    conflict_by c drawn is None none = rejected_by (keeps none) c drawn (subst (Ends library_terms n l.going k) is (ended none)).1
    conflict_by c drawn is (Some own) met =
        let e = stopped own met in
        let whole : EndsConflict own None ≡ EndsConflict c drawn = sym e.0 ∙ is in
        let same : own ≡ c = cc in
        read_within asks k (ap (λ (z : Pass). z.home) e.1)
        (subst (λ (z : Pass). SeenGrows l.going.known.seen z.seen) (sym e.1) (seen_refl l.going.known.seen))
        (locks_none k (ap (λ (z : Pass). z.clocks) e.1) (ap (λ (z : Pass). z.locked) e.1)) c
        (met ∙ ap (λ (x : Conflict). Some x) same)

    pub conflict_within : (c : Conflict) (drawn : Option ℕ) → o ≡ EndsConflict c drawn
        → EndsWithin l.began cs k (conflict_of (met_at l.going.place c))
    conflict_within c drawn is = conflict_by c drawn is l.going.over refl

    used_by : o ≡ NumbersUsed → (v : Option Conflict) → l.going.over ≡ v → EndsWithin l.began cs k outcome.NumbersUsed
    used_by is None none =
        let same : k ≡ l.going.known = (subst (Ends library_terms n l.going k) is (ended none)).2 in
        for_given k outcome.NumbersUsed (λ new later. tt)
        (locks_none k (ap (λ (z : Pass). z.clocks) same) (ap (λ (z : Pass). z.locked) same))
    used_by is (Some c) met = let own = (stopped c met).0 in absurd cc

    pub used_within : o ≡ NumbersUsed → EndsWithin l.began cs k outcome.NumbersUsed
    used_within is = used_by is l.going.over refl

  -- of one that is given up
  pub given_up_within : AsksWithin l cs → (why : GivenUp) → IsGivenUp l why
      → EndsWithin l.began cs l.going.known (told_of l.going.place why)
  given_up_within asks (given.Conflict c) is =
      read_within asks l.going.known refl (seen_refl l.going.known.seen) (locks_none l.going.known refl refl) c is
  given_up_within asks given.StoreFull is = for_given l.going.known outcome.StoreFull (λ new later. tt) (locks_none l.going.known refl refl)
  given_up_within asks given.NoMemory is = for_given l.going.known outcome.NoMemory (λ new later. tt) (locks_none l.going.known refl refl)

-- ---- what was kept aside is thrown away

still_asks : (l : Lending) (slots : List Slot) (cs : List Command) → AsksWithin l cs
    → AsksWithin (record l { going = record l.going { slots = slots } }) cs
still_asks l slots cs asks cell was st lib s =
    asks cell was st lib
    (record {
      matches = record { store = s.matches.store; has = s.matches.has; reads = s.matches.reads };
      shows = s.shows;
      verifies = s.verifies;
    })

pub forgotten_asks : (old new : Lending) (cs : List Command) → IsForgotten old new → AsksWithin old cs → AsksWithin new cs
forgotten_asks old new cs f asks = subst (λ (l : Lending). AsksWithin l cs) (sym f.is) (still_asks old new.going.slots cs asks)
