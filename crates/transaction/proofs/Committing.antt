-- What the end of a run of a session makes of its pass.
use Rattle.std.proofs.Common.{◌≡◌, ℕ, suc, ◌+◌, ◌<◌, ◌≤◌, inl, inr, Bool, true, false, if◌then◌else◌, List, [], ◌∷◌, ◌++◌, length, Option, Some, None}
use Rattle.std.proofs.Common.{refl, sym, ap, subst, ◌∙◌, arith}
use Rattle.std.specs.declared.snapshot.Snapshot.{Snapshot}
use Rattle.std.specs.Prelude.{◌^◌, MatchOption}
use Rattle.library.specs.declared.command.Command.{Command}
use Rattle.library.specs.declared.command.Reply.{Reply}
use Rattle.library.specs.declared.reason.Refused.{Refused as Refusal}
use Rattle.library.specs.Histories.{done_entry}
use Rattle.library.specs.Transactions.{has_edit}
use Rattle.bodystore.specs.Stages.{Staged}
use Rattle.cells.specs.State.{most_words}
use Rattle.cells.specs.Answers.{has_staging}
use Rattle.tlwords.specs.declared.outcome.Conflict.{Conflict}
use Rattle.tlwords.specs.Seen.{SeenGrows, Committed, Answered}
use Rattle.tlwords.specs.Known.{WordsHome, Knows}
use Rattle.tlwords.specs.Commits.{writes_kept}
use Rattle.tlwords.specs.Calls.{work_done, IsCommitted, IsAnswered, IsRejected, Ends}
use Rattle.tlwords.specs.declared.outcome.Outcome.{Outcome as Answer}
use Rattle.tlwords.specs.declared.outcome.Outcome.TheVariants.{Committed as EndsDone, Read as EndsRead, Conflict as EndsConflict, NumbersUsed}
use Rattle.ranges.specs.Pairs.{Pairs, written}
use Rattle.tlwords.proofs.Seens.{seen_trans}
use Rattle.lawful.specs.declared.notes.Given.{Given}
use Rattle.lawful.specs.declared.notes.Note.{Note}
use Rattle.lawful.specs.declared.notes.Note.TheVariants.{Done, Refused}
use Rattle.lawful.specs.Lawful.{library_terms}
use Rattle.lawful.specs.History.{history_of, IsHistoryOf}
use Rattle.lawful.specs.Laws.{IsPassOn}
use Rattle.lawful.proofs.Standing.{sessions_stand}
use Rattle.lending.specs.Lent.{Pass, Lending, is_writing, IsLent}
use Rattle.lending.specs.declared.live.GivenUp.{GivenUp}
use Rattle.lending.specs.declared.live.GivenUp.TheVariants as given
use Rattle.lending.specs.Ends.{IsLawfulWith, IsForgotten, IsGivenUp}
use Rattle.transaction.specs.Meeting.{Met, met_at, conflict_of, refusal_of}
use Rattle.transaction.specs.declared.outcome.Outcome.{Outcome}
use Rattle.transaction.specs.declared.outcome.Outcome.TheVariants as outcome
use Rattle.transaction.specs.declared.outcome.Record.{Record}
use Rattle.transaction.specs.Members.{IsRecordIn}
use Rattle.transaction.specs.Attempts.{AddsNothing, Meets, LoadsOnce}
use Rattle.transaction.specs.Tries.{IsLaterPass, Tries}
use Rattle.transaction.proofs.Ended.{is_later, adds_nothing, runs_once, met_none, meets, told_by}

-- the record of a number that a conflict left void
abbrev pub void_record : ℕ → Record
void_record number = record { number = number; done = None }

abbrev pub void_records : Option ℕ → Option Record
void_records None = None
void_records (Some number) = Some (void_record number)

-- what is told of a run that is given up
abbrev pub told_of : ℕ → GivenUp → Outcome
told_of place (given.Conflict c) = conflict_of (met_at place c)
told_of place given.StoreFull = outcome.StoreFull
told_of place given.NoMemory = outcome.NoMemory

module _ (l : Lending) (stage : Staged) (over : Option Conflict) (lent : IsLent l stage over) (cs : List Command) where
  later_by : (k : Pass) → k.home ≡ l.going.known.home → k.name ≡ l.going.known.name → k.full ≡ l.going.known.full
      → SeenGrows l.going.known.seen k.seen → Knows library_terms k → IsLaterPass l.began k
  later_by k home name full grows knows =
      record {
        home = home ∙ ap (λ (z : Pass). z.home) lent.since;
        name = name ∙ ap (λ (z : Pass). z.name) lent.since;
        grows = seen_trans l.began.seen l.going.known.seen k.seen lent.grows grows;
        full = λ p e. full ∙ lent.full_stays p e;
        exceeds = λ was tail count is.
            subst (λ (h : WordsHome Given). h.room < tail + count) (sym home) (lent.exceeds was tail count (sym full ∙ is));
        knows = knows;
      }

  later_same : IsLaterPass l.began l.going.known
  later_same = is_later l stage over lent

  once : LoadsOnce l.began l.going.known l.going.place
  once = runs_once l stage over lent

  -- before its end the run locks nothing
  none_locked : l.going.known.locked ≡ l.began.locked
  none_locked = ap (λ (z : Pass). z.locked) lent.since

  adds_none : AddsNothing l.began l.going.known
  adds_none = adds_nothing l stage over lent

  -- what the pass has seen then is a history of the library
  history : (k : Pass) → k.home ≡ l.going.known.home → Knows library_terms k → IsHistoryOf l.given k.home.base k.seen
  history k home knows =
      let on : IsPassOn l.given k = subst (λ (h : WordsHome Given). (h.setting ≡ Some l.given) × (h.room ≤ most_words))
      (sym (home ∙ ap (λ (z : Pass). z.home) lent.since)) lent.on in
      (sessions_stand l.given k on knows).0

  -- ---- commands that are done

  module _ (c : Snapshot (List Command)) (r : Snapshot (List Reply)) (replies : List Reply) (is : c.value ≡ cs) (replied : r.value
      ≡ replies)
    where
      commit_recorded : (number : ℕ) (k : Pass) → IsCommitted library_terms number (work_done l.going (Done c r)) l.going.known k
          → IsRecordIn (history_of k.seen) (record { number = number; done = Some (cs, replies) })
      commit_recorded number k w =
          let work = work_done l.going (Done c r) in
          let at = (history k (ap (λ (z : Pass). z.home) w.is) w.knows).done w.index work w.done in
          let here : number ≡ suc at.0 = (let a : suc w.index ≡ at.0 + 1 = at.1 in let b : number ≡ suc w.index =
          w.number_is in omega arith) in
          (at.0, here, at.2 ∙ (λ j. Some (done_entry (is j) (replied j))))

      pub commits : (number : ℕ) (k : Pass) → has_edit cs ≡ true
          → IsCommitted library_terms number (work_done l.going (Done c r)) l.going.known k
          → Tries cs l.began k (outcome.Committed number replies) (Some (record { number = number; done = Some (cs, replies) }))
      commits number k edits w =
          let work = work_done l.going (Done c r) in
          let drawn : k.drawn ≡ l.began.drawn ++ number ∷ [] =
          ap (λ (z : Pass). z.drawn) w.is ∙ ap (λ (z : Pass). z.drawn ++ number ∷ []) lent.since in
          let behind : length l.began.seen.history < number = (
          let a : length l.began.seen.history ≤ length l.going.known.seen.history = lent.grows.0.0 in
          let b : length l.going.known.seen.history ≤ w.index = w.later in
          let e : number ≡ suc w.index = w.number_is in
          omega arith
          ) in
          record {
            later = later_by k (ap (λ (z : Pass). z.home) w.is) (ap (λ (z : Pass). z.name) w.is)
                (ap (λ (z : Pass). z.full) w.is) w.grows w.knows;
            gains = (
              edits,
              behind,
              drawn,
              (
                work,
                (is, replied),
                ap (λ (z : Pass). z.mine) w.is ∙ ap (λ (z : Pass). z.mine ++ Committed number work ∷ []) lent.since,
              ),
            );
            run = (l.going.place, ap (λ (z : Pass). z.clocks) w.is ∙ once);
            unrefused = λ e. absurd cc;
            unlocked = tt;
            recorded = (drawn, commit_recorded number k w);
          }

      pub reads : (k : Pass) → has_edit cs ≡ false → IsAnswered library_terms l.going.place (work_done l.going (Done c r)) l.going.known k
          → Tries cs l.began k (outcome.Read l.going.place replies) None
      reads k edits w =
          let work = work_done l.going (Done c r) in
          let drawn : k.drawn ≡ l.began.drawn = ap (λ (z : Pass). z.drawn) w.is ∙ ap (λ (z : Pass). z.drawn) lent.since in
          record {
            later = later_by k (ap (λ (z : Pass). z.home) w.is) (ap (λ (z : Pass). z.name) w.is)
                (ap (λ (z : Pass). z.full) w.is) w.grows w.knows;
            gains = (
              edits,
              lent.placed,
              drawn,
              (
                work,
                (is, replied),
                ap (λ (z : Pass). z.mine) w.is ∙ ap (λ (z : Pass). z.mine ++ Answered l.going.place work ∷ []) lent.since,
              ),
            );
            run = ap (λ (z : Pass). z.clocks) w.is ∙ once;
            unrefused = λ e. absurd cc;
            unlocked = ap (λ (z : Pass). z.locked) w.is ∙ none_locked;
            recorded = drawn;
          }

  -- ---- commands that are refused

  pub refuses : (c : Snapshot (List Command)) (r : Snapshot Refusal) (refused : Refusal) (k : Pass) → c.value ≡ cs → r.value ≡ refused
      → IsAnswered library_terms l.going.place (work_done l.going (Refused c r)) l.going.known k
      → Tries cs l.began k (refusal_of l.going.place refused) None
  refuses c r refused k is why w =
      let work = work_done l.going (Refused c r) in
      let drawn : k.drawn ≡ l.began.drawn = ap (λ (z : Pass). z.drawn) w.is ∙ ap (λ (z : Pass). z.drawn) lent.since in
      record {
        later = later_by k (ap (λ (z : Pass). z.home) w.is) (ap (λ (z : Pass). z.name) w.is)
            (ap (λ (z : Pass). z.full) w.is) w.grows w.knows;
        gains = (
          lent.placed,
          drawn,
          (
            work,
            (is, why),
            ap (λ (z : Pass). z.mine) w.is ∙ ap (λ (z : Pass). z.mine ++ Answered l.going.place work ∷ []) lent.since,
          ),
        );
        run = ap (λ (z : Pass). z.clocks) w.is ∙ once;
        unrefused = λ e. absurd cc;
        unlocked = ap (λ (z : Pass). z.locked) w.is ∙ none_locked;
        recorded = drawn;
      }

  -- ---- conflicts

  -- a transaction writes where it has an edit, and else only reads
  abbrev pub WritesEdits : Type 0
  WritesEdits = is_writing l.going.mode ≡ has_edit cs

  edits_not : has_edit cs ≡ true → has_edit cs ≡ false → ⊥
  edits_not edits none = let a : true ≡ false = sym edits ∙ none in cc

  abbrev pub met_of : Conflict → Met
  met_of c = met_at l.going.place c

  pub met_is : (c : Conflict) (place : ℕ) (o : Outcome) → o ≡ conflict_of (met_at place c) → place ≡ l.going.place
      → o ≡ conflict_of (met_of c)
  met_is c place o is at = is ∙ ap (λ (p : ℕ). conflict_of (met_at p c)) at

  rejected_meets : (c : Conflict) (drawn : Option ℕ) (k : Pass) → WritesEdits → k.clocks ≡ l.going.known.clocks
      → IsRejected library_terms c drawn l.going k → Meets (has_edit cs) l.began k (met_of c)
  rejected_meets c drawn k writes runs w =
      record {
        placed = lent.placed;
        run = runs ∙ runs_once l stage over lent;
        looked = w.finds.looked;
        before = w.finds.told ∙ told_by l.going.mode c.cell k.found
            ∙ ap (λ (b : Bool). if b then written c.cell k.found else None) writes;
        cause = w.cause;
        written = w.finds.written;
      }

  pub rejects_undrawn : (c : Conflict) (k : Pass) → WritesEdits → has_edit cs ≡ true → IsRejected library_terms c None l.going k
      → Tries cs l.began k (conflict_of (met_of c)) None
  rejects_undrawn c k writes edits w =
      let drawn : k.drawn ≡ l.began.drawn = ap (λ (z : Pass). z.drawn) w.entry ∙ ap (λ (z : Pass). z.drawn) lent.since in
      record {
        later = later_by k (ap (λ (z : Pass). z.home) w.entry) (ap (λ (z : Pass). z.name) w.entry)
            (ap (λ (z : Pass). z.full) w.entry) w.grows w.knows;
        gains = (
          ap (λ (z : Pass). z.mine) w.entry ∙ ap (λ (z : Pass). z.mine) lent.since,
          inl drawn,
          rejected_meets c None k writes (ap (λ (z : Pass). z.clocks) w.entry) w,
          λ none. absurd (edits_not edits none),
        );
        run = ap (λ (z : Pass). z.clocks) w.entry ∙ once;
        unrefused = λ e. absurd cc;
        unlocked = tt;
        recorded = drawn;
      }

  pub rejects_drawn : (c : Conflict) (number : ℕ) (k : Pass) → WritesEdits → has_edit cs ≡ true
      → IsRejected library_terms c (Some number) l.going k
      → Tries cs l.began k (conflict_of (met_of c)) (Some (void_record number))
  rejects_drawn c number k writes edits w =
      let e = w.entry in
      let same = e.4 in
      let drawn : k.drawn ≡ l.began.drawn ++ number ∷ [] =
      ap (λ (z : Pass). z.drawn) same ∙ ap (λ (z : Pass). z.drawn ++ number ∷ []) lent.since in
      let void = (history k (ap (λ (z : Pass). z.home) same) w.knows).void e.0 e.3 in
      record {
        later = later_by k (ap (λ (z : Pass). z.home) same) (ap (λ (z : Pass). z.name) same)
            (ap (λ (z : Pass). z.full) same) w.grows w.knows;
        gains = (
          ap (λ (z : Pass). z.mine) same ∙ ap (λ (z : Pass). z.mine) lent.since,
          inr (number, drawn, (e.0, e.1, void)),
          rejected_meets c (Some number) k writes (ap (λ (z : Pass). z.clocks) same) w,
          λ none. absurd (edits_not edits none),
        );
        run = ap (λ (z : Pass). z.clocks) same ∙ once;
        unrefused = λ e. absurd cc;
        unlocked = tt;
        recorded = (drawn, (e.0, e.1, void));
      }

  -- the run had met it by a read
  pub met_before : (c : Conflict) → WritesEdits → l.going.over ≡ Some c
      → Tries cs l.began l.going.known (conflict_of (met_of c)) None
  met_before c writes is =
      let has : Meets (has_edit cs) l.began l.going.known (met_of c) =
      subst (λ (b : Bool). Meets b l.began l.going.known (met_of c)) writes (meets l stage over lent c is) in
      record {
        later = later_same;
        gains = (
          adds_none.mine,
          inl adds_none.drawn,
          has,
          λ none. (has.before ∙ ap (λ (b : Bool). if b then written c.cell l.going.known.found else None) none, adds_none.drawn),
        );
        run = once;
        unrefused = λ e. absurd cc;
        unlocked = tt;
        recorded = adds_none.drawn;
      }

  -- ---- it is given up

  pub gives_up : (why : GivenUp) → IsGivenUp l why → WritesEdits → l.may_stage ≡ has_staging cs
      → Tries cs l.began l.going.known (told_of l.going.place why) None
  gives_up (given.Conflict c) is reading stages = met_before c reading is
  gives_up given.StoreFull is reading stages =
      let full = lent.full is.1 in
      record {
        later = later_same;
        gains = (adds_none, full.0, sym stages ∙ full.1);
        run = met_none l stage over lent is.0;
        unrefused = λ e. absurd cc;
        unlocked = none_locked;
        recorded = adds_none.drawn;
      }
  gives_up given.NoMemory is reading stages =
      record {
        later = later_same;
        gains = adds_none;
        run = met_none l stage over lent is.0;
        unrefused = λ e. lent.unrefused is.1;
        unlocked = none_locked;
        recorded = adds_none.drawn;
      }

  -- ---- no number is left

  pub uses_up : length l.going.known.drawn ≡ 2 ^ 40 → Tries cs l.began l.going.known outcome.NumbersUsed None
  uses_up count =
      record {
        later = later_same;
        gains = (adds_none, ap (λ (z : Pass). length z.drawn) (sym lent.since) ∙ count);
        run = (l.going.place, once);
        unrefused = λ e. absurd cc;
        unlocked = none_locked;
        recorded = adds_none.drawn;
      }

  -- ---- what a commit answers

  rejects : (c : Conflict) (drawn : Option ℕ) (k : Pass) → WritesEdits → has_edit cs ≡ true → IsRejected library_terms c drawn l.going k
      → Tries cs l.began k (conflict_of (met_of c)) (void_records drawn)
  rejects c None k writes edits w = rejects_undrawn c k writes edits w
  rejects c (Some number) k writes edits w = rejects_drawn c number k writes edits w

  module _ (n : Note) (k : Pass) (o : Answer)
      (stopped : (c : Conflict) → l.going.over ≡ Some c → (o ≡ EndsConflict c None) × (k ≡ l.going.known))
      (ended : l.going.over ≡ None → Ends library_terms n l.going k o) where
    committed_by : (number : ℕ) → o ≡ EndsDone number → (v : Option Conflict) → l.going.over ≡ v
        → IsCommitted library_terms number (work_done l.going n) l.going.known k
    committed_by number is None none = (subst (Ends library_terms n l.going k) is (ended none)).1
    committed_by number is (Some c) met = let own = (stopped c met).0 in absurd cc

    pub committed : (number : ℕ) → o ≡ EndsDone number → IsCommitted library_terms number (work_done l.going n) l.going.known k
    committed number is = committed_by number is l.going.over refl

    answered_by : (place : ℕ) → o ≡ EndsRead place → (v : Option Conflict) → l.going.over ≡ v
        → (place ≡ l.going.place) × IsAnswered library_terms l.going.place (work_done l.going n) l.going.known k
    answered_by place is None none =
        let e = subst (Ends library_terms n l.going k) is (ended none) in
        (e.1, subst (λ (p : ℕ). IsAnswered library_terms p (work_done l.going n) l.going.known k) e.1 e.2)
    answered_by place is (Some c) met = let own = (stopped c met).0 in absurd cc

    pub answered : (place : ℕ) → o ≡ EndsRead place
        → (place ≡ l.going.place) × IsAnswered library_terms l.going.place (work_done l.going n) l.going.known k
    answered place is = answered_by place is l.going.over refl

    met_by : (c own : Conflict) → WritesEdits → l.going.over ≡ Some own → own ≡ c
        → Tries cs l.began k (conflict_of (met_of c)) None
    met_by c own reading met same =
        subst (λ (x : Conflict). Tries cs l.began k (conflict_of (met_of x)) None) same
        (subst (λ (z : Pass). Tries cs l.began z (conflict_of (met_of own)) None) (sym (stopped own met).1)
        (met_before own reading met))

    conflicts_by : (c : Conflict) (drawn : Option ℕ) → WritesEdits → has_edit cs ≡ true → o ≡ EndsConflict c drawn → (v : Option Conflict)
        → l.going.over ≡ v → Tries cs l.began k (conflict_of (met_of c)) (void_records drawn)
    conflicts_by c drawn writes edits is None none =
        rejects c drawn k writes edits (subst (Ends library_terms n l.going k) is (ended none)).1
    conflicts_by c drawn writes edits is (Some own) met =
        let e = (stopped own met).0 in
        let same : own ≡ c = cc in
        let nothing : drawn ≡ None = cc in
        subst (λ (d : Option ℕ). Tries cs l.began k (conflict_of (met_of c)) (void_records d)) (sym nothing)
        (met_by c own writes met same)

    pub conflicts : (c : Conflict) (drawn : Option ℕ) → WritesEdits → has_edit cs ≡ true → o ≡ EndsConflict c drawn
        → Tries cs l.began k (conflict_of (met_of c)) (void_records drawn)
    conflicts c drawn writes edits is = conflicts_by c drawn writes edits is l.going.over refl

    -- where a commit could not meet one, the run had met it before
    met_only_by : (c : Conflict) (drawn : Option ℕ) → WritesEdits → o ≡ EndsConflict c drawn → (l.going.over ≡ None → ⊥)
        → (v : Option Conflict) → l.going.over ≡ v → Tries cs l.began k (conflict_of (met_of c)) None
    met_only_by c drawn reading is some None none = absurd (some none)
    met_only_by c drawn reading is some (Some own) met =
        let e = (stopped own met).0 in
        let same : own ≡ c = cc in
        met_by c own reading met same

    pub met_only : (c : Conflict) (drawn : Option ℕ) → WritesEdits → o ≡ EndsConflict c drawn → (l.going.over ≡ None → ⊥)
        → Tries cs l.began k (conflict_of (met_of c)) None
    met_only c drawn reading is some = met_only_by c drawn reading is some l.going.over refl

    -- as where nothing is kept aside
    pub never_rejects : writes_kept l.going.slots ≡ [] → (c : Conflict) (drawn : Option ℕ) → o ≡ EndsConflict c drawn
        → l.going.over ≡ None → ⊥
    never_rejects blank c drawn is none = (subst (Ends library_terms n l.going k) is (ended none)).0 blank

    used_by : o ≡ NumbersUsed → (v : Option Conflict) → l.going.over ≡ v → Tries cs l.began k outcome.NumbersUsed None
    used_by is None none =
        let e = subst (Ends library_terms n l.going k) is (ended none) in
        subst (λ (z : Pass). Tries cs l.began z outcome.NumbersUsed None) (sym e.2) (uses_up e.1)
    used_by is (Some c) met = let own = (stopped c met).0 in absurd cc

    pub used : o ≡ NumbersUsed → Tries cs l.began k outcome.NumbersUsed None
    used is = used_by is l.going.over refl

-- the code's record of a number that was drawn is the void one
pub void_mapped : (drawn : Option ℕ) (r : Option Record)
    → MatchOption drawn (r ≡ None) (λ number. r ≡ Some (void_record number)) → r ≡ void_records drawn
void_mapped None r is = is
void_mapped (Some number) r is = is

-- what was kept aside is thrown away
pub forgotten_lawful : (old new : Lending) → IsForgotten old new → (n : Note) → IsLawfulWith old [] n
    → IsLawfulWith new (writes_kept new.going.slots) n
forgotten_lawful old new f n lawful =
    subst (λ (ps : Pairs). IsLawfulWith new ps n) (sym f.none) (subst (λ (x : Lending). IsLawfulWith x [] n) (sym f.is) lawful)
