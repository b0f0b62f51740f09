-- What stays of a run from one step to a later one.
use Rattle.std.proofs.Common.{◌≡◌, ◌∙◌, ℕ, ◌⊎◌, inl, inr, is_some, Bool, true, Option, Some, None, Result, Ok, Err, List, [], ◌∷◌, ◌++◌, refl, sym}
use Rattle.std.proofs.Common.{ap, subst, Vec, Global}
use Rattle.std.specs.Prelude.{All, IfOk, IfErr}
use Rattle.std.proofs.lemmas.List.Elements.{All-append, All-weaker, All-push, All-same}
use Rattle.std.proofs.lemmas.Bool.{cases_eq}
use Rattle.ranges.specs.Ranges.{Range, Has, Within, Names, AreOfOneStore}
use Rattle.ranges.proofs.Grown.{names_grow}
use Rattle.tlwords.specs.declared.log.Slot.{Slot}
use Rattle.tlwords.specs.declared.mode.Mode.{Mode}
use Rattle.tlwords.specs.declared.mode.Mode.TheVariants.{Reading, Writing}
use Rattle.tlwords.specs.declared.outcome.Conflict.{Conflict}
use Rattle.tlwords.specs.declared.outcome.Outcome.{Outcome}
use Rattle.tlwords.specs.declared.outcome.Outcome.TheVariants.{Committed as EndsDone, Read as EndsRead, Conflict as EndsConflict, NumbersUsed}
use Rattle.ranges.specs.declared.range.Range.{Range as Span}
use Rattle.tlwords.specs.declared.words.Words.{Words}
use Rattle.tlwords.specs.Callers.{home_of}
use Rattle.tlwords.specs.Terms.{Terms}
use Rattle.tlwords.specs.Known.{Known, Going, Stands}
use Rattle.tlwords.specs.Runs.{was_read, value_kept, HasKept}
use Rattle.tlwords.specs.Commits.{HasForgotten}
use Rattle.tlwords.specs.Calls.{Notes, HasRead, HasStopped, IsLawful, IsRefused, Ends}
use Rattle.wordrows.specs.declared.seat.Playing.{Playing}
use Rattle.wordrows.specs.declared.seat.Resting.{Resting}
use Rattle.wordrows.specs.Seats.{IsThere, RestsAt, RunsAt, is_named}
use Rattle.wordrows.proofs.Kept.{all_later, written_kept}

-- the law of the table
abbrev pub law : Terms Bool ℕ
law = record { lawful = λ _ _ _ _ _. Unit {0}; opens = λ _ _ _. Unit {0}; ranged = λ named _. named }

-- r is g some steps later: it knows more ranges and has read more cells, and it keeps no value that g doesn't
pub record Later (g r : Going Bool ℕ) : Type 0 where
  pub within : Within g.known.seen.ranges r.known.seen.ranges
  pub read : (c : ℕ) → was_read g.slots c ≡ true → was_read r.slots c ≡ true
  pub kept : (c v : ℕ) → value_kept r.slots c ≡ Some v → value_kept g.slots c ≡ Some v
  pub store : (x : Bool) → r.known.home.setting ≡ Some x → AreOfOneStore g.known.home.room g.known.seen.ranges
      → AreOfOneStore r.known.home.room r.known.seen.ranges

-- only its ranges are others
pub later_known : (g r : Going Bool ℕ) → Within g.known.seen.ranges r.known.seen.ranges → Stands law r → r.slots ≡ g.slots → Later g r
later_known g r within stands same =
    record {
      within = within;
      read = λ c is. ap (λ (s : List Slot). was_read s c) same ∙ is;
      kept = λ c v is. sym (ap (λ (s : List Slot). value_kept s c) same) ∙ is;
      store = λ x set _. stands.knows.ranges x set;
    }

later_same : (g r : Going Bool ℕ) → r ≡ g → Later g r
later_same g r e =
    subst (λ (y : Going Bool ℕ). Later g y) (sym e)
    (record { within = λ x has. has; read = λ c is. is; kept = λ c v is. is; store = λ x set one. one })

module _ {L : Type 0} (words : Words L Bool ℕ) where
  pub runs_later : (p : Playing) (r : Going Bool ℕ) → r.known.home ≡ p.run.known.home → r.mode ≡ p.run.mode → Later p.run r → RunsAt words p
      → RunsAt words (record p { run = r })
  runs_later p r home mode later old =
      record {
        home = home ∙ old.home;
        mode = mode ∙ old.mode;
        read = All-weaker (λ c. was_read p.run.slots c ≡ true) (λ c. was_read r.slots c ≡ true) later.read p.read.items old.read;
        there = all_later p.run.known.seen.ranges r.known.seen.ranges p.ranges.items later.within old.there;
        store =
            let room : (g : Going Bool ℕ) → g.known.home ≡ home_of words → g.known.home.room ≡ words.room = λ g e. ap (λ h. h.room) e in
            let before : AreOfOneStore p.run.known.home.room p.run.known.seen.ranges =
            subst (λ (n : ℕ). AreOfOneStore n p.run.known.seen.ranges) (sym (room p.run old.home)) old.store in
            subst (λ (n : ℕ). AreOfOneStore n r.known.seen.ranges) (room r (home ∙ old.home))
            (later.store (is_named words) (ap (λ h. h.setting) (home ∙ old.home)) before);
        kept = λ is c v e. names_grow p.run.known.seen.ranges r.known.seen.ranges v later.within (old.kept is c v (later.kept c v e));
      }

  -- one more cell was read
  pub runs_read : (p : Playing) (read : Vec ℕ Global) (cell : ℕ) → read.items ≡ p.read.items ++ cell ∷ [] → was_read p.run.slots cell ≡ true
      → RunsAt words p → RunsAt words (record p { read = read })
  runs_read p read cell more is old =
      let P : ℕ → Type 0 = λ c. was_read p.run.slots c ≡ true in
      record {
        home = old.home;
        mode = old.mode;
        read = All-same P read.items (p.read.items ++ cell ∷ []) more (All-push P p.read.items cell old.read is);
        there = old.there;
        store = old.store;
        kept = old.kept;
      }

  -- the pass knows of one more range
  pub runs_there : (p : Playing) (ranges : Vec Span Global) (range : Span) → ranges.items ≡ p.ranges.items ++ range ∷ []
      → IsThere p.run.known.seen.ranges range → RunsAt words p → RunsAt words (record p { ranges = ranges })
  runs_there p ranges range more is old =
      let P : Span → Type 0 = IsThere p.run.known.seen.ranges in
      record {
        home = old.home;
        mode = old.mode;
        read = old.read;
        there = All-same P ranges.items (p.ranges.items ++ range ∷ []) more (All-push P p.ranges.items range old.there is);
        store = old.store;
        kept = old.kept;
      }

  -- the same cells, and the same ranges, elsewhere
  pub runs_same_read : (p : Playing) (read : Vec ℕ Global) → read.items ≡ p.read.items → RunsAt words p
      → RunsAt words (record p { read = read })
  runs_same_read p read same old =
      record {
        home = old.home;
        mode = old.mode;
        read = All-same (λ c. was_read p.run.slots c ≡ true) read.items p.read.items same old.read;
        there = old.there;
        store = old.store;
        kept = old.kept;
      }

  pub runs_same_there : (p : Playing) (ranges : Vec Span Global) → ranges.items ≡ p.ranges.items → RunsAt words p
      → RunsAt words (record p { ranges = ranges })
  runs_same_there p ranges same old =
      record {
        home = old.home;
        mode = old.mode;
        read = old.read;
        there = All-same (IsThere p.run.known.seen.ranges) ranges.items p.ranges.items same old.there;
        store = old.store;
        kept = old.kept;
      }

-- ---- reads

-- what a read notes forgets no read, and keeps no value
notes_later : (m : Mode) (slots after : List Slot) (cell word : ℕ) → Notes m slots after cell word
    → ((c : ℕ) → was_read slots c ≡ true → was_read after c ≡ true)
    × ((c v : ℕ) → value_kept after c ≡ Some v → value_kept slots c ≡ Some v)
notes_later Reading slots after cell word same = (
  λ c is. ap (λ (s : List Slot). was_read s c) same ∙ is,
  λ c v is. sym (ap (λ (s : List Slot). value_kept s c) same) ∙ is,
)
notes_later Writing slots after cell word noted = (noted.3, λ c v is. sym (noted.1 c) ∙ is)

later_read : (cell v : ℕ) (g r : Going Bool ℕ) → HasRead law cell v g r → Later g r
later_read cell v g r has =
    let notes = notes_later g.mode g.slots r.slots cell has.word has.notes in
    record {
      within = has.grows.2;
      read = notes.0;
      kept = notes.1;
      store = λ x set _. has.stands.knows.ranges x set;
    }

later_stopped : (cell : ℕ) (k : Conflict) (g r : Going Bool ℕ) → HasStopped law cell k g r → Later g r
later_stopped cell k g r has = later_known g r has.grows.2 has.stands (ap (λ (x : Going Bool ℕ). x.slots) has.is)

-- what a read tells
pub record Reads (g r : Going Bool ℕ) (cell : ℕ) (result : Result ℕ Conflict) : Type 0 where
  pub over : (k : Conflict) → g.over ≡ Some k → (result ≡ Err k) × (r ≡ g)
  pub kept : (v : ℕ) → g.over ≡ None → value_kept g.slots cell ≡ Some v → (result ≡ Ok v) × (r ≡ g)
  pub ok : g.over ≡ None → value_kept g.slots cell ≡ None → IfOk result (λ v. HasRead law cell v g r)
  pub err : g.over ≡ None → IfErr result (λ k. HasStopped law cell k g r)

read_new : (g r : Going Bool ℕ) (cell : ℕ) (result : Result ℕ Conflict) → IfOk result (λ v. HasRead law cell v g r)
    → IfErr result (λ k. HasStopped law cell k g r) → Later g r
read_new g r cell (Ok v) ok err = later_read cell v g r ok
read_new g r cell (Err k) ok err = later_stopped cell k g r err

read_at : (g r : Going Bool ℕ) (cell : ℕ) (result : Result ℕ Conflict) → Reads g r cell result → (over : Option Conflict) (kept : Option ℕ)
    → g.over ≡ over
    → value_kept g.slots cell ≡ kept → Later g r
read_at g r cell result reads (Some k) kept o e = later_same g r (reads.over k o).1
read_at g r cell result reads None (Some v) o e = later_same g r (reads.kept v o e).1
read_at g r cell result reads None None o e = read_new g r cell result (reads.ok o e) (reads.err o)

pub read_later : (g r : Going Bool ℕ) (cell : ℕ) (result : Result ℕ Conflict) → Reads g r cell result → Later g r
read_later g r cell result reads = read_at g r cell result reads g.over (value_kept g.slots cell) refl refl

-- a value that was read where cells name ranges names one
names_at : (g r : Going Bool ℕ) (cell v : ℕ) → Reads g r cell (Ok v) → g.known.home.setting ≡ Some true
    → ((c w : ℕ) → value_kept g.slots c ≡ Some w → Names g.known.seen.ranges w) → (over : Option Conflict) (kept : Option ℕ) → g.over ≡ over
    → value_kept g.slots cell ≡ kept → Names r.known.seen.ranges v
names_at g r cell v reads set all (Some k) kept o e = let f = (reads.over k o).0 in absurd (cc)
names_at g r cell v reads set all None (Some w) o e =
    let both = reads.kept w o e in
    let same : v ≡ w = (let f = both.0 in cc) in
    subst (λ (y : Going Bool ℕ). Names y.known.seen.ranges v) (sym both.1) (subst (Names g.known.seen.ranges) (sym same) (all cell w e))
names_at g r cell v reads set all None None o e = (reads.ok o e).named true set refl

pub read_names : (g r : Going Bool ℕ) (cell v : ℕ) → Reads g r cell (Ok v) → g.known.home.setting ≡ Some true
    → ((c w : ℕ) → value_kept g.slots c ≡ Some w → Names g.known.seen.ranges w) → Names r.known.seen.ranges v
read_names g r cell v reads set all = names_at g r cell v reads set all g.over (value_kept g.slots cell) refl refl

-- ---- commits

ends_within : (n : ℕ) (g : Going Bool ℕ) (r : Known Bool ℕ) (o : Outcome) → Ends law n g r o → Within g.known.seen.ranges r.seen.ranges
ends_within n g r (EndsDone number) ends = ends.1.grows.2
ends_within n g r (EndsRead place) ends = ends.2.grows.2
ends_within n g r (EndsConflict k drawn) ends = ends.1.grows.2
ends_within n g r NumbersUsed ends = λ x has. subst (λ (y : Known Bool ℕ). Has x y.seen.ranges) (sym ends.2) has

commit_at : (n : ℕ) (g : Going Bool ℕ) (r : Known Bool ℕ) (o : Outcome)
    → ((k : Conflict) → g.over ≡ Some k → (o ≡ EndsConflict k None) × (r ≡ g.known))
    → (g.over ≡ None → Ends law n g r o) → (over : Option Conflict) → g.over ≡ over → Within g.known.seen.ranges r.seen.ranges
commit_at n g r o stopped ended (Some k) e = λ x has. subst (λ (y : Known Bool ℕ). Has x y.seen.ranges) (sym (stopped k e).1) has
commit_at n g r o stopped ended None e = ends_within n g r o (ended e)

pub commit_within : (n : ℕ) (g : Going Bool ℕ) (r : Known Bool ℕ) (o : Outcome)
    → ((k : Conflict) → g.over ≡ Some k → (o ≡ EndsConflict k None) × (r ≡ g.known)) → (g.over ≡ None → Ends law n g r o)
    → Within g.known.seen.ranges r.seen.ranges
commit_within n g r o stopped ended = commit_at n g r o stopped ended g.over refl

-- ---- writes

written_kept_at : (slots after : List Slot) (ranges : List Range) (cell value : ℕ) → HasKept slots after cell value → Names ranges value
    → ((c v : ℕ) → value_kept slots c ≡ Some v → Names ranges v) → (c v : ℕ) → (c ≡ cell) ⊎ (c ≡ cell → ⊥) → value_kept after c ≡ Some v
    → Names ranges v
written_kept_at slots after ranges cell value kept named all c v (inl here) e =
    let at = kept.1 in
    let same : v ≡ value = (let f : value_kept after cell ≡ Some v = ap (value_kept after) (sym here) ∙ e in cc) in
    subst (Names ranges) (sym same) named
written_kept_at slots after ranges cell value kept named all c v (inr other) e = all c v (sym (kept.2 c other) ∙ e)

module _ {L : Type 0} (words : Words L Bool ℕ) where
  -- a value was kept for a cell
  pub runs_written : (p : Playing) (r : Going Bool ℕ) (cell value : ℕ) → r ≡ record p.run { slots = r.slots }
      → HasKept p.run.slots r.slots cell value
      → (is_named words ≡ true → Names p.run.known.seen.ranges value) → RunsAt words p → RunsAt words (record p { run = r })
  runs_written p r cell value same kept named old =
      let ranges : r.known.seen.ranges ≡ p.run.known.seen.ranges = ap (λ (x : Going Bool ℕ). x.known.seen.ranges) same in
      record {
        home = ap (λ (x : Going Bool ℕ). x.known.home) same ∙ old.home;
        mode = ap (λ (x : Going Bool ℕ). x.mode) same ∙ old.mode;
        read = All-weaker (λ c. was_read p.run.slots c ≡ true) (λ c. was_read r.slots c ≡ true) (λ c is. ap (λ (o : Option ℕ). is_some o)
            (kept.3 c) ∙ is) p.read.items old.read;
        there = subst (λ (rs : List Range). All (IsThere rs) p.ranges.items) (sym ranges) old.there;
        store = subst (λ (rs : List Range). AreOfOneStore words.room rs) (sym ranges) old.store;
        kept = λ is c v e. subst (λ (rs : List Range). Names rs v) (sym ranges)
            (written_kept_at p.run.slots r.slots p.run.known.seen.ranges cell value kept (named is) (old.kept is) c v (cases_eq c cell) e);
      }

-- what was kept is thrown away
pub later_forgotten : (g r : Going Bool ℕ) → r ≡ record g { slots = r.slots } → HasForgotten g.slots r.slots → Later g r
later_forgotten g r same forgot =
    record {
      within = λ x has. subst (λ (y : Going Bool ℕ). Has x y.known.seen.ranges) (sym same) has;
      read = λ c is. ap (λ (o : Option ℕ). is_some o) (forgot.2 c) ∙ is;
      kept = λ c v e. absurd (let f = forgot.1 c in cc);
      store = λ x set one. subst (λ (k : Known Bool ℕ). AreOfOneStore k.home.room k.seen.ranges)
          (sym (ap (λ (y : Going Bool ℕ). y.known) same)) one;
    }

-- ---- the store

-- a staging was refused
pub later_refused : (count : ℕ) (g r : Going Bool ℕ) → IsRefused law count g r → Later g r
later_refused count g r (inl (p, full, same)) = later_same g r same
later_refused count g r (inr (tail, finds)) = later_known g r finds.grows.2 finds.stands (ap (λ (x : Going Bool ℕ). x.slots) finds.is)

-- ---- the end of a run

module _ {L : Type 0} (words : Words L Bool ℕ) where
  -- what it writes is lawful
  pub run_lawful : (p : Playing) (g : Going Bool ℕ) (n : ℕ) → g ≡ p.run → RunsAt words p → IsLawful law g n
  run_lawful p g n same old =
      λ x set. record {
        some = g.known.seen.ranges;
        among = λ r has. has;
        lawful = tt;
        named = λ c v has is.
            let home : g.known.home.setting ≡ Some (is_named words) = ap (λ (y : Going Bool ℕ). y.known.home.setting) same ∙ ap
            (λ h. h.setting) old.home in
            let named : is_named words ≡ true = (let e : x ≡ true = is in cc) in
            subst (λ (y : Going Bool ℕ). Names y.known.seen.ranges v) (sym same)
            (old.kept named c v (ap (λ (y : Going Bool ℕ). value_kept y.slots c) (sym same) ∙ written_kept g.slots c v has));
      }

  -- its pass is at rest again
  pub rests_later : (p : Playing) (r : Known Bool ℕ) (ranges : Vec Span Global) → r.home ≡ p.run.known.home
      → Within p.run.known.seen.ranges r.seen.ranges → ranges ≡ p.ranges → RunsAt words p
      → RestsAt words (record { pass = r; ranges = ranges })
  rests_later p r ranges home within same old =
      record {
        opening = home ∙ old.home;
        there = subst (λ (v : Vec Span Global). All (IsThere r.seen.ranges) v.items) (sym same)
            (all_later p.run.known.seen.ranges r.seen.ranges p.ranges.items within old.there);
      }

-- ---- passes

module _ {L : Type 0} (words : Words L Bool ℕ) where
  -- a pass at rest knows more, and of the same ranges
  pub rests_known : (r : Resting) (k : Known Bool ℕ) (ranges : Vec Span Global) → k.home ≡ r.pass.home
      → Within r.pass.seen.ranges k.seen.ranges
      → ranges.items ≡ r.ranges.items → RestsAt words r → RestsAt words (record { pass = k; ranges = ranges })
  rests_known r k ranges home within same old =
      record {
        opening = home ∙ old.opening;
        there = All-same (IsThere k.seen.ranges) ranges.items r.ranges.items same
            (all_later r.pass.seen.ranges k.seen.ranges r.ranges.items within old.there);
      }

  -- it has learnt of another one, and of its ranges
  pub rests_taught : (r other : Resting) (k : Known Bool ℕ) (ranges : Vec Span Global) → k.home ≡ r.pass.home
      → Within r.pass.seen.ranges k.seen.ranges
      → Within other.pass.seen.ranges k.seen.ranges → ranges.items ≡ r.ranges.items ++ other.ranges.items → RestsAt words r
      → RestsAt words other
      → RestsAt words (record { pass = k; ranges = ranges })
  rests_taught r other k ranges home within told same old told_old =
      record {
        opening = home ∙ old.opening;
        there = All-same (IsThere k.seen.ranges) ranges.items (r.ranges.items ++ other.ranges.items) same
            (All-append (IsThere k.seen.ranges) r.ranges.items other.ranges.items
            (all_later r.pass.seen.ranges k.seen.ranges r.ranges.items within old.there)
            (all_later other.pass.seen.ranges k.seen.ranges other.ranges.items told told_old.there));
      }
