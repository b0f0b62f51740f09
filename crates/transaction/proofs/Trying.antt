-- What one run of a session makes of the session, and what runs until there is no conflict do.
use Rattle.std.proofs.Common.{◌≡◌, ◌≢◌, ℕ, ◌+◌, ◌*◌, ◌/◌, ◌≤◌, ◌⊎◌, inl, inr, ⊎_elim, Bool, true, false, List, [], ◌∷◌, ◌++◌, length, map}
use Rattle.std.proofs.Common.{Option, Some, None, refl, sym, ap, subst, ◌∙◌, arith, append_assoc, add-one}
use Rattle.std.specs.Prelude.{All}
use Rattle.std.proofs.lemmas.List.{append-nil}
use Rattle.std.proofs.Math.Nat.{add-mul}
use Rattle.std.proofs.lemmas.List.Elements.{All-nil, All-cons, All-push, All-weaker}
use Rattle.library.specs.declared.command.Command.{Command}
use Rattle.library.specs.Transactions.{has_too_many}
use Rattle.cells.specs.State.{most_words}
use Rattle.cells.specs.Sight.{StaysStaged}
use Rattle.commands.specs.Takes.{most_words_of}
use Rattle.ranges.specs.Ranges.{Has}
use Rattle.ranges.proofs.Members.{has_append_left, has_append_right, has_append_cases}
use Rattle.tlcore.proofs.Growth.{WasWritten-kept}
use Rattle.tlwords.specs.Seen.{Seen, SeenGrows, Work, Call, Committed, Answered}
use Rattle.tlwords.specs.Known.{WordsHome}
use Rattle.tlwords.proofs.Seens.{seen_refl, seen_trans}
use Rattle.lawful.specs.declared.notes.Given.{Given}
use Rattle.lawful.specs.declared.notes.Note.{Note}
use Rattle.lawful.specs.History.{IsHistoryOf}
use Rattle.lending.specs.Lent.{Pass, Carried}
use Rattle.transaction.specs.Meeting.{Met, conflict_of}
use Rattle.transaction.specs.declared.outcome.Outcome.{Outcome}
use Rattle.transaction.specs.declared.outcome.Outcome.TheVariants as outcome
use Rattle.transaction.specs.declared.outcome.Record.{Record}
use Rattle.transaction.specs.Members.{Member, IsLater, IsMember, IsSoundMember}
use Rattle.transaction.specs.Locks.{LocksWithin}
use Rattle.transaction.specs.Attempts.{Gains, LeavesStaged, Attempts, Submits, IsVoidNumber, DrawsVoid, AddsNothing, GainsCall, SaysDone, SaysRefused}
use Rattle.transaction.specs.Attempts.{tried, IsOneRun, LoadsOnce, MetNone, MeetsAll, WasMet}
use Rattle.transaction.specs.Footprints.{MayWriteAfter, IsLaterHistory, StaysWithin}
use Rattle.transaction.specs.Tries.{IsLaterPass, IsRecorded, Stores, Tries, EndsWithin}
use Rattle.transaction.proofs.Standing.{stands}
use Rattle.transaction.proofs.Recorded.{with_record, still_recorded, voids_grow}

-- ---- locks

-- nothing was run
locks_nothing : (g : Given) (cs : List Command) (k : Pass) → LocksWithin g cs k k
locks_nothing g cs k =
    record { places = []; ran = refl; cells = []; locked = refl; within = λ later h cell none. absurd none }

-- runs that came one behind the other
locks_then : (g : Given) (cs : List Command) (a b c : Pass) → c.home ≡ b.home → SeenGrows b.seen c.seen → LocksWithin g cs a b
    → LocksWithin g cs b c → LocksWithin g cs a c
locks_then g cs a b c home grows p q =
    record {
      places = q.places ++ p.places;
      ran = q.ran ∙ (ap (λ (ps : List ℕ). q.places ++ ps) p.ran ∙ sym (append_assoc q.places p.places a.clocks));
      cells = q.cells ++ p.cells;
      locked = q.locked ∙ (ap (λ (xs : List ℕ). q.cells ++ xs) p.locked ∙ sym (append_assoc q.cells p.cells a.locked));
      within = λ later h cell has. ⊎_elim
          (λ (new : Has cell q.cells).
          let at = q.within later h cell new in
          (at.0, has_append_left q.places p.places at.0 at.1, at.2))
          (λ (old : Has cell p.cells).
          let at = p.within later (earlier later h) cell old in (
            at.0,
            has_append_right q.places p.places at.0 at.1,
            subst (λ (base : List ℕ). MayWriteAfter g base later at.0 cs cell) (sym base) at.2,
          ))
          (has_append_cases q.cells p.cells cell has);
    }
  where
    base : c.home.base ≡ b.home.base
    base = ap (λ h. h.base) home

    earlier : (later : Seen Note) → IsLaterHistory g c.home.base c.seen later → IsLaterHistory g b.home.base b.seen later
    earlier later h =
        record {
          grows = seen_trans b.seen c.seen later grows h.grows;
          history = subst (λ (values : List ℕ). IsHistoryOf g values later) base h.history;
          store = h.store;
        }

-- ---- one try

-- the session after a run
abbrev pub after_run : Member → Carried → Option Record → Member
after_run m k r =
    record m { known = k.pass; records = with_record m.records r; staged = k.staged; lacked_room = k.lacked_room }

-- a session is no earlier than itself
pub later_refl : (m : Member) → IsSoundMember m → IsLater m m
later_refl m stands =
    record { given = refl; home = refl; name = refl; grows = seen_refl m.known.seen; full = λ p e. e; stands = stands }

module _ (m : Member) (is : IsMember m) where
  -- nothing was done
  pub attempts_none : (cs : List Command) → has_too_many cs ≡ true → Attempts cs m m outcome.TooManyCommands
  attempts_none cs many =
      record {
        later = later_refl m (stands m is);
        gains = (refl, many);
        run = tt;
        unrefused = λ e. absurd cc;
        room = tt;
        footprint = λ new later. tt;
        locks = locks_nothing m.given cs m.known;
        unlocked = refl;
        counted = λ t. refl;
        staged = λ words start h. h;
        taken = omega arith;
        untouched = λ many. refl;
      }

  pub member_after : (k : Carried) (r : Option Record) → IsLaterPass m.known k.pass → IsRecorded m.known k.pass r
      → IsMember (after_run m k r)
  member_after k r later recorded =
      record {
        on = subst (λ (h : WordsHome Given). (h.setting ≡ Some m.given) × (h.room ≤ most_words)) (sym later.home) is.on;
        knows = later.knows;
        recorded = still_recorded m k.pass k.staged k.lacked_room r later.grows recorded is.recorded;
        exceeds = later.exceeds is.exceeds;
      }

  pub attempts_run : (cs : List Command) (k : Carried) (o : Outcome) (r : Option Record) → has_too_many cs ≡ false
      → Tries cs m.known k.pass o r
      → Stores cs (record { pass = m.known; staged = m.staged; lacked_room = m.lacked_room }) k o → EndsWithin m.known cs k.pass o
      → Attempts cs m (after_run m k r) o
  attempts_run cs k o r few t stored within =
      record {
        later = record {
          given = refl;
          home = t.later.home;
          name = t.later.name;
          grows = t.later.grows;
          full = t.later.full;
          stands = stands (after_run m k r) (member_after k r t.later t.recorded);
        };
        gains = t.gains;
        run = t.run;
        unrefused = t.unrefused;
        room = stored.2;
        footprint = (within m.given is.on.0).0;
        locks = (within m.given is.on.0).1;
        unlocked = t.unlocked;
        counted = λ many. let no : true ≡ false = sym many ∙ few in absurd cc;
        staged = stored.0;
        taken = stored.1;
        untouched = λ many. let no : true ≡ false = sym many ∙ few in absurd cc;
      }

-- the session whose records are these then
module _ (m : Member) (is : IsMember m) (cs : List Command) (kit k : Carried) (o : Outcome) (r : Option Record) (records : List Record)
    (same : kit.pass ≡ m.known) (tries : Tries cs kit.pass k.pass o r) (are : records ≡ with_record m.records r) where
  tries_here : Tries cs m.known k.pass o r
  tries_here = subst (λ (z : Pass). Tries cs z k.pass o r) same tries

  pub run_member : IsMember (record m { known = k.pass; records = records; staged = k.staged; lacked_room = k.lacked_room })
  run_member =
      subst (λ (rs : List Record). IsMember
      (record m { known = k.pass; records = rs; staged = k.staged; lacked_room = k.lacked_room })) (sym are)
      (member_after m is k r tries_here.later tries_here.recorded)

  pub run_attempts : kit.staged ≡ m.staged → Stores cs kit k o → EndsWithin kit.pass cs k.pass o → has_too_many cs ≡ false
      → Attempts cs m (record m { known = k.pass; records = records; staged = k.staged; lacked_room = k.lacked_room }) o
  run_attempts stage stored within few =
      subst (λ (rs : List Record). Attempts cs m
      (record m { known = k.pass; records = rs; staged = k.staged; lacked_room = k.lacked_room }) o) (sym are)
      (attempts_run m is cs k o r few tries_here
      (subst (λ (z : Carried). Stores cs z k o) (λ j. record { pass = same j; staged = stage j; lacked_room = m.lacked_room }) stored)
      (subst (λ (z : Pass). EndsWithin z cs k.pass o) same within))

-- ---- tries until there is no conflict

pub later_trans : (a b c : Member) → IsLater a b → IsLater b c → IsLater a c
later_trans a b c p q =
    record {
      given = q.given ∙ p.given;
      home = q.home ∙ p.home;
      name = q.name ∙ p.name;
      grows = seen_trans a.known.seen b.known.seen c.known.seen p.grows q.grows;
      full = λ found e. q.full found (p.full found e);
      stands = q.stands;
    }

-- what stays within the footprint of a transaction, once more was seen
within_later : (g : Given) (base : List ℕ) (old mid : Seen Note) (cs : List Command) (o : Outcome) → SeenGrows old mid
    → StaysWithin g base old cs o → StaysWithin g base mid cs o
within_later g base old mid cs o grows within new later =
    within new (record { grows = seen_trans old mid new grows later.grows; history = later.history; store = later.store })

-- a conflict that was met stays one
still_met : (cs : List Command) (a b : Member) → IsLater a b → (met : Met) → WasMet cs a met → WasMet cs b met
still_met cs a b later met was =
    let o = conflict_of met in
    record {
      cause = was.cause;
      written = WasWritten-kept a.known.seen.history b.known.seen.history met.cell (met.word / 2) later.grows.0 was.written;
      footprint =
          subst (λ (h : WordsHome Given). StaysWithin b.given h.base b.known.seen cs o) (sym later.home)
          (subst (λ (g : Given). StaysWithin g a.known.home.base b.known.seen cs o) (sym later.given)
          (within_later a.given a.known.home.base a.known.seen b.known.seen cs o later.grows was.footprint));
    }

-- what was tried so far, without an outcome that settles: nothing, or tries that met conflicts
pub record Tried (cs : List Command) (old now : Member) : Type 0 where
  -- a transaction with too many commands meets none
  pub since : (now ≡ old) ⊎ (IsLater old now × (has_too_many cs ≡ false))
  pub numbers : List ℕ
  pub void : All (IsVoidNumber now.known) numbers
  pub drawn : now.known.drawn ≡ old.known.drawn ++ numbers
  pub runs : List ℕ
  pub met : List Met
  pub places : map (λ m. m.place) met ≡ runs
  pub conflicts : All (WasMet cs now) met
  pub counted : now.known.clocks ≡ runs ++ old.known.clocks
  pub locks : LocksWithin now.given cs old.known now.known
  pub mine : now.known.mine ≡ old.known.mine
  pub before : MeetsAll cs old now met
  pub staged : StaysStaged old.staged now.staged
  pub taken : now.known.taken ≤ old.known.taken + length runs * most_words_of cs

pub tried_none : (cs : List Command) (m : Member) → Tried cs m m
tried_none cs m =
    record {
      since = inl refl;
      numbers = [];
      void = All-nil (IsVoidNumber m.known);
      drawn = sym (append-nil m.known.drawn);
      runs = [];
      met = [];
      places = refl;
      conflicts = All-nil (WasMet cs m);
      counted = refl;
      locks = locks_nothing m.given cs m.known;
      mine = refl;
      before = refl;
      staged = λ words start h. h;
      taken = omega arith;
    }

-- a number drawn behind these, and void
drawn_void : (old : List ℕ) (now next : Pass) (numbers : List ℕ) → now.drawn ≡ old ++ numbers → All (IsVoidNumber next) numbers
    → DrawsVoid now next → (all : List ℕ) × All (IsVoidNumber next) all × (next.drawn ≡ old ++ all)
drawn_void old now next numbers drawn void (inl none) = (numbers, void, none ∙ drawn)
drawn_void old now next numbers drawn void (inr (number, one, is)) = (
  numbers ++ number ∷ [],
  All-push (IsVoidNumber next) numbers number void is,
  one ∙ (ap (λ (ns : List ℕ). ns ++ number ∷ []) drawn ∙ append_assoc old numbers (number ∷ [])),
)

few_commands : (cs : List Command) (many : Bool) (o : Outcome) (met : Met) → o ≡ conflict_of met
    → (many ≡ true → o ≡ outcome.TooManyCommands) → many ≡ false
few_commands cs true o met is counted = let no = sym is ∙ counted refl in absurd cc
few_commands cs false o met is counted = refl

tried_nothing : (k : Pass) → k ≡ tried k [] []
tried_nothing k =
    let drawn : k.drawn ≡ k.drawn ++ [] = sym (append-nil k.drawn) in
    λ j. record k { drawn = drawn j }

-- whether a transaction has too many commands
is_too_many : (o : Outcome) → (o ≡ outcome.TooManyCommands) ⊎ (o ≢ outcome.TooManyCommands)
is_too_many (outcome.Committed number replies) = inr (λ e. cc)
is_too_many (outcome.Read place replies) = inr (λ e. cc)
is_too_many (outcome.Refused place index reason) = inr (λ e. cc)
is_too_many (outcome.Conflict place cell word before) = inr (λ e. cc)
is_too_many outcome.StoreFull = inr (λ e. cc)
is_too_many outcome.NumbersUsed = inr (λ e. cc)
is_too_many outcome.TooManyCommands = inl refl
is_too_many outcome.NoMemory = inr (λ e. cc)

module _ (cs : List Command) (old now next : Member) (o : Outcome) (so_far : Tried cs old now) (a : Attempts cs now next o) where
  later_by : (now ≡ old) ⊎ (IsLater old now × (has_too_many cs ≡ false)) → IsLater old next
  later_by (inl same) = subst (λ (m : Member). IsLater m next) same a.later
  later_by (inr (later, few)) = later_trans old now next later a.later

  longer_by : (now ≡ old) ⊎ (IsLater old now × (has_too_many cs ≡ false)) → length old.known.seen.history ≤ length now.known.seen.history
  longer_by (inl same) = let e = ap (λ (m : Member). length m.known.seen.history) same in omega arith
  longer_by (inr (later, few)) = later.grows.0.0

  void_then : All (IsVoidNumber next.known) so_far.numbers
  void_then = voids_grow now.known next.known so_far.numbers a.later.grows so_far.void

  locks_since : LocksWithin next.given cs old.known next.known
  locks_since =
      locks_then next.given cs old.known now.known next.known a.later.home a.later.grows
      (subst (λ (g : Given). LocksWithin g cs old.known now.known) (sym a.later.given) so_far.locks) a.locks

  met_then : All (WasMet cs next) so_far.met
  met_then = All-weaker (WasMet cs now) (WasMet cs next) (still_met cs now next a.later) so_far.met so_far.conflicts

  more_words : (place : ℕ) → length (place ∷ so_far.runs) * most_words_of cs ≡ length so_far.runs * most_words_of cs + most_words_of cs
  more_words place =
      let n = length so_far.runs in
      let one : (n + 1) * most_words_of cs ≡ n * most_words_of cs + most_words_of cs =
      let e = add-mul n 1 (most_words_of cs) in omega (arith, e) in
      ap (λ (k : ℕ). k * most_words_of cs) (sym (add-one n)) ∙ one

  stays : StaysStaged now.staged next.staged → StaysStaged old.staged next.staged
  stays is = λ words start h. is words start (so_far.staged words start h)

  staged_then : (v : Outcome) → LeavesStaged now.staged next.staged v → LeavesStaged old.staged next.staged v
  staged_then (outcome.Committed number replies) is = is
  staged_then (outcome.Read place replies) is = stays is
  staged_then (outcome.Refused place index reason) is = stays is
  staged_then (outcome.Conflict place cell word before) is = stays is
  staged_then outcome.StoreFull is = stays is
  staged_then outcome.NumbersUsed is = stays is
  staged_then outcome.TooManyCommands is = stays is
  staged_then outcome.NoMemory is = stays is

  words_then : next.known.taken ≤ old.known.taken + (length so_far.runs * most_words_of cs + most_words_of cs)
  words_then = let p = a.taken in let q = so_far.taken in omega (arith, p, q)

  untouched_by : (now ≡ old) ⊎ (IsLater old now × (has_too_many cs ≡ false)) → has_too_many cs ≡ true → next.staged ≡ old.staged
  untouched_by (inl same) many = a.untouched many ∙ ap (λ (m : Member). m.staged) same
  untouched_by (inr (later, few)) many = let no : true ≡ false = sym many ∙ few in absurd cc

  -- one more conflict
  pub tried_more : (met : Met) → o ≡ conflict_of met → Tried cs old next
  tried_more met is =
      let g = subst (Gains cs now.known next.known) is a.gains in
      let all = drawn_void old.known.drawn now.known next.known so_far.numbers so_far.drawn void_then g.1 in
      record {
        since = inr (later_by so_far.since, few_commands cs (has_too_many cs) o met is a.counted);
        numbers = all.0;
        void = all.1;
        drawn = all.2;
        runs = met.place ∷ so_far.runs;
        met = met ∷ so_far.met;
        places = ap (λ (ps : List ℕ). met.place ∷ ps) so_far.places;
        conflicts = All-cons (WasMet cs next) met so_far.met (record {
          cause = g.2.cause;
          written = g.2.written;
          footprint = subst (StaysWithin next.given next.known.home.base next.known.seen cs) is a.footprint;
        }) met_then;
        counted = g.2.run ∙ ap (λ (ps : List ℕ). met.place ∷ ps) so_far.counted;
        locks = locks_since;
        mine = g.0 ∙ so_far.mine;
        before = (now, so_far.before, subst (Attempts cs now next) is a);
        staged = stays (subst (LeavesStaged now.staged next.staged) is a.staged);
        taken = (let e = more_words met.place in let p = a.taken in let q = so_far.taken in omega (arith, e, p, q));
      }

  -- ---- the last try

  abbrev pub pass_before : Pass
  pass_before = tried old.known so_far.numbers so_far.runs

  not_before : (place : ℕ) → length now.known.seen.history ≤ place → length old.known.seen.history ≤ place
  not_before place is = let l = longer_by so_far.since in omega arith

  adds : AddsNothing now.known next.known → AddsNothing pass_before next.known
  adds is = record { mine = is.mine ∙ so_far.mine; drawn = is.drawn ∙ so_far.drawn }

  calls : (call : Work Note → Call Note) (Says : Note → Type 0) → GainsCall now.known next.known call Says
      → GainsCall pass_before next.known call Says
  calls call Says g = (g.0, g.1, g.2 ∙ ap (λ (z : List (Call Note)). z ++ call g.0 ∷ []) so_far.mine)

  one_more : (place : ℕ) → LoadsOnce now.known next.known place → LoadsOnce pass_before next.known place
  one_more place one = one ∙ ap (λ (ps : List ℕ). place ∷ ps) so_far.counted

  none_since : MetNone now.known next.known → MetNone pass_before next.known
  none_since none =
      record {
        place = none.place;
        placed = not_before none.place none.placed;
        run = one_more none.place none.run;
        found = none.found;
      }

  gains_since : (v : Outcome) → Gains cs now.known next.known v → ((met : Met) → v ≢ conflict_of met) → v ≢ outcome.TooManyCommands
      → Gains cs pass_before next.known v
  gains_since (outcome.Committed number replies) g settles some = (
    g.0,
    (let l = longer_by so_far.since in let m = g.1 in omega arith),
    g.2 ∙ ap (λ (ns : List ℕ). ns ++ number ∷ []) so_far.drawn,
    calls (Committed number) (SaysDone cs replies) g.3,
  )
  gains_since (outcome.Read place replies) g settles some =
      (g.0, not_before place g.1, g.2 ∙ so_far.drawn, calls (Answered place) (SaysDone cs replies) g.3)
  gains_since (outcome.Refused place index reason) g settles some =
      (not_before place g.0, g.1 ∙ so_far.drawn, calls (Answered place) (SaysRefused cs (record { index = index; reason = reason })) g.2)
  gains_since (outcome.Conflict place cell word before) g settles some =
      absurd (settles (record { place = place; cell = cell; word = word; before = before }) refl)
  gains_since outcome.StoreFull g settles some = (adds g.0, g.1, g.2)
  gains_since outcome.NumbersUsed g settles some = (adds g.0, ap length (sym so_far.drawn) ∙ g.1)
  gains_since outcome.TooManyCommands g settles some = absurd (some refl)
  gains_since outcome.NoMemory g settles some = adds g

  ran_since : (v : Outcome) → IsOneRun now.known next.known v → IsOneRun pass_before next.known v
  ran_since (outcome.Committed number replies) one = (one.0, one_more one.0 one.1)
  ran_since (outcome.Read place replies) one = one_more place one
  ran_since (outcome.Refused place index reason) one = one_more place one
  ran_since (outcome.Conflict place cell word before) one = one_more place one
  ran_since outcome.StoreFull one = none_since one
  ran_since outcome.NumbersUsed one = (one.0, one_more one.0 one.1)
  ran_since outcome.TooManyCommands one = one
  ran_since outcome.NoMemory one = none_since one

  submits_some : ((met : Met) → o ≢ conflict_of met) → o ≢ outcome.TooManyCommands → Submits cs old next o
  submits_some settled some =
      record {
        last = now;
        ends = a;
        later = later_by so_far.since;
        numbers = so_far.numbers;
        void = void_then;
        runs = so_far.runs;
        met = so_far.met;
        places = so_far.places;
        before = so_far.before;
        conflicts = met_then;
        gains = gains_since o a.gains settled some;
        run = ran_since o a.run;
        locks = locks_since;
        settled = settled;
        staged = staged_then o a.staged;
        taken = words_then;
        untouched = untouched_by so_far.since;
      }

  -- with too many commands nothing was tried before
  submits_none : (now ≡ old) ⊎ (IsLater old now × (has_too_many cs ≡ false)) → o ≡ outcome.TooManyCommands → Submits cs old next o
  submits_none (inl same) is =
      let g = subst (Gains cs now.known next.known) is a.gains in
      let all : next.known ≡ tried old.known [] [] = g.0 ∙ (ap (λ (m : Member). m.known) same
      ∙ tried_nothing old.known) in
      record {
        last = now;
        ends = a;
        later = later_by so_far.since;
        numbers = [];
        void = All-nil (IsVoidNumber next.known);
        runs = [];
        met = [];
        places = refl;
        before = same;
        conflicts = All-nil (WasMet cs next);
        gains = subst (Gains cs (tried old.known [] []) next.known) (sym is) (all, g.1);
        run = subst (IsOneRun (tried old.known [] []) next.known) (sym is) tt;
        locks = locks_since;
        settled = λ met e. let no = sym is ∙ e in cc;
        staged = staged_then o a.staged;
        taken = (let p = ap (λ (k : Pass). k.taken) all in omega (arith, p));
        untouched = untouched_by (inl same);
      }
  submits_none (inr (later, few)) is =
      let g = subst (Gains cs now.known next.known) is a.gains in
      let no : true ≡ false = sym g.1 ∙ few in absurd cc

  submits_by : ((met : Met) → o ≢ conflict_of met) → (o ≡ outcome.TooManyCommands) ⊎ (o ≢ outcome.TooManyCommands)
      → Submits cs old next o
  submits_by settled (inl is) = submits_none so_far.since is
  submits_by settled (inr some) = submits_some settled some

  -- what tries until there is no conflict do
  pub submits : ((met : Met) → o ≢ conflict_of met) → Submits cs old next o
  submits settled = submits_by settled (is_too_many o)
