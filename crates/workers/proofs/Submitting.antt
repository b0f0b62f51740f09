-- What one transaction makes of a session: further calls and numbers, and an outcome that agrees where its calls do.
use Rattle.std.proofs.Common.{◌≡◌, ◌≢◌, ℕ, ◌+◌, ◌≤◌, Option, List, [], ◌∷◌, ◌++◌, length, length-append, refl, sym, ap, subst, ◌∙◌, arith}
use Rattle.std.proofs.Common.{append_assoc}
use Rattle.std.specs.Prelude.{All, Some, None, cond, count_by, is_some, true}
use Rattle.std.proofs.Math.Seq.{drop-append_seam}
use Rattle.std.proofs.lemmas.List.{append-nil}
use Rattle.std.proofs.lemmas.List.Sums.{sum_by-append}
use Rattle.std.proofs.lemmas.List.Elements.{All-head, All-drop}
use Rattle.std.proofs.lemmas.Option.{slice_get_within}
use Rattle.library.specs.declared.command.Command.{Command}
use Rattle.library.specs.declared.command.Reply.{Reply}
use Rattle.library.specs.declared.reason.Refused.{Refused as Refusal}
use Rattle.library.specs.Agrees.{Agrees, committed, read, refused}
use Rattle.library.specs.Histories.{Entry, done_entry}
use Rattle.tlwords.specs.Seen.{Work, Call, Committed, Answered}
use Rattle.lawful.specs.declared.notes.Given.{Given}
use Rattle.lawful.specs.declared.notes.Note.{Note}
use Rattle.lawful.specs.declared.notes.Note.TheVariants as note
use Rattle.lawful.specs.Lawful.{setting_given, first_library}
use Rattle.lawful.specs.History.{history_of, CommitAgrees, AnswerAgrees, NoteAgrees, AllAgree}
use Rattle.lawful.proofs.Entries.{length-entries_of}
use Rattle.lending.specs.Lent.{Pass, FullStays}
use Rattle.transaction.specs.Meeting.{Met, conflict_of}
use Rattle.transaction.specs.declared.outcome.Outcome.{Outcome}
use Rattle.transaction.specs.declared.outcome.Outcome.TheVariants as outcome
use Rattle.transaction.specs.Members.{Member, IsLater, IsSoundMember}
use Rattle.transaction.specs.Attempts.{Gains, GainsCall, IsOneRun, Submits, SaysDone, SaysRefused, tried}
use Rattle.transaction.proofs.Trying.{later_refl, later_trans}
use Rattle.workers.specs.Works.{OutcomeAgrees, OutcomeFits, ToldBy, MakesRuns, StandsFrom, is_answer, is_of_run, place_behind, numbers_of}

-- ---- a session later

-- with further calls and numbers
pub record Goes (old new : Member) : Type 0 where
  pub later : IsLater old new
  pub calls : List (Call Note)
  pub mine : new.known.mine ≡ old.known.mine ++ calls
  pub numbers : List ℕ
  pub drawn : new.known.drawn ≡ old.known.drawn ++ numbers

pub goes_nowhere : (m : Member) → IsSoundMember m → Goes m m
goes_nowhere m stands = record {
  later = later_refl m stands;
  calls = [];
  mine = sym (append-nil m.known.mine);
  numbers = [];
  drawn = sym (append-nil m.known.drawn);
}

pub appended : {A : Type 0} (a b c p q : List A) → b ≡ a ++ p → c ≡ b ++ q → c ≡ a ++ (p ++ q)
appended a b c p q e f = f ∙ (ap (λ z. z ++ q) e ∙ append_assoc a p q)

pub goes_on : (a b c : Member) → Goes a b → Goes b c → Goes a c
goes_on a b c p q = record {
  later = later_trans a b c p.later q.later;
  calls = p.calls ++ q.calls;
  mine = appended a.known.mine b.known.mine c.known.mine p.calls q.calls p.mine q.mine;
  numbers = p.numbers ++ q.numbers;
  drawn = appended a.known.drawn b.known.drawn c.known.drawn p.numbers q.numbers p.drawn q.drawn;
}

-- ---- what a transaction gains

-- one call, or none
gained_calls : (cs : List Command) (old new : Pass) (o : Outcome) → Gains cs old new o
    → (calls : List (Call Note)) × (new.mine ≡ old.mine ++ calls) × (length calls ≡ count_by is_answer (o ∷ []))
gained_calls cs old new (outcome.Committed number replies) g = (Committed number g.3.0 ∷ [], g.3.2, refl)
gained_calls cs old new (outcome.Read place replies) g = (Answered place g.3.0 ∷ [], g.3.2, refl)
gained_calls cs old new (outcome.Refused place index reason) g = (Answered place g.2.0 ∷ [], g.2.2, refl)
gained_calls cs old new (outcome.Conflict place cell word before) g = ([], g.0 ∙ sym (append-nil old.mine), refl)
gained_calls cs old new outcome.StoreFull g = ([], g.0.mine ∙ sym (append-nil old.mine), refl)
gained_calls cs old new outcome.NumbersUsed g = ([], g.0.mine ∙ sym (append-nil old.mine), refl)
gained_calls cs old new outcome.TooManyCommands g = ([], ap (λ (p : Pass). p.mine) g.0 ∙ sym (append-nil old.mine), refl)
gained_calls cs old new outcome.NoMemory g = ([], g.mine ∙ sym (append-nil old.mine), refl)

-- one number, or none
gained_numbers : (cs : List Command) (old new : Pass) (o : Outcome) → Gains cs old new o → ((met : Met) → o ≢ conflict_of met)
    → new.drawn ≡ old.drawn ++ numbers_of (o ∷ [])
gained_numbers cs old new (outcome.Committed number replies) g settled = g.2
gained_numbers cs old new (outcome.Read place replies) g settled = g.2 ∙ sym (append-nil old.drawn)
gained_numbers cs old new (outcome.Refused place index reason) g settled = g.1 ∙ sym (append-nil old.drawn)
gained_numbers cs old new (outcome.Conflict place cell word before) g settled =
    absurd (settled (record { place = place; cell = cell; word = word; before = before }) refl)
gained_numbers cs old new outcome.StoreFull g settled = g.0.drawn ∙ sym (append-nil old.drawn)
gained_numbers cs old new outcome.NumbersUsed g settled = g.0.drawn ∙ sym (append-nil old.drawn)
gained_numbers cs old new outcome.TooManyCommands g settled = ap (λ (p : Pass). p.drawn) g.0 ∙ sym (append-nil old.drawn)
gained_numbers cs old new outcome.NoMemory g settled = g.drawn ∙ sym (append-nil old.drawn)

-- ---- it agrees

pub agrees_within : {A : Type 0} (P : A → Type 0) (xs ys : List A) (x : A) → All P ((xs ++ x ∷ []) ++ ys) → P x
agrees_within P xs ys x all =
    let moved : All P (xs ++ (x ∷ ys)) = subst (All P) (append_assoc xs (x ∷ []) ys) all in
    All-head P x ys (subst (All P) (drop-append_seam xs (x ∷ ys)) (All-drop P (length xs) (xs ++ (x ∷ ys)) moved))

module _ (g : Given) (h : List Entry) where
  -- the call that was gained is one of those that agree
  gained_agrees : (old new : Pass) (call : Work Note → Call Note) (Says : Note → Type 0) (gains : GainsCall old new call Says)
      → (rest : List (Call Note)) → AllAgree g h (new.mine ++ rest) → NoteAgrees g h (call gains.0)
  gained_agrees old new call Says gains rest all =
      agrees_within (NoteAgrees g h) old.mine rest (call gains.0)
      (subst (λ (calls : List (Call Note)). AllAgree g h (calls ++ rest)) gains.2 all)

  commit_told : (cs : List Command) (replies : List Reply) (number : ℕ) (n : Note) → SaysDone cs replies n → CommitAgrees g h number n
      → Agrees (setting_given g) (first_library g) h cs (committed number replies)
  commit_told cs replies number (note.Done c r) says agrees =
      (agrees.0, agrees.1, agrees.2 ∙ λ j. Some (done_entry (says.0 j) (says.1 j)))
  commit_told cs replies number (note.Refused c r) says agrees = absurd says
  commit_told cs replies number (note.Looked library) says agrees = absurd says

  read_told : (cs : List Command) (replies : List Reply) (place : ℕ) (n : Note) → SaysDone cs replies n → AnswerAgrees g h place n
      → Agrees (setting_given g) (first_library g) h cs (read place replies)
  read_told cs replies place (note.Done c r) says agrees =
      subst (λ (z : List Command). Agrees (setting_given g) (first_library g) h z (read place replies)) says.0
      (subst (λ (z : List Reply). Agrees (setting_given g) (first_library g) h c.value (read place z)) says.1 agrees)
  read_told cs replies place (note.Refused c r) says agrees = absurd says
  read_told cs replies place (note.Looked library) says agrees = absurd says

  refusal_told : (cs : List Command) (reason : Refusal) (place : ℕ) (n : Note) → SaysRefused cs reason n → AnswerAgrees g h place n
      → Agrees (setting_given g) (first_library g) h cs (refused place reason)
  refusal_told cs reason place (note.Refused c r) says agrees =
      subst (λ (z : List Command). Agrees (setting_given g) (first_library g) h z (refused place reason)) says.0
      (subst (λ (z : Refusal). Agrees (setting_given g) (first_library g) h c.value (refused place z)) says.1 agrees)
  refusal_told cs reason place (note.Done c r) says agrees = absurd says
  refusal_told cs reason place (note.Looked library) says agrees = absurd says

  outcome_told : (cs : List Command) (old new : Pass) (o : Outcome) → Gains cs old new o → ((met : Met) → o ≢ conflict_of met)
      → (rest : List (Call Note)) → AllAgree g h (new.mine ++ rest) → OutcomeAgrees (setting_given g) (first_library g) h cs o
  outcome_told cs old new (outcome.Committed number replies) gains settled rest all =
      commit_told cs replies number gains.3.0.note gains.3.1
      (gained_agrees old new (Committed number) (SaysDone cs replies) gains.3 rest all)
  outcome_told cs old new (outcome.Read place replies) gains settled rest all =
      read_told cs replies place gains.3.0.note gains.3.1 (gained_agrees old new (Answered place) (SaysDone cs replies) gains.3 rest all)
  outcome_told cs old new (outcome.Refused place index reason) gains settled rest all =
      refusal_told cs (record { index = index; reason = reason }) place gains.2.0.note gains.2.1
      (gained_agrees old new (Answered place) (SaysRefused cs (record { index = index; reason = reason })) gains.2 rest all)
  outcome_told cs old new (outcome.Conflict place cell word before) gains settled rest all =
      absurd (settled (record { place = place; cell = cell; word = word; before = before }) refl)
  outcome_told cs old new outcome.StoreFull gains settled rest all = tt
  outcome_told cs old new outcome.NumbersUsed gains settled rest all = tt
  outcome_told cs old new outcome.TooManyCommands gains settled rest all = tt
  outcome_told cs old new outcome.NoMemory gains settled rest all = tt

  -- what comes behind it stands within the history
  behind_within : (cs : List Command) (o : Outcome) (place : ℕ) → OutcomeAgrees (setting_given g) (first_library g) h cs o
      → place ≤ length h
      → place_behind place o ≤ length h
  behind_within cs (outcome.Committed number replies) place told within =
      let last = slice_get_within h told.0 (done_entry cs replies) told.2 in let is = told.1 in omega arith
  behind_within cs (outcome.Read at replies) place told within = told.0
  behind_within cs (outcome.Refused at index reason) place told within = told.0
  behind_within cs (outcome.Conflict at cell word before) place told within = within
  behind_within cs outcome.StoreFull place told within = within
  behind_within cs outcome.NumbersUsed place told within = within
  behind_within cs outcome.TooManyCommands place told within = within
  behind_within cs outcome.NoMemory place told within = within

-- ---- it fits, and stands behind what was seen before

gained_fits : (cs : List Command) (old new : Pass) (o : Outcome) → Gains cs old new o → OutcomeFits cs o
gained_fits cs old new (outcome.Committed number replies) g = g.0
gained_fits cs old new (outcome.Read place replies) g = g.0
gained_fits cs old new (outcome.Refused place index reason) g = tt
gained_fits cs old new (outcome.Conflict place cell word before) g = tt
gained_fits cs old new outcome.StoreFull g = g.2
gained_fits cs old new outcome.NumbersUsed g = tt
gained_fits cs old new outcome.TooManyCommands g = g.1
gained_fits cs old new outcome.NoMemory g = tt

-- ---- why it was given up stays told

still_full : (old new : Pass) → FullStays old new → (found : Option (ℕ × ℕ)) → old.full ≡ found → is_some found ≡ true
    → is_some new.full ≡ true
still_full old new stays None is some = absurd cc
still_full old new stays (Some found) is some = ap is_some (stays found is)

gained_told : (cs : List Command) (old new : Pass) (o : Outcome) → Gains cs old new o → (last : Member) (more : List ℕ)
    → last.known.drawn ≡ new.drawn ++ more → FullStays new last.known → ToldBy last o
gained_told cs old new (outcome.Committed number replies) g last more drawn stays = tt
gained_told cs old new (outcome.Read place replies) g last more drawn stays = tt
gained_told cs old new (outcome.Refused place index reason) g last more drawn stays = tt
gained_told cs old new (outcome.Conflict place cell word before) g last more drawn stays = tt
gained_told cs old new outcome.StoreFull g last more drawn stays = still_full new last.known stays new.full refl g.1
gained_told cs old new outcome.NumbersUsed g last more drawn stays =
    let all = ap length g.0.drawn in
    let used = g.1 in
    let size = length-append new.drawn more in
    let whole = ap length drawn in
    omega (arith, all, used, size, whole)
gained_told cs old new outcome.TooManyCommands g last more drawn stays = tt
gained_told cs old new outcome.NoMemory g last more drawn stays = tt

gained_behind : (cs : List Command) (old new : Pass) (o : Outcome) (place : ℕ) → Gains cs old new o → place ≤ length old.seen.history
    → StandsFrom place o
gained_behind cs old new (outcome.Committed number replies) place g seen = let further = g.1 in omega arith
gained_behind cs old new (outcome.Read at replies) place g seen = let further = g.1 in omega arith
gained_behind cs old new (outcome.Refused at index reason) place g seen = let further = g.0 in omega arith
gained_behind cs old new (outcome.Conflict at cell word before) place g seen = tt
gained_behind cs old new outcome.StoreFull place g seen = tt
gained_behind cs old new outcome.NumbersUsed place g seen = tt
gained_behind cs old new outcome.TooManyCommands place g seen = tt
gained_behind cs old new outcome.NoMemory place g seen = tt

-- ---- it ran

-- it was one run, but where nothing was looked at
gained_runs : (cs : List Command) (old new : Pass) (o : Outcome) → Gains cs old new o → IsOneRun old new o
    → (places : List ℕ) × (new.clocks ≡ places ++ old.clocks) × (count_by is_of_run (o ∷ []) ≤ length places)
gained_runs cs old new (outcome.Committed number replies) g one = (one.0 ∷ [], one.1, omega arith)
gained_runs cs old new (outcome.Read place replies) g one = (place ∷ [], one, omega arith)
gained_runs cs old new (outcome.Refused place index reason) g one = (place ∷ [], one, omega arith)
gained_runs cs old new (outcome.Conflict place cell word before) g one = (place ∷ [], one, omega arith)
gained_runs cs old new outcome.StoreFull g one = (one.place ∷ [], one.run, omega arith)
gained_runs cs old new outcome.NumbersUsed g one = (one.0 ∷ [], one.1, omega arith)
gained_runs cs old new outcome.TooManyCommands g one = ([], ap (λ (p : Pass). p.clocks) g.0, omega arith)
gained_runs cs old new outcome.NoMemory g one = (one.place ∷ [], one.run, omega arith)

pub runs_none : (old new : Member) → new ≡ old → MakesRuns old new []
runs_none old new same = record {
  places = [];
  loaded = ap (λ (m : Member). m.known.clocks) same;
  many = omega arith;
  calls = [];
  made = ap (λ (m : Member). m.known.mine) same ∙ sym (append-nil old.known.mine);
  answers = refl;
}

pub runs_both : (old mid new : Member) (os ps : List Outcome) → MakesRuns old mid os → MakesRuns mid new ps → MakesRuns old new (os ++ ps)
runs_both old mid new os ps p q =
    let first = p.many in
    let second = q.many in
    record {
      places = q.places ++ p.places;
      loaded = q.loaded ∙ (ap (λ (ns : List ℕ). q.places ++ ns) p.loaded ∙ sym (append_assoc q.places p.places old.known.clocks));
      many =
          let long = length-append q.places p.places in
          let both = sum_by-append (λ (x : Outcome). cond (is_of_run x) 1 0) os ps in
          omega (arith, long, first, second, both);
      calls = p.calls ++ q.calls;
      made = appended old.known.mine mid.known.mine new.known.mine p.calls q.calls p.made q.made;
      answers =
          let long = length-append p.calls q.calls in
          let both = sum_by-append (λ (x : Outcome). cond (is_answer x) 1 0) os ps in
          let one = p.answers in
          let other = q.answers in
          omega (arith, long, one, other, both);
    }

-- ---- one transaction

module _ (cs : List Command) (old new : Member) (o : Outcome) (submits : Submits cs old new o) where
  abbrev before : Pass
  before = tried old.known submits.numbers submits.runs

  pub submitted_drawn : new.known.drawn ≡ old.known.drawn ++ (submits.numbers ++ numbers_of (o ∷ []))
  submitted_drawn =
      gained_numbers cs before new.known o submits.gains submits.settled
      ∙ append_assoc old.known.drawn submits.numbers (numbers_of (o ∷ []))

  pub submitted_goes : Goes old new
  submitted_goes =
      let calls = gained_calls cs before new.known o submits.gains in
      record {
        later = submits.later;
        calls = calls.0;
        mine = calls.1;
        numbers = submits.numbers ++ numbers_of (o ∷ []);
        drawn = submitted_drawn;
      }

  pub submitted_agrees : (last : Member) → Goes new last → (g : Given) (h : List Entry) → AllAgree g h last.known.mine
      → OutcomeAgrees (setting_given g) (first_library g) h cs o
  submitted_agrees last goes g h agree =
      outcome_told g h cs before new.known o submits.gains submits.settled goes.calls (subst (AllAgree g h) goes.mine agree)

  pub submitted_fits : OutcomeFits cs o
  submitted_fits = gained_fits cs before new.known o submits.gains

  pub submitted_told : (last : Member) → Goes new last → ToldBy last o
  submitted_told last goes = gained_told cs before new.known o submits.gains last goes.numbers goes.drawn goes.later.full

  pub submitted_runs : MakesRuns old new (o ∷ [])
  submitted_runs =
      let one = gained_runs cs before new.known o submits.gains submits.run in
      let call = gained_calls cs before new.known o submits.gains in
      let long = length-append one.0 submits.runs in
      let own = one.2 in
      record {
        places = one.0 ++ submits.runs;
        loaded = one.1 ∙ sym (append_assoc one.0 submits.runs old.known.clocks);
        many = omega (arith, long, own);
        calls = call.0;
        made = call.1;
        answers = call.2;
      }

  pub submitted_stands : (place : ℕ) → place ≤ length old.known.seen.history → StandsFrom place o
  submitted_stands place seen = gained_behind cs before new.known o place submits.gains seen

  -- what comes behind it stands within what was seen by then
  pub submitted_within : (place : ℕ) → place ≤ length old.known.seen.history → place_behind place o ≤ length new.known.seen.history
  submitted_within place seen =
      let size = length-entries_of new.known.seen.history new.known.seen.notes in
      let longer = submits.later.grows.0.0 in
      let within : place_behind place o ≤ length (history_of new.known.seen) =
      behind_within new.given (history_of new.known.seen) cs o place
      (submitted_agrees new (goes_nowhere new submits.later.stands) new.given (history_of new.known.seen) submits.later.stands.agree)
      (omega arith) in
      omega arith
