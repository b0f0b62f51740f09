-- A look at the whole library: what may be noted of it, and how it ends.
use Rattle.std.proofs.Common.{◌≡◌, ℕ, ◌⊎◌, inl, inr, Bool, List, [], ◌∷◌, ◌++◌, false, Option, Some, None, refl, sym, ap, subst, ◌∙◌}
use Rattle.std.proofs.lemmas.List.Sorted.{IsPermutation-trans}
use Rattle.bodystore.specs.Stages.{Staged}
use Rattle.library.specs.declared.library.Ranked.{Ranked}
use Rattle.library.specs.Library.{Verifies, Listed, ShowsInOrder}
use Rattle.library.proofs.Showing.{verifies_permutation}
use Rattle.ranges.specs.Pairs.{Pairs}
use Rattle.cells.specs.State.{with_writes}
use Rattle.cells.specs.Shows.{Shows}
use Rattle.cells.specs.Sight.{Looks as LooksOn, Views}
use Rattle.cells.specs.Lookups.{ForEach}
use Rattle.cells.proofs.Sights.{setting_kept}
use Rattle.shows.specs.Looking.{AreEntries}
use Rattle.tlwords.specs.declared.mode.Mode.{Mode}
use Rattle.tlwords.specs.declared.mode.Mode.TheVariants.{Reading, Writing}
use Rattle.tlwords.specs.declared.outcome.Conflict.{Conflict}
use Rattle.tlwords.specs.declared.outcome.Outcome.{Outcome}
use Rattle.tlwords.specs.declared.outcome.Outcome.TheVariants as ends
use Rattle.tlwords.specs.Seen.{Answered}
use Rattle.tlwords.specs.Calls.{work_done, IsAnswered, Ends}
use Rattle.tlwords.specs.Commits.{writes_kept}
use Rattle.tlwords.proofs.Seens.{seen_trans}
use Rattle.lawful.specs.declared.notes.Note.{Note}
use Rattle.lawful.specs.Lawful.{setting_given, library_terms}
use Rattle.lawful.specs.History.{library_after, state_after}
use Rattle.lawful.proofs.Standing.{runs_suit}
use Rattle.lawful.proofs.Running.{looks_are_lawful}
use Rattle.lending.specs.declared.live.GivenUp.{GivenUp}
use Rattle.lending.specs.declared.live.GivenUp.TheVariants as given
use Rattle.lending.specs.Lent.{Pass, Carried, Lending, IsLent, ExceedsRoom, is_writing, lent_sight}
use Rattle.lending.specs.Ends.{IsGivenUp}
use Rattle.transaction.specs.declared.outcome.Look.{Look}
use Rattle.transaction.specs.declared.outcome.Look.TheVariants as look
use Rattle.transaction.specs.Meeting.{met_at, look_met}
use Rattle.transaction.specs.Members.{Member, IsMember}
use Rattle.transaction.specs.Attempts.{Meets}
use Rattle.transaction.specs.Looks.{TakesLook, Sees, SaysLooked}
use Rattle.transaction.specs.Tries.{IsLaterPass, StoresNothing, MayBeLooked}
use Rattle.transaction.proofs.Ended.{is_later, adds_nothing, runs_once, met_none, meets}
use Rattle.transaction.proofs.Staying.{pass_on, still_member, goes_on}

-- ---- the library that was read

-- the assertions that were read verify in whatever order: some library does that the cells may show
pub entries_verify : (l : Lending) (stage : Staged) (over : Option Conflict) (made : List Ranked) → IsLent l stage over
    → writes_kept l.going.slots ≡ [] → AreEntries (lent_sight l) made → Verifies (setting_given l.given) made
entries_verify l stage over made lent blank are =
    let on = pass_on l.given l.began l.going.known (ap (λ (z : Pass). z.home) lent.since) lent.on in
    let suits = runs_suit l.given l.going [] on lent.stands in
    let st = state_after l.going.known.home.base l.going.known.seen l.going.place in
    let lib = library_after l.given l.going.known.seen l.going.place in
    let views : Views (lent_sight l) st lib = record {
      matches = record { store = suits.matches.store; has = suits.matches.has; reads = suits.matches.reads };
      shows = subst (λ (ps : Pairs). Shows l.given.slots (with_writes st ps) lib) (sym blank) suits.shows;
      verifies = suits.verifies;
    } in
    verifies_permutation (setting_given l.given) lib made suits.verifies (are st lib views)

pub entries_shown : (l : Lending) (made listed : List Ranked) → AreEntries (lent_sight l) made → ShowsInOrder made listed
    → ForEach (lent_sight l) (λ st lib. ShowsInOrder lib listed)
entries_shown l made listed are shown st lib views =
    record { same = IsPermutation-trans lib made listed (are st lib views) shown.same; ordered = shown.ordered }

-- ---- what may be noted of it

pub reading : (mode : Mode) → is_writing mode ≡ false → mode ≡ Reading
reading Reading is = refl
reading Writing is = cc

pub may_be_looked : (old new : Lending) (library : Listed) → LooksOn (lent_sight old) (lent_sight new) → writes_kept old.going.slots ≡ []
    → library.setting ≡ setting_given old.given → ForEach (lent_sight new) (λ st lib. ShowsInOrder lib library.entries)
    → MayBeLooked new library
may_be_looked old new library looks blank setting told s is =
    looks_are_lawful new.given (lent_sight new) s refl (looks.writes ∙ blank)
    (ap (λ (z : Listed). z.setting) is ∙ setting ∙ sym (setting_kept looks.onward))
    (subst (λ (z : Listed). ForEach (lent_sight new) (λ st lib. ShowsInOrder lib z.entries)) (sym is) told)

-- ---- its end

-- what is told of a look that is given up: it stages nothing, so it is memory that ran out where it met no conflict
abbrev pub told_of : ℕ → GivenUp → Look
told_of place (given.Conflict found) = look_met (met_at place found)
told_of place _ = look.NoMemory

pub told_none : (place : ℕ) (why : GivenUp) → (why ≡ given.StoreFull) ⊎ (why ≡ given.NoMemory) → told_of place why ≡ look.NoMemory
told_none place why (inl is) = ap (told_of place) is
told_none place why (inr is) = ap (told_of place) is

module _ (l : Lending) (stage : Staged) (over : Option Conflict) (lent : IsLent l stage over) where
  -- a read met a conflict
  saw_conflict : (found : Conflict) → l.going.mode ≡ Reading → l.going.over ≡ Some found
      → Sees l.began l.going.known (look_met (met_at l.going.place found))
  saw_conflict found mode is =
      let has : Meets false l.began l.going.known (met_at l.going.place found) =
      subst (λ (b : Bool). Meets b l.began l.going.known (met_at l.going.place found)) (ap is_writing mode)
      (meets l stage over lent found is) in
      (adds_nothing l stage over lent, has, has.before)

  pub sees_stopped : (why : GivenUp) → IsGivenUp l why → l.going.mode ≡ Reading → Sees l.began l.going.known (told_of l.going.place why)
  sees_stopped (given.Conflict found) is mode = saw_conflict found mode is
  sees_stopped given.StoreFull is mode = (adds_nothing l stage over lent, met_none l stage over lent is.0)
  sees_stopped given.NoMemory is mode = (adds_nothing l stage over lent, met_none l stage over lent is.0)

module _ (l : Lending) (stage : Staged) (over : Option Conflict) (lent : IsLent l stage over) (n : Note) (new : Pass) (o : Outcome)
    (stopped : (k : Conflict) → l.going.over ≡ Some k → (o ≡ ends.Conflict k None) × (new ≡ l.going.known))
    (read : l.going.over ≡ None → o ≡ ends.Read l.going.place)
    (ended : l.going.over ≡ None → Ends library_terms n l.going new o) where
  answered : l.going.over ≡ None → IsAnswered library_terms l.going.place (work_done l.going n) l.going.known new
  answered none = (subst (Ends library_terms n l.going new) (read none) (ended none)).2

  later_by : (v : Option Conflict) → l.going.over ≡ v → IsLaterPass l.began new
  later_by None none =
      let a = answered none in
      record {
        home = ap (λ (z : Pass). z.home) a.is ∙ ap (λ (z : Pass). z.home) lent.since;
        name = ap (λ (z : Pass). z.name) a.is ∙ ap (λ (z : Pass). z.name) lent.since;
        grows = seen_trans l.began.seen l.going.known.seen new.seen lent.grows a.grows;
        full = λ p e. ap (λ (z : Pass). z.full) a.is ∙ lent.full_stays p e;
        exceeds = λ was. subst ExceedsRoom (sym a.is) (lent.exceeds was);
        knows = a.knows;
      }
  later_by (Some k) met = subst (IsLaterPass l.began) (sym (stopped k met).1) (is_later l stage over lent)

  pub look_later : IsLaterPass l.began new
  look_later = later_by l.going.over refl

  sees_read_by : (place : ℕ) (library : Listed) → SaysLooked library n → o ≡ ends.Read place → (v : Option Conflict) → l.going.over ≡ v
      → Sees l.began new (look.Read place library)
  sees_read_by place library says is None none =
      let a = answered none in
      let at : l.going.place ≡ place = let own = read none in cc in
      subst (λ (p : ℕ). Sees l.began new (look.Read p library)) at (
        lent.placed,
        ap (λ (z : Pass). z.drawn) a.is ∙ ap (λ (z : Pass). z.drawn) lent.since,
        (
          work_done l.going n,
          says,
          ap (λ (z : Pass). z.mine) a.is
              ∙ ap (λ (z : Pass). z.mine ++ Answered l.going.place (work_done l.going n) ∷ []) lent.since,
        ),
        ap (λ (z : Pass). z.clocks) a.is ∙ runs_once l stage over lent,
      )
  sees_read_by place library says is (Some k) met = let other = (stopped k met).0 in absurd cc

  pub sees_read : (place : ℕ) (library : Listed) → SaysLooked library n → o ≡ ends.Read place → Sees l.began new (look.Read place library)
  sees_read place library says is = sees_read_by place library says is l.going.over refl

  sees_conflict_by : (found : Conflict) (drawn : Option ℕ) → l.going.mode ≡ Reading → o ≡ ends.Conflict found drawn
      → (v : Option Conflict) → l.going.over ≡ v → Sees l.began new (look_met (met_at l.going.place found))
  sees_conflict_by found drawn mode is None none = let other = read none in absurd cc
  sees_conflict_by found drawn mode is (Some k) met =
      let own = (stopped k met).0 in
      let same : k ≡ found = cc in
      subst (λ (c : Conflict). Sees l.began new (look_met (met_at l.going.place c))) same
      (subst (λ (z : Pass). Sees l.began z (look_met (met_at l.going.place k))) (sym (stopped k met).1)
      (saw_conflict l stage over lent k mode met))

  pub sees_conflict : (found : Conflict) (drawn : Option ℕ) → l.going.mode ≡ Reading → o ≡ ends.Conflict found drawn
      → Sees l.began new (look_met (met_at l.going.place found))
  sees_conflict found drawn mode is = sees_conflict_by found drawn mode is l.going.over refl

-- ---- the session

pub draws_none : (old new : Pass) (l : Look) → Sees old new l → new.drawn ≡ old.drawn
draws_none old new (look.Read place library) sees = sees.1
draws_none old new (look.Conflict place cell word before) sees = sees.0.drawn
draws_none old new look.NoMemory sees = sees.0.drawn

module _ (m : Member) (k : Carried) (l : Look) (is : IsMember m) (later : IsLaterPass m.known k.pass) (sees : Sees m.known k.pass l) where
  pub looker_stays : IsMember (record m { known = k.pass; staged = k.staged; lacked_room = k.lacked_room })
  looker_stays = still_member m k.pass k.staged k.lacked_room is later (draws_none m.known k.pass l sees)

  pub session_looks : StoresNothing (record { pass = m.known; staged = m.staged; lacked_room = m.lacked_room }) k
      → TakesLook m (record m { known = k.pass; staged = k.staged; lacked_room = k.lacked_room }) l
  session_looks stored =
      record {
        later = goes_on m k.pass k.staged k.lacked_room is later (draws_none m.known k.pass l sees);
        sees = sees;
        staged = stored.1;
        taken = stored.0;
      }
