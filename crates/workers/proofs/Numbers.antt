-- The numbers that a session draws: those that are done are those of its committed transactions.
use Rattle.std.proofs.Common.{◌≡◌, ℕ, zero, suc, Bool, false, List, [], ◌∷◌, ◌++◌, length, append_assoc, refl, sym, ap, ◌∙◌, arith}
use Rattle.std.specs.Prelude.{All, Some, drop, filter, flat_map, slice_get}
use Rattle.std.proofs.Math.Seq.{drop-append_seam}
use Rattle.std.proofs.lemmas.Bool.{cond-true}
use Rattle.std.proofs.lemmas.List.{append-nil}
use Rattle.std.proofs.lemmas.List.Elements.{filter-append}
use Rattle.ranges.proofs.Members.{all_has}
use Rattle.cells.proofs.Ones.{filter_none}
use Rattle.library.specs.declared.command.Command.{Command}
use Rattle.library.specs.Histories.{Entry, void_entry, done_entry}
use Rattle.lawful.specs.declared.notes.Given.{Given}
use Rattle.lawful.specs.Lawful.{setting_given, first_library}
use Rattle.lawful.specs.History.{history_of}
use Rattle.transaction.specs.declared.outcome.Outcome.{Outcome}
use Rattle.transaction.specs.declared.outcome.Outcome.TheVariants as outcome
use Rattle.transaction.specs.Members.{Member, IsSoundMember}
use Rattle.transaction.specs.Attempts.{Submits, IsVoidNumber}
use Rattle.transaction.proofs.Recorded.{voids_grow}
use Rattle.workers.specs.Works.{OutcomeAgrees, is_done, is_done_entry, newly_done, numbers_of}
use Rattle.workers.proofs.Submitting.{Goes, appended, submitted_agrees, submitted_drawn}

-- ---- done numbers

pub done_at : (h : List Entry) (i : ℕ) (e : Entry) → slice_get h i ≡ Some e → is_done h (suc i) ≡ is_done_entry e
done_at [] i e at = cc
done_at (x ∷ h) zero e at = let same : x ≡ e = cc in ap is_done_entry same
done_at (x ∷ h) (suc i) e at = done_at h i e at

module _ (last : Member) where
  abbrev is_done_last : ℕ → Bool
  is_done_last = is_done (history_of last.known.seen)

  void_not_done : (n : ℕ) → IsVoidNumber last.known n → is_done_last n ≡ false
  void_not_done n void = ap is_done_last void.1 ∙ done_at (history_of last.known.seen) void.0 void_entry void.2

  void_filtered : (numbers : List ℕ) → All (IsVoidNumber last.known) numbers → filter is_done_last numbers ≡ []
  void_filtered numbers void =
      filter_none is_done_last numbers (λ n has. void_not_done n (all_has (IsVoidNumber last.known) numbers n void has))

  outcome_filtered : (g : Given) (cs : List Command) (o : Outcome)
      → OutcomeAgrees (setting_given g) (first_library g) (history_of last.known.seen) cs o
      → filter is_done_last (numbers_of (o ∷ [])) ≡ numbers_of (o ∷ [])
  outcome_filtered g cs (outcome.Committed number replies) told =
      let is : number ≡ suc told.0 = omega (arith, told.1) in
      cond-true (is_done_last number) (number ∷ []) []
      (ap is_done_last is ∙ done_at (history_of last.known.seen) told.0 (done_entry cs replies) told.2)
  outcome_filtered g cs (outcome.Read place replies) told = refl
  outcome_filtered g cs (outcome.Refused place index reason) told = refl
  outcome_filtered g cs (outcome.Conflict place cell word before) told = refl
  outcome_filtered g cs outcome.StoreFull told = refl
  outcome_filtered g cs outcome.NumbersUsed told = refl
  outcome_filtered g cs outcome.TooManyCommands told = refl
  outcome_filtered g cs outcome.NoMemory told = refl

pub numbers_first : (o : Outcome) (os : List Outcome) → numbers_of (o ∷ os) ≡ numbers_of (o ∷ []) ++ numbers_of os
numbers_first (outcome.Committed number replies) os = refl
numbers_first (outcome.Read place replies) os = refl
numbers_first (outcome.Refused place index reason) os = refl
numbers_first (outcome.Conflict place cell word before) os = refl
numbers_first outcome.StoreFull os = refl
numbers_first outcome.NumbersUsed os = refl
numbers_first outcome.TooManyCommands os = refl
numbers_first outcome.NoMemory os = refl

numbers_both : (os ps : List Outcome) → numbers_of (os ++ ps) ≡ numbers_of os ++ numbers_of ps
numbers_both [] ps = refl
numbers_both (o ∷ os) ps =
    numbers_first o (os ++ ps)
    ∙ (ap (λ (ns : List ℕ). numbers_of (o ∷ []) ++ ns) (numbers_both os ps)
    ∙ (sym (append_assoc (numbers_of (o ∷ [])) (numbers_of os) (numbers_of ps))
    ∙ ap (λ (ns : List ℕ). ns ++ numbers_of ps) (sym (numbers_first o os))))

-- of what is told one after another
pub numbers_all : {A : Type 0} (f : A → List Outcome) (xs : List A) → numbers_of (flat_map f xs) ≡ flat_map (λ x. numbers_of (f x)) xs
numbers_all f [] = refl
numbers_all f (x ∷ xs) =
    numbers_both (f x) (flat_map f xs) ∙ ap (λ (ns : List ℕ). numbers_of (f x) ++ ns) (numbers_all f xs)

-- ---- further numbers

-- the session drew further numbers, and those that are done in a later history are these
pub record Draws (last old new : Member) (done : List ℕ) : Type 0 where
  pub numbers : List ℕ
  pub drawn : new.known.drawn ≡ old.known.drawn ++ numbers
  pub are : filter (is_done (history_of last.known.seen)) numbers ≡ done

module _ (last : Member) where
  pub draws_none : (old new : Member) → new ≡ old → Draws last old new []
  draws_none old new same = record {
    numbers = [];
    drawn = ap (λ (m : Member). m.known.drawn) same ∙ sym (append-nil old.known.drawn);
    are = refl;
  }

  pub draws_more : (old mid new : Member) (here further : List ℕ) → Draws last old mid here → Draws last mid new further
      → Draws last old new (here ++ further)
  draws_more old mid new here further p q = record {
    numbers = p.numbers ++ q.numbers;
    drawn = appended old.known.drawn mid.known.drawn new.known.drawn p.numbers q.numbers p.drawn q.drawn;
    are = filter-append (is_done (history_of last.known.seen)) p.numbers q.numbers ∙ λ j. p.are j ++ q.are j;
  }

  pub submitted_draws : (cs : List Command) (old new : Member) (o : Outcome) → Submits cs old new o → Goes new last → IsSoundMember last
      → Draws last old new (numbers_of (o ∷ []))
  submitted_draws cs old new o submits goes stands =
      let own = outcome_filtered last last.given cs o
      (submitted_agrees cs old new o submits last goes last.given (history_of last.known.seen) stands.agree) in
      let none = void_filtered last submits.numbers (voids_grow new.known last.known submits.numbers goes.later.grows submits.void) in
      record {
        numbers = submits.numbers ++ numbers_of (o ∷ []);
        drawn = submitted_drawn cs old new o submits;
        are = filter-append (is_done (history_of last.known.seen)) submits.numbers (numbers_of (o ∷ [])) ∙ λ j. none j ++ own j;
      }

pub drawn_newly : (old new : Member) (done : List ℕ) → Draws new old new done → newly_done old new ≡ done
drawn_newly old new done draws =
    ap (λ (ns : List ℕ). filter (is_done (history_of new.known.seen)) (drop (length old.known.drawn) ns)) draws.drawn
    ∙ (ap (filter (is_done (history_of new.known.seen))) (drop-append_seam old.known.drawn draws.numbers) ∙ draws.are)
