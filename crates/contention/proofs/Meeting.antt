-- Two transactions that meet in a cell.
use Rattle.std.proofs.Common.{◌≡◌, ℕ, suc, ◌<◌, ◌/◌, List, Some, inl, inr, sym, ap, subst, ◌∙◌, arith}
use Rattle.library.specs.declared.command.Command.{Command}
use Rattle.library.specs.declared.command.Reply.{Reply}
use Rattle.ranges.proofs.Members.{all_has}
use Rattle.tlcore.specs.History.{IsVersionOf}
use Rattle.tlcore.proofs.Growth.{WasWritten-kept}
use Rattle.tlwords.specs.Seen.{Seen}
use Rattle.lawful.specs.declared.notes.Given.{Given}
use Rattle.lawful.specs.declared.notes.Note.{Note}
use Rattle.transaction.specs.Meeting.{Met}
use Rattle.transaction.specs.declared.outcome.Outcome.TheVariants.{Committed}
use Rattle.transaction.specs.Members.{Member, IsLater}
use Rattle.transaction.specs.Attempts.{WasMet}
use Rattle.transaction.specs.Footprints.{WritesWithin, IsLaterHistory, MayWriteAfter, MayReadAfter}
use Rattle.contention.specs.Laws.{HasTried, RunsInto, AreMet, ConflictsMeet, ApartIsNoCause}

module _ (cs : List Command) (old new : Member) (number : ℕ) (replies : List Reply) where
  -- a number that was committed is not 0
  numbered : HasTried cs old new (Committed number replies) → 0 < number
  numbered (inl a) = let g = a.gains.1 in omega (arith, g)
  numbered (inr s) = let g = s.gains.1 in omega (arith, g)

  opened : HasTried cs old new (Committed number replies) → new.known.home.setting ≡ Some new.given
  opened (inl a) = a.later.stands.setting
  opened (inr s) = s.later.stands.setting

  -- its writes are within what it may write
  wrote : HasTried cs old new (Committed number replies) → (seen : Seen Note)
      → IsLaterHistory new.given new.known.home.base new.known.seen seen
      → WritesWithin new.given new.known.home.base seen number cs
  wrote (inl a) seen later = a.footprint seen later
  wrote (inr s) seen later = s.ends.footprint seen later

-- a conflict that was met on the way
module _ (cs : List Command) (old new : Member) (met : Met) where
  pub was_met : RunsInto cs old new met → WasMet cs new met
  was_met (inl a) = record { cause = a.gains.2.cause; written = a.gains.2.written; footprint = a.footprint }
  was_met (inr s) = all_has (WasMet cs new) s.1.met met s.1.conflicts s.2

  pub opened_by : RunsInto cs old new met → new.known.home.setting ≡ Some new.given
  opened_by (inl a) = a.later.stands.setting
  opened_by (inr s) = s.1.later.stands.setting

-- of one library
pub same_given : (one by : Member) → one.known.home.setting ≡ Some one.given → by.known.home.setting ≡ Some by.given
    → one.known.home ≡ by.known.home → one.given ≡ by.given
same_given one by p q home =
    let e : Some one.given ≡ Some by.given = sym p ∙ (ap (λ h. h.setting) home ∙ q) in cc

module _ (ones others : List Command) (number : ℕ) (met : Met) (by : Member) (seen : Seen Note)
    (m : AreMet ones others number met by seen) where
  given_is : m.one.given ≡ by.given
  given_is =
      same_given m.one by (opened ones m.one_before m.one number m.replies m.committed) (opened_by others m.before by met m.conflicted)
      m.home

  base_is : m.one.known.home.base ≡ by.known.home.base
  base_is = ap (λ h. h.base) m.home

  wrote_here : WritesWithin by.given by.known.home.base seen number ones
  wrote_here =
      subst (λ (g : Given). WritesWithin g by.known.home.base seen number ones) given_is
      (subst (λ (base : List ℕ). WritesWithin m.one.given base seen number ones) base_is
      (wrote ones m.one_before m.one number m.replies m.committed seen
      (subst (λ (g : Given). IsLaterHistory g m.one.known.home.base m.one.known.seen seen) (sym given_is)
      (subst (λ (base : List ℕ). IsLaterHistory by.given base m.one.known.seen seen) (sym base_is) m.one_later))))

  was : WasMet others by met
  was = was_met others m.before by met m.conflicted

  found : IsVersionOf seen.history met.cell (met.word / 2)
  found = WasWritten-kept by.known.seen.history seen.history met.cell (met.word / 2) m.later.grows.0 was.written

  pub meets : met.word / 2 ≡ number
      → (i : ℕ) × (number ≡ suc i) × MayWriteAfter by.given by.known.home.base seen i ones met.cell
      × MayReadAfter by.given by.known.home.base seen met.place others met.cell
  meets is = of found
    where
      of : IsVersionOf seen.history met.cell (met.word / 2)
          → (i : ℕ) × (number ≡ suc i) × MayWriteAfter by.given by.known.home.base seen i ones met.cell
          × MayReadAfter by.given by.known.home.base seen met.place others met.cell
      of (inl none) = let some = numbered ones m.one_before m.one number m.replies m.committed in absurd (omega (arith, none, is, some))
      of (inr (i, v, at, did)) =
          let own : number ≡ suc i = sym is ∙ at in
          (i, own, wrote_here i met.cell v own did, was.footprint seen m.later)

pub conflicts_meet : ConflictsMeet
conflicts_meet ones others number met by seen m is = meets ones others number met by seen m is

pub apart_is_no_cause : ApartIsNoCause
apart_is_no_cause ones others number met by seen m apart is =
    let both = meets ones others number met by seen m is in apart both.0 met.place met.cell both.2 both.3
