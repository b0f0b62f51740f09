-- A cell that one transaction locks, and in which another meets its conflict.
use Rattle.std.proofs.Common.{◌≡◌, ℕ, List, Some, inl, inr, sym, ap, subst, ◌∙◌}
use Rattle.std.proofs.lemmas.List.{append_cancel_right}
use Rattle.library.specs.declared.command.Command.{Command}
use Rattle.ranges.specs.Ranges.{Has}
use Rattle.tlwords.specs.Seen.{Seen}
use Rattle.lawful.specs.declared.notes.Given.{Given}
use Rattle.lawful.specs.declared.notes.Note.{Note}
use Rattle.transaction.specs.Meeting.{Met}
use Rattle.transaction.specs.declared.outcome.Outcome.{Outcome}
use Rattle.transaction.specs.Members.{Member}
use Rattle.transaction.specs.Footprints.{IsLaterHistory, MayWriteAfter, MayReadAfter}
use Rattle.transaction.specs.Locks.{LocksWithin}
use Rattle.contention.specs.Laws.{HasTried, AreBeside, LocksMeet, ApartLocksNone}
use Rattle.contention.proofs.Meeting.{same_given, was_met, opened_by}

module _ (cs : List Command) (old new : Member) (o : Outcome) where
  opened : HasTried cs old new o → new.known.home.setting ≡ Some new.given
  opened (inl a) = a.later.stands.setting
  opened (inr s) = s.later.stands.setting

  locks : HasTried cs old new o → LocksWithin new.given cs old.known new.known
  locks (inl a) = a.locks
  locks (inr s) = s.locks

module _ (ones others : List Command) (cells : List ℕ) (met : Met) (by : Member) (seen : Seen Note)
    (m : AreBeside ones others cells met by seen)
  where
    given_is : m.one.given ≡ by.given
    given_is =
        same_given m.one by (opened ones m.one_before m.one m.outcome m.ran) (opened_by others m.before by met m.conflicted) m.home

    base_is : m.one.known.home.base ≡ by.known.home.base
    base_is = ap (λ h. h.base) m.home

    own : LocksWithin m.one.given ones m.one_before.known m.one.known
    own = locks ones m.one_before m.one m.outcome m.ran

    seen_later : IsLaterHistory m.one.given m.one.known.home.base m.one.known.seen seen
    seen_later =
        subst (λ (g : Given). IsLaterHistory g m.one.known.home.base m.one.known.seen seen) (sym given_is)
        (subst (λ (base : List ℕ). IsLaterHistory by.given base m.one.known.seen seen) (sym base_is) m.one_later)

    -- the cells that are told are those that it has locked
    are_own : cells ≡ own.cells
    are_own = append_cancel_right cells own.cells m.one_before.known.locked (sym m.locked ∙ own.locked)

    may_lock : Has met.cell cells → (place : ℕ) × MayWriteAfter by.given by.known.home.base seen place ones met.cell
    may_lock has =
        let at = own.within seen seen_later met.cell (subst (Has met.cell) are_own has) in (
          at.0,
          subst (λ (g : Given). MayWriteAfter g by.known.home.base seen at.0 ones met.cell) given_is
              (subst (λ (base : List ℕ). MayWriteAfter m.one.given base seen at.0 ones met.cell) base_is at.2),
        )

    pub both_meet : Has met.cell cells
        → ((place : ℕ) × MayWriteAfter by.given by.known.home.base seen place ones met.cell)
        × MayReadAfter by.given by.known.home.base seen met.place others met.cell
    both_meet has = (may_lock has, (was_met others m.before by met m.conflicted).footprint seen m.later)

pub locks_meet : LocksMeet
locks_meet ones others cells met by seen m has = both_meet ones others cells met by seen m has

pub apart_locks_none : ApartLocksNone
apart_locks_none ones others cells met by seen m apart has =
    let both = both_meet ones others cells met by seen m has in apart (both.0).0 met.place met.cell (both.0).1 both.1
