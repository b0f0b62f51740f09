-- The end of a commit that wrote nothing.
use Rattle.std.proofs.Common.{◌≡◌, ℕ, true, false, Some, List, [], ◌∷◌, ◌++◌, length, refl, sym, ◌∙◌, subst}
use Rattle.atomic_table.specs.declared.shared.Seat.{Seat as TableSeat}
use Rattle.tlcore.specs.Seats.{Seat, reads_of}
use Rattle.ranges.specs.Pairs.{Pairs}
use Rattle.tlwords.specs.declared.log.Slot.{Slot}
use Rattle.tlwords.specs.declared.mode.Mode.{Mode}
use Rattle.tlwords.specs.declared.outcome.Outcome.TheVariants.{Read as EndsRead}
use Rattle.tlwords.specs.Terms.{Terms, Permits}
use Rattle.tlwords.specs.Seen.{Answered}
use Rattle.tlwords.specs.Views.{View}
use Rattle.tlwords.specs.Known.{Going, known_of}
use Rattle.tlwords.specs.Plays.{IsSameSeat, Recalls}
use Rattle.tlwords.specs.Runs.{IsKeptOf, IsRunOf}
use Rattle.tlwords.specs.Commits.{writes_kept, work_kept}
use Rattle.tlwords.specs.Calls.{IsLawful}
use Rattle.tlwords.specs.Committing.{Concludes}
use Rattle.tlwords.specs.Walks.{NoneWanted}
use Rattle.tlwords.proofs.Knows.{left_fits, concludes}
use Rattle.tlwords.proofs.Held.{no_writes}
use Rattle.tlwords.proofs.Turns.{unkept_of}

pub nothing_kept : (t : Seat) (slots : List Slot) → IsKeptOf t slots → NoneWanted slots true 0 (length slots) → writes_kept slots ≡ []
nothing_kept t slots k front = no_writes slots (length slots) (unkept_of t slots k 0 (length slots) front)

module _ {S N : Type 0} (terms : Terms S N) (x : N) where
  -- a run that is to write nothing is lawful so
  pub unwritten_lawful : (g : Going S N) → IsLawful terms g x → writes_kept g.slots ≡ [] → (y : S) → g.known.home.setting ≡ Some y
      → Permits terms y g.known.seen.ranges g.reads [] x
  unwritten_lawful g f e y set = subst (λ (ws : Pairs). Permits terms y g.known.seen.ranges g.reads ws x) e (f y set)

  pub answered : (mode : Mode) (slots : List Slot) (p q : TableSeat (Unit {0}) (View S N)) (count place : ℕ) → IsSameSeat p q
      → IsRunOf p.me count place false → Recalls terms (Some x) p.me q.me → writes_kept slots ≡ []
      → Concludes terms x mode place slots count p q (EndsRead place)
  answered mode slots p q count place same fits t e =
      let v : View S N = p.me.0 in
      let is : q.me.0 ≡ record v { seen = q.me.0.seen; mine = v.mine ++ Answered place (work_kept v.seat slots x) ∷ [] } =
      t.is x refl ∙ (λ j. let w : View S N = record v {
        seen = q.me.0.seen;
        mine = v.mine ++ Answered (fits.5 j) (record { reads = reads_of v.seat.reads; writes = sym e j; note = x }) ∷ [];
      } in w) in
      concludes terms mode slots x p q same count place count fits t.sees v.seat v.note v.drawn
      (v.mine ++ Answered place (work_kept v.seat slots x) ∷ []) is (left_fits terms p.me count place false fits).1 fits.3 fits.4
      (EndsRead place)
      (λ knows. (e, refl, record { grows = t.sees.own; knows = knows; is = λ j. known_of (same.0 j) (is j) }))
