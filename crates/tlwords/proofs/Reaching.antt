-- Worlds that follow one another by lawful events.
use Rattle.std.proofs.Common.{List, ℕ}
use Rattle.tlcore.specs.History.{Grows}
use Rattle.tlcore.specs.Machine.{World}
use Rattle.tlcore.specs.declared.actions.Action.{Action}
use Rattle.tlcore.specs.Invariant.{Invariant}
use Rattle.tlcore.specs.Laws.{Leads}
use Rattle.tlcore.proofs.Growth.{Grows-refl}
use Rattle.tlwords.specs.Rule.{Reached, by_step}

-- v keeps the invariant, the history of w grows into that of v, and v is reached where w is
pub record Follows (o : List ℕ) (w v : World) : Type 0 where
  pub invariant : Invariant o v
  pub grows : Grows w.history v.history
  pub reached : Reached o w → Reached o v

-- by an event
pub by_event : {o : List ℕ} {w v : World} {s : ℕ} {a : Action} → Leads o w s a v → Follows o w v
by_event {s = s} {a} l =
    record { invariant = l.keeps.invariant; grows = l.keeps.grows; reached = λ r. by_step s a r l.lawful }

-- by none
pub by_none : (o : List ℕ) (w : World) → Invariant o w → Follows o w w
by_none o w I = record { invariant = I; grows = Grows-refl w.history; reached = λ r. r }
