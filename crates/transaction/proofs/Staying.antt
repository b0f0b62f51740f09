-- A session whose pass is a later one, and drew no number.
use Rattle.std.proofs.Common.{◌≡◌, ◌≤◌, Bool, List, Option, Some, refl, sym, subst, ◌∙◌}
use Rattle.cells.specs.State.{most_words}
use Rattle.tlwords.specs.Known.{WordsHome}
use Rattle.lawful.specs.declared.notes.Given.{Given}
use Rattle.lawful.specs.Laws.{IsPassOn}
use Rattle.bodystore.specs.Stages.{Staged}
use Rattle.lending.specs.Lent.{Pass, Carried}
use Rattle.transaction.specs.declared.outcome.Record.{Record}
use Rattle.transaction.specs.Members.{Member, IsMember, IsLater}
use Rattle.transaction.specs.Kits.{known_in, staged_in, lacked_in}
use Rattle.transaction.specs.Tries.{IsLaterPass}
use Rattle.transaction.proofs.Standing.{stands}
use Rattle.transaction.proofs.Recorded.{records_grow}

-- a session as its code holds it
abbrev pub session_with : Given → List Record → Option Carried → Member
session_with given records kit =
    record { given = given; known = known_in kit; records = records; staged = staged_in kit; lacked_room = lacked_in kit }

pub pass_on : (g : Given) (old new : Pass) → new.home ≡ old.home → IsPassOn g old → IsPassOn g new
pass_on g old new same is = subst (λ (h : WordsHome Given). (h.setting ≡ Some g) × (h.room ≤ most_words)) (sym same) is

module _ (m : Member) (k : Pass) (s : Staged) (lacked : Bool) (is : IsMember m) (later : IsLaterPass m.known k)
    (none : k.drawn ≡ m.known.drawn) where
  pub still_member : IsMember (record m { known = k; staged = s; lacked_room = lacked })
  still_member = record {
    on = pass_on m.given m.known k later.home is.on;
    knows = later.knows;
    recorded = record {
      numbers = is.recorded.numbers ∙ sym none;
      entries = records_grow m.known.seen k.seen m.records later.grows is.recorded.entries;
    };
    exceeds = later.exceeds is.exceeds;
  }

  pub goes_on : IsLater m (record m { known = k; staged = s; lacked_room = lacked })
  goes_on = record {
    given = refl;
    home = later.home;
    name = later.name;
    grows = later.grows;
    full = later.full;
    stands = stands (record m { known = k; staged = s; lacked_room = lacked }) still_member;
  }
