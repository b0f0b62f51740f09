-- A source with edits that was looked at.
use Rattle.std.proofs.Common.{ℕ, Bool, List, map, subst}
use Rattle.std.specs.Prelude.{All, IsTrue}
use Rattle.source.specs.Scopes.{Scope}
use Rattle.source.specs.Sources.{DeclaresText}
use Rattle.taking.specs.Reasons.{Choice}
use Rattle.giving.specs.Staying.{Change, others}
use Rattle.checking.specs.Checks.{LeadsTo}
use Rattle.intake.specs.declared.taken.Taken.{Taken}
use Rattle.library.specs.declared.history.Entry.{Entry}
use Rattle.library.specs.Library.{Listed}
use Rattle.comments.specs.Kept.{AreKept}
use Rattle.sourceediting.specs.Following.{all_commands, changes_of, label_then}
use Rattle.sourceediting.specs.Following.{names_none}
use Rattle.sourceediting.specs.Reproved.{AreOtherProofs}
use Rattle.sourceediting.specs.Written.{IsWrittenAnew}
use Rattle.secondlook.specs.Looked.{IsLookedAt}
use Rattle.givetext.specs.Parts.{IsEdited}
use Rattle.givetext.specs.Given.{IsTakenText, IsGiven, edition}
use Rattle.givetext.specs.Drafts.{IsDraft}
use Rattle.givetext.specs.declared.drafting.Draft.{Draft}
use Rattle.sourceediting.specs.Views.{seen_following}

-- a draft that was looked at
pub edited_by : (source : List ℕ) (old : Scope) (choice : Choice) (taken : Taken) (entries : List Entry) (edited : Listed) (d : Draft)
    → IsDraft source old choice taken entries edited d → AreKept d.changes (seen_following d.following).gone source d.text.items
    → IsLookedAt old d.text.items d.changes d.own.items (map label_then (seen_following d.following).living) edited
    → IsEdited source old choice taken entries edited d.text.items
edited_by source old choice taken entries edited d is kept looked =
    let out = d.text.items in
    let followed = seen_following d.following in
    let then = map label_then followed.living in
    let known = is.followed in
    record {
      followed = followed;
      follows = known.follows;
      uncited =
          subst (λ (fs : List Bool). All (λ x. IsTrue (names_none followed.gone x.proof)) (others fs old.assertions)) known.own_are
          is.uncited;
      written =
          subst (λ (cs : List Change). IsWrittenAnew (all_commands entries) followed.living followed.gone
          (AreOtherProofs source old (edition taken edited) followed.living)
          cs source out) known.changes_are
          is.written;
      comments = subst (λ (cs : List Change). AreKept cs followed.gone source out) known.changes_are kept;
      looked =
          subst (λ (fs : List Bool). IsLookedAt old out (changes_of followed) fs then edited) known.own_are
          (subst (λ (cs : List Change). IsLookedAt old out cs d.own.items then edited) known.changes_are looked);
    }

pub given_by : (source library history out : List ℕ) (old : Scope) (taken : Taken) (entries : List Entry) (edited : Listed)
    → DeclaresText source old → (was : IsTakenText source old library taken) → LeadsTo library history entries edited
    → IsEdited source old was.taken.taken.choice taken entries edited out → IsGiven source library history out
given_by source library history out old taken entries edited declares was leads e = record {
  old = old;
  declares = declares;
  taken = taken;
  was_taken = was;
  entries = entries;
  edited = edited;
  leads = leads;
  followed = e.followed;
  follows = e.follows;
  new = e.looked.new;
  declares_now = e.looked.declares;
  choice = e.looked.choice;
  axioms = e.looked.axioms;
  again = e.looked.again;
  stays = e.looked.stays;
  uncited = e.uncited;
  written = e.written;
  comments = e.comments;
}
