-- From what single functions tell to why edits are not given back.
use Rattle.std.proofs.Common.{◌≡◌, ℕ, Bool, List, inl, inr, sym, subst}
use Rattle.std.specs.Prelude.{◌≢◌}
use Rattle.source.specs.Scopes.{Scope}
use Rattle.source.specs.Sources.{DeclaresText}
use Rattle.taking.specs.Reasons.{Choice}
use Rattle.giving.specs.Staying.{Change}
use Rattle.library.specs.declared.history.Entry.{Entry}
use Rattle.library.specs.Library.{Listed}
use Rattle.checking.specs.Checks.{LeadsTo}
use Rattle.intake.specs.declared.taken.Taken.{Taken}
use Rattle.intake.specs.Intakes.{axioms_of}
use Rattle.sourceediting.specs.Following.{Following, all_commands, behind_all, opening, changes_of, own_flags}
use Rattle.sourceediting.specs.Refusals.{IsCitedCause, HasCause, IsUnwritten, OnUnwritten}
use Rattle.sourceediting.specs.declared.refusal.Refusal.{Refusal as Unwritten}
use Rattle.sourceediting.specs.declared.refusal.Refusal.TheVariants as edits
use Rattle.givetext.specs.Causes.{Known, known_of, IsKnown, IsJustified, IsRefused, IsTextThen, others_of, edited_assertions}
use Rattle.givetext.specs.Given.{IsTakenText, edition}
use Rattle.givetext.specs.Drafts.{IsDraft, known_in}
use Rattle.givetext.specs.declared.drafting.Draft.{Draft}
use Rattle.sourceediting.specs.Views.{seen_following}
use Rattle.choosing.specs.declared.wish.Wish.{Wish}
use Rattle.taketext.specs.Origins.{Tells}
use Rattle.givetext.specs.Parts.{IsEditsRefusal, IsStopped, IsSourceRefusal, IsTakingRefusal, IsUntakenBy, IsReplayRefusal, IsLoss}
use Rattle.givetext.specs.declared.refusal.Refusal.{Refusal}
use Rattle.givetext.specs.declared.refusal.Refusal.TheVariants as refusal

-- ---- edits that can't be written

module _ (k : Known) (source : List ℕ) where
  pub cited_cause : (e : Unwritten) → IsCitedCause k.followed.gone (others_of k) e → IsJustified k source (refusal.Edits e)
  cited_cause (edits.StillCited label by) h = h
  cited_cause (edits.InFront label next name) h = absurd h
  cited_cause (edits.Unwritten label) h = absurd h
  cited_cause (edits.Unplaced label next side) h = absurd h
  cited_cause edits.Bare h = absurd h
  cited_cause edits.NoMemory h = tt

  pub edits_cause : (e : Unwritten) → HasCause k.followed.living (edited_assertions k) source e
      → OnUnwritten (IsUnwritten k.old (edition k.taken k.edited) k.followed.living k.changes (all_commands k.entries)) e
      → IsJustified k source (refusal.Edits e)
  edits_cause (edits.StillCited label by) h unwritten = absurd h
  edits_cause (edits.InFront label next name) h unwritten = h
  edits_cause (edits.Unwritten label) h unwritten = (h, unwritten)
  edits_cause (edits.Unplaced label next side) h unwritten = h
  edits_cause edits.Bare h unwritten = h
  edits_cause edits.NoMemory h unwritten = h

  pub told_cause : (e : Unwritten) (why : Refusal) → IsEditsRefusal e why → IsJustified k source (refusal.Edits e)
      → IsJustified k source why
  told_cause e why (inl none) h = subst (IsJustified k source) (sym none) tt
  told_cause e why (inr is) h = subst (IsJustified k source) (sym is) h

  pub lost_cause : (out : List ℕ) (why : Refusal) → IsTextThen k source out → IsLoss k.changes k.followed.gone source out why
      → IsJustified k source why
  lost_cause out refusal.CommentLost written h = (out, written, h)
  lost_cause out refusal.NoMemory written h = tt
  lost_cause out _ written h = absurd h

-- ---- a history that was done again

module _ (source : List ℕ) (old : Scope) (choice : Choice) (taken : Taken) (entries : List Entry) (edited : Listed)
    (followed : Following) (changes : List Change) (own : List Bool)
    (follows : followed ≡ behind_all (all_commands entries) (opening old choice taken.database))
    (changed : changes ≡ changes_of followed) (flags : own ≡ own_flags choice (axioms_of taken) old) where
  pub stopped : (why : Refusal) → IsJustified (known_of old taken entries edited followed changes own) source why
      → IsStopped source old choice taken entries edited why
  stopped why cause = record {
    followed = followed;
    changes = changes;
    own = own;
    is_followed = record { follows = follows; changes_are = changed; own_are = flags };
    cause = cause;
  }

-- of a draft
pub draft_stopped : (source : List ℕ) (old : Scope) (choice : Choice) (taken : Taken) (entries : List Entry) (edited : Listed) (d : Draft)
    → IsDraft source old choice taken entries edited d → (why : Refusal)
    → IsJustified (known_in old taken entries edited d) source why → IsStopped source old choice taken entries edited why
draft_stopped source old choice taken entries edited d is why cause = record {
  followed = seen_following d.following;
  changes = d.changes;
  own = d.own.items;
  is_followed = is.followed;
  cause = cause;
}

-- ---- another library

pub untaken_refused : (source : List ℕ) (s : Scope) (library path : List ℕ) (w : Wish) → Tells library path w → (why : Refusal)
    → IsUntakenBy s w why → IsTakingRefusal source s library why
untaken_refused source s library path w tells refusal.NotTaken h = inr (path, w, tells, inl h)
untaken_refused source s library path w tells refusal.NoMemory h = tt
untaken_refused source s library path w tells _ h = absurd h

-- ---- all

module _ (source library history : List ℕ) where
  pub source_refused : (why : Refusal) → IsSourceRefusal source why → IsRefused source library history why
  source_refused (refusal.Source fault) h = h
  source_refused refusal.NoMemory h = tt
  source_refused _ h = absurd h

  module _ (old : Scope) (declares : DeclaresText source old) where
    pub taking_refused : (why : Refusal) → IsTakingRefusal source old library why → IsRefused source library history why
    taking_refused refusal.NotTaken h = (old, declares, h)
    taking_refused refusal.NoMemory h = tt
    taking_refused _ h = absurd h

    module _ (taken : Taken) (was : IsTakenText source old library taken) where
      pub replay_refused : (why : Refusal) → IsReplayRefusal library history why → IsRefused source library history why
      replay_refused (refusal.Replay fault) h = (old, taken, declares, was, h)
      replay_refused refusal.NoMemory h = tt
      replay_refused _ h = absurd h

      module _ (entries : List Entry) (edited : Listed) (leads : LeadsTo library history entries edited) where
        abbrev Stopped : Refusal → Type 0
        Stopped why = why ≢ refusal.NoMemory → IsStopped source old was.taken.taken.choice taken entries edited why

        behind : (why : Refusal) → IsStopped source old was.taken.taken.choice taken entries edited why
            → (k : Known) × IsKnown source library history k × IsJustified k source why
        behind why s = (
          known_of old taken entries edited s.followed s.changes s.own,
          record { declares = declares; was_taken = was; leads = leads; followed = s.is_followed },
          s.cause,
        )

        pub stopped_refused : (why : Refusal) → Stopped why → IsRefused source library history why
        stopped_refused (refusal.Source fault) h = absurd (h (λ e. cc)).cause
        stopped_refused refusal.NotTaken h = absurd (h (λ e. cc)).cause
        stopped_refused (refusal.Replay fault) h = absurd (h (λ e. cc)).cause
        stopped_refused (refusal.NameTaken label) h = behind (refusal.NameTaken label) (h (λ e. cc))
        stopped_refused (refusal.Edits why) h = behind (refusal.Edits why) (h (λ e. cc))
        stopped_refused (refusal.StandsBehind label by) h = behind (refusal.StandsBehind label by) (h (λ e. cc))
        stopped_refused (refusal.Unread fault) h = behind (refusal.Unread fault) (h (λ e. cc))
        stopped_refused (refusal.Changes label) h = behind (refusal.Changes label) (h (λ e. cc))
        stopped_refused refusal.AnotherAssertion h = behind refusal.AnotherAssertion (h (λ e. cc))
        stopped_refused refusal.Untaken h = behind refusal.Untaken (h (λ e. cc))
        stopped_refused refusal.AnotherLibrary h = behind refusal.AnotherLibrary (h (λ e. cc))
        stopped_refused refusal.CommentLost h = behind refusal.CommentLost (h (λ e. cc))
        stopped_refused refusal.NoMemory h = tt
