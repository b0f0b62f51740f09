-- The entries of the history of commands and replies, and how it grows with what was seen.
use Rattle.std.proofs.Common.{◌≡◌, ◌≢◌, ℕ, zero, suc, List, [], ◌∷◌, length, Option, Some, None, refl, sym, ap, ◌∙◌, arith}
use Rattle.std.specs.Prelude.{slice_get}
use Rattle.std.proofs.lemmas.Option.{slice_get_within}
use Rattle.library.specs.declared.command.Command.{Command}
use Rattle.library.specs.declared.command.Reply.{Reply}
use Rattle.library.specs.Histories.{open_entry, done_entry}
use Rattle.tlcore.specs.History.{WordsEntry}
pub use Rattle.tlcore.proofs.Growth.{get_exists as at_index}
use Rattle.tlcore.specs.declared.entries.Status.{Status}
use Rattle.tlcore.specs.declared.entries.Status.TheVariants as status
use Rattle.tlwords.specs.Seen.{Seen, Work, IsDone}
use Rattle.lawful.specs.declared.notes.Note.{Note}
use Rattle.lawful.specs.declared.notes.Note.TheVariants.{Done, Refused, Looked}
use Rattle.lawful.specs.History.{entry_of, entries_of, history_of}
use Rattle.lawful.specs.Laws.{HistoriesGrow}

-- ---- the entries

pub length-entries_of : (es : List WordsEntry) (notes : List Note) → length (entries_of es notes) ≡ length es
length-entries_of [] notes = refl
length-entries_of (e ∷ es) [] = ap suc (length-entries_of es [])
length-entries_of (e ∷ es) (note ∷ notes) = ap suc (length-entries_of es notes)

pub entry_at : (es : List WordsEntry) (notes : List Note) (i : ℕ) (e : WordsEntry) → slice_get es i ≡ Some e
    → slice_get (entries_of es notes) i ≡ Some (entry_of e.status (slice_get notes i))
entry_at [] notes i e at = cc
entry_at (x ∷ es) [] zero e at = let same : x ≡ e = cc in ap (λ (z : WordsEntry). Some (entry_of z.status None)) same
entry_at (x ∷ es) [] (suc i) e at = entry_at es [] i e at
entry_at (x ∷ es) (n ∷ notes) zero e at = let same : x ≡ e = cc in ap (λ (z : WordsEntry). Some (entry_of z.status (Some n))) same
entry_at (x ∷ es) (n ∷ notes) (suc i) e at = entry_at es notes i e at

-- the note says that these commands are done, with these replies
abbrev pub HasDone : Note → List Command → List Reply → Type 0
HasDone (Done commands said) cs replies = (commands.value ≡ cs) × (said.value ≡ replies)
HasDone _ cs replies = ⊥

done_parts : (s : Status) (n : Option Note) (cs : List Command) (replies : List Reply) → entry_of s n ≡ done_entry cs replies
    → (s ≡ status.Done) × (note : Note) × (n ≡ Some note) × HasDone note cs replies
done_parts status.Open n cs replies is = cc
done_parts status.Void n cs replies is = cc
done_parts status.Done None cs replies is = cc
done_parts status.Done (Some (Done commands said)) cs replies is = (refl, Done commands said, refl, (cc, cc))
done_parts status.Done (Some (Refused commands refused)) cs replies is = cc
done_parts status.Done (Some (Looked library)) cs replies is = cc

-- a done entry is that of a Done entry of the words, whose note has its commands and replies
pub of_done : (seen : Seen Note) (i : ℕ) (cs : List Command) (replies : List Reply)
    → slice_get (history_of seen) i ≡ Some (done_entry cs replies) → (w : Work Note) × IsDone seen i w × HasDone w.note cs replies
of_done seen i cs replies at =
    let size = length-entries_of seen.history seen.notes in
    let within = slice_get_within (history_of seen) i _ at in
    let e = at_index seen.history i (omega (arith, size, within)) in
    let here = entry_at seen.history seen.notes i e.0 e.1 in
    let parts = done_parts e.0.status (slice_get seen.notes i) cs replies cc in (
      record { reads = e.0.reads; writes = e.0.writes; note = parts.1 },
      record { entry = e.0; here = e.1; done = parts.0; reads = refl; writes = refl; note = parts.2 },
      parts.3,
    )

-- ---- growth

-- a settled entry stays, with its note where it is Done
settled_stays : (s t : Status) (n m : Option Note) → (s ≢ status.Open → t ≡ s) → ((k : Note) → n ≡ Some k → m ≡ Some k)
    → entry_of s n ≢ open_entry → entry_of t m ≡ entry_of s n
settled_stays status.Open t n m stays noted settled = absurd (settled refl)
settled_stays status.Void t n m stays noted settled = ap (λ z. entry_of z m) (stays (λ z. cc))
settled_stays status.Done t None m stays noted settled = absurd (settled refl)
settled_stays status.Done t (Some k) m stays noted settled =
    ap (λ z. entry_of z m) (stays (λ z. cc)) ∙ ap (λ z. entry_of status.Done z) (noted k refl)

pub histories_grow : HistoriesGrow
histories_grow f h grows = record {
  longer =
      let few = length-entries_of f.history f.notes in
      let many = length-entries_of h.history h.notes in
      let longer = grows.0.0 in
      omega arith;
  kept = λ i e at settled.
      let size = length-entries_of f.history f.notes in
      let within = slice_get_within (history_of f) i e at in
      let old = at_index f.history i (omega arith) in
      let new = grows.0.1 i old.0 old.1 in
      let before = entry_at f.history f.notes i old.0 old.1 in
      let now = entry_at h.history h.notes i new.0 new.1 in
      let is : e ≡ entry_of old.0.status (slice_get f.notes i) = cc in
      now ∙ ap (λ z. Some z) (settled_stays old.0.status new.0.status (slice_get f.notes i) (slice_get h.notes i)
      (new.2.2) (λ k noted. grows.1 i k noted) (λ z. settled (is ∙ z)) ∙ sym is);
}
