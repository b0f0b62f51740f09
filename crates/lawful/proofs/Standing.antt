-- What was seen of words that hold a library is a history of it, which the calls agree with.
use Rattle.std.proofs.Common.{◌≡◌, ◌≢◌, ℕ, zero, suc, ◌+◌, ◌≤◌, List, [], ◌∷◌, length, get_or, Option, Some, None, Ok, refl, sym, ap}
use Rattle.std.proofs.Common.{subst, ◌∙◌, arith}
use Rattle.std.specs.Prelude.{slice_get, slice_index, All}
use Rattle.std.proofs.lemmas.Option.{slice_get-get_or, slice_get_within, get_or_from_slice_get}
use Rattle.std.proofs.lemmas.List.Elements.{All-nil, All-cons}
use Rattle.library.specs.declared.library.Ranked.{Ranked}
use Rattle.library.specs.declared.command.Command.{Command}
use Rattle.library.specs.declared.command.Reply.{Reply}
use Rattle.library.specs.Library.{Setting, Verifies}
use Rattle.library.specs.Transactions.{apply, library_of, HasReplies}
use Rattle.library.specs.Fitting.{CommandFits}
use Rattle.library.specs.Histories.{Entry, open_entry, void_entry, done_entry, EntryFits, EntriesFit, after_front, after_entry, IsLegal}
use Rattle.librarylaws.proofs.Fronts.{fronts_verify}
use Rattle.librarylaws.proofs.Leaving.{apply_leaves}
use Rattle.librarylaws.proofs.Legal.{after-more}
use Rattle.tlcore.specs.History.{WordsEntry, One, deed, deed_in, deed_of, value_after, value_over}
use Rattle.ranges.specs.Pairs.{written}
use Rattle.tlcore.specs.declared.entries.Status.{Status}
use Rattle.tlcore.specs.declared.entries.Status.TheVariants as status
use Rattle.tlwords.specs.Seen.{Seen, Work, Call, Committed, Answered, IsDone, Legal, Agree, CallAgrees as WordsAgree}
use Rattle.tlwords.specs.Terms.{Permits, Opened}
use Rattle.ranges.specs.Pairs.{Pairs}
use Rattle.ranges.specs.Ranges.{Range, AreOfOneStore}
use Rattle.cells.specs.State.{State, FitsReads, with_writes, value_or, most_words}
use Rattle.cells.specs.Shows.{Shows}
use Rattle.cells.specs.Sight.{Suits}
use Rattle.lawful.specs.declared.notes.Given.{Given}
use Rattle.lawful.specs.declared.notes.Note.{Note}
use Rattle.lawful.specs.declared.notes.Note.TheVariants.{Done, Refused, Looked}
use Rattle.lawful.specs.Lawful.{setting_given, first_library, state_of, sight_over, library_terms}
use Rattle.lawful.specs.History.{entry_of, history_of, library_after, state_after, IsHistoryOf, CommitAgrees, AnswerAgrees, NoteAgrees}
use Rattle.lawful.specs.History.{AllAgree}
use Rattle.lawful.specs.Laws.{SessionsStand, OtherCallsAgree, RunsSuit}
use Rattle.lawful.proofs.Entries.{at_index, length-entries_of, entry_at, HasDone, of_done}
use Rattle.lawful.proofs.Keeping.{shown_is_kept}

-- ---- values of cells

-- what an entry that isn't Done does to a cell
open_over : (w : Option ℕ) (v : ℕ) → value_over (deed_of status.Open w) v ≡ v
open_over None v = refl
open_over (Some x) v = refl

void_over : (w : Option ℕ) (v : ℕ) → value_over (deed_of status.Void w) v ≡ v
void_over None v = refl
void_over (Some x) v = refl

-- and what a Done one does
done_over : (w : Option ℕ) (v : ℕ) → value_over (deed_of status.Done w) v ≡ value_or w v
done_over None v = refl
done_over (Some x) v = refl

pub one_fits : (base : List ℕ) (seen : Seen Note) (k : ℕ) (reads : Pairs) → One base seen.history k reads
    → FitsReads (state_after base seen k) reads
one_fits base seen k [] one = tt
one_fits base seen k (r ∷ reads) one = (one.0.0, one_fits base seen k reads one.1)

-- the library after one more entry
after_next : (s : Setting) (lib : List Ranked) (h : List Entry) (k : ℕ) (e : Entry) → slice_get h k ≡ Some e
    → after_front s lib h (suc k) ≡ after_entry s (after_front s lib h k) e
after_next s lib h k e at =
    let more : suc k ≡ k + 1 = omega arith in
    ap (λ n. after_front s lib h n) more ∙ after-more s lib h k e (slice_get_within h k e at) (sym (get_or_from_slice_get h k e e at))

module _ (g : Given) (base : List ℕ) (seen : Seen Note) (legal : Legal library_terms g base seen)
    (noted : length seen.notes ≡ length seen.history) (opened : Opened library_terms g seen.ranges base)
    (store : AreOfOneStore most_words seen.ranges) where
  abbrev h : List Entry
  h = history_of seen

  abbrev s : Setting
  s = setting_given g

  abbrev lib_at : ℕ → List Ranked
  lib_at = library_after g seen

  abbrev st_at : ℕ → State
  st_at = state_after base seen

  -- ---- commands are within the limits, so each front verifies

  note_fits : (reads writes : Pairs) (note : Note) (cs : List Command) (replies : List Reply)
      → Permits library_terms g seen.ranges reads writes note → HasDone note cs replies → All (CommandFits s.prelude) cs
  note_fits reads writes (Done commands said) cs replies p has = subst (All (CommandFits s.prelude)) has.0 p.lawful.0
  note_fits reads writes (Refused commands refused) cs replies p has = absurd has
  note_fits reads writes (Looked library) cs replies p has = absurd has

  entry_fits : (i : ℕ) (e : Entry) → slice_get h i ≡ Some e → EntryFits s.prelude e
  entry_fits i open_entry at = tt
  entry_fits i void_entry at = tt
  entry_fits i (done_entry cs replies) at =
      let d = of_done seen i cs replies at in
      note_fits d.0.reads d.0.writes d.0.note cs replies (legal i d.0 d.1).0 d.2

  fit : EntriesFit s.prelude h
  fit i d lt = entry_fits i (get_or h i d) (slice_get-get_or h i d lt)

  verify : (k : ℕ) → Verifies s (lib_at k)
  verify k = fronts_verify s (first_library g) h k opened.opens.verifies fit

  -- ---- the cells show the library after each front

  abbrev IsShown : ℕ → Type 0
  IsShown k = Shows g.slots (st_at k) (lib_at k)

  -- what was one version after k entries suits the cells there
  suits : (k : ℕ) (reads writes : Pairs) (note : Note) (p : Permits library_terms g seen.ranges reads writes note)
      → One base seen.history k reads → IsShown k
      → Suits (sight_over g p.some reads writes) (st_at k) (lib_at k)
  suits k reads writes note p one shown =
      record {
        matches = record { store = store; has = p.among; reads = one_fits base seen k reads one };
        shows = shown;
        verifies = verify k;
      }

  first : IsShown zero
  first = shown_is_kept g.slots (state_of base opened.some) (st_at zero) (first_library g) (λ c lt. refl) opened.among opened.opens.shows

  -- a Done entry has a note that says so, and does to the library what it says
  abbrev Does : ℕ → Pairs → Note → Type 0
  Does k writes (Done commands replies) = (next : List Ranked)
      × (apply s (lib_at k) commands.value ≡ Ok (record { library = next; replies = replies.value }))
      × Shows g.slots (with_writes (st_at k) writes) next
  Does k writes _ = ⊥

  does : (k : ℕ) (reads writes : Pairs) (note : Note) → Permits library_terms g seen.ranges reads writes note → (writes ≡ [] → ⊥)
      → One base seen.history k reads → IsShown k → Does k writes note
  does k reads writes (Done commands replies) p some one shown =
      let d = p.lawful.2 _ _ (suits k reads writes (Done commands replies) p one shown) in (d.next, d.applied, d.shows)
  does k reads writes (Refused commands refused) p some one shown = some p.lawful.1
  does k reads writes (Looked library) p some one shown = some p.lawful.1

  done_does : (k : ℕ) (w : Work Note) → IsDone seen k w → IsShown k → Does k w.writes w.note
  done_does k w is shown = let l = legal k w is in does k w.reads w.writes w.note l.0 l.1 l.2 shown

  module _ (k : ℕ) (e : WordsEntry) (note : Note) (here : slice_get seen.history k ≡ Some e)
      (named : slice_get seen.notes k ≡ Some note) where
    value_next : (t : Status) → e.status ≡ t → (c : ℕ)
        → value_after (deed seen.history c) (slice_index base c) (suc k) ≡ value_over (deed_of t (written c e.writes)) ((st_at k).value c)
    value_next t is c =
        ap (λ d. value_over (deed_in c d) ((st_at k).value c)) here
        ∙ ap (λ z. value_over (deed_of z (written c e.writes)) ((st_at k).value c)) is

    library_next : (t : Status) → e.status ≡ t → (n : Note) → note ≡ n → lib_at (suc k) ≡ after_entry s (lib_at k) (entry_of t (Some n))
    library_next t is n same =
        after_next s (first_library g) h k _ (entry_at seen.history seen.notes k e here)
        ∙ ap (λ z. after_entry s (lib_at k) (entry_of z (slice_get seen.notes k))) is
        ∙ ap (λ z. after_entry s (lib_at k) (entry_of t z)) (named ∙ ap (λ z. Some z) same)

    same_shown : (new : ℕ → ℕ) (lib : List Ranked) → ((c : ℕ) → (st_at (suc k)).value c ≡ new c) → lib_at (suc k) ≡ lib
        → Shows g.slots (record { value = new; ranges = seen.ranges }) lib → IsShown (suc k)
    same_shown new lib values library shown =
        let state : st_at (suc k) ≡ record { value = new; ranges = seen.ranges } =
        λ i. record { value = λ c. values c i; ranges = seen.ranges } in
        subst (λ z. Shows g.slots (st_at (suc k)) z) (sym library) (subst (λ z. Shows g.slots z lib) (sym state) shown)

    done_next : (n : Note) → note ≡ n → e.status ≡ status.Done → Does k e.writes n → IsShown (suc k)
    done_next (Done commands replies) same is d =
        same_shown (with_writes (st_at k) e.writes).value d.0
        (λ c. value_next status.Done is c ∙ done_over (written c e.writes) ((st_at k).value c))
        (library_next status.Done is (Done commands replies) same ∙ ap (library_of (lib_at k)) d.1)
        d.2
    done_next (Refused commands refused) same is d = absurd d
    done_next (Looked library) same is d = absurd d

    show_next : (t : Status) → e.status ≡ t → IsShown k → IsShown (suc k)
    show_next status.Open is shown =
        same_shown _ _ (λ c. value_next status.Open is c ∙ open_over (written c e.writes) _) (library_next status.Open is note refl) shown
    show_next status.Void is shown =
        same_shown _ _ (λ c. value_next status.Void is c ∙ void_over (written c e.writes) _) (library_next status.Void is note refl) shown
    show_next status.Done is shown =
        done_next note refl is
        (done_does k (record { reads = e.reads; writes = e.writes; note = note })
        (record { entry = e; here = here; done = is; reads = refl; writes = refl; note = named }) shown)

  pub show : (k : ℕ) → k ≤ length seen.history → IsShown k
  show zero le = first
  show (suc k) le =
      let size = noted in
      let e = at_index seen.history k (omega arith) in
      let note = at_index seen.notes k (omega (arith, size, le)) in
      show_next k e.0 note.0 e.1 note.1 e.0.status refl (show k (omega arith))

  -- ---- the history is legal

  said : (k : ℕ) (writes : Pairs) (note : Note) (cs : List Command) (replies : List Reply) → HasDone note cs replies → Does k writes note
      → HasReplies s (lib_at k) cs replies
  said k writes (Done commands told) cs replies has d =
      (d.0, ap (apply s (lib_at k)) (sym has.0) ∙ d.1 ∙ ap (λ z. Ok (record { library = d.0; replies = z })) has.1)
  said k writes (Refused commands refused) cs replies has d = absurd has
  said k writes (Looked library) cs replies has d = absurd has

  below : (i : ℕ) (e : Entry) → slice_get h i ≡ Some e → i ≤ length seen.history
  below i e at =
      let size = length-entries_of seen.history seen.notes in
      let within = slice_get_within h i e at in omega (arith, size, within)

  legal_history : IsLegal s (first_library g) h
  legal_history i cs replies at =
      let d = of_done seen i cs replies at in
      said i d.0.writes d.0.note cs replies d.2 (done_does i d.0 d.1 (show i (below i _ at)))

  -- ---- the calls agree

  commit_agrees : (n i : ℕ) (writes : Pairs) (note : Note) → n ≡ suc i → slice_get h i ≡ Some (entry_of status.Done (Some note))
      → Does i writes note
      → CommitAgrees g h n note
  commit_agrees n i writes (Done commands replies) is at d = (i, omega (arith, is), at)
  commit_agrees n i writes (Refused commands refused) is at d = d
  commit_agrees n i writes (Looked library) is at d = d

  committed_agrees : (n i : ℕ) (w : Work Note) → n ≡ suc i → IsDone seen i w → CommitAgrees g h n w.note
  committed_agrees n i w is d =
      let at : slice_get h i ≡ Some (entry_of status.Done (Some w.note)) =
      entry_at seen.history seen.notes i d.entry d.here
      ∙ ap (λ z. Some (entry_of z (slice_get seen.notes i))) d.done ∙ ap (λ z. Some (entry_of status.Done z)) d.note in
      commit_agrees n i w.writes w.note is at (done_does i w d (show i (below i _ at)))

  pub is_history : IsHistoryOf g base seen
  is_history =
      record {
        legal = legal_history;
        fit = fit;
        verify = verify;
        show = show;
        done = λ i w is. committed_agrees (suc i) i w refl is;
        void = λ i is. entry_at seen.history seen.notes i is.0 is.1 ∙ ap (λ z. Some (entry_of z (slice_get seen.notes i))) is.2;
        settled = λ i is at. stays_settled i is.0 is.1 is.2 is.0.status refl at;
      }
    where
      noted_open : (note : Note) (i : ℕ) (writes : Pairs) → Does i writes note → entry_of status.Done (Some note) ≡ open_entry → ⊥
      noted_open (Done commands replies) i writes d is = cc
      noted_open (Refused commands refused) i writes d is = d
      noted_open (Looked library) i writes d is = d

      stays_settled : (i : ℕ) (e : WordsEntry) → slice_get seen.history i ≡ Some e → e.status ≢ status.Open → (t : Status) → e.status ≡ t
          → slice_get h i ≡ Some open_entry → ⊥
      stays_settled i e here shut status.Open is opened_at = shut is
      stays_settled i e here shut status.Void is opened_at =
          let at = entry_at seen.history seen.notes i e here in
          let void = ap (λ z. entry_of z (slice_get seen.notes i)) is in
          cc
      stays_settled i e here shut status.Done is opened_at =
          let within = slice_get_within seen.history i e here in
          let size = noted in
          let note = at_index seen.notes i (omega (arith, size, within)) in
          let at = entry_at seen.history seen.notes i e here in
          let done = ap (λ z. entry_of z (slice_get seen.notes i)) is in
          let told = ap (entry_of status.Done) note.1 in
          let w : Work Note = record { reads = e.reads; writes = e.writes; note = note.0 } in
          let is_done : IsDone seen i w = record { entry = e; here = here; done = is; reads = refl; writes = refl; note = note.1 } in
          noted_open note.0 i e.writes (done_does i w is_done (show i (omega (arith, within)))) cc

  answer_agrees : (k : ℕ) (reads : Pairs) (note : Note) → k ≤ length h → Permits library_terms g seen.ranges reads [] note
      → One base seen.history k reads
      → IsShown k → AnswerAgrees g h k note
  answer_agrees k reads (Done commands replies) le p one shown =
      let d = p.lawful.2 _ _ (suits k reads [] (Done commands replies) p one shown) in
      let same : d.next ≡ lib_at k = apply_leaves s (lib_at k) commands.value _ (p.lawful.1 refl) d.applied in
      (le, subst (λ z. apply s (lib_at k) commands.value ≡ Ok (record { library = z; replies = replies.value })) same d.applied)
  answer_agrees k reads (Refused commands refused) le p one shown =
      (le, p.lawful.2 _ _ (suits k reads [] (Refused commands refused) p one shown))
  answer_agrees k reads (Looked library) le p one shown = (p.lawful.0, (le, p.lawful.2 _ _ (suits k reads [] (Looked library) p one shown)))

  call_agrees : (call : Call Note) → WordsAgree library_terms g base seen call → NoteAgrees g h call
  call_agrees (Committed n w) a = committed_agrees n a.0 w a.1 a.2
  call_agrees (Answered k w) a =
      let size = length-entries_of seen.history seen.notes in
      answer_agrees k w.reads w.note (subst (λ z. k ≤ z) (sym size) a.0) a.2 a.3 (show k a.0)

  pub all_agree : (calls : List (Call Note)) → Agree library_terms g base seen calls → AllAgree g h calls
  all_agree [] a = All-nil (NoteAgrees g h)
  all_agree (call ∷ calls) a = All-cons (NoteAgrees g h) call calls (call_agrees call a.0) (all_agree calls a.1)

-- ---- passes and runs

pub small_store : {room : ℕ} (ranges : List Range) → room ≤ most_words → AreOfOneStore room ranges → AreOfOneStore most_words ranges
small_store ranges small one = ((λ r has i lt. let inside = one.0 r has i lt in omega (arith, inside, small)), one.1)

pub other_calls_agree : OtherCallsAgree
other_calls_agree g k calls is knows agree =
    all_agree g k.home.base k.seen (knows.legal g is.0) knows.noted (knows.opening g is.0)
    (small_store k.seen.ranges is.1 (knows.ranges g is.0)) calls agree

pub sessions_stand : SessionsStand
sessions_stand g k is knows = (
  is_history g k.home.base k.seen (knows.legal g is.0) knows.noted (knows.opening g is.0)
      (small_store k.seen.ranges is.1 (knows.ranges g is.0)),
  other_calls_agree g k k.mine is knows (knows.mine g is.0),
)

pub runs_suit : RunsSuit
runs_suit g r writes is stands =
    let history = (sessions_stand g r.known is stands.knows).0 in
    record {
      matches = record {
        store = small_store r.known.seen.ranges is.1 (stands.knows.ranges g is.0);
        has = λ q at. at;
        reads = one_fits r.known.home.base r.known.seen r.place r.reads (stands.one g is.0);
      };
      shows = history.show r.place stands.placed;
      verifies = history.verify r.place;
    }
