-- What scripts leave that all sessions of a new library ran to their end; or why they leave nothing.
use Rattle.std.proofs.Common.{◌≡◌, ◌∙◌, List, [], ◌∷◌, eqb, length, map, refl, sym, ap, subst, arith}
use Rattle.std.specs.List.{AllZip, IsDistinct}
use Rattle.std.specs.Prelude.{All, Err}
use Rattle.std.proofs.lemmas.List.{length-map}
use Rattle.std.proofs.lemmas.List.Elements.{All-weaker}
use Rattle.std.proofs.lemmas.Slice.Zip.{AllZip-long}
use Rattle.library.specs.declared.command.Command.{Command}
use Rattle.library.specs.declared.history.Entry.{Entry as CodeEntry}
use Rattle.library.specs.Library.{Listed}
use Rattle.library.specs.Histories.{seen_entry}
use Rattle.lending.specs.Lent.{Pass}
use Rattle.transaction.specs.declared.outcome.Outcome.{Outcome}
use Rattle.transaction.specs.Members.{Home, Member, IsSessionOf}
use Rattle.transaction.specs.Openings.{IsNewSession}
use Rattle.transaction.specs.Closings.{HasOutcomes, passes_of}
use Rattle.ranges.specs.Ranges.{Has}
use Rattle.ranges.proofs.Members.{mapped_has}
use Rattle.workers.specs.declared.error.WorkError.{WorkError}
use Rattle.workers.specs.declared.error.WorkError.TheVariants as work
use Rattle.workers.specs.Works.{Works, IsHandedBack, IsWorkLack}
use Rattle.workers.proofs.Whole.{still_of}
use Rattle.finishing.specs.declared.error.FinishError.{FinishError}
use Rattle.finishing.specs.declared.error.FinishError.TheVariants.{Missing, Held, NoMemory}
use Rattle.finishing.specs.Finishes.{IsFinished, Finishes}
use Rattle.editing.specs.Edits.{IsEdited, IsEditLack, ToldIn, FullIn, from_work, from_finish}
use Rattle.editing.proofs.DoneNumbers.{done_are, few_drawn}
use Rattle.editing.proofs.Shares.{of_each}
use Rattle.editing.proofs.Told.{as_many_shares, shares_told, share_told, share_full, shares_end}

-- sessions that are handed back have the names that they had
names_kept : (before after : List Member) → AllZip IsHandedBack before after
    → map (λ (v : Pass). v.name) (passes_of after) ≡ map (λ (m : Member). m.known.name) before
names_kept [] [] back = refl
names_kept [] (n ∷ ns) back = absurd back
names_kept (m ∷ ms) [] back = absurd back
names_kept (m ∷ ms) (n ∷ ns) back = λ i. back.0.0.name i ∷ names_kept ms ns back.1 i

-- why scripts weren't run to their end
pub unrun : (before : List Member) (error : WorkError) → IsWorkLack before error → IsEditLack before (from_work error)
unrun before work.NoMemory h = tt
unrun before work.NoThread h = h

module _ (home : Home) (before : List Member) (new : All (IsNewSession home) before) where
  pub new_own : All (IsSessionOf home) before
  new_own = All-weaker (IsNewSession home) (IsSessionOf home) (λ m n. ap (λ (k : Pass). k.home) n.known) before new

  none_drawn : All (λ (m : Member). m.known.drawn ≡ []) before
  none_drawn =
      All-weaker (IsNewSession home) (λ (m : Member). m.known.drawn ≡ []) (λ m n. ap (λ (k : Pass). k.drawn) n.known) before new

  none_seen : All (λ (m : Member). m.known.seen.history ≡ []) before
  none_seen =
      All-weaker (IsNewSession home) (λ (m : Member). m.known.seen.history ≡ [])
      (λ m n. ap (λ (k : Pass). k.seen.history) n.known) before new

  module _ (scripts : List (List (List Command))) (rows : List (List Outcome)) (after : List Member)
      (works : Works home.given before scripts rows after) (many : length before ≡ home.sessions) where
    pub handed_on : All (IsSessionOf home) after
    handed_on = still_of home before after new_own works.back

    -- that no number is left is shown by the history
    all_told : (history : List CodeEntry) (library : Listed) → IsFinished home after history library
        → All (All (ToldIn (map seen_entry history))) rows
    all_told history library finished =
        of_each (ToldIn (map seen_entry history)) rows (length scripts) works.shares (AllZip-long HasOutcomes scripts rows works.each)
        works.parts
        (share_told home.given (map seen_entry history) scripts rows before after works.shares
        (few_drawn home before after history library finished many none_drawn works.back) works.run)

    -- that the store is full, by the words at the end
    all_full : (history : List CodeEntry) (library : Listed) (finished : IsFinished home after history library)
        → All (All (FullIn finished.words)) rows
    all_full history library finished =
        of_each (FullIn finished.words) rows (length scripts) works.shares (AllZip-long HasOutcomes scripts rows works.each) works.parts
        (share_full home.given (map seen_entry history) scripts rows home finished.words before after works.shares finished.its
        finished.room handed_on works.back works.run)

    pub leaves : (history : List CodeEntry) (library : Listed) → IsFinished home after history library
        → IsEdited home scripts rows history library
    leaves history library finished = record {
      told_by = record {
        each = works.each;
        shares = works.shares;
        many = as_many_shares home.given scripts rows before after works.shares works.run ∙ many;
        parts = works.parts;
        run = shares_told home.given (map seen_entry history) scripts rows before after works.shares none_seen finished.agree works.run;
        told = all_told history library finished;
        numbers = done_are home before after history library finished many none_drawn works.back _ works.numbers;
      };
      fit = finished.fit;
      after = finished.after;
      ended = record {
        sessions = after;
        tell = shares_end home home.given scripts rows before after works.shares new works.run;
        words = finished.words;
        its = finished.its;
        room = finished.room;
        full = all_full history library finished;
      };
    }

    all : length (passes_of after) ≡ home.sessions
    all = length-map after (λ (m : Member). m.known) ∙ AllZip-long IsHandedBack before after works.back ∙ many

    pub lacks : (error : FinishError) → Finishes home after (Err error) → IsEditLack before (from_finish error)
    lacks (Missing n) f = (
      f.2.some,
      λ names.
          let own = subst (IsDistinct eqb) (sym (names_kept before after works.back)) names in
          let by = (f.1.still all).every own n f.2.some f.2.within in
          let m = mapped_has (λ (m : Member). m.known) after by.0 by.1 in
          f.2.undrawn (m.0, m.1, subst (λ (v : Pass). Has n v.drawn) m.2 by.2),
    )
    lacks (Held c) f =
        let held = f.3 in
        let free = (f.1.still all).free c held.0 held.1 in
        let odd = held.2 in
        absurd (omega (arith, free, odd))
    lacks NoMemory f = tt
