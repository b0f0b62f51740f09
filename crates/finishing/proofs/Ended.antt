-- What a library leaves at its end: the records of its sessions are its history, and its cells show the library after it.
use Rattle.std.proofs.Common.{◌≡◌, ◌∙◌, ap, sym, subst, refl, ℕ, zero, suc, ◌+◌, ◌*◌, ◌%◌, ◌<◌, ◌≤◌, ◌⊎◌, inl, inr, List, [], ◌∷◌, length, map, Option, Some, None, arith}
use Rattle.std.specs.Prelude.{slice_get, option_map, All, Err}
use Rattle.std.proofs.lemmas.Bool.{cases_lt}
use Rattle.std.proofs.lemmas.List.{length-map, take_all}
use Rattle.std.proofs.lemmas.Option.{slice_get-map, slice_get_within}
use Rattle.library.specs.declared.history.Entry.{Entry as CodeEntry}
use Rattle.library.specs.declared.library.Ranked.{Ranked}
use Rattle.library.specs.Histories.{Entry, EntriesFit, Grows, IsLegal, after_all, seen_entry}
use Rattle.library.specs.Library.{Verifies, Listed, Setting}
use Rattle.ranges.specs.Ranges.{Has}
use Rattle.tlwords.specs.declared.closing.ClosedCell.{ClosedCell}
use Rattle.tlwords.specs.declared.closing.ClosedWords.{ClosedWords}
use Rattle.tlwords.specs.Seen.{Seen}
use Rattle.cells.specs.State.{most_words}
use Rattle.cells.specs.Shows.{Shows}
use Rattle.plaincells.specs.PlainViews.{named_state}
use Rattle.ranges.proofs.Members.{has_mapped, mapped_has, all_has, all_from_has}
use Rattle.lawful.specs.declared.notes.Note.{Note}
use Rattle.lawful.specs.Lawful.{setting_given, first_library, state_of}
use Rattle.lawful.specs.History.{history_of, IsHistoryOf, AllAgree}
use Rattle.lawful.specs.Laws.{AreFree}
use Rattle.lawful.proofs.Entries.{at_index, length-entries_of, histories_grow}
use Rattle.lawful.proofs.Closed.{closed_histories_stand, closed_words_show}
use Rattle.openings.proofs.Naming.{named_shows}
use Rattle.transaction.specs.declared.closing.ClosedLibrary.{ClosedLibrary}
use Rattle.transaction.specs.declared.outcome.Record.{Record}
use Rattle.transaction.specs.Members.{Home, Member, IsMember, IsRecordIn, entry_recorded}
use Rattle.transaction.specs.Closings.{IsClosed, lists_of, passes_of}
use Rattle.transaction.proofs.Recorded.{recorded_settled}
use Rattle.finishing.specs.declared.error.FinishError.TheVariants.{Missing, Held}
use Rattle.finishing.specs.Finishes.{IsDrawn, IsMissing, AreRecordedBy, IsFinished, Finishes}
use Rattle.finishing.specs.Ordering.{IsToldIn, AreOrdered, IsFirstMissing, IsFirstHeld}
use Rattle.finishing.specs.Shown.{values_of, ShowsAtEnd, IsShownBy}

-- ---- lists

same_told : (entries : List Entry) (history : List CodeEntry) → length entries ≡ length history
    → ((i : ℕ) (e : CodeEntry) → slice_get history i ≡ Some e → slice_get entries i ≡ Some (seen_entry e))
    → entries ≡ map seen_entry history
same_told [] [] long at = refl
same_told [] (h ∷ history) long at = absurd (omega (arith, long))
same_told (e ∷ entries) [] long at = absurd (omega (arith, long))
same_told (e ∷ entries) (h ∷ history) long at =
    let first = at zero h refl in
    let same : e ≡ seen_entry h = cc in
    let rest = same_told entries history (omega (arith, long)) (λ i x there. at (suc i) x there) in
    λ i. same i ∷ rest i

mapped_at : {A : Type 0} (xs : List A) (i : ℕ) (x : A) → slice_get xs i ≡ Some x → slice_get (map Some xs) i ≡ Some (Some x)
mapped_at xs i x at = slice_get-map (λ (y : _). Some y) xs i ∙ ap (option_map (λ (y : _). Some y)) at

module _ (home : Home) (members : List Member) (closed : ClosedLibrary) (is : IsClosed home members closed) where
  abbrev words : ClosedWords
  words = closed.words

  abbrev seen : Seen Note
  seen = is.words.closes.seen

  -- ---- the history

  small : length words.store.items ≤ most_words
  small = let within = is.words.closes.within in let room = is.room in let few = is.small in omega (arith, within, room, few)

  stands : IsHistoryOf home.given home.words.base seen
  stands = (closed_histories_stand home.given home.words.base home.store words is.words.closes small).0

  member_is : (m : Member) → Has m members → IsMember m
  member_is m has = all_has IsMember members m is.members_are has

  grown : (m : Member) → Has m members → Grows (history_of m.known.seen) (history_of seen)
  grown m has = histories_grow m.known.seen seen (is.words.each m.known (has_mapped (λ (x : Member). x.known) members m has)).grows

  -- ---- the records

  list_of : (m : Member) → Has m members → Has m.records (lists_of closed.records.items)
  list_of m has = subst (Has m.records) (sym is.records) (has_mapped (λ (x : Member). x.records) members m has)

  owner : (own : List Record) → Has own (lists_of closed.records.items) → (m : Member) × Has m members × (own ≡ m.records)
  owner own has = mapped_has (λ (x : Member). x.records) members own (subst (Has own) is.records has)

  drawn_told : (i : ℕ) → IsDrawn members (suc i) → IsToldIn (lists_of closed.records.items) i
  drawn_told i d =
      let recorded = (member_is d.0 d.1).recorded in
      let r = mapped_has (λ (x : Record). x.number) d.0.records (suc i) (subst (Has (suc i)) (sym recorded.numbers) d.2) in
      (d.0.records, r.0, list_of d.0 d.1, r.1, sym r.2)

  told_drawn : (i : ℕ) → IsToldIn (lists_of closed.records.items) i → IsDrawn members (suc i)
  told_drawn i t =
      let o = owner t.0 t.2 in
      let has = has_mapped (λ (x : Record). x.number) o.0.records t.1 (subst (Has t.1) o.2 t.3) in
      (o.0, o.1, subst (Has (suc i)) (member_is o.0 o.1).recorded.numbers (subst (λ n. Has n (map (λ x. x.number) o.0.records)) t.4 has))

  module _ (entries : List (Option CodeEntry)) (ordered : AreOrdered words.clock (lists_of closed.records.items) entries) where
    -- ---- what is missing

    empty_missing : (i : ℕ) → slice_get entries i ≡ Some None → IsMissing members words (suc i)
    empty_missing i at =
        record {
          some = omega arith;
          within = let lt = slice_get_within entries i None at in let long = ordered.long in omega (arith, lt, long);
          undrawn = λ d. ordered.none i at (drawn_told i d);
        }

    missing_empty : (n : ℕ) → IsMissing members words n → (i : ℕ) × (n ≡ suc i) × (slice_get entries i ≡ Some None)
    missing_empty zero m = let some = m.some in absurd (omega (arith, some))
    missing_empty (suc i) m =
        let within = m.within in
        let long = ordered.long in
        let x = at_index entries i (omega (arith, within, long)) in
        (i, refl, empty x.0 x.1)
      where
        empty : (x : Option CodeEntry) → slice_get entries i ≡ Some x → slice_get entries i ≡ Some None
        empty None at = at
        empty (Some e) at =
            let t = ordered.told_by i e at in absurd (m.undrawn (told_drawn i (t.0, t.1, t.2, t.3, t.4.0)))

    pub finish_missing : (k n : ℕ) → n ≡ k + 1 → IsFirstMissing entries (Some k) → Finishes home members (Err (Missing n))
    finish_missing k n e first =
        let next : suc k ≡ n = omega (arith, e) in (
          words,
          is.words,
          subst (IsMissing members words) next (empty_missing k first.0),
          λ m lt miss. let p = missing_empty m miss in let which = p.1 in first.1 p.0 (omega (arith, which, lt, e)) p.2,
        )

    module _ (none : IsFirstMissing entries None) where
      none_missing : (n : ℕ) → IsMissing members words n → ⊥
      none_missing n m = let p = missing_empty n m in none p.0 p.2

      pub finish_held : (c : ℕ) → IsFirstHeld words.cells.items (Some c) → Finishes home members (Err (Held c))
      finish_held c first =
          let x = first.0 in
          (words, is.words, none_missing, x, λ d lt h. first.1 d h.0 lt h.1 h.2, (is.words.closes.held c x.0 x.1 x.2, lacks c x.0 x.1 x.2))
        where
          -- were all handed in, no lock would be held
          lacks : (c : ℕ) (x : ClosedCell) → slice_get words.cells.items c ≡ Some x → x.lock % 2 ≡ 1 → length members < home.sessions
          lacks c x at odd = go (cases_lt (length members) home.sessions)
            where
              passes : length (passes_of members) ≡ length members
              passes = length-map members (λ m. m.known)

              go : (length members < home.sessions) ⊎ (home.sessions ≤ length members) → length members < home.sessions
              go (inl less) = less
              go (inr all) =
                  let few = is.words.others in
                  let free = (is.words.still (omega (arith, few, all, passes))).free c x at in
                  absurd (omega (arith, free, odd))

    -- ---- the whole history

    module _ (history : List CodeEntry) (all : map Some history ≡ entries) where
      recorded_by : AreRecordedBy members history
      recorded_by i e at =
          let there = subst (λ (xs : List (Option CodeEntry)). slice_get xs i ≡ Some (Some e)) all (mapped_at history i e at) in
          let t = ordered.told_by i e there in
          let o = owner t.0 t.2 in
          (o.0, t.1, o.1, subst (Has t.1) o.2 t.3, t.4.0, t.4.1)

      long : length history ≡ words.clock
      long = sym (length-map history Some) ∙ ap length all ∙ ordered.long

      entry_is : (i : ℕ) (e : CodeEntry) → slice_get history i ≡ Some e → slice_get (history_of seen) i ≡ Some (seen_entry e)
      entry_is i e at =
          let t = recorded_by i e at in
          let noted = all_has (IsRecordIn (history_of t.0.known.seen)) t.0.records t.1 (member_is t.0 t.2).recorded.entries t.3 in
          let number = noted.1 in
          let own = t.4 in
          let place : i ≡ noted.0 = omega (arith, number, own) in
          (grown t.0 t.2).kept i (entry_recorded t.1.done) (ap (slice_get (history_of t.0.known.seen)) place ∙ noted.2)
          (recorded_settled t.1.done)
          ∙ ap (λ (x : Entry). Some x) t.5

      is_history : history_of seen ≡ map seen_entry history
      is_history =
          same_told (history_of seen) history
          (length-entries_of seen.history seen.notes ∙ is.words.closes.shows.clock_is ∙ sym long) entry_is

      grows : All (λ (m : Member). Grows (history_of m.known.seen) (map seen_entry history)) members
      grows =
          all_from_has (λ (m : Member). Grows (history_of m.known.seen) (map seen_entry history)) members
          (λ m has. subst (Grows (history_of m.known.seen)) is_history (grown m has))

      agree : All (λ (m : Member). AllAgree home.given (map seen_entry history) m.known.mine) members
      agree =
          let g = home.given in
          let all = (closed_histories_stand g home.words.base home.store words is.words.closes small).1 in
          all_from_has (λ (m : Member). AllAgree g (map seen_entry history) m.known.mine) members
          (λ m has. subst (λ h. AllAgree g h m.known.mine) is_history
          (all m.known.mine (is.words.each m.known (has_mapped (λ (x : Member). x.known) members m has)).mine))

      -- ---- the library

      abbrev pub last_library : List Ranked
      last_library = after_all (setting_given home.given) (first_library home.given) (map seen_entry history)

      verifies : Verifies (setting_given home.given) last_library
      verifies =
          let g = home.given in
          subst (λ h. Verifies (setting_given g) (after_all (setting_given g) (first_library g) h))
          (take_all (length (history_of seen)) (history_of seen) (omega arith) ∙ is_history) (stands.verify (length (history_of seen)))

      module _ (unheld : IsFirstHeld words.cells.items None) where
        free : AreFree words.cells.items
        free i x at = let odd = unheld i x at in omega (arith, odd)

        shows : Shows home.given.slots (state_of (map (λ x. x.value) words.cells.items) seen.ranges) last_library
        shows =
            let g = home.given in
            subst (λ h. Shows g.slots (state_of (map (λ x. x.value) words.cells.items) seen.ranges)
            (after_all (setting_given g) (first_library g) h)) is_history
            (closed_words_show g home.words.base home.store words is.words.closes small free)

        abbrev values : List ℕ
        values = values_of words

        count : length values ≡ 7 * home.given.slots
        count = length-map words.cells.items (λ x. x.value) ∙ is.words.closes.shows.count ∙ is.words.closes.opening.opens.count

        shows_named : Shows home.given.slots (named_state home.given.slots values words.store.items) last_library
        shows_named =
            named_shows home.given.slots words.tail values words.store.items seen.ranges small is.words.closes.stored count
            last_library shows

        setting_is : record { prelude = closed.prelude; slots = closed.given.slots } ≡ setting_given home.given
        setting_is = λ i. record { prelude = is.prelude i; slots = (is.given i).slots }

        pub at_end : ShowsAtEnd (record { prelude = closed.prelude; slots = closed.given.slots }) words
        at_end =
            subst (λ (s : Setting). ShowsAtEnd s words) (sym setting_is)
            (record {
              some = verifies.setting.some;
              few = verifies.setting.few;
              count = count;
              small = small;
              shows = (last_library, shows_named, verifies);
            })

        pub finished : (library : Listed) → IsShownBy (record { prelude = closed.prelude; slots = closed.given.slots }) words library
            → IsFinished home members history library
        finished library by =
            record {
              words = words;
              its = is.words;
              room = is.room;
              long = long;
              is = is_history;
              grow = grows;
              agree = agree;
              recorded = recorded_by;
              fit = subst (λ h. EntriesFit (setting_given home.given).prelude h) is_history stands.fit;
              after = record {
                setting = by.setting_is ∙ setting_is;
                legal = subst (λ h. IsLegal (setting_given home.given) (first_library home.given) h) is_history stands.legal;
                shows = (subst (λ (s : Setting). IsShownBy s words library) setting_is by).shown last_library shows_named verifies;
              };
              shows = shows;
            }
