-- What is true of lawful transactions and of their histories.
use Rattle.std.specs.Prelude.{◌≡◌, ℕ, ◌%◌, ◌<◌, ◌≤◌, List, [], ◌∷◌, Some, All, length, map, slice_get}
use Rattle.std.specs.declared.snapshot.Snapshot.{Snapshot}
use Rattle.mmsyntax.specs.declared.statement.Symbol.TheVariants.{Const}
use Rattle.mmsyntax.specs.declared.statement.Kind.TheVariants.{Axiom}
use Rattle.mmsyntax.specs.declared.statement.Assertion.{Assertion}
use Rattle.library.specs.declared.library.Ranked.{Ranked}
use Rattle.library.specs.declared.command.Command.{Command}
use Rattle.library.specs.declared.command.Reply.{Reply}
use Rattle.library.specs.declared.reason.Refused.{Refused as Refusal}
use Rattle.library.specs.Library.{Listed, ShowsInOrder, ranked_from}
use Rattle.library.specs.Fitting.{CommandFits}
use Rattle.library.specs.Histories.{Grows, after_all}
use Rattle.tlwords.specs.declared.closing.ClosedCell.{ClosedCell}
use Rattle.tlwords.specs.declared.closing.ClosedWords.{ClosedWords}
use Rattle.tlwords.specs.Seen.{Seen, SeenGrows, Call, Agree}
use Rattle.tlwords.specs.Known.{Known, Knows, Going, Stands}
use Rattle.tlwords.specs.Closing.{Closes}
use Rattle.ranges.specs.Pairs.{Pairs}
use Rattle.ranges.specs.Ranges.{Range, Within, ranges_named}
use Rattle.cells.specs.State.{State, most_words}
use Rattle.cells.specs.Slots.{cell_count, is_ranged}
use Rattle.cells.specs.Shows.{Shows}
use Rattle.cells.specs.Sight.{Sight, Suits, Onward}
use Rattle.cells.specs.Lookups.{ForEach}
use Rattle.cells.specs.Answers.{DoesAll, RefusesAll}
use Rattle.lawful.specs.declared.notes.Given.{Given}
use Rattle.lawful.specs.declared.notes.Note.{Note}
use Rattle.lawful.specs.declared.notes.Note.TheVariants.{Done, Refused, Looked}
use Rattle.lawful.specs.Lawful.{setting_given, first_library, state_of, sight_over, Lawful, library_terms}
use Rattle.lawful.specs.History.{history_of, library_after, state_after, IsHistoryOf, AllAgree}

-- a library stays shown where further ranges are finished, whatever the cells behind its own hold
abbrev pub ShownIsKept : Type 0
ShownIsKept =
    (slots : ℕ) (st next : State) (lib : List Ranked) → ((c : ℕ) → c < cell_count slots → next.value c ≡ st.value c)
    → Within st.ranges next.ranges → Shows slots st lib → Shows slots next lib

-- a transaction stays lawful where further ranges are finished
abbrev pub LawfulIsKept : Type 0
LawfulIsKept =
    (g : Given) (ranges more : List Range) (reads writes : Pairs) (note : Note) → Within ranges more
    → Lawful g ranges reads writes note → Lawful g more reads writes note

-- ---- runs

-- a run of commands that begins with nothing kept aside is lawful where it is done, with what it has seen and keeps aside at its end; and
-- where it is refused, once what it keeps aside is thrown away
abbrev pub RunsAreLawful : Type 0 → Type 0
RunsAreLawful O =
    (g : Given) (old new : Sight O) (commands : Snapshot (List Command)) → old.setting ≡ setting_given g → old.writes ≡ []
    → Onward old new
    → All (CommandFits (setting_given g).prelude) commands.value
    → ((replies : Snapshot (List Reply)) → DoesAll old new commands.value replies.value
    → Lawful g new.ranges new.reads new.writes (Done commands replies))
    × ((refused : Snapshot Refusal) → RefusesAll old new commands.value refused.value
    → Lawful g new.ranges new.reads [] (Refused commands refused))

-- a run that keeps nothing aside is lawful where it looked at the library, which is in order the one that its note has
abbrev pub LooksAreLawful : Type 0 → Type 0
LooksAreLawful O =
    (g : Given) (s : Sight O) (library : Snapshot Listed) → s.setting ≡ setting_given g → s.writes ≡ []
    → library.value.setting ≡ setting_given g
    → ForEach s (λ st lib. ShowsInOrder lib library.value.entries) → Lawful g s.ranges s.reads [] (Looked library)

-- ---- histories

-- where more is seen, the history of commands and replies is a later one
abbrev pub HistoriesGrow : Type 0
HistoriesGrow = (f h : Seen Note) → SeenGrows f h → Grows (history_of f) (history_of h)

-- a pass on words that hold a library, whose store has at most 2^24 words
abbrev pub IsPassOn : Given → Known Given Note → Type 0
IsPassOn g k = (k.home.setting ≡ Some g) × (k.home.room ≤ most_words)

-- what a pass has seen is a history of the library, which its calls agree with
abbrev pub SessionsStand : Type 0
SessionsStand =
    (g : Given) (k : Known Given Note) → IsPassOn g k → Knows library_terms k
    → IsHistoryOf g k.home.base k.seen × AllAgree g (history_of k.seen) k.mine

-- and so do the calls of others that it was told
abbrev pub OtherCallsAgree : Type 0
OtherCallsAgree =
    (g : Given) (k : Known Given Note) (calls : List (Call Note)) → IsPassOn g k → Knows library_terms k
    → Agree library_terms g k.home.base k.seen calls → AllAgree g (history_of k.seen) calls

-- what a run has read agrees with the cells after the entries before its place, which show a library that verifies
abbrev pub RunsSuit : Type 0
RunsSuit =
    (g : Given) (r : Going Given Note) (writes : Pairs) → IsPassOn g r.known → Stands library_terms r
    → Suits (sight_over g r.known.seen.ranges r.reads writes) (state_after r.known.home.base r.known.seen r.place)
    (library_after g r.known.seen r.place)

-- at the end the words have one history, which is one of the library, and which the calls agree with that agree with the words
abbrev pub ClosedHistoriesStand : Type 0
ClosedHistoriesStand =
    (g : Given) (base opened : List ℕ) (words : ClosedWords) (c : Closes library_terms g base opened words)
    → length words.store.items ≤ most_words
    → IsHistoryOf g base c.seen
    × ((calls : List (Call Note)) → Agree library_terms g base c.seen calls → AllAgree g (history_of c.seen) calls)

-- no lock of a cell is held
abbrev pub AreFree : List ClosedCell → Type 0
AreFree cells = (i : ℕ) (x : ClosedCell) → slice_get cells i ≡ Some x → x.lock % 2 ≡ 0

-- and where no lock is held, the cells show the library after that history
abbrev pub ClosedWordsShow : Type 0
ClosedWordsShow =
    (g : Given) (base opened : List ℕ) (words : ClosedWords) (c : Closes library_terms g base opened words)
    → length words.store.items ≤ most_words
    → AreFree words.cells.items
    → Shows g.slots (state_of (map (λ x. x.value) words.cells.items) c.seen.ranges)
    (after_all (setting_given g) (first_library g) (history_of c.seen))

-- ---- one assertion in two slots

-- `we $a wff $.`, where `wff` is the first constant
abbrev pub we : Assertion
we = record { label = 119 ∷ 101 ∷ []; kind = Axiom; pairs = []; hyps = []; statement = Const 0 ∷ []; proof = [] }

-- the body of its label, and that of its statement: no pairs, no hypotheses, and one symbol
abbrev pub small_store : List ℕ
small_store = 119 ∷ 101 ∷ 0 ∷ 0 ∷ 0 ∷ 1 ∷ 0 ∷ []

-- the first slot is full, with rank 100: it names 2 words from the place 0 and 5 from the place 2. The second slot is empty; the label
-- is of the first of the two buckets; no slot has a next one
abbrev pub small_values : List ℕ
small_values = 2 ∷ 67108869 ∷ 0 ∷ 100 ∷ 0 ∷ 0 ∷ 0 ∷ 0 ∷ 0 ∷ 0 ∷ 1 ∷ 0 ∷ 0 ∷ 0 ∷ []

-- these show the opening library of a database of this one assertion
abbrev pub OneAssertionIsShown : Type 0
OneAssertionIsShown = Shows 2 (state_of small_values (ranges_named (is_ranged 2) small_store small_values)) (ranked_from 1 (we ∷ []))
