-- What was told of drawn numbers stays so while more is seen.
use Rattle.std.proofs.Common.{◌≡◌, ◌≢◌, ℕ, Bool, List, [], ◌∷◌, ◌++◌, Option, Some, None, sym, ap, ◌∙◌}
use Rattle.std.specs.Prelude.{All}
use Rattle.std.specs.Option.{MatchOption}
use Rattle.std.proofs.lemmas.List.{map-append}
use Rattle.std.proofs.lemmas.List.Elements.{All-weaker, All-push}
use Rattle.library.specs.declared.command.Command.{Command}
use Rattle.library.specs.declared.command.Reply.{Reply}
use Rattle.library.specs.Histories.{void_entry, open_entry}
use Rattle.tlwords.specs.Seen.{Seen, SeenGrows}
use Rattle.lawful.specs.declared.notes.Note.{Note}
use Rattle.lawful.specs.History.{history_of}
use Rattle.lawful.proofs.Entries.{histories_grow}
use Rattle.bodystore.specs.Stages.{Staged}
use Rattle.lending.specs.Lent.{Pass}
use Rattle.transaction.specs.declared.outcome.Record.{Record}
use Rattle.transaction.specs.Members.{Member, AreRecorded, entry_recorded, IsRecordIn}
use Rattle.transaction.specs.Attempts.{IsVoidNumber}
use Rattle.transaction.specs.Tries.{IsRecorded}

-- what a record says isn't open
pub recorded_settled : (done : Option (List Command × List Reply)) → entry_recorded done ≢ open_entry
recorded_settled None is = cc
recorded_settled (Some done) is = cc

pub record_grows : (f h : Seen Note) (r : Record) → SeenGrows f h → IsRecordIn (history_of f) r → IsRecordIn (history_of h) r
record_grows f h r grows is =
    (is.0, is.1, (histories_grow f h grows).kept is.0 (entry_recorded r.done) is.2 (recorded_settled r.done))

pub records_grow : (f h : Seen Note) (rs : List Record) → SeenGrows f h → All (IsRecordIn (history_of f)) rs
    → All (IsRecordIn (history_of h)) rs
records_grow f h rs grows are = All-weaker (IsRecordIn (history_of f)) (IsRecordIn (history_of h)) (λ r. record_grows f h r grows) rs are

-- a number whose entry is void
pub void_grows : (old new : Pass) (number : ℕ) → SeenGrows old.seen new.seen → IsVoidNumber old number → IsVoidNumber new number
void_grows old new number grows is =
    (is.0, is.1, (histories_grow old.seen new.seen grows).kept is.0 void_entry is.2 (λ e. cc))

pub voids_grow : (old new : Pass) (numbers : List ℕ) → SeenGrows old.seen new.seen → All (IsVoidNumber old) numbers
    → All (IsVoidNumber new) numbers
voids_grow old new numbers grows are = All-weaker (IsVoidNumber old) (IsVoidNumber new) (λ n. void_grows old new n grows) numbers are

-- the records with that of a number that was drawn, if one was
abbrev pub with_record : List Record → Option Record → List Record
with_record rs None = rs
with_record rs (Some r) = rs ++ r ∷ []

-- so it is where that record was put behind the others
pub put_behind : (r : Option Record) (old new : List Record) → MatchOption r (new ≡ old) (λ own. new ≡ old ++ own ∷ [])
    → new ≡ with_record old r
put_behind None old new h = h
put_behind (Some own) old new h = h

pub still_recorded : (m : Member) (k : Pass) (s : Staged) (lacked : Bool) (r : Option Record) → SeenGrows m.known.seen k.seen
    → IsRecorded m.known k r → AreRecorded m
    → AreRecorded (record m { known = k; records = with_record m.records r; staged = s; lacked_room = lacked })
still_recorded m k s lacked None grows none are =
    record { numbers = are.numbers ∙ sym none; entries = records_grow m.known.seen k.seen m.records grows are.entries }
still_recorded m k s lacked (Some r) grows (drawn, is) are =
    record {
      numbers =
          map-append (λ (x : Record). x.number) m.records (r ∷ []) ∙ (ap (λ (ns : List ℕ). ns ++ r.number ∷ []) are.numbers ∙ sym drawn);
      entries = All-push (IsRecordIn (history_of k.seen)) m.records r (records_grow m.known.seen k.seen m.records grows are.entries) is;
    }
