-- What was read and what stands on the streams, behind one thing more.
use Rattle.std.proofs.Common.{◌≡◌, ◌⊎◌, ◌∙◌, ◌++◌, ◌∷◌, [], ℕ, Bool, true, false, List, Option, Some, None, Result, Ok, Err, ap, append_assoc, append-nil, codes, refl, subst, sym, inl, inr, take}
use Rattle.std.specs.Prelude.{IfErr, IfOk, IfSome, Vec}
use Rattle.std.specs.declared.alloc.Global.{Global}
use Rattle.std.specs.Io.KnownBytes.{Appends}
use Rattle.clap.specs.declared.error.Error.{Error}
use Rattle.outside.specs.Events.{Adds, Bytes, Event, asks, compares, lacks, leaves, leaving, notes, path_left, prints, reading_of, reads, replaces, says, shows, writes}
use Rattle.outside.specs.Output.{AreDone, AreHeld, AreOwn, IsHeld, IsLine, IsNote, IsOn, IsOwn, IsPut, Outside, PutsErr, PutsOut, Stands}
use Rattle.outside.specs.Streams.{IsAppended, Lasts, Stays}
use Rattle.outside.specs.Deeds.{Failure}
use Rattle.outside.specs.Reasons.{reason_by}
use Rattle.outside.specs.Troubles.{IsAnsweredBy}
use Rattle.outside.specs.declared.reason.Reason.{Reason}
use Rattle.std.specs.declared.io.ErrorKind.{ErrorKind}
use Rattle.outside.specs.declared.trouble.Trouble.{Trouble}
use Rattle.outside.specs.declared.trouble.Trouble.TheVariants as trouble
use Rattle.outside.specs.declared.trouble.Unwritten.{Unwritten}
use Rattle.outside.specs.declared.whole.TheConstants.{MOST_READ}

-- ---- on one stream

-- what a stream takes of an event
abbrev pub Puts : Type 1
Puts = Event → Bytes → Type 0

stands_behind : (first puts : Puts) → ((e : Event) (here : Bytes) → first e here → puts e here) → (front : List Event) (e : Event)
    (held here : Bytes) → Stands first front held → puts e here → Stands puts (front ++ e ∷ []) (held ++ here)
stands_behind first puts lasts [] e held here stands put =
    (here, [], put, refl, ap (λ (bs : Bytes). bs ++ here) stands ∙ sym (append-nil here))
stands_behind first puts lasts (f ∷ front) e held here (one, rest, was, stands, is) put = (
  one,
  rest ++ here,
  lasts f one was,
  stands_behind first puts lasts front e rest here stands put,
  ap (λ (bs : Bytes). bs ++ here) is ∙ append_assoc one rest here,
)

own_front : (front es : List Event) → AreOwn (front ++ es) → AreOwn front
own_front [] es own = tt
own_front (f ∷ front) es own = (own.0, own_front front es own.1)

own_last : (front : List Event) (e : Event) → AreOwn (front ++ e ∷ []) → IsOwn e
own_last [] e own = own.0
own_last (f ∷ front) e own = own_last front e own.1

-- what the stream tells grows by what an event puts there, unless the parser was shown
abbrev pub Grows : Puts → Option Bytes → Option Bytes → Event → Type 0
Grows puts old new e = IsOwn e → (here : Bytes) × puts e here × Appends old new here

known : (new : Option Bytes) (all here : Bytes) → Appends (Some all) new here → new ≡ Some (all ++ here)
known None all here grown = absurd grown
known (Some now) all here grown = ap Some grown

on_behind : (first puts : Puts) → ((e : Event) (here : Bytes) → first e here → puts e here) → (old new : Option Bytes) (front : List Event)
    (e : Event) → IsOn first old front → Grows puts old new e → IsOn puts new (front ++ e ∷ [])
on_behind first puts lasts old new front e on grows own =
    let (held, told, stands) = on (own_front front (e ∷ []) own) in
    let (here, put, appends) = grows (own_last front e own) in (
      held ++ here,
      known new held here (subst (λ (o : Option Bytes). Appends o new here) told appends),
      stands_behind first puts lasts front e held here stands put,
    )

-- an event that puts nothing there
pub grows_none : (puts : Puts) (known : Option Bytes) (e : Event) → puts e [] → Grows puts known known e
grows_none puts None e put own = ([], put, tt)
grows_none puts (Some held) e put own = ([], put, sym (append-nil held))

-- ---- what failed has failed

put_lasts : {F G : ErrorKind → Type 0} → Lasts F G → (text : Bytes) (why : Option Reason) (here : Bytes) → IsPut F text why here
    → IsPut G text why here
put_lasts f text None here put = put
put_lasts f text (Some why) here (kind, failed, reason, many, is) = (kind, f kind failed, reason, many, is)

line_lasts : {F G : ErrorKind → Type 0} → Lasts F G → (line here : Bytes) → IsLine F line here → IsLine G line here
line_lasts f line here (inl whole) = inl whole
line_lasts f line here (inr (kind, failed, many, is)) = inr (kind, f kind failed, many, is)

out_lasts : {F G : ErrorKind → Type 0} → Lasts F G → (e : Event) (here : Bytes) → PutsOut F e here → PutsOut G e here
out_lasts f (reads path got) here put = put
out_lasts f (lacks path) here put = put
out_lasts f (compares one other same) here put = put
out_lasts f (asks path plain) here put = put
out_lasts f (writes path text why) here put = put
out_lasts f (replaces path text why) here put = put
out_lasts f (leaves path) here put = put
out_lasts f (prints text why) here put = put_lasts f text why here put
out_lasts f (says line) here put = put
out_lasts f (notes line) here put = put
out_lasts f (shows error why) here put = tt

note_lasts : {F G : ErrorKind → Type 0} → Lasts F G → {S T : Bool → Type 0} → ((is : Bool) → S is → T is) → (line here : Bytes)
    → IsNote F S line here → IsNote G T line here
note_lasts f tells line here (inl (told, noted)) = inl (tells true told, line_lasts f line here noted)
note_lasts f tells line here (inr (told, none)) = inr (tells false told, none)

err_lasts : {F G : ErrorKind → Type 0} → Lasts F G → {S T : Bool → Type 0} → ((is : Bool) → S is → T is) → (e : Event) (here : Bytes)
    → PutsErr F S e here → PutsErr G T e here
err_lasts f tells (reads path got) here put = put
err_lasts f tells (lacks path) here put = put
err_lasts f tells (compares one other same) here put = put
err_lasts f tells (asks path plain) here put = put
err_lasts f tells (writes path text why) here put = put
err_lasts f tells (replaces path text why) here put = put
err_lasts f tells (leaves path) here put = put
err_lasts f tells (prints text why) here put = put
err_lasts f tells (says line) here put = line_lasts f line here put
err_lasts f tells (notes line) here put = note_lasts f tells line here put
err_lasts f tells (shows error why) here put = tt

-- ---- all of it

-- what is outside, where this is known of files and streams
abbrev pub telling : Outside → (Bytes → Option Bytes) → Option Bytes → (ErrorKind → Type 0) → Option Bytes → (ErrorKind → Type 0) → Outside
telling o holds out out_failed err err_failed = record {
  holds = holds;
  refuses = o.refuses;
  tells_one = o.tells_one;
  tells_plain = o.tells_plain;
  input = o.input;
  input_refuses = o.input_refuses;
  out = out;
  out_failed = out_failed;
  err = err;
  err_failed = err_failed;
  tells_terminal = o.tells_terminal;
}

-- what is outside goes on: what is known of files stays, and what failed has failed
pub record GoesOn (old new : Outside) : Type 0 where
  pub holds : new.holds ≡ old.holds
  pub refuses : (path : Bytes) (kind : ErrorKind) → old.refuses path kind → new.refuses path kind
  pub tells_one : (one other : Bytes) (same : Bool) → old.tells_one one other same → new.tells_one one other same
  pub tells_plain : (path : Bytes) (plain : Bool) → old.tells_plain path plain → new.tells_plain path plain
  pub input : new.input ≡ old.input
  pub input_refuses : (kind : ErrorKind) → old.input_refuses kind → new.input_refuses kind
  pub out_failed : Lasts old.out_failed new.out_failed
  pub err_failed : Lasts old.err_failed new.err_failed
  pub tells_terminal : (is : Bool) → old.tells_terminal is → new.tells_terminal is

held_lasts : (old new : Outside) → GoesOn old new → (e : Event) → IsHeld old e → IsHeld new e
held_lasts old new on (reads (Some path) (Ok text)) held =
    subst (λ (h : Bytes → Option Bytes). IfSome (h path) (λ known. text ≡ take MOST_READ known)) (sym on.holds) held
held_lasts old new on (reads (Some path) (Err why)) (kind, refused, is) = (kind, on.refuses path kind refused, is)
held_lasts old new on (reads None (Ok text)) held =
    subst (λ (known : Option Bytes). IfSome known (λ all. text ≡ take MOST_READ all)) (sym on.input) held
held_lasts old new on (reads None (Err why)) (kind, refused, is) = (kind, on.input_refuses kind refused, is)
held_lasts old new on (lacks path) held = tt
held_lasts old new on (compares one other same) (inl equal) = inl equal
held_lasts old new on (compares one other same) (inr told) = inr (on.tells_one one other same told)
held_lasts old new on (asks path plain) held = on.tells_plain path plain held
held_lasts old new on (writes path text why) held = tt
held_lasts old new on (replaces path text why) held = tt
held_lasts old new on (leaves path) held = tt
held_lasts old new on (prints text why) held = tt
held_lasts old new on (says line) held = tt
held_lasts old new on (notes line) held = tt
held_lasts old new on (shows error why) held = tt

held_behind : (old new : Outside) → GoesOn old new → (front : List Event) (e : Event) → AreHeld old front → IsHeld new e
    → AreHeld new (front ++ e ∷ [])
held_behind old new on [] e held more = (more, tt)
held_behind old new on (f ∷ front) e held more = (held_lasts old new on f held.0, held_behind old new on front e held.1 more)

adds_one : (old new : Outside) (e : Event) → GoesOn old new → IsHeld new e → Grows (PutsOut new.out_failed) old.out new.out e
    → Grows (PutsErr new.err_failed new.tells_terminal) old.err new.err e → Adds (AreDone old) (AreDone new) (e ∷ [])
adds_one old new e on held out err = record {
  behind = λ front before. record {
    held = held_behind old new on front e before.held held;
    printed = on_behind (PutsOut old.out_failed) (PutsOut new.out_failed) (out_lasts on.out_failed) old.out new.out front e before.printed
        out;
    said =
        on_behind (PutsErr old.err_failed old.tells_terminal) (PutsErr new.err_failed new.tells_terminal)
        (err_lasts on.err_failed on.tells_terminal) old.err new.err front e before.said err;
  };
}

-- what is outside stays, but for what is known of files, which is the same, and for what failed
pub goes_on : (o : Outside) (holds : Bytes → Option Bytes) (out : Option Bytes) (out_failed : ErrorKind → Type 0) (err : Option Bytes)
    (err_failed : ErrorKind → Type 0) → holds ≡ o.holds → Lasts o.out_failed out_failed → Lasts o.err_failed err_failed
    → GoesOn o (telling o holds out out_failed err err_failed)
goes_on o holds out out_failed err err_failed same outs errs = record {
  holds = same;
  refuses = λ path kind r. r;
  tells_one = λ one other is t. t;
  tells_plain = λ path is t. t;
  input = refl;
  input_refuses = λ kind r. r;
  out_failed = outs;
  err_failed = errs;
  tells_terminal = λ is t. t;
}

stays : (o : Outside) → GoesOn o o
stays o = goes_on o o.holds o.out o.out_failed o.err o.err_failed refl (λ kind f. f) (λ kind f. f)

-- something that puts nothing on either stream
adds_none : (o : Outside) (e : Event) → IsHeld o e → PutsOut o.out_failed e [] → PutsErr o.err_failed o.tells_terminal e []
    → Adds (AreDone o) (AreDone o) (e ∷ [])
adds_none o e held out err =
    adds_one o o e (stays o) held (grows_none (PutsOut o.out_failed) o.out e out)
    (grows_none (PutsErr o.err_failed o.tells_terminal) o.err e err)

-- it is asked whether two paths lead to one file, which are equal, or of which the system tells it
pub adds_compare : (o : Outside) (one other : Bytes) (same : Bool) → ((one ≡ other) × (same ≡ true)) ⊎ o.tells_one one other same
    → Adds (AreDone o) (AreDone o) (compares one other same ∷ [])
adds_compare o one other same held = adds_none o (compares one other same) held refl refl

pub adds_ask : (o : Outside) (path : Bytes) (plain : Bool) → o.tells_plain path plain
    → Adds (AreDone o) (AreDone o) (asks path plain ∷ [])
adds_ask o path plain told = adds_none o (asks path plain) told refl refl

-- the file at a path was read, or it wasn't
pub adds_reading : (o : Outside) (path : Bytes) (r : Result (Vec ℕ Global) Trouble)
    → IfOk r (λ text. IfSome (o.holds path) (λ held. text.items ≡ take MOST_READ held))
    → IfErr r (IsAnsweredBy (o.refuses path)) → Adds (AreDone o) (AreDone o) (reading_of (Some path) r ∷ [])
adds_reading o path (Ok text) held refused = adds_none o (reads (Some path) (Ok text.items)) held refl refl
adds_reading o path (Err (trouble.Refused why)) held refused = adds_none o (reads (Some path) (Err why)) refused refl refl
adds_reading o path (Err trouble.NoMemory) held refused = adds_none o (lacks (Some path)) tt refl refl

-- so it is with the standard input
pub adds_input : (o : Outside) (r : Result (Vec ℕ Global) Trouble)
    → IfOk r (λ text. IfSome o.input (λ all. text.items ≡ take MOST_READ all))
    → IfErr r (IsAnsweredBy o.input_refuses) → Adds (AreDone o) (AreDone o) (reading_of None r ∷ [])
adds_input o (Ok text) held refused = adds_none o (reads None (Ok text.items)) held refl refl
adds_input o (Err (trouble.Refused why)) held refused = adds_none o (reads None (Err why)) refused refl refl
adds_input o (Err trouble.NoMemory) held refused = adds_none o (lacks None) tt refl refl

-- ---- on a disk

-- what a disk tells behind deeds
abbrev pub behind_deeds : Outside → (Bytes → Option Bytes) → Outside
behind_deeds o now = telling o now o.out o.out_failed o.err o.err_failed

adds_deed : (o : Outside) (now : Bytes → Option Bytes) (e : Event) → now ≡ o.holds → IsHeld (behind_deeds o now) e
    → PutsOut o.out_failed e [] → PutsErr o.err_failed o.tells_terminal e [] → Adds (AreDone o) (AreDone (behind_deeds o now)) (e ∷ [])
adds_deed o now e kept held out err =
    adds_one o (behind_deeds o now) e (goes_on o now o.out o.out_failed o.err o.err_failed kept (λ kind f. f) (λ kind f. f)) held
    (grows_none (PutsOut o.out_failed) o.out e out) (grows_none (PutsErr o.err_failed o.tells_terminal) o.err e err)

-- and a new file may be left
adds_left : (a b : List Event → Type 0) (o : Outside) (e : Event) (left : Option Bytes) → b ≡ AreDone o → Adds a b (e ∷ [])
    → Adds a b (e ∷ leaving left)
adds_left a b o e None is adds = adds
adds_left a b o e (Some path) is adds = record {
  behind = λ front before.
      let one = subst (λ (p : List Event → Type 0). p (front ++ e ∷ [])) is (adds.behind front before) in
      let two = (adds_none o (leaves path) tt refl refl).behind (front ++ e ∷ []) one in
      subst (λ (p : List Event → Type 0). p (front ++ e ∷ leaves path ∷ [])) (sym is)
      (subst (AreDone o) (append_assoc front (e ∷ []) (leaves path ∷ [])) two);
}

pub adds_write : (o : Outside) (now : Bytes → Option Bytes) (path text : Bytes) (why : Option Trouble) (r : Result Unit Unwritten)
    → now ≡ o.holds → Adds (AreDone o) (AreDone (behind_deeds o now)) (writes path text why ∷ leaving (path_left r))
adds_write o now path text why r kept =
    adds_left (AreDone o) (AreDone (behind_deeds o now)) (behind_deeds o now) (writes path text why) (path_left r) refl
    (adds_deed o now (writes path text why) kept tt refl refl)

pub adds_replace : (o : Outside) (now : Bytes → Option Bytes) (path text : Bytes) (why : Option Trouble) (r : Result Unit Unwritten)
    → now ≡ o.holds → Adds (AreDone o) (AreDone (behind_deeds o now)) (replaces path text why ∷ leaving (path_left r))
adds_replace o now path text why r kept =
    adds_left (AreDone o) (AreDone (behind_deeds o now)) (behind_deeds o now) (replaces path text why) (path_left r) refl
    (adds_deed o now (replaces path text why) kept tt refl refl)

-- ---- on a stream

-- what streams tell behind more
abbrev pub behind_put : Outside → Option Bytes → (ErrorKind → Type 0) → Option Bytes → (ErrorKind → Type 0) → Outside
behind_put o out out_failed err err_failed = telling o o.holds out out_failed err err_failed

same_appends : (old new : Option Bytes) → new ≡ old → Appends old new []
same_appends None new is = tt
same_appends (Some held) new is = subst (λ (o : Option Bytes). Appends (Some held) o []) (sym is) (sym (append-nil held))

-- why a text isn't printed whole, by how that went
abbrev pub reason_if : Failure → Option Reason
reason_if None = None
reason_if (Some kind) = Some (reason_by kind)

text_appended : (failed : ErrorKind → Type 0) (old new : Option Bytes) (text : Bytes) (how : Failure) → IsAppended failed old new text how
    → (here : Bytes) × IsPut failed text (reason_if how) here × Appends old new here
text_appended failed old new text None put = (text, refl, put)
text_appended failed old new text (Some kind) (fails, many, put) = (take many text, (kind, fails, refl, many, refl), put)

line_appended : (failed : ErrorKind → Type 0) (old new : Option Bytes) (line : Bytes) (how : Failure)
    → IsAppended failed old new (line ++ codes "\n") how → (here : Bytes) × IsLine failed line here × Appends old new here
line_appended failed old new line None put = (line ++ codes "\n", inl refl, put)
line_appended failed old new line (Some kind) (fails, many, put) =
    (take many (line ++ codes "\n"), inr (kind, fails, many, refl), put)

pub adds_print : (o : Outside) (out : Option Bytes) (out_failed : ErrorKind → Type 0) (err : Option Bytes) (err_failed : ErrorKind → Type 0)
    (text : Bytes) (how : Failure) → IsAppended out_failed o.out out text how → Lasts o.out_failed out_failed
    → Stays o.err_failed err_failed o.err err
    → Adds (AreDone o) (AreDone (behind_put o out out_failed err err_failed)) (prints text (reason_if how) ∷ [])
adds_print o out out_failed err err_failed text how put lasts other =
    adds_one o (behind_put o out out_failed err err_failed) (prints text (reason_if how))
    (goes_on o o.holds out out_failed err err_failed refl lasts other.lasts) tt
    (λ own. text_appended out_failed o.out out text how put) (λ own. ([], refl, same_appends o.err err other.same))

pub adds_line : (o : Outside) (out : Option Bytes) (out_failed : ErrorKind → Type 0) (err : Option Bytes) (err_failed : ErrorKind → Type 0)
    (line : Bytes) (how : Failure) → IsAppended err_failed o.err err (line ++ codes "\n") how → Lasts o.err_failed err_failed
    → Stays o.out_failed out_failed o.out out → Adds (AreDone o) (AreDone (behind_put o out out_failed err err_failed)) (says line ∷ [])
adds_line o out out_failed err err_failed line how put lasts other =
    adds_one o (behind_put o out out_failed err err_failed) (says line)
    (goes_on o o.holds out out_failed err err_failed refl other.lasts lasts) tt
    (λ own. ([], refl, same_appends o.out out other.same)) (λ own. line_appended err_failed o.err err line how put)

-- a line that is noted is said where that is a terminal, and nothing is where it is none
pub adds_note : (o : Outside) (out : Option Bytes) (out_failed : ErrorKind → Type 0) (err : Option Bytes) (err_failed : ErrorKind → Type 0)
    (line : Bytes) (how : Failure) → o.tells_terminal true → IsAppended err_failed o.err err (line ++ codes "\n") how
    → Lasts o.err_failed err_failed → Stays o.out_failed out_failed o.out out
    → Adds (AreDone o) (AreDone (behind_put o out out_failed err err_failed)) (notes line ∷ [])
adds_note o out out_failed err err_failed line how told put lasts other =
    adds_one o (behind_put o out out_failed err err_failed) (notes line)
    (goes_on o o.holds out out_failed err err_failed refl other.lasts lasts) tt
    (λ own. ([], refl, same_appends o.out out other.same))
    (λ own. let (here, said, appends) = line_appended err_failed o.err err line how put in (here, inl (told, said), appends))

pub adds_no_note : (o : Outside) (line : Bytes) → o.tells_terminal false → Adds (AreDone o) (AreDone o) (notes line ∷ [])
adds_no_note o line told = adds_none o (notes line) tt refl (inr (told, refl))

-- the parser is shown
pub adds_shown : (o : Outside) (out : Option Bytes) (out_failed : ErrorKind → Type 0) (err : Option Bytes) (err_failed : ErrorKind → Type 0)
    (error : Error) (why : Option Reason) → Lasts o.out_failed out_failed → Lasts o.err_failed err_failed
    → Adds (AreDone o) (AreDone (behind_put o out out_failed err err_failed)) (shows error why ∷ [])
adds_shown o out out_failed err err_failed error why outs errs =
    adds_one o (behind_put o out out_failed err err_failed) (shows error why)
    (goes_on o o.holds out out_failed err err_failed refl outs errs) tt (λ own. absurd own) (λ own. absurd own)
