-- The places of a history, and the rows of its words in both directions.
use Rattle.std.proofs.Common.{◌≡◌, ℕ, zero, suc, ◌^◌, ◌<◌, ◌≤◌, Bool, true, false, cond, eqb, ltb, List, [], ◌∷◌, ◌++◌, length, Option, Some}
use Rattle.std.proofs.Common.{None, Result, Ok, Err, refl, sym, ap, ◌∙◌, arith}
use Rattle.std.specs.Prelude.{codes}
use Rattle.std.specs.Fmt.{decimal}
use Rattle.std.specs.Str.{bytes_eq}
use Rattle.std.specs.Str.Parse.{digits_value}
use Rattle.std.proofs.lemmas.Bool.{cond-true, cond-false}
use Rattle.std.proofs.lemmas.Bool.Decides.{nat_tests}
use Rattle.mmtext.specs.declared.fault.FaultKind.TheVariants.{BadToken, TooLong}
use Rattle.mmtext.specs.declared.fault.TextFault.{TextFault}
use Rattle.mmtext.specs.Text.{Token}
use Rattle.mmtext.specs.Words.{Word, has_dollar}
use Rattle.mmtext.specs.Languages.{fault}
use Rattle.walks.proofs.Walks.{same_word}
use Rattle.mmsyntax.specs.declared.statement.Kind.{Kind}
use Rattle.mmsyntax.specs.declared.statement.Kind.TheVariants.{Axiom, Theorem}
use Rattle.mmsyntax.specs.declared.statement.Assertion.{Assertion}
use Rattle.mmsyntax.specs.Tables.{Tables}
use Rattle.mmsyntax.specs.Faults.{Position, row, unit_at}
use Rattle.library.specs.declared.command.Command.{Command}
use Rattle.library.specs.declared.command.Line.{Line}
use Rattle.library.specs.declared.command.Reply.{Reply}
use Rattle.library.specs.declared.command.Reply.TheVariants.{Shown, Listed}
use Rattle.scripts.specs.ScriptFaults.{Led, inside, whole_command, bad, bad_text, is_numeral, in_command, command_word}
use Rattle.mmsyntax.proofs.Numerals.{decimal_value, digits_lack, not_above}
use Rattle.scripts.proofs.Numerals.{numeral_decimal, numeral_digits, decimal_numeral}
use Rattle.scripts.proofs.InnerUnits.{unit_end, unit_next, HasUnits}
use Rattle.scripts.proofs.ScriptRows.{cond_case}
use Rattle.scripts.proofs.CommandWords.{next_of, Asking, and_one, Asks}
use Rattle.library.specs.declared.history.Entry.{Entry}
use Rattle.library.specs.declared.history.Entry.TheVariants as entry
use Rattle.historytext.specs.Grammar.{highest_count, kind_word}
use Rattle.historytext.specs.Places.{in_shown, at_line, at_kind, at_citers, at_command, within, at_reply, answering}
use Rattle.historytext.specs.Places.{Place, at_entry, in_entry, Progress, Answered, going, whole_reply, wrong, wrong_text, number_row, lines_left}
use Rattle.historytext.specs.Places.{at_begin, at_count, count_row, at, shown_led, shown_row, label_row, kind_row, asked, answered, replies_left, history_language}

-- ---- places

abbrev pub progress : List Entry → Place → Progress
progress entries place = record { entries = entries; place = place }

-- behind whole replies
abbrev pub behind : List Entry → ℕ → List Command → List Reply → Progress
behind entries left commands replies =
    cond (eqb (length replies) (length commands)) (progress (entries ++ entry.Done commands replies ∷ []) (at_entry left))
    (progress entries (in_entry left (at_reply commands replies)))

pub behind_is : (entries : List Entry) (left : ℕ) (commands : List Command) (replies : List Reply)
    → replies_left entries left commands replies ≡ Ok (behind entries left commands replies)
behind_is entries left commands replies = go (eqb (length replies) (length commands))
  where
    go : (b : Bool) → cond b (at (entries ++ entry.Done commands replies ∷ []) (at_entry left))
        (at entries (in_entry left (at_reply commands replies)))
        ≡ Ok (cond b (progress (entries ++ entry.Done commands replies ∷ []) (at_entry left))
        (progress entries (in_entry left (at_reply commands replies))))
    go true = refl
    go false = refl

same_number : (m n : ℕ) → m ≡ n → eqb m n ≡ true
same_number m n h = grind (arith, nat_tests)

lower_number : (m n : ℕ) → m < n → eqb m n ≡ false
lower_number m n h = grind (arith, nat_tests)

pub behind_last : (entries : List Entry) (left : ℕ) (commands : List Command) (replies : List Reply) → length replies ≡ length commands
    → behind entries left commands replies ≡ progress (entries ++ entry.Done commands replies ∷ []) (at_entry left)
behind_last entries left commands replies h = cond-true _ _ _ (same_number (length replies) (length commands) h)

pub behind_earlier : (entries : List Entry) (left : ℕ) (commands : List Command) (replies : List Reply) → length replies < length commands
    → behind entries left commands replies ≡ progress entries (in_entry left (at_reply commands replies))
behind_earlier entries left commands replies h = cond-false _ _ _ (lower_number (length replies) (length commands) h)

-- ---- commands

abbrev pub asking : List Entry → ℕ → Asking Progress
asking entries left = record {
  between = λ cs. progress entries (in_entry left (at_command cs));
  inner = λ cs p. progress entries (in_entry left (within cs p));
  committed = λ cs. behind entries left cs [];
}

asked_is : (entries : List Entry) (left : ℕ) (cs : List Command) (u : Token) (next : Led)
    → asked entries left cs u next ≡ next_of ((asking entries left).inner cs) (and_one (asking entries left) cs) u next
asked_is entries left cs u (inside p) = refl
asked_is entries left cs u (whole_command c) = refl
asked_is entries left cs u (bad kind) = refl
asked_is entries left cs u (bad_text f) = refl

pub asks : (t : Tables) (entries : List Entry) (left : ℕ) → Asks (history_language t) t (asking entries left)
asks t entries left = record {
  words = λ cs u.
      let commit = bytes_eq u.text (codes "commit") in
      let next = command_word t u.text in
      ap (λ x. cond commit x (asked entries left cs u next)) (behind_is entries left cs [])
      ∙ ap (λ x. cond commit (Ok (behind entries left cs [])) x) (asked_is entries left cs u next);
  commands = λ cs p u. asked_is entries left cs u (in_command t p u);
}

-- ---- replies

-- where a token of a reply leads
abbrev pub next_answer : List Entry → ℕ → List Command → List Reply → Token → Answered → Result Progress TextFault
next_answer entries left cs rs u (going p) = Ok (progress entries (in_entry left (answering cs rs p)))
next_answer entries left cs rs u (whole_reply r) = Ok (behind entries left cs (rs ++ r ∷ []))
next_answer entries left cs rs u (wrong kind) = fault u kind
next_answer entries left cs rs u (wrong_text f) = Err f

pub answered_is : (entries : List Entry) (left : ℕ) (cs : List Command) (rs : List Reply) (u : Token) (next : Answered)
    → answered entries left cs rs u next ≡ next_answer entries left cs rs u next
answered_is entries left cs rs u (going p) = refl
answered_is entries left cs rs u (whole_reply r) = behind_is entries left cs (rs ++ r ∷ [])
answered_is entries left cs rs u (wrong kind) = refl
answered_is entries left cs rs u (wrong_text f) = refl

-- the assertion that is shown
pub has_shown : (t : Tables) (entries : List Entry) (left : ℕ) (cs : List Command) (rs : List Reply) (rank citers : ℕ)
    → HasUnits (history_language t) (λ p. progress entries (in_entry left (answering cs rs (in_shown rank citers p))))
    (λ a. behind entries left cs (rs ++ Shown rank citers a ∷ []))
has_shown t entries left cs rs rank citers p u =
    answered_is entries left cs rs u (shown_row rank citers (row p u)) ∙ by_row (row p u)
  where
    by_end : (q : Position) (o : Option Assertion) → next_answer entries left cs rs u (shown_led rank citers q o)
        ≡ unit_end (λ x. progress entries (in_entry left (answering cs rs (in_shown rank citers x))))
        (λ a. behind entries left cs (rs ++ Shown rank citers a ∷ [])) q o
    by_end q None = refl
    by_end q (Some a) = refl

    by_row : (r : Result Position TextFault) → next_answer entries left cs rs u (shown_row rank citers r)
        ≡ unit_next (λ x. progress entries (in_entry left (answering cs rs (in_shown rank citers x))))
        (λ a. behind entries left cs (rs ++ Shown rank citers a ∷ [])) r
    by_row (Ok q) = by_end q (unit_at q.known q.place)
    by_row (Err f) = refl

-- behind whole lines, with so many left
abbrev pub at_lines_left : List Entry → ℕ → List Command → List Reply → ℕ → List Line → Progress
at_lines_left entries left cs rs zero lines = behind entries left cs (rs ++ Listed lines ∷ [])
at_lines_left entries left cs rs (suc n) lines = progress entries (in_entry left (answering cs rs (at_line n lines)))

pub lines_are : (entries : List Entry) (left : ℕ) (cs : List Command) (rs : List Reply) (u : Token) (n : ℕ) (lines : List Line)
    → next_answer entries left cs rs u (lines_left n lines) ≡ Ok (at_lines_left entries left cs rs n lines)
lines_are entries left cs rs u zero lines = refl
lines_are entries left cs rs u (suc n) lines = refl

-- ---- numbers

-- decimal digits of a number up to a highest
pub record IsNumber (highest : ℕ) (w : Word) (n : ℕ) : Type 0 where
  pub digits : w ≡ decimal n
  pub small : n ≤ highest

pub number_numeral : (highest : ℕ) (w : Word) (n : ℕ) → highest < 2 ^ 64 → IsNumber highest w n → is_numeral w ≡ true
number_numeral highest w n low i =
    ap is_numeral i.digits ∙ decimal_numeral n (let le : n ≤ highest = i.small in omega arith)

pub number_plain : (highest : ℕ) (w : Word) (n : ℕ) → highest < 2 ^ 64 → IsNumber highest w n → has_dollar w ≡ false
number_plain highest w n low i = digits_lack 36 w (omega arith) (numeral_digits w (number_numeral highest w n low i))

is_low : (highest n : ℕ) → ltb highest n ≡ false → n ≤ highest
is_low highest n h = grind (arith, nat_tests)

-- where a number leads
pub number_led : (highest : ℕ) (u : Token) (w : Word) (n : ℕ) (next : ℕ → Answered) → highest < 2 ^ 64 → IsNumber highest w n
    → u.text ≡ w → number_row highest u next ≡ next n
number_led highest u w n next low i e =
    let v = digits_value 10 u.text in
    let le : n ≤ highest = i.small in
    let value : v ≡ n = ap (digits_value 10) (e ∙ i.digits) ∙ decimal_value n (omega arith) in
    cond-true (is_numeral u.text) (cond (ltb highest v) (wrong TooLong) (next v)) (wrong BadToken)
    (ap is_numeral e ∙ number_numeral highest w n low i)
    ∙ cond-false (ltb highest v) (wrong TooLong) (next v) (not_above highest v (omega arith)) ∙ ap next value

-- ---- what a row says, where what it leads to has a property

-- a number, by what is wanted of it
pub numeral_case : {X : Type 0} (Q : X → Type 0) (highest : ℕ) (w : Word) (next : ℕ → X) (long other : X) → highest < 2 ^ 64
    → ((n : ℕ) → IsNumber highest w n → Q (next n)) → Q long → Q other
    → Q (cond (is_numeral w) (cond (ltb highest (digits_value 10 w)) long (next (digits_value 10 w))) other)
numeral_case Q highest w next long other low p q r =
    let v = digits_value 10 w in
    cond_case Q (is_numeral w) (cond (ltb highest v) long (next v)) other
    (λ is. cond_case Q (ltb highest v) long (next v) (λ _. q)
    (λ h. let small = is_low highest v h in
    p v (record { digits = sym (numeral_decimal w is (omega arith)); small = small })))
    (λ _. r)

pub label_case : (Q : Answered → Type 0) (left : ℕ) (lines : List Line) (rank : ℕ) (u : Token)
    → (has_dollar u.text ≡ false → Q (going (at_kind left lines rank u.text))) → Q (wrong BadToken) → Q (label_row left lines rank u)
label_case Q left lines rank u p q =
    cond_case Q (has_dollar u.text) (wrong BadToken) (going (at_kind left lines rank u.text)) (λ _. q) p

pub label_led : (left : ℕ) (lines : List Line) (rank : ℕ) (u : Token) (label : Word) → has_dollar label ≡ false → u.text ≡ label
    → label_row left lines rank u ≡ going (at_kind left lines rank label)
label_led left lines rank u label plain e =
    cond-false (has_dollar u.text) (wrong BadToken) (going (at_kind left lines rank u.text)) (ap has_dollar e ∙ plain)
    ∙ ap (λ x. going (at_kind left lines rank x)) e

-- the row of a kind, at a word
abbrev kind_at_word : ℕ → List Line → ℕ → Word → Word → Answered
kind_at_word left lines rank label w =
    cond (bytes_eq w (codes "a")) (going (at_citers left lines rank label Axiom))
    (cond (bytes_eq w (codes "p")) (going (at_citers left lines rank label Theorem)) (wrong BadToken))

pub kind_led : (left : ℕ) (lines : List Line) (rank : ℕ) (label : Word) (k : Kind) (u : Token) → u.text ≡ kind_word k
    → kind_row left lines rank label u ≡ going (at_citers left lines rank label k)
kind_led left lines rank label Axiom u e = ap (kind_at_word left lines rank label) e
kind_led left lines rank label Theorem u e = ap (kind_at_word left lines rank label) e

pub kind_case : (Q : Answered → Type 0) (left : ℕ) (lines : List Line) (rank : ℕ) (label : Word) (u : Token)
    → ((k : Kind) → u.text ≡ kind_word k → Q (going (at_citers left lines rank label k))) → Q (wrong BadToken)
    → Q (kind_row left lines rank label u)
kind_case Q left lines rank label u p q =
    cond_case Q (bytes_eq u.text (codes "a")) (going (at_citers left lines rank label Axiom)) _
    (λ y. p Axiom (same_word u.text (codes "a") y)) (λ _.
    cond_case Q (bytes_eq u.text (codes "p")) (going (at_citers left lines rank label Theorem)) (wrong BadToken)
    (λ y. p Theorem (same_word u.text (codes "p") y)) (λ _. q))

-- ---- rows at a word

-- with one more entry left
abbrev pub entry_at_word : List Entry → ℕ → Token → Word → Result Progress TextFault
entry_at_word entries left u w =
    cond (bytes_eq w (codes "void")) (at (entries ++ entry.Void ∷ []) (at_entry left))
    (cond (bytes_eq w (codes "done")) (at entries (in_entry left at_begin)) (fault u BadToken))

-- behind done
abbrev pub begin_at_word : List Entry → ℕ → Token → Word → Result Progress TextFault
begin_at_word entries left u w = cond (bytes_eq w (codes "begin")) (at entries (in_entry left (at_command []))) (fault u BadToken)

-- at the start
abbrev pub history_at_word : Token → Word → Result Progress TextFault
history_at_word u w = cond (bytes_eq w (codes "history")) (at [] at_count) (fault u BadToken)

-- behind history
pub count_led : (u : Token) (w : Word) (n : ℕ) → IsNumber highest_count w n → u.text ≡ w → count_row [] u ≡ Ok (progress [] (at_entry n))
count_led u w n i e =
    let v = digits_value 10 u.text in
    let le : n ≤ highest_count = i.small in
    let value : v ≡ n = ap (digits_value 10) (e ∙ i.digits) ∙ decimal_value n (omega arith) in
    cond-true (is_numeral u.text) (cond (ltb highest_count v) (fault u TooLong) (at [] (at_entry v))) (fault u BadToken)
    (ap is_numeral e ∙ number_numeral highest_count w n (omega arith) i)
    ∙ cond-false (ltb highest_count v) (fault u TooLong) (at [] (at_entry v)) (not_above highest_count v (omega arith))
    ∙ ap (λ x. Ok (progress [] (at_entry x))) value
