-- Edits and transactions keep a library that verifies.
use Rattle.std.proofs.Common.{◌≡◌, ◌≤◌, ◌==◌, ℕ, ◌+◌, Bool, true, false, List, [], ◌∷◌, Option, Some, None, Result, Ok, Err, length, map}
use Rattle.std.proofs.Common.{refl, subst, arith}
use Rattle.std.specs.Prelude.{IsTrue, nat_le, ◌&&◌}
use mathlib.Core.Bool.{not}
use Rattle.std.specs.List.{All, list_any}
use Rattle.std.proofs.lemmas.Bool.{not-false, leb-false, eqb-false}
use Rattle.std.proofs.lemmas.List.Elements.{All-head, All-tail}
use Rattle.mmsyntax.specs.declared.statement.Assertion.{Assertion}
use Rattle.mmsyntax.specs.declared.statement.Step.{Step}
use Rattle.mmsyntax.specs.declared.statement.Step.TheVariants.{Cite}
use Rattle.mmsyntax.specs.Assertions.{is_lawful_label}
use Rattle.derivation.specs.declared.fault.ProofFault.{ProofFault}
use Rattle.derivation.specs.Derivation.{Tree, Proves}
use Rattle.derivation.specs.Outcomes.{outcome, IsOutcome}
use Rattle.derivation.proofs.Outcome.{outcome-is}
use Rattle.library.specs.declared.library.Ranked.{Ranked}
use Rattle.library.specs.declared.command.Command.{Command}
use Rattle.library.specs.declared.command.Command.TheVariants.{Add, Reprove, Replace, Rename, Move, Delete, Show, List as ListAll}
use Rattle.library.specs.declared.command.Reply.{Reply}
use Rattle.library.specs.declared.command.Reply.TheVariants.{Shown, Listed}
use Rattle.library.specs.declared.reason.Reason.{Reason}
use Rattle.library.specs.declared.reason.Reason.TheVariants.{BadLabel, BadRank, LabelTaken, LabelClashes, CitedNotLower, CiterNotHigher, StillCited}
use Rattle.library.specs.declared.reason.Reason.TheVariants.{NotATheorem, NotAlike, LibraryFull}
use Rattle.library.specs.declared.reason.Refused.{Refused}
use Rattle.library.specs.Library.{Setting, Verifies, label_of, citable, in_export_order}
use Rattle.library.specs.Edits.{Edited, Tests, tested, of_found, done, has, clashes, found, cites, citers, added, changed, with_rank, with_proof}
use Rattle.library.specs.Edits.{rename, without, where_so, is_axiom, bad_rank, bad_label, cites_not_below, still_cited, fault_of, proof_fails}
use Rattle.library.specs.Edits.{add_tests, reprove_tests, replace_tests, rename_tests, move_tests, recited, are_alike, shown, listing_line, edit}
use Rattle.library.specs.Fitting.{CommandFits, highest_rank}
use Rattle.library.specs.Transactions.{Applied, with_reply, then_apply, apply_from, apply, library_of}
use Rattle.library.specs.Laws.{EditsVerify, TransactionsVerify}
use Rattle.librarylaws.proofs.Adding.{add_verifies}
use Rattle.library.proofs.Counts.{none_from_count}
use Rattle.librarylaws.proofs.Deleting.{delete_verifies}
use Rattle.librarylaws.proofs.Moving.{move_verifies}
use Rattle.library.proofs.Renaming.{rename_verifies}
use Rattle.librarylaws.proofs.Replacing.{replace_verifies}
use Rattle.librarylaws.proofs.Reproving.{reprove_verifies}
use Rattle.library.proofs.Showing.{ChecksIn}

-- ---- tests

-- no test refuses
abbrev pub NoneRefuses : Tests → Type 0
NoneRefuses [] = Unit {0}
NoneRefuses (t ∷ ts) = (t ≡ None) × NoneRefuses ts

-- what passes its tests is the edit
pub tests_passed : (ts : Tests) (edited e : Edited) → tested ts edited ≡ Ok e → NoneRefuses ts × (edited ≡ e)
tests_passed [] edited e h = (tt, cc)
tests_passed (None ∷ ts) edited e h =
    let later = tests_passed ts edited e h in
    ((refl, later.0), later.1)
tests_passed (Some r ∷ ts) edited e h = absurd cc

-- a test that holds does not pass
pub where_none : (b : Bool) (r : Reason) → where_so b r ≡ None → b ≡ false
where_none true r h = absurd cc
where_none false r h = refl

proof_checks : (s : Setting) (lib : List Ranked) (e : Ranked) → proof_fails s lib e.rank e.assertion ≡ None → ChecksIn s lib e
proof_checks s lib e h theorem =
    proved (outcome (citable s lib e.rank) s.prelude e.assertion) (outcome-is (citable s lib e.rank) s.prelude e.assertion) h
  where
    proved : (r : Result Tree ProofFault) → IsOutcome (citable s lib e.rank) s.prelude e.assertion r → fault_of r ≡ None
        → Proves (citable s lib e.rank) s.prelude e.assertion e.assertion.proof e.assertion.statement
    proved (Ok tree) is none = (tree, is.0, is.1)
    proved (Err fault) is none = absurd cc

-- a rank that is not 0 is at least 1
ranked_where : (rank : ℕ) → bad_rank rank ≡ None → 1 ≤ rank
ranked_where rank h =
    let ne = eqb-false rank 0 (where_none (rank == 0) BadRank h) in
    omega arith

pub lawful_where : (s : Setting) (label : List ℕ) → bad_label s label ≡ None → IsTrue (is_lawful_label s.prelude label)
lawful_where s label h =
    not-false (is_lawful_label s.prelude label) (where_none (not (is_lawful_label s.prelude label)) BadLabel h)

-- ---- edits

-- an edit that leaves a library that verifies
edit_kept : (s : Setting) (ts : Tests) (edited e : Edited) → (NoneRefuses ts → Verifies s edited.library) → tested ts edited ≡ Ok e
    → Verifies s e.library
edit_kept s ts edited e keeps h =
    let passed = tests_passed ts edited e h in
    subst (λ (x : Edited). Verifies s x.library) passed.1 (keeps passed.0)

-- the same of an edit of what is found
found_kept : (s : Setting) (o : Option Ranked) (edit : Ranked → Result Edited Reason) (e : Edited)
    → ((f : Ranked) → o ≡ Some f → edit f ≡ Ok e → Verifies s e.library) → of_found o edit ≡ Ok e → Verifies s e.library
found_kept s None edit e keeps h = absurd cc
found_kept s (Some f) edit e keeps h = keeps f refl h

add_kept : (s : Setting) (lib : List Ranked) (rank : ℕ) (a : Assertion) → Verifies s lib → CommandFits s.prelude (Add rank a)
    → NoneRefuses (add_tests s lib rank a) → Verifies s (added lib rank a)
add_kept s lib rank a v fits t =
    -- the tests that the proof checks, and that there is room
    let behind = t.1.1.1.1.1.1.1 in
    let e : Ranked = record { rank = rank; assertion = a } in
    let free = where_none (has lib a.label) LabelTaken t.1.1.0 in
    let clear = where_none (clashes lib a.label) LabelClashes t.1.1.1.0 in
    let room = leb-false s.slots (length lib) (where_none (nat_le s.slots (length lib)) LibraryFull behind.1.0) in
    add_verifies s lib e v (ranked_where rank t.0, fits.0) (lawful_where s a.label t.1.0) free clear room fits.1
    (proof_checks s lib e behind.0)

reprove_kept : (s : Setting) (lib : List Ranked) (label : List ℕ) (steps : List Step) (e : Ranked) → Verifies s lib
    → found lib label ≡ Some e → length steps ≤ 16384 → NoneRefuses (reprove_tests s lib steps e)
    → Verifies s (changed label (with_proof steps) lib)
reprove_kept s lib label steps e v here few t =
    let theorem = where_none (is_axiom e.assertion.kind) NotATheorem t.0 in
    reprove_verifies s lib label steps e v here theorem few (proof_checks s lib (with_proof steps e) t.1.1.1.0)

replace_kept : (s : Setting) (lib : List Ranked) (label old new : List ℕ) (e : Ranked) → Verifies s lib → found lib label ≡ Some e
    → NoneRefuses (replace_tests s lib old new e) → Verifies s (changed label (with_proof (recited old new e.assertion.proof)) lib)
replace_kept s lib label old new e v here t =
    replace_verifies s lib label old new e v here (where_none (is_axiom e.assertion.kind) NotATheorem t.1.1.0)
    (not-false _ (where_none (not (are_alike s (found lib old) (found lib new))) NotAlike t.1.1.1.0))
    (where_none (list_any (cites_not_below lib e.rank) (Cite new ∷ [])) CitedNotLower t.1.1.1.1.0)

rename_kept : (s : Setting) (lib : List Ranked) (old new : List ℕ) → Verifies s lib → NoneRefuses (rename_tests s lib old new)
    → Verifies s (rename old new lib)
rename_kept s lib old new v t =
    rename_verifies s lib old new v (lawful_where s new t.1.0) (where_none (has lib new) LabelTaken t.1.1.0)
    (where_none (clashes (without old lib) new) LabelClashes t.1.1.1.0)

move_kept : (s : Setting) (lib : List Ranked) (label : List ℕ) (rank : ℕ) (e : Ranked) → Verifies s lib → found lib label ≡ Some e
    → rank ≤ highest_rank → NoneRefuses (move_tests lib rank e) → Verifies s (changed label (with_rank rank) lib)
move_kept s lib label rank e v here fits t =
    move_verifies s lib label rank e v here (ranked_where rank t.0, fits)
    (where_none (list_any (cites_not_below lib rank) e.assertion.proof) CitedNotLower t.1.0)
    (where_none (list_any (λ f. cites (label_of e) f && nat_le f.rank rank) lib) CiterNotHigher t.1.1.0)

delete_kept : (s : Setting) (lib : List Ranked) (label : List ℕ) → Verifies s lib → still_cited lib label ≡ None
    → Verifies s (without label lib)
delete_kept s lib label v t =
    let few = leb-false 1 (citers lib label) (where_none (nat_le 1 (citers lib label)) (StillCited (citers lib label)) t) in
    delete_verifies s lib label v (none_from_count (cites label) lib (omega arith))

-- one that leaves the library as it is
shown_kept : (s : Setting) (lib : List Ranked) (reply : Reply) (e : Edited) → Verifies s lib
    → tested [] (record { library = lib; reply = reply }) ≡ Ok e → Verifies s e.library
shown_kept s lib reply e v h = edit_kept s [] (record { library = lib; reply = reply }) e (λ t. v) h

pub edit_verifies : EditsVerify
edit_verifies s lib (Add rank a) e v fits h =
    edit_kept s (add_tests s lib rank a) (done (added lib rank a)) e (add_kept s lib rank a v fits) h
edit_verifies s lib (Reprove label steps) e v fits h =
    let next = done (changed label (with_proof steps) lib) in
    found_kept s (found lib label) (λ f. tested (reprove_tests s lib steps f) next) e
    (λ f here. edit_kept s (reprove_tests s lib steps f) next e (reprove_kept s lib label steps f v here fits.0)) h
edit_verifies s lib (Replace label old new) e v fits h =
    let next = λ (f : Ranked). done (changed label (with_proof (recited old new f.assertion.proof)) lib) in
    found_kept s (found lib label) (λ f. tested (replace_tests s lib old new f) (next f)) e
    (λ f here. edit_kept s (replace_tests s lib old new f) (next f) e (replace_kept s lib label old new f v here)) h
edit_verifies s lib (Rename old new) e v fits h =
    edit_kept s (rename_tests s lib old new) (done (rename old new lib)) e (rename_kept s lib old new v) h
edit_verifies s lib (Move label rank) e v fits h =
    let next = done (changed label (with_rank rank) lib) in
    found_kept s (found lib label) (λ f. tested (move_tests lib rank f) next) e
    (λ f here. edit_kept s (move_tests lib rank f) next e (move_kept s lib label rank f v here fits)) h
edit_verifies s lib (Delete label) e v fits h =
    let ts : Tests = still_cited lib label ∷ [] in
    let next = done (without label lib) in
    found_kept s (found lib label) (λ f. tested ts next) e
    (λ f here. edit_kept s ts next e (λ t. delete_kept s lib label v t.0)) h
edit_verifies s lib (Show label) e v fits h =
    found_kept s (found lib label) (λ f. Ok (shown lib f)) e
    (λ f here. shown_kept s lib (Shown f.rank (citers lib (label_of f)) f.assertion) e v) h
edit_verifies s lib ListAll e v fits h = shown_kept s lib (Listed (map (listing_line lib) (in_export_order lib))) e v h

-- ---- transactions

-- the library of a transaction that was not refused verifies
abbrev Kept : Setting → Result Applied Refused → Type 0
Kept s (Ok a) = Verifies s a.library
Kept s (Err r) = Unit {0}

reply_kept : (s : Setting) (reply : Reply) (r : Result Applied Refused) → Kept s r → Kept s (with_reply reply r)
reply_kept s reply (Ok a) h = h
reply_kept s reply (Err r) h = tt

then_kept : (s : Setting) (n : ℕ) (r : Result Edited Reason) (rest : List Ranked → Result Applied Refused)
    → ((e : Edited) → r ≡ Ok e → Kept s (rest e.library)) → Kept s (then_apply n r rest)
then_kept s n (Ok e) rest h = reply_kept s e.reply (rest e.library) (h e refl)
then_kept s n (Err reason) rest h = tt

apply_kept : (s : Setting) (n : ℕ) (lib : List Ranked) (cs : List Command) → Verifies s lib → All (CommandFits s.prelude) cs
    → Kept s (apply_from s n lib cs)
unfolding apply_from
apply_kept s n lib [] v fit = v
apply_kept s n lib (c ∷ cs) v fit =
    then_kept s n (edit s lib c) (λ next. apply_from s (n + 1) next cs)
    (λ e h. apply_kept s (n + 1) e.library cs (edit_verifies s lib c e v (All-head (CommandFits s.prelude) c cs fit) h)
    (All-tail (CommandFits s.prelude) c cs fit))

-- the library and the replies of a transaction that was not refused
pub apply_verifies : (s : Setting) (lib : List Ranked) (cs : List Command) (a : Applied) → Verifies s lib → All (CommandFits s.prelude) cs
    → apply s lib cs ≡ Ok a → Verifies s a.library
apply_verifies s lib cs a v fit h = subst (Kept s) h (apply_kept s 1 lib cs v fit)

library_kept : (s : Setting) (lib : List Ranked) (r : Result Applied Refused) → Verifies s lib → Kept s r → Verifies s (library_of lib r)
library_kept s lib (Ok a) v h = h
library_kept s lib (Err r) v h = v

pub transaction_verifies : TransactionsVerify
transaction_verifies s lib cs v fit = library_kept s lib (apply s lib cs) v (apply_kept s 1 lib cs v fit)
