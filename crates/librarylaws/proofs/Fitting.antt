-- What a transaction on a library that verifies shows fits the prelude.
use Rattle.std.proofs.Common.{◌≡◌, ℕ, ◌+◌, Bool, List, [], ◌∷◌, Option, Some, None, Result, Ok, Err, refl, subst, inl, inr}
use Rattle.std.specs.Prelude.{All}
use Rattle.std.specs.List.{find, AllByRecursion}
use Rattle.std.proofs.lemmas.List.Elements.{All-cons, All-nil, All-head, All-tail, recursion_from_All}
use Rattle.std.proofs.lemmas.Bool.{cases_Bool, cond-true, cond-false}
use Rattle.mmsyntax.specs.Assertions.{Fits}
use Rattle.library.specs.declared.library.Ranked.{Ranked}
use Rattle.library.specs.declared.command.Command.{Command}
use Rattle.library.specs.declared.command.Command.TheVariants as command
use Rattle.library.specs.declared.command.Reply.{Reply}
use Rattle.library.specs.declared.reason.Reason.{Reason}
use Rattle.library.specs.declared.reason.Refused.{Refused as Refusal}
use Rattle.library.specs.Library.{Setting, Verifies}
use Rattle.library.specs.Edits.{Edited, Tests, tested, of_found, found, add_tests, reprove_tests, replace_tests, rename_tests, move_tests, still_cited}
use Rattle.library.specs.Edits.{is_labelled, edit}
use Rattle.library.specs.Fitting.{CommandFits, ReplyFits}
use Rattle.library.specs.Transactions.{Applied, with_reply, then_apply, apply_from}
use Rattle.library.specs.Laws.{RepliesFit}
use Rattle.librarylaws.proofs.Editing.{edit_verifies}

-- what is found in a list is one of its items
found_holds : {A : Type 0} (P : A → Type 0) (p : A → Bool) (xs : List A) (x : A) → AllByRecursion P xs → find p xs ≡ Some x → P x
found_holds P p [] x h e = absurd cc
found_holds {A} P p (y ∷ ys) x h e =
    elim (cases_Bool (p y)) [
      | inl t ↦
          let here : Some y ≡ Some x = subst (λ (o : Option A). o ≡ Some x) (cond-true (p y) (Some y) (find p ys) t) e in
          let same : y ≡ x = cc in
          subst P same h.0
      | inr f ↦ found_holds P p ys x h.1 (subst (λ (o : Option A). o ≡ Some x) (cond-false (p y) (Some y) (find p ys) f) e)
    ]

-- ---- edits

-- the reply of an edit that is not refused fits
abbrev EditFits : Setting → Result Edited Reason → Type 0
EditFits s (Ok e) = ReplyFits s.prelude e.reply
EditFits s (Err reason) = Unit {0}

tested_fits : (s : Setting) (ts : Tests) (e : Edited) → ReplyFits s.prelude e.reply → EditFits s (tested ts e)
tested_fits s [] e h = h
tested_fits s (Some reason ∷ ts) e h = tt
tested_fits s (None ∷ ts) e h = tested_fits s ts e h

-- what is done with an assertion of the library
of_found_fits : (s : Setting) (o : Option Ranked) (then : Ranked → Result Edited Reason) → ((e : Ranked) → o ≡ Some e → EditFits s (then e))
    → EditFits s (of_found o then)
of_found_fits s None then h = tt
of_found_fits s (Some e) then h = h e refl

edit_fits : (s : Setting) (lib : List Ranked) (c : Command) → Verifies s lib → EditFits s (edit s lib c)
edit_fits s lib (command.Add rank a) v = tested_fits s (add_tests s lib rank a) _ tt
edit_fits s lib (command.Reprove label steps) v =
    of_found_fits s (found lib label) _ (λ e at. tested_fits s (reprove_tests s lib steps e) _ tt)
edit_fits s lib (command.Replace label old new) v =
    of_found_fits s (found lib label) _ (λ e at. tested_fits s (replace_tests s lib old new e) _ tt)
edit_fits s lib (command.Rename old new) v = tested_fits s (rename_tests s lib old new) _ tt
edit_fits s lib (command.Move label rank) v = of_found_fits s (found lib label) _ (λ e at. tested_fits s (move_tests lib rank e) _ tt)
edit_fits s lib (command.Delete label) v = of_found_fits s (found lib label) _ (λ e at. tested_fits s (still_cited lib label ∷ []) _ tt)
edit_fits s lib (command.Show label) v =
    of_found_fits s (found lib label) _
    (λ e at. found_holds (λ x. Fits s.prelude x.assertion) (is_labelled label) lib e (recursion_from_All _ lib v.fit) at)
edit_fits s lib command.List v = tt

-- ---- transactions

abbrev AppliedFits : Setting → Result Applied Refusal → Type 0
AppliedFits s (Ok a) = All (ReplyFits s.prelude) a.replies
AppliedFits s (Err r) = Unit {0}

reply_fits : (s : Setting) (reply : Reply) (r : Result Applied Refusal) → ReplyFits s.prelude reply → AppliedFits s r
    → AppliedFits s (with_reply reply r)
reply_fits s reply (Ok a) h rest = All-cons (ReplyFits s.prelude) reply a.replies h rest
reply_fits s reply (Err r) h rest = tt

then_fits : (s : Setting) (n : ℕ) (r : Result Edited Reason) (rest : List Ranked → Result Applied Refusal)
    → EditFits s r → ((e : Edited) → r ≡ Ok e → AppliedFits s (rest e.library)) → AppliedFits s (then_apply n r rest)
then_fits s n (Ok e) rest h more = reply_fits s e.reply (rest e.library) h (more e refl)
then_fits s n (Err reason) rest h more = tt

apply_from_fits : (s : Setting) (n : ℕ) (lib : List Ranked) (cs : List Command) → Verifies s lib → All (CommandFits s.prelude) cs
    → AppliedFits s (apply_from s n lib cs)
unfolding apply_from
apply_from_fits s n lib [] v fit = All-nil (ReplyFits s.prelude)
apply_from_fits s n lib (c ∷ cs) v fit =
    let P = CommandFits s.prelude in
    then_fits s n (edit s lib c) (λ next. apply_from s (n + 1) next cs) (edit_fits s lib c v)
    (λ e h. apply_from_fits s (n + 1) e.library cs (edit_verifies s lib c e v (All-head P c cs fit) h) (All-tail P c cs fit))

-- the replies of a transaction that is not refused
pub replies_fit : RepliesFit
replies_fit s lib cs a v fit h = subst (AppliedFits s) h (apply_from_fits s 1 lib cs v fit)
