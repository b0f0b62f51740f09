-- A transaction without an edit leaves the library as it was.
use Rattle.std.proofs.Common.{◌≡◌, ℕ, ◌+◌, false, List, [], ◌∷◌, Option, Some, None, Result, Ok, Err, refl, subst}
use Rattle.std.proofs.lemmas.Bool.{or_parts}
use Rattle.library.specs.declared.library.Ranked.{Ranked}
use Rattle.library.specs.declared.command.Command.{Command}
use Rattle.library.specs.declared.command.Command.TheVariants as command
use Rattle.library.specs.declared.command.Reply.{Reply}
use Rattle.library.specs.declared.reason.Reason.{Reason}
use Rattle.library.specs.declared.reason.Refused.{Refused as Refusal}
use Rattle.library.specs.Library.{Setting}
use Rattle.library.specs.Edits.{Edited, is_edit, of_found, found, shown, edit}
use Rattle.library.specs.Transactions.{Applied, with_reply, then_apply, apply_from, has_edit}
use Rattle.library.specs.Laws.{ReadsLeave}

abbrev Leaves : List Ranked → Result Edited Reason → Type 0
Leaves lib (Ok e) = e.library ≡ lib
Leaves lib (Err reason) = Unit {0}

shown_leaves : (lib : List Ranked) (o : Option Ranked) → Leaves lib (of_found o (λ e. Ok (shown lib e)))
shown_leaves lib None = tt
shown_leaves lib (Some e) = refl

edit_leaves : (s : Setting) (lib : List Ranked) (c : Command) → is_edit c ≡ false → Leaves lib (edit s lib c)
edit_leaves s lib (command.Add rank a) reads = absurd cc
edit_leaves s lib (command.Reprove label steps) reads = absurd cc
edit_leaves s lib (command.Replace label old new) reads = absurd cc
edit_leaves s lib (command.Rename old new) reads = absurd cc
edit_leaves s lib (command.Move label rank) reads = absurd cc
edit_leaves s lib (command.Delete label) reads = absurd cc
edit_leaves s lib (command.Show label) reads = shown_leaves lib (found lib label)
edit_leaves s lib command.List reads = refl

abbrev AppliedLeaves : List Ranked → Result Applied Refusal → Type 0
AppliedLeaves lib (Ok a) = a.library ≡ lib
AppliedLeaves lib (Err r) = Unit {0}

reply_leaves : (lib : List Ranked) (reply : Reply) (r : Result Applied Refusal) → AppliedLeaves lib r
    → AppliedLeaves lib (with_reply reply r)
reply_leaves lib reply (Ok a) h = h
reply_leaves lib reply (Err r) h = tt

then_leaves : (lib : List Ranked) (n : ℕ) (r : Result Edited Reason) (rest : List Ranked → Result Applied Refusal) → Leaves lib r
    → ((next : List Ranked) → next ≡ lib → AppliedLeaves lib (rest next)) → AppliedLeaves lib (then_apply n r rest)
then_leaves lib n (Ok e) rest h more = reply_leaves lib e.reply (rest e.library) (more e.library h)
then_leaves lib n (Err reason) rest h more = tt

apply_from_leaves : (s : Setting) (n : ℕ) (lib now : List Ranked) (cs : List Command) → now ≡ lib → has_edit cs ≡ false
    → AppliedLeaves lib (apply_from s n now cs)
unfolding apply_from
apply_from_leaves s n lib now [] same reads = same
apply_from_leaves s n lib now (c ∷ cs) same reads =
    let both = or_parts (is_edit c) (has_edit cs) reads in
    then_leaves lib n (edit s now c) (λ next. apply_from s (n + 1) next cs)
    (subst (λ l. Leaves l (edit s now c)) same (edit_leaves s now c both.0))
    (λ next is. apply_from_leaves s (n + 1) lib next cs is both.1)

pub apply_leaves : ReadsLeave
apply_leaves s lib cs a reads h = subst (AppliedLeaves lib) h (apply_from_leaves s 1 lib lib cs refl reads)
