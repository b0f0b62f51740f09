-- The commands of a transaction, one after another: what one more of them does to what was done.
use Rattle.std.proofs.Common.{◌≡◌, ◌+◌, ℕ, Bool, true, false, List, [], ◌∷◌, ◌++◌, Result, Ok, Err, length, refl, sym}
use Rattle.std.proofs.Common.{ap, subst, ◌∙◌, arith}
use Rattle.std.specs.Prelude.{◌||◌, All}
use Rattle.std.proofs.lemmas.List.Sums.{sum_by-append, sum_by-cons}
use Rattle.library.specs.declared.library.Ranked.{Ranked}
use Rattle.library.specs.declared.command.Command.{Command}
use Rattle.library.specs.declared.command.Reply.{Reply}
use Rattle.library.specs.declared.reason.Reason.{Reason}
use Rattle.library.specs.declared.reason.Refused.{Refused}
use Rattle.library.specs.Library.{Setting, Verifies}
use Rattle.library.specs.Fitting.{CommandFits}
use Rattle.library.specs.Edits.{Edited, edit, is_edit}
use Rattle.library.specs.Transactions.{Applied, with_reply, then_apply, apply_from, has_edit}
use Rattle.librarylaws.proofs.Editing.{apply_verifies}
use Rattle.cells.specs.State.{State}
use Rattle.cells.specs.Sight.{Sight, Matches, Views, Onward, TakesAtMost}
use Rattle.cells.proofs.Sights.{looks_refl, looks_trans, matches_back, setting_kept}
use Rattle.cells.specs.Answers.{ForEachBefore, WritesIfEdit, error_at, Does, IsRefused, CommandAnswers, DoesAll, RefusesAll, RunAnswers}
use Rattle.cells.specs.declared.ending.CommandError.{CommandError}
use Rattle.cells.specs.declared.ending.CommandError.TheVariants as command
use Rattle.groundwork.specs.Takes.{command_words, TakesBodies}
use Rattle.commands.specs.Takes.{most_words_of}
use Rattle.commands.proofs.Taking.{few_words}

-- ---- over a library

apply_none : (s : Setting) (n : ℕ) (lib : List Ranked) → apply_from s n lib [] ≡ Ok (record { library = lib; replies = [] })
unfolding apply_from
apply_none s n lib = refl

apply_first : (s : Setting) (n : ℕ) (lib : List Ranked) (c : Command) (cs : List Command)
    → apply_from s n lib (c ∷ cs) ≡ then_apply n (edit s lib c) (λ next. apply_from s (n + 1) next cs)
unfolding apply_from
apply_first s n lib c cs = refl

-- what a command does, and those behind it
record Begins (s : Setting) (n : ℕ) (lib : List Ranked) (c : Command) (cs : List Command) (a : Applied) : Type 0 where
  first : Edited
  edited : edit s lib c ≡ Ok first
  rest : Applied
  applied : apply_from s (n + 1) first.library cs ≡ Ok rest
  whole : a ≡ record { library = rest.library; replies = first.reply ∷ rest.replies }

begins : (s : Setting) (n : ℕ) (lib : List Ranked) (c : Command) (cs : List Command) (a : Applied) → apply_from s n lib (c ∷ cs) ≡ Ok a
    → Begins s n lib c cs a
begins s n lib c cs a h = split (edit s lib c) refl (sym (apply_first s n lib c cs) ∙ h)
  where
    rest : (e : Edited) (r : Result Applied Refused) → edit s lib c ≡ Ok e → apply_from s (n + 1) e.library cs ≡ r
        → with_reply e.reply r ≡ Ok a
        → Begins s n lib c cs a
    rest e (Ok b) is made k = record { first = e; edited = is; rest = b; applied = made; whole = cc }
    rest e (Err r) is made k = absurd cc

    split : (r : Result Edited Reason) → edit s lib c ≡ r → then_apply n r (λ next. apply_from s (n + 1) next cs) ≡ Ok a
        → Begins s n lib c cs a
    split (Ok e) is k = rest e (apply_from s (n + 1) e.library cs) is refl k
    split (Err reason) is k = absurd cc

-- the same with more behind them
begins_more : (s : Setting) (n : ℕ) (lib : List Ranked) (c : Command) (cs more : List Command) (e : Edited) → edit s lib c ≡ Ok e
    → apply_from s n lib (c ∷ (cs ++ more)) ≡ with_reply e.reply (apply_from s (n + 1) e.library (cs ++ more))
begins_more s n lib c cs more e is =
    apply_first s n lib c (cs ++ more)
    ∙ ap (λ (r : Result Edited Reason). then_apply n r (λ next. apply_from s (n + 1) next (cs ++ more))) is

none_applied : (s : Setting) (n : ℕ) (lib : List Ranked) (a : Applied) → apply_from s n lib [] ≡ Ok a
    → record { library = lib; replies = [] } ≡ a
none_applied s n lib a h =
    let empty : Applied = record { library = lib; replies = [] } in
    let there : Result Applied Refused = Ok empty in
    let here : there ≡ Ok a = sym (apply_none s n lib) ∙ h in cc

-- one more is done
apply_more : (s : Setting) (n : ℕ) (lib : List Ranked) (cs : List Command) (c : Command) (a : Applied) (e : Edited)
    → apply_from s n lib cs ≡ Ok a → edit s a.library c ≡ Ok e
    → apply_from s n lib (cs ++ c ∷ []) ≡ Ok (record { library = e.library; replies = a.replies ++ e.reply ∷ [] })
apply_more s n lib [] c a e h is =
    let same = none_applied s n lib a h in
    let here = subst (λ (x : Applied). edit s x.library c ≡ Ok e) (sym same) is in
    begins_more s n lib c [] [] e here ∙ ap (with_reply e.reply) (apply_none s (n + 1) e.library)
    ∙ ap (λ (x : Applied). Ok (record { library = e.library; replies = x.replies ++ e.reply ∷ [] })) same
apply_more s n lib (d ∷ cs) c a e h is =
    let b = begins s n lib d cs a h in
    begins_more s n lib d cs (c ∷ []) b.first b.edited
    ∙ ap (with_reply b.first.reply) (apply_more s (n + 1) b.first.library cs c b.rest e b.applied
    (subst (λ (x : Applied). edit s x.library c ≡ Ok e) b.whole is))
    ∙ ap (λ (x : Applied). Ok (record { library = e.library; replies = x.replies ++ e.reply ∷ [] })) (sym b.whole)

-- one more is refused
apply_refused : (s : Setting) (n : ℕ) (lib : List Ranked) (cs : List Command) (c : Command) (more : List Command) (a : Applied)
    (reason : Reason)
    → apply_from s n lib cs ≡ Ok a → edit s a.library c ≡ Err reason
    → apply_from s n lib (cs ++ c ∷ more) ≡ Err (record { index = n + length cs; reason = reason })
apply_refused s n lib [] c more a reason h is =
    let same = none_applied s n lib a h in
    let here = subst (λ (x : Applied). edit s x.library c ≡ Err reason) (sym same) is in
    let number : n ≡ n + length {A = Command} [] = omega arith in
    apply_first s n lib c more ∙ ap (λ (r : Result Edited Reason). then_apply n r (λ next. apply_from s (n + 1) next more)) here
    ∙ ap (λ k. Err (record { index = k; reason = reason })) number
apply_refused s n lib (d ∷ cs) c more a reason h is =
    let b = begins s n lib d cs a h in
    let there = subst (λ (x : Applied). edit s x.library c ≡ Err reason) b.whole is in
    let number : n + 1 + length cs ≡ n + length (d ∷ cs) = omega arith in
    begins_more s n lib d cs (c ∷ more) b.first b.edited
    ∙ ap (with_reply b.first.reply) (apply_refused s (n + 1) b.first.library cs c more b.rest reason b.applied there)
    ∙ ap (λ k. Err (record { index = k; reason = reason })) number

-- ---- over cells

-- no command takes no word
pub takes_none : {O : Type 0} → (s : Sight O) → ForEachBefore s s (λ st lib. TakesAtMost (most_words_of []) s s)
takes_none s st lib m v = omega arith

pub does_none : {O : Type 0} → (s : Sight O) → DoesAll s s [] []
does_none s = record { applies = λ st lib m v. (lib, apply_none s.setting 1 lib, v.shows); writes = looks_refl s }

writes_on : {O : Type 0} → (a b : Bool) (s t u : Sight O) → Onward t u → WritesIfEdit a s t → WritesIfEdit b t u → WritesIfEdit (a || b) s u
writes_on true b s t u on w x = (w.0, on.written w.0 w.1)
writes_on false true s t u on w x = x
writes_on false false s t u on w x = looks_trans s t u w x

has_edit_more : (cs : List Command) (c : Command) → (has_edit cs || is_edit c) ≡ has_edit (cs ++ c ∷ [])
has_edit_more [] c = elim (is_edit c) as (λ b. b ≡ (b || false)) [ true ↦ refl | false ↦ refl ]
has_edit_more (d ∷ cs) c =
    elim (is_edit d) as (λ b. ((b || has_edit cs) || is_edit c) ≡ (b || has_edit (cs ++ c ∷ []))) [
      | true ↦ refl
      | false ↦ has_edit_more cs c
    ]

module _ {O : Type 0} (s t u : Sight O) (cs : List Command) (replies : List Reply) (does : DoesAll s t cs replies) (since : Onward s t)
    (on : Onward t u)
    (fit : All (CommandFits s.setting.prelude) cs) where
  -- the library that the commands so far made, and that the run views then
  record Made (st : State) (lib : List Ranked) : Type 0 where
    next : List Ranked
    applied : apply_from s.setting 1 lib cs ≡ Ok (record { library = next; replies = replies })
    views : Views t st next

  made : (st : State) (lib : List Ranked) → Matches u st → Views s st lib → Made st lib
  made st lib m v =
      let before = matches_back t u st on m in
      let d = does.applies st lib before v in
      let verifies = apply_verifies s.setting lib cs (record { library = d.0; replies = replies }) v.verifies fit d.1 in
      record {
        next = d.0;
        applied = d.1;
        views = record {
          matches = before;
          shows = d.2;
          verifies = subst (λ (x : Setting). Verifies x d.0) (sym (setting_kept since)) verifies;
        };
      }

  pub does_more : (c : Command) (reply : Reply) → Does t u c reply → DoesAll s u (cs ++ c ∷ []) (replies ++ reply ∷ [])
  does_more c reply one =
      record {
        applies = λ st lib m v.
            let now = made st lib m v in
            let e = one.edits st now.next m now.views in
            let edited : Edited = record { library = e.0; reply = reply } in
            let is = subst (λ (x : Setting). edit x now.next c ≡ Ok edited) (setting_kept since) e.1 in
            (e.0, apply_more s.setting 1 lib cs c (record { library = now.next; replies = replies }) edited now.applied is, e.2);
        writes = subst (λ b. WritesIfEdit b s u) (has_edit_more cs c) (writes_on (has_edit cs) (is_edit c) s t u on does.writes one.writes);
      }

  -- and takes at most the words of one more
  pub takes_more : (c : Command) → TakesBodies c t u → ForEachBefore s t (λ st lib. TakesAtMost (most_words_of cs) s t)
      → ForEachBefore s u (λ st lib. TakesAtMost (most_words_of (cs ++ c ∷ [])) s u)
  takes_more c one before st lib m v =
      let now = made st lib m v in
      let first = before st lib now.views.matches v in
      let then = one st now.next m now.views in
      let few = few_words t.setting now.next now.views.verifies c in
      let words = command_words (λ label. 16384) in
      omega (arith, first, then, few, sum_by-append words cs (c ∷ []), sum_by-cons words c [])

  pub refuses_more : (c : Command) (more : List Command) (reason : Reason) → IsRefused t u c reason
      → RefusesAll s u (cs ++ c ∷ more) (record { index = 1 + length cs; reason = reason })
  refuses_more c more reason one st lib m v =
      let now = made st lib m v in
      let is = subst (λ (x : Setting). edit x now.next c ≡ Err reason) (setting_kept since) (one.refuses st now.next m now.views) in
      apply_refused s.setting 1 lib cs c more (record { library = now.next; replies = replies }) reason now.applied is

  -- a command that has no reply ends the transaction
  pub ends : (c : Command) (more : List Command) (error : CommandError) → CommandAnswers t u c (Err error)
      → RunAnswers s u (cs ++ c ∷ more) (Err (error_at (1 + length cs) error))
  ends c more (command.Halted halt) caused = caused
  ends c more (command.Refused reason) h = refuses_more c more reason h
