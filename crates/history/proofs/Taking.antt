-- Transactions, command by command.
use Rattle.std.proofs.Common.{◌≡◌, ℕ, ◌+◌, List, [], ◌∷◌, ◌++◌, Result, Ok, Err, refl, sym, ap, subst, ◌∙◌, append-nil}
use Rattle.std.specs.List.{All}
use Rattle.std.proofs.lemmas.List.{append_assoc}
use Rattle.library.specs.declared.library.Ranked.{Ranked}
use Rattle.library.specs.declared.command.Command.{Command}
use Rattle.library.specs.declared.command.Reply.{Reply}
use Rattle.library.specs.declared.reason.Reason.{Reason}
use Rattle.library.specs.declared.reason.Refused.{Refused}
use Rattle.library.specs.Library.{Setting, Verifies}
use Rattle.library.specs.Fitting.{CommandFits}
use Rattle.library.specs.Edits.{edit}
use Rattle.library.specs.Transactions.{Applied, with_reply, then_apply, apply_from, apply}
use Rattle.librarylaws.proofs.Editing.{apply_verifies}
use Rattle.history.specs.declared.editor.ApplyError.{ApplyError}
use Rattle.history.specs.declared.editor.ApplyError.TheVariants as error
use Rattle.history.specs.Drafts.{Drafted, now_in, Takes, TakesAll, KeepsStart, Settles, IsSettled}

-- the replies of earlier commands before those of later ones
abbrev pub with_replies : List Reply → Result Applied Refused → Result Applied Refused
with_replies replies (Ok a) = Ok (record { library = a.library; replies = replies ++ a.replies })
with_replies replies (Err r) = Err r

with_replies-more : (replies : List Reply) (reply : Reply) (r : Result Applied Refused)
    → with_replies replies (with_reply reply r) ≡ with_replies (replies ++ reply ∷ []) r
with_replies-more replies reply (Ok a) =
    ap (λ (rs : List Reply). Ok (record { library = a.library; replies = rs })) (sym (append_assoc replies (reply ∷ []) a.replies))
with_replies-more replies reply (Err r) = refl

-- no command is left
pub taken_all : (s : Setting) (n : ℕ) (lib : List Ranked) (replies : List Reply)
    → with_replies replies (apply_from s n lib []) ≡ Ok (record { library = lib; replies = replies })
unfolding apply_from
taken_all s n lib replies = ap (λ (rs : List Reply). Ok (record { library = lib; replies = rs })) (append-nil replies)

-- the next command is done
pub taken_one : (s : Setting) (n : ℕ) (lib next : List Ranked) (c : Command) (cs : List Command) (replies : List Reply) (reply : Reply)
    → edit s lib c ≡ Ok (record { library = next; reply = reply })
    → with_replies replies (apply_from s n lib (c ∷ cs)) ≡ with_replies (replies ++ reply ∷ []) (apply_from s (n + 1) next cs)
unfolding apply_from
taken_one s n lib next c cs replies reply h =
    ap (λ r. with_replies replies (then_apply n r (λ l. apply_from s (n + 1) l cs))) h
    ∙ with_replies-more replies reply (apply_from s (n + 1) next cs)

-- the next command is refused
pub taken_none : (s : Setting) (n : ℕ) (lib : List Ranked) (c : Command) (cs : List Command) (replies : List Reply) (reason : Reason)
    → edit s lib c ≡ Err reason
    → with_replies replies (apply_from s n lib (c ∷ cs)) ≡ Err (record { index = n; reason = reason })
unfolding apply_from
taken_none s n lib c cs replies reason h = ap (λ r. with_replies replies (then_apply n r (λ l. apply_from s (n + 1) l cs))) h

-- a command that ends a transaction ends it with what the transaction answers
pub error_ends : (start now after new : Drafted) (n : ℕ) (c : Command) (rest cs : List Command) (replies : List Reply) (e : ApplyError)
    → apply start.setting (now_in start) cs ≡ with_replies replies (apply_from now.setting n (now_in now) (c ∷ rest))
    → Takes n now c (Err e) after → TakesAll start cs (Err e) new
error_ends start now after new n c rest cs replies (error.Refused r) so_far h =
    so_far ∙ taken_none now.setting n (now_in now) c rest replies r.reason h.1
    ∙ ap (λ (k : ℕ). Err (record { index = k; reason = r.reason })) (sym h.0)
error_ends start now after new n c rest cs replies error.NoMemory so_far h = tt

-- ---- what stays

pub kept_on : (a b c : Drafted) → KeepsStart a b → KeepsStart b c → KeepsStart a c
kept_on a b c h k = record { setting = k.setting ∙ h.setting; start = k.start ∙ h.start }

-- a transaction that is done is settled once its library is the new start
pub done_settles : (old now new : Drafted) (cs : List Command) (replies : List Reply) → IsSettled old
    → All (CommandFits old.setting.prelude) cs
    → TakesAll old cs (Ok replies) now → KeepsStart old now → Settles now (now_in now) new → IsSettled new
done_settles old now new cs replies settled fit h k settles =
    let same : new.setting ≡ old.setting = settles.setting ∙ k.setting in
    let verifies = apply_verifies old.setting (now_in old) cs (record { library = now_in now; replies = replies }) settled.verifies fit h in
    record {
      verifies = subst (λ s. Verifies s (now_in new)) (sym same) (subst (Verifies old.setting) (sym settles.library) verifies);
      settled = settles.start ∙ sym settles.library;
      forgotten = settles.forgotten;
    }
