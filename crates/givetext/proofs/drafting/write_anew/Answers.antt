-- What is left to show of `write_anew`.
use Rattle.std.proofs.Common.{List, map, subst}
use Rattle.std.specs.Prelude.{ℕ}
use Rattle.std.specs.Borrow.{Bor}
use Rattle.std.proofs.lemmas.Result.{err_from_is_err_and}
use Rattle.mmtext.specs.Words.{Word}
use Rattle.source.specs.Views.{seen_words}
use Rattle.library.specs.declared.history.Entry.{Entry}
use Rattle.sourceediting.specs.declared.following.Followed.{Followed as KeptAssertion}
use Rattle.sourceediting.specs.Following.{all_commands}
use Rattle.sourceediting.specs.Reproved.{AreOtherProofs}
use Rattle.sourceediting.specs.Refusals.{HasCause, IsUnwritten, OnUnwritten}
use Rattle.sourceediting.specs.Views.{seen_living, seen_following}
use Rattle.givetext.specs.Causes.{known_of, edited_assertions}
use Rattle.givetext.specs.Given.{edition}
use Rattle.givetext.proofs.Stopped.{told_cause, edits_cause}
use Rattle.sourceediting.specs.Written.{IsWrittenAnew}
use Rattle.givetext.proofs.drafting.write_anew.Goals as goal

pub returns-clause-written : goal.returns-clause-written
returns-clause-written c =
    let cs = c.args.changes.now in
    let source = c.args.edits.now.source.now in
    let old = c.args.old.now.stand.scope in
    let e = edition c.args.edits.now.taken.now c.args.edits.now.replayed.now.edited in
    let gone = seen_words c.args.following.now.gone.items in
    let out = c.in_ok-write_edits.field-0.items in
    let says = λ (es : List Entry) (fs : List KeptAssertion) (ws : List Word) (ns : List (Bor (List ℕ) × List ℕ)).
    IsWrittenAnew (all_commands es) (seen_living fs) ws
    (AreOtherProofs source old (record e { names = map (λ p. (p.0.now, p.1)) ns }) (seen_living fs)) cs source out in
    let es = c.as_slice-entries.result.now in
    let fs = c.as_slice-living.result.now in
    let ns = c.args.edits.now.taken.now.names.items in
    subst (λ (fs : List KeptAssertion). says c.args.edits.now.replayed.now.entries fs gone ns) c.as_slice-living.ensures.value
    (subst (λ (es : List Entry). says es fs gone ns) c.as_slice-entries.ensures
    (subst (λ (ws : List (Bor (List ℕ))). says es fs (seen_words ws) ns) c.as_slice-gone.ensures.value
    (subst (says es fs (seen_words c.as_slice-gone.result.now)) c.as_slice-2.ensures.value c.in_ok-write_edits.ensures.written)))

pub returns-in_err-write_edits-clause-refused : goal.returns-in_err-write_edits-clause-refused
returns-in_err-write_edits-clause-refused c =
    let p = err_from_is_err_and c.from_residual-in_err-write_edits.result c.from_residual-in_err-write_edits.ensures.1 in
    let run = c.args.edits.now.replayed.now in
    let k = known_of c.args.old.now.stand.scope c.args.edits.now.taken.now run.entries run.edited
    (seen_following c.args.following.now) c.args.changes.now c.args.own.now in
    let source = c.args.edits.now.source.now in
    let e = c.in_err-write_edits.field-0.0 in
    let cause = subst (λ (fs : List KeptAssertion). HasCause (seen_living fs) (edited_assertions k) source e)
    c.as_slice-living.ensures.value c.in_err-write_edits.ensures.refused in
    let edition = edition c.args.edits.now.taken.now run.edited in
    let known = λ (es : List Entry) (fs : List KeptAssertion) (ns : List (Bor (List ℕ) × List ℕ)).
    OnUnwritten
    (IsUnwritten k.old (record edition { names = map (λ p. (p.0.now, p.1)) ns }) (seen_living fs) k.changes (all_commands es)) e in
    let fs = c.as_slice-living.result.now in
    let ns = c.args.edits.now.taken.now.names.items in
    let unwritten = subst (λ (fs : List KeptAssertion). known run.entries fs ns) c.as_slice-living.ensures.value
    (subst (λ (es : List Entry). known es fs ns) c.as_slice-entries.ensures
    (subst (known c.as_slice-entries.result.now fs) c.as_slice-2.ensures.value c.in_err-write_edits.ensures.unwritten)) in
    rw p.1 (told_cause k source e p.0 p.2 (edits_cause k source e cause unwritten))
