-- What is left to show of `draft_edits`.
use Rattle.std.proofs.Common.{◌∙◌, Bool, List, length, ap, subst, refl}
use Rattle.std.specs.Prelude.{All, IsTrue}
use Rattle.mmtext.specs.Words.{Word}
use Rattle.source.specs.Views.{seen_words}
use Rattle.giving.specs.Staying.{others}
use Rattle.library.specs.declared.history.Entry.{Entry}
use Rattle.sourceediting.specs.Following.{Following, all_commands, behind_all, opening, names_none, own_flags}
use Rattle.sourceediting.specs.Refusals.{IsCitedCause}
use Rattle.sourceediting.specs.Views.{seen_following}
use Rattle.std.proofs.lemmas.Result.{err_from_is_err_and}
use Rattle.intake.specs.Intakes.{axioms_of}
use Rattle.givetext.specs.Causes.{known_of}
use Rattle.givetext.proofs.Stopped.{stopped, told_cause, cited_cause}
use Rattle.givetext.proofs.drafting.draft_edits.Goals as goal

pub are_uncited-requires : goal.are_uncited-requires
are_uncited-requires c κs = ((refl, tt), ap length c.as_slice-2.ensures.value ∙ c.in_ok-own.ensures.many)

pub returns-clause-drafted : goal.returns-clause-drafted
returns-clause-drafted c choice are =
    let old = c.args.old.now.stand.scope in
    let taken = c.args.edits.now.taken.now in
    let replayed = c.args.edits.now.replayed.now in
    let followed : Following = seen_following c.in_ok-following.following in
    let own = c.in_ok-own.own.items in
    record {
      followed = record {
        follows =
            c.in_ok-following.ensures choice are
            ∙ ap (λ (es : List Entry). behind_all (all_commands es) (opening old choice taken.database)) c.as_slice.ensures;
        changes_are = c.in_ok-changes-2.ensures ∙ c.in_ok-changes.ensures;
        own_are = c.in_ok-own.ensures.flags choice are;
      };
      uncited =
          subst (λ (ws : List Word). All (λ x. IsTrue (names_none ws x.proof)) (others own old.assertions))
          (ap seen_words c.as_slice-3.ensures.value)
          (subst
          (λ (fs : List Bool). All (λ x. IsTrue (names_none (seen_words c.as_slice-3.result.now) x.proof)) (others fs old.assertions))
          c.as_slice-2.ensures.value c.in_ok-are_uncited.ensures.uncited);
      written = c.in_ok-text.ensures.written;
    }

pub returns-in_err-are_free-clause-refused : goal.returns-in_err-are_free-clause-refused
returns-in_err-are_free-clause-refused c = λ choice are.
    let old = c.args.old.now.stand.scope in
    let taken = c.args.edits.now.taken.now in
    let replayed = c.args.edits.now.replayed.now in
    let own = own_flags choice (axioms_of taken) old in
    let p = err_from_is_err_and c.from_residual-in_err-are_free.result c.from_residual-in_err-are_free.ensures.1 in
    let follows = c.in_ok-following.ensures choice are
    ∙ ap (λ (es : List Entry). behind_all (all_commands es) (opening old choice taken.database)) c.as_slice.ensures in
    rw (p.1, p.2) (λ told. stopped c.args.edits.now.source.now old choice taken replayed.entries replayed.edited
    (seen_following c.in_ok-following.following) c.in_ok-changes-2.changes own follows
    (c.in_ok-changes-2.ensures ∙ c.in_ok-changes.ensures) refl c.in_err-are_free.field-0.0
    (c.in_err-are_free.ensures taken replayed.entries replayed.edited own c.args.edits.now.source.now))

pub returns-in_err-text-clause-refused : goal.returns-in_err-text-clause-refused
returns-in_err-text-clause-refused c = λ choice are.
    let old = c.args.old.now.stand.scope in
    let taken = c.args.edits.now.taken.now in
    let replayed = c.args.edits.now.replayed.now in
    let p = err_from_is_err_and c.from_residual-in_err-text.result c.from_residual-in_err-text.ensures.1 in
    let follows = c.in_ok-following.ensures choice are
    ∙ ap (λ (es : List Entry). behind_all (all_commands es) (opening old choice taken.database)) c.as_slice.ensures in
    rw (p.1, p.2) (λ told. stopped c.args.edits.now.source.now old choice taken replayed.entries replayed.edited
    (seen_following c.in_ok-following.following) c.in_ok-changes-2.changes c.as_slice-flags.result.now follows
    (c.in_ok-changes-2.ensures ∙ c.in_ok-changes.ensures)
    (c.as_slice-flags.ensures.value ∙ c.in_ok-own.ensures.flags choice are) c.in_err-text.field-0.0 c.in_err-text.ensures.refused)

pub returns-in_err-are_uncited-clause-refused : goal.returns-in_err-are_uncited-clause-refused
returns-in_err-are_uncited-clause-refused c = λ choice are.
    let old = c.args.old.now.stand.scope in
    let taken = c.args.edits.now.taken.now in
    let replayed = c.args.edits.now.replayed.now in
    let source = c.args.edits.now.source.now in
    let own = c.as_slice-2.result.now in
    let followed : Following = seen_following c.in_ok-following.following in
    let changes = c.in_ok-changes-2.changes in
    let k = known_of old taken replayed.entries replayed.edited followed changes own in
    let p = err_from_is_err_and c.from_residual-in_err-are_uncited.result c.from_residual-in_err-are_uncited.ensures.1 in
    let e = c.in_err-are_uncited.field-0.0 in
    let follows = c.in_ok-following.ensures choice are
    ∙ ap (λ (es : List Entry). behind_all (all_commands es) (opening old choice taken.database)) c.as_slice.ensures in
    let cited = subst (λ (ws : List Word). IsCitedCause ws (others own old.assertions) e) (ap seen_words c.as_slice-3.ensures.value)
    c.in_err-are_uncited.ensures.cited in
    rw p.1 (λ told. stopped source old choice taken replayed.entries replayed.edited followed changes own follows
    (c.in_ok-changes-2.ensures ∙ c.in_ok-changes.ensures)
    (c.as_slice-2.ensures.value ∙ c.in_ok-own.ensures.flags choice are) p.0
    (told_cause k source e p.0 p.2 (cited_cause k source e cited)))
