use Rattle.std.proofs.Common.{◌≡◌, ◌∷◌, [], Ok, Err, refl, sym, ap, ◌∙◌, arith}
use Rattle.std.specs.Prelude.{nat_le}
use Rattle.std.proofs.lemmas.Bool.{le-leb, lt-leb}
use Rattle.library.specs.declared.reason.Reason.TheVariants as reason
use Rattle.library.specs.Edits.{done, still_cited, citers}
use Rattle.catalog.specs.Entries.{living}
use Rattle.history.specs.Drafts.{Drafted, now_in}
use Rattle.history.proofs.Commands.{tested_some, tested_none, so, not_so, first-some, first-none, found_nowhere, known_label, HasLabel}
use Rattle.history.proofs.Commands.{has_label, free_in}
use Rattle.history.proofs.Commands.{library-without}
use Rattle.history.proofs.draft.Draft.delete.Goals as goal

pub returns-in_default-clause-taken : goal.returns-in_default-clause-taken
returns-in_default-clause-taken c =
    let d = c.args.self.now in
    let lib = now_in d in
    let i = c.self.inside in
    let held : i.entries.items ≡ d.entries = ap (λ (x : Drafted). x.entries) c.self.view_is in
    let slice : c.as_slice-entries.result.now ≡ i.entries.items = c.as_slice-entries.ensures.value in
    let w = c.args.label.now in
    rw c.refused.ensures (refl, found_nowhere lib w _ (free_in _ d.entries _ w (slice ∙ held) c.as_slice.ensures c.in_default.ensures))

pub returns-then-citers-gt0-clause-taken : goal.returns-then-citers-gt0-clause-taken
returns-then-citers-gt0-clause-taken c =
    let d = c.args.self.now in
    let lib = now_in d in
    let i = c.self.inside in
    let held : i.entries.items ≡ d.entries = ap (λ (x : Drafted). x.entries) c.self.view_is in
    let slice : c.as_slice-entries.result.now ≡ i.entries.items = c.as_slice-entries.ensures.value in
    let w = c.args.label.now in
    let at = c.in-Some.ensures in
    let e = at.entry in
    let p = c.in-Some.place in
    let own : HasLabel i.places d.entries w p e =
    has_label i.places i.entries.items d.entries c.as_slice-entries.result.now c.as_slice.result.now w p e c.self.invariant.0.indexed held
    slice at.at at.labelled c.as_slice.ensures in
    let count : c.count_citers-citers.result ≡ citers lib w =
    c.count_citers-citers.ensures ∙ ap (citers lib) c.as_slice-2.ensures in
    let some = c.if-citers-gt0.true in
    let many = so (nat_le 1 (citers lib w)) (reason.StillCited (citers lib w)) (le-leb 1 (citers lib w) (omega arith)) in
    rw c.refused-then-citers-gt0.ensures (
      refl,
      known_label i.places d.entries w p e _ own ∙ tested_some (still_cited lib w ∷ []) _ _ (first-some (still_cited lib w) [] _ many)
          ∙ ap (λ n. Err (reason.StillCited n)) (sym count),
    )

pub returns-clause-taken : goal.returns-clause-taken
returns-clause-taken c =
    let d = c.args.self.now in
    let lib = now_in d in
    let i = c.self.inside in
    let held : i.entries.items ≡ d.entries = ap (λ (x : Drafted). x.entries) c.self.view_is in
    let slice : c.as_slice-entries.result.now ≡ i.entries.items = c.as_slice-entries.ensures.value in
    let w = c.args.label.now in
    let at = c.in-Some.ensures in
    let e = at.entry in
    let p = c.in-Some.place in
    let own : HasLabel i.places d.entries w p e =
    has_label i.places i.entries.items d.entries c.as_slice-entries.result.now c.as_slice.result.now w p e c.self.invariant.0.indexed held
    slice at.at at.labelled c.as_slice.ensures in
    let count : c.count_citers-citers.result ≡ citers lib w =
    c.count_citers-citers.ensures ∙ ap (citers lib) c.as_slice-2.ensures in
    let none = c.if-citers-gt0.false in
    let few = not_so (nat_le 1 (citers lib w)) (reason.StillCited (citers lib w)) (lt-leb 1 (citers lib w) (omega arith)) in
    known_label i.places d.entries w p e _ own ∙ tested_none (still_cited lib w ∷ []) _ (first-none (still_cited lib w) [] few)
    ∙ ap (λ l. Ok (done l)) (sym (library-without i.places d.entries w p e own) ∙ ap living (sym c.in_ok-remove.ensures.done.entries))
