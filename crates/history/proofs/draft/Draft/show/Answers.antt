use Rattle.std.proofs.Common.{◌≡◌, ℕ, List, Ok, refl, sym, ap, ◌∙◌}
use Rattle.mmsyntax.specs.declared.statement.Assertion.{Assertion}
use Rattle.library.specs.declared.command.Reply.TheVariants.{Shown}
use Rattle.library.specs.Edits.{citers}
use Rattle.history.specs.Drafts.{Drafted, now_in}
use Rattle.history.proofs.Commands.{found_nowhere, known_label, HasLabel, has_label, free_in}
use Rattle.history.proofs.draft.Draft.show.Goals as goal

pub returns-in_default : goal.returns-in_default
returns-in_default c =
    let d = c.args.self.now in
    let lib = now_in d in
    let i = c.self.inside in
    let held : i.entries.items ≡ d.entries = ap (λ (x : Drafted). x.entries) c.self.view_is in
    let slice : c.as_slice-entries.result.now ≡ i.entries.items = c.as_slice-entries.ensures.value in
    let w = c.args.label.now in
    rw c.refused.ensures (refl, found_nowhere lib w _ (free_in _ d.entries _ w (slice ∙ held) c.as_slice.ensures c.in_default.ensures.none))

pub returns : goal.returns
returns c =
    let d = c.args.self.now in
    let lib = now_in d in
    let i = c.self.inside in
    let held : i.entries.items ≡ d.entries = ap (λ (x : Drafted). x.entries) c.self.view_is in
    let slice : c.as_slice-entries.result.now ≡ i.entries.items = c.as_slice-entries.ensures.value in
    let w = c.args.label.now in
    let found = c.in-Some.ensures.some in
    let e = c.in-Some.entry.now in
    let p = c.in-Some.place in
    let own : HasLabel i.places d.entries w p e =
    has_label i.places i.entries.items d.entries c.as_slice-entries.result.now c.as_slice.result.now w p e c.self.invariant.0.indexed held
    slice found.0 found.1 c.as_slice.ensures in
    let count : c.count_citers-citers.result ≡ citers lib w =
    c.count_citers-citers.ensures ∙ ap (citers lib) c.as_slice-2.ensures in
    known_label i.places d.entries w p e _ own
    ∙ ap (λ (k : List ℕ). Ok (record { library = lib; reply = Shown e.rank (citers lib k) e.assertion })) own.labelled
    ∙ ap (λ (n : ℕ). Ok (record { library = lib; reply = Shown e.rank n e.assertion })) (sym count)
    ∙ ap (λ (x : Assertion). Ok (record { library = lib; reply = Shown e.rank c.count_citers-citers.result x }))
    (sym c.in_ok-assertion.ensures)
