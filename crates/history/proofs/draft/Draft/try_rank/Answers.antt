use Rattle.std.proofs.Common.{◌≡◌, ℕ, Bool, List, Some, false, true, Ok, length, set, refl, sym, ap, subst, ◌∙◌}
use Rattle.std.specs.Prelude.{nat_le, ◌==◌, ◌&&◌}
use Rattle.std.specs.List.{list_any}
use Rattle.std.proofs.lemmas.Bool.{eq-eqb, ne_eqb}
use Rattle.std.proofs.lemmas.Option.{slice_get_read}
use Rattle.mmsyntax.specs.declared.statement.Step.{Step}
use Rattle.library.specs.declared.library.Ranked.{Ranked}
use Rattle.library.specs.declared.reason.Reason.TheVariants as reason
use Rattle.library.specs.Library.{label_of}
use Rattle.library.specs.Edits.{done, cites, cited_not_lower, cites_not_below, citer_not_higher, with_rank, move_tests, bad_rank}
use Rattle.catalog.specs.Entries.{Entries, living, StandsIn}
use Rattle.catalog.specs.Places.{StandsAt}
use Rattle.catalog.specs.Citers.{Covers, HasAllCiters}
use Rattle.history.specs.Drafts.{Drafted, now_in}
use Rattle.catalog.proofs.Covering.{all-listed, list-within, covers-replaced}
use Rattle.history.proofs.Commands.{tested_some, tested_none, so, not_so, first-some, first-none, found_nowhere, known_label, HasLabel}
use Rattle.history.proofs.Commands.{has_label, free_in}
use Rattle.history.proofs.Commands.{library-changed}
use Rattle.history.proofs.draft.Draft.try_rank.Goals as goal

pub returns-in_default-clause-refused : goal.returns-in_default-clause-refused
returns-in_default-clause-refused c =
    let d = c.args.self.now in
    let lib = now_in d in
    let i = c.self.inside in
    let held : i.entries.items ≡ d.entries = ap (λ (x : Drafted). x.entries) c.self.view_is in
    let slice : c.as_slice-entries.result.now ≡ i.entries.items = c.as_slice-entries.ensures.value in
    let w = c.args.label.now in
    rw c.refused.ensures (refl, found_nowhere lib w _ (free_in _ d.entries _ w (slice ∙ held) c.as_slice.ensures c.in_default.ensures.none))

pub returns-then-rank-eq0-clause-refused : goal.returns-then-rank-eq0-clause-refused
returns-then-rank-eq0-clause-refused c =
    let d = c.args.self.now in
    let lib = now_in d in
    let i = c.self.inside in
    let held : i.entries.items ≡ d.entries = ap (λ (x : Drafted). x.entries) c.self.view_is in
    let slice : c.as_slice-entries.result.now ≡ i.entries.items = c.as_slice-entries.ensures.value in
    let w = c.args.label.now in
    let found = c.in-Some.ensures.some in
    let e = c.in-Some.entry.now in
    let p = c.in-Some.place in
    let own : HasLabel i.places d.entries w p e =
    has_label i.places i.entries.items d.entries c.as_slice-entries.result.now c.as_slice.result.now w p e c.self.invariant.0.indexed held
    slice found.0 found.1 c.as_slice.ensures in
    let steps = e.assertion.proof in
    let rank = c.args.rank in
    let bad = so (rank == 0) reason.BadRank (eq-eqb rank 0 c.if-rank-eq0.true) in
    rw c.refused-then-rank-eq0.ensures (
      refl,
      known_label i.places d.entries w p e _ own ∙ tested_some (move_tests lib rank e) _ reason.BadRank
          (first-some (bad_rank rank) _ reason.BadRank bad),
    )

-- what the test of the cited assertions answers, over the library and the proof
below : (slice held : Entries) (rank : ℕ) (steps : List Step) (b c : Bool) → slice ≡ held
    → b ≡ list_any (cites_not_below (living slice) rank) steps → b ≡ c → list_any (cites_not_below (living held) rank) steps ≡ c
below slice held rank steps b c same h k = sym (h ∙ ap (λ l. list_any (cites_not_below (living l) rank) steps) same) ∙ k

-- what the test of the citing ones answers
above : (slice held : Entries) (rank : ℕ) (v w : List ℕ) (b c : Bool) → slice ≡ held → v ≡ w
    → b ≡ list_any (λ e. cites v e && nat_le e.rank rank) (living slice) → b ≡ c
    → list_any (λ e. cites w e && nat_le e.rank rank) (living held) ≡ c
above slice held rank v w b c same own h k =
    sym (h ∙ ap (λ l. list_any (λ e. cites v e && nat_le e.rank rank) (living l)) same
    ∙ ap (λ x. list_any (λ e. cites x e && nat_le e.rank rank) (living held)) own) ∙ k

pub returns-then-cites_not_below-clause-refused : goal.returns-then-cites_not_below-clause-refused
returns-then-cites_not_below-clause-refused c =
    let d = c.args.self.now in
    let lib = now_in d in
    let i = c.self.inside in
    let held : i.entries.items ≡ d.entries = ap (λ (x : Drafted). x.entries) c.self.view_is in
    let slice : c.as_slice-entries.result.now ≡ i.entries.items = c.as_slice-entries.ensures.value in
    let w = c.args.label.now in
    let found = c.in-Some.ensures.some in
    let e = c.in-Some.entry.now in
    let p = c.in-Some.place in
    let own : HasLabel i.places d.entries w p e =
    has_label i.places i.entries.items d.entries c.as_slice-entries.result.now c.as_slice.result.now w p e c.self.invariant.0.indexed held
    slice found.0 found.1 c.as_slice.ensures in
    let steps = e.assertion.proof in
    let rank = c.args.rank in
    let ranked = not_so (rank == 0) reason.BadRank (ne_eqb rank 0 c.if-rank-eq0.false) in
    let not_below = below _ d.entries rank steps _ true
    (slice ∙ held) c.cites_not_below.ensures c.if-cites_not_below.true in
    let first = first-none (bad_rank rank) _ ranked ∙ first-some (cited_not_lower lib rank steps) _ reason.CitedNotLower
    (so _ reason.CitedNotLower not_below) in
    rw c.refused-then-cites_not_below.ensures (
      refl,
      known_label i.places d.entries w p e _ own
          ∙ tested_some (move_tests lib rank e) _ reason.CitedNotLower first,
    )

pub has_citer_below-requires : goal.has_citer_below-requires
has_citer_below-requires c =
    let d = c.args.self.now in
    let i = c.self.inside in
    let held : i.entries.items ≡ d.entries = ap (λ (x : Drafted). x.entries) c.self.view_is in
    let slice : c.as_slice-entries.result.now ≡ i.entries.items = c.as_slice-entries.ensures.value in
    let w = c.args.label.now in
    let found = c.in-Some.ensures.some in
    let e = c.in-Some.entry.now in
    let p = c.in-Some.place in
    let at : StandsIn i.entries.items p e = subst (λ l. StandsIn l p e) slice found.0 in
    let stands : StandsAt i.entries.items (label_of e) p = record { entry = e; at = at; labelled = refl } in
    let within = list-within i.citers.items i.entries.items (label_of e) p stands c.self.invariant.3.long in
    let own = slice_get_read i.citers.items (length i.citers.items) p c.index.result.now refl within c.index.ensures in
    let all = all-listed i.citers.items i.entries.items p e c.index.result.now c.self.invariant.3.covers_now at own in
    rw (slice, c.as_slice-2.ensures, c.as_slice-citers.ensures.value)
    (subst (λ l. HasAllCiters i.entries.items l c.index.result.now.items) (found.1 ∙ c.as_slice.ensures) all)

pub returns-clause-covered : goal.returns-clause-covered
returns-clause-covered c =
    let d = c.args.self.now in
    let i = c.self.inside in
    let held : i.entries.items ≡ d.entries = ap (λ (x : Drafted). x.entries) c.self.view_is in
    let slice : c.as_slice-entries.result.now ≡ i.entries.items = c.as_slice-entries.ensures.value in
    let w = c.args.label.now in
    let found = c.in-Some.ensures.some in
    let e = c.in-Some.entry.now in
    let p = c.in-Some.place in
    let at : StandsIn d.entries p e = subst (λ l. StandsIn l p e) (slice ∙ held) found.0 in
    let covers : Covers d.citers d.entries = subst (λ (x : Drafted). Covers x.citers x.entries) c.self.view_is
    c.self.invariant.3.covers_now in
    rw c.in_ok-moved.ensures
    (covers-replaced d.citers d.entries p (with_rank c.args.rank e) covers e at refl (λ r x at_r here. covers.listed r p x e at_r at here))

pub returns-then-has_citer_below-clause-refused : goal.returns-then-has_citer_below-clause-refused
returns-then-has_citer_below-clause-refused c =
    let d = c.args.self.now in
    let lib = now_in d in
    let i = c.self.inside in
    let held : i.entries.items ≡ d.entries = ap (λ (x : Drafted). x.entries) c.self.view_is in
    let slice : c.as_slice-entries.result.now ≡ i.entries.items = c.as_slice-entries.ensures.value in
    let w = c.args.label.now in
    let found = c.in-Some.ensures.some in
    let e = c.in-Some.entry.now in
    let p = c.in-Some.place in
    let own : HasLabel i.places d.entries w p e =
    has_label i.places i.entries.items d.entries c.as_slice-entries.result.now c.as_slice.result.now w p e c.self.invariant.0.indexed held
    slice found.0 found.1 c.as_slice.ensures in
    let steps = e.assertion.proof in
    let rank = c.args.rank in
    let ranked = not_so (rank == 0) reason.BadRank (ne_eqb rank 0 c.if-rank-eq0.false) in
    let all_below = below _ d.entries rank steps _ false
    (slice ∙ held) c.cites_not_below.ensures c.if-cites_not_below.false in
    let not_above =
    above _ d.entries rank _ (label_of e) _ true (slice ∙ held)
    (c.as_slice-2.ensures ∙ sym own.labelled) c.has_citer_below.ensures c.if-has_citer_below.true in
    let first =
    first-none (bad_rank rank) _ ranked ∙ first-none (cited_not_lower lib rank steps) _ (not_so _ reason.CitedNotLower all_below)
    ∙ first-some (citer_not_higher lib rank (label_of e)) _ reason.CiterNotHigher (so _ reason.CiterNotHigher not_above) in
    rw c.refused-then-has_citer_below.ensures (
      refl,
      known_label i.places d.entries w p e _ own
          ∙ tested_some (move_tests lib rank e) _ reason.CiterNotHigher first,
    )

pub returns-clause-passed : goal.returns-clause-passed
returns-clause-passed c =
    let d = c.args.self.now in
    let lib = now_in d in
    let i = c.self.inside in
    let held : i.entries.items ≡ d.entries = ap (λ (x : Drafted). x.entries) c.self.view_is in
    let slice : c.as_slice-entries.result.now ≡ i.entries.items = c.as_slice-entries.ensures.value in
    let w = c.args.label.now in
    let found = c.in-Some.ensures.some in
    let e = c.in-Some.entry.now in
    let p = c.in-Some.place in
    let own : HasLabel i.places d.entries w p e =
    has_label i.places i.entries.items d.entries c.as_slice-entries.result.now c.as_slice.result.now w p e c.self.invariant.0.indexed held
    slice found.0 found.1 c.as_slice.ensures in
    let steps = e.assertion.proof in
    let rank = c.args.rank in
    let ranked = not_so (rank == 0) reason.BadRank (ne_eqb rank 0 c.if-rank-eq0.false) in
    let all_below = below _ d.entries rank steps _ false
    (slice ∙ held) c.cites_not_below.ensures c.if-cites_not_below.false in
    let all_above =
    above _ d.entries rank _ (label_of e) _ false (slice ∙ held)
    (c.as_slice-2.ensures ∙ sym own.labelled) c.has_citer_below.ensures c.if-has_citer_below.false in
    let first =
    first-none (bad_rank rank) _ ranked ∙ first-none (cited_not_lower lib rank steps) _ (not_so _ reason.CitedNotLower all_below)
    ∙ first-none (citer_not_higher lib rank (label_of e)) _ (not_so _ reason.CiterNotHigher all_above) in
    let moved : record { rank = rank; assertion = c.in_ok-moved.moved.assertion } ≡ with_rank rank e =
    ap (with_rank rank) c.in_ok-moved.ensures in
    record {
      former = e;
      at = own.at;
      made = moved;
      taken = known_label i.places d.entries w p e _ own ∙ tested_none (move_tests lib rank e) _ first
          ∙ ap (λ l. Ok (done l)) (sym (library-changed i.places d.entries w p e (with_rank rank) own)
          ∙ ap (λ (x : Ranked). living (set d.entries p (Some x))) (sym moved));
    }
