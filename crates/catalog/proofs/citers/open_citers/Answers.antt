use Rattle.std.proofs.Common.{◌≡◌, ◌≤◌, length, Some, sym, ap, subst, ◌∙◌, inl, inr, arith}
use Rattle.std.proofs.lemmas.List.{with_items_is}
use Rattle.std.proofs.lemmas.Bool.{cases_eq}
use Rattle.std.proofs.lemmas.Option.{slice_get_within, slice_get-get_or}
use Rattle.library.specs.declared.library.Ranked.{Ranked}
use Rattle.library.specs.Library.{label_of}
use Rattle.catalog.specs.Entries.{StandsIn}
use Rattle.catalog.specs.Listing.{some_cites}
use Rattle.catalog.specs.Citers.{IsCiter, KeepsCiters}
use Rattle.catalog.proofs.citers.open_citers.Goals as goal
use Rattle.catalog.proofs.citers.open_citers.Goals.{in-Some+in_ok-enter_citer, in_default}

pub loop-place-preserved : goal.loop-place-preserved
loop-place-preserved c =
    let es = c.args.entries.now in
    let k = c.loop-place.place in
    let old = c.loop-place.citers in
    let inv = c.loop-place.invariant in
    let read : (f : Ranked) → StandsIn es k f → c.index-entries-place.result ≡ Some f = λ f at.
    let o = c.index-entries-place.result in
    let both : Some o ≡ Some (Some f) =
    sym (slice_get-get_or es k o c.loop-place-test.true ∙ ap (λ x. Some x) (sym c.index-entries-place.is)) ∙ at in
    cc in
    elim c.match-entry.branch [
      | in-Some+in_ok-enter_citer w ↦
          let new = w.enter_citer.new.citers in
          let given = w.as_mut_slice.ensures.value in
          let one = w.in_ok-enter_citer.ensures in
          let now = ap (λ v. v.items) w.citers-is ∙ with_items_is old new (w.enter_citer.auto.citers ∙ w.as_mut_slice.ensures.len) in
          let kept : KeepsCiters old.items new = subst (λ l. KeepsCiters l new) given one.kept in
          rw now (record {
            long = one.long ∙ ap length given ∙ inv.long;
            ascending = one.ascending;
            listed = λ p q e f lt at_p at_q here. elim (cases_eq q k) [
              | inl same ↦
                  let own : Some f ≡ Some w.in-Some.entry = sym (read f (subst (λ n. StandsIn es n f) same at_q)) ∙ w.in-Some.is in
                  let one_f : f ≡ w.in-Some.entry = cc in
                  let steps = ap (λ (x : Ranked). some_cites x.assertion.proof (label_of e)) one_f in
                  subst (λ n. IsCiter new p n) (sym same)
                  (one.entered.entered p e at_p (sym steps ∙ here))
              | inr ne ↦ kept.keeps p q (inv.listed p q e f (omega arith) at_p at_q here)
            ];
          })
      | in_default w ↦
          rw w.citers-is (record {
            long = inv.long;
            ascending = inv.ascending;
            listed = λ p q e f lt at_p at_q here. elim (cases_eq q k) [
              | inl same ↦ absurd (w.in_default.not-Some f (read f (subst (λ n. StandsIn es n f) same at_q)))
              | inr ne ↦ inv.listed p q e f (omega arith) at_p at_q here
            ];
          })
    ]

pub returns-clause-covered : goal.returns-clause-covered
returns-clause-covered c =
    let inv = c.loop-place.invariant in
    let past : length c.args.entries.now ≤ c.loop-place.place = c.loop-place-test.false in
    record {
      listed = λ p q e f at_p at_q here.
          let within = slice_get_within c.args.entries.now q (Some f) at_q in
          inv.listed p q e f (omega arith) at_p at_q here;
    }
