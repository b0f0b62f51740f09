-- What is left to show of `other_listings`.
use Rattle.std.proofs.Common.{◌≡◌, ◌∙◌, [], map, None, false, true, List, ℕ, refl, sym, ap, subst, get_or}
use Rattle.std.specs.Borrow.{Bor}
use Rattle.std.specs.Option.{option_map}
use Rattle.std.proofs.lemmas.List.{get_or_default}
use Rattle.std.proofs.lemmas.List.Elements.{All-push}
use Rattle.mmsyntax.specs.declared.statement.Assertion.{Assertion}
use Rattle.sourceediting.specs.declared.following.Followed.{Followed as KeptAssertion}
use Rattle.sourceediting.specs.Views.{seen_living, seen_followed, edition_of, AreLabelled}
use Rattle.sourceediting.specs.Reproved.{step_then, ListsAnew}
use Rattle.library.proofs.Filtered.{contains_mapped}
use Rattle.sourceediting.proofs.planning.other_listings.Goals as goal
use Rattle.sourceediting.proofs.planning.other_listings.Goals.{then-not-is_proof+in_ok-push, else-not-is_proof}

differ : false ≡ true → ⊥
differ e = cc

pub loop-followed-preserved : goal.loop-followed-preserved
loop-followed-preserved c =
    let planned = c.args.planned.now in
    let opened = planned.database.now.assertions in
    let edited = map (λ r. r.assertion) planned.edited.now.entries in
    let living = seen_living planned.living.now in
    let some = c.in-Some-Some-Some in
    let none : Bor (List ℕ) = record { ref_ptr = (0, 0); now = [] } in
    let d : KeptAssertion = record { source = None; first = none; now = none; moved = false } in
    let x : KeptAssertion = get_or planned.living.now c.loop-followed.followed-index d in
    let old = some.ensures opened (subst (AreLabelled c.in_ok-opened.opened) c.assertions.ensures.value c.in_ok-opened.ensures) in
    let new = some.ensures' edited c.requires in
    let Another : Bor (List ℕ) × Bor Assertion → Type 0 = λ p. ListsAnew (edition_of planned) living p.0.now p.1.now in
    elim c.if-not-is_proof.branch [
      | then-not-is_proof+in_ok-push w ↦
          let anew : ListsAnew (edition_of planned) living some.source.now some.new.now = (
            record {
              followed = seen_followed x;
              lives = contains_mapped seen_followed planned.living.now x (
                c.loop-followed.followed-index,
                c.loop-followed-test.true,
                get_or_default planned.living.now c.loop-followed.followed-index x d c.loop-followed-test.true,
              );
              source = ap (option_map (λ (w : Bor (List ℕ)). w.now)) some.is-0;
              old = some.old.now;
              was = old.0;
              first = old.1;
              new = some.new.now;
              is = new.0;
              now = new.1;
              differs = λ e.
                  differ (sym w.if-not-is_proof.true ∙ c.is_proof.ensures.1
                  (ap (λ cs. map (step_then cs) some.old.now.proof) c.in_ok-changes.ensures ∙ e));
            },
            refl,
          ) in
          rw (w.others-is, w.in_ok-push.ensures.items) (All-push Another c.loop-followed.others.items (some.source, some.new)
          c.loop-followed.invariant anew)
      | else-not-is_proof w ↦ rw w.others-is c.loop-followed.invariant
    ]
