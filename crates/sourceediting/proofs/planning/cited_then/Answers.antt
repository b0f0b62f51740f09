-- What is left to show of `cited_then`.
use Rattle.std.proofs.Common.{◌≡◌, ◌∙◌, ℕ, List, [], false, Some, None, Option, get_or, ap, subst}
use Rattle.std.specs.Prelude.{IfSome, IsSomeAnd, slice_get}
use Rattle.std.specs.Option.{option_map}
use Rattle.std.proofs.lemmas.Option.{slice_get-map, slice_get-get_or}
use Rattle.sourcewriting.specs.Counting.{IsCountOf}
use Rattle.sourceediting.proofs.Unwritten.{and_some}
use Rattle.std.specs.Borrow.{Bor}
use Rattle.std.proofs.lemmas.List.{get_or_default}
use Rattle.library.proofs.Filtered.{contains_mapped}
use Rattle.sourcewriting.specs.declared.listing.Cited.{Cited}
use Rattle.sourceediting.specs.declared.following.Followed.{Followed as KeptAssertion}
use Rattle.sourceediting.specs.Views.{seen_followed, seen_living, edition_of, IsCitedAs}
use Rattle.sourceediting.proofs.Cited.{cited_more, cited_now_more, cited_now_less}
use Rattle.sourceediting.proofs.planning.cited_then.Goals as goal
use Rattle.sourceediting.proofs.planning.cited_then.Goals.{in-Some+in_ok-insert, in_default}

pub loop-followed-preserved : goal.loop-followed-preserved
loop-followed-preserved g c =
    let s = g.D.Declared.scope c.args.declared.now in
    let planned = c.args.planned.now in
    let e = edition_of planned in
    let none : Bor (List ℕ) = record { ref_ptr = (0, 0); now = [] } in
    let d : KeptAssertion = record { source = None; first = none; now = none; moved = false } in
    let x : KeptAssertion = get_or planned.living.now c.loop-followed.followed-index d in
    let i = c.loop-followed.followed-index in
    let living = seen_living planned.living.now in
    let at : slice_get living i ≡ Some (seen_followed x) = slice_get-map seen_followed planned.living.now i
    ∙ ap (option_map seen_followed) (slice_get-get_or planned.living.now i d c.loop-followed-test.true) in
    let lives = contains_mapped seen_followed planned.living.now x
    (i, c.loop-followed-test.true, get_or_default planned.living.now i x d c.loop-followed-test.true) in
    elim c.match-branch-2.branch [
      | in-Some+in_ok-insert w ↦
          rw w.cited-is (record {
            cited = cited_more s e living c.loop-followed.cited w.insert.new.self x.now.now w.in-Some.one c.loop-followed.invariant.cited (
              seen_followed x,
              lives,
              subst (λ (o : Option Cited). IfSome o (IsCitedAs s e (seen_followed x))) w.in-Some.is
                  (c.in_ok-one.ensures.has e c.requires c.prelude.ensures),
            ) w.in_ok-insert.ensures.updates;
            all = λ all.
                cited_now_more s e living c.loop-followed.cited w.insert.new.self (seen_followed x) w.in-Some.one i
                (c.loop-followed.invariant.all all) at lives
                (λ k has.
                subst (λ (o : Option Cited). IsSomeAnd o (λ c. IsCountOf s c.kinds k)) w.in-Some.is
                (c.in_ok-one.ensures.only e k all c.requires c.prelude.ensures has)) w.in_ok-insert.ensures.updates;
          })
      | in_default w ↦
          rw w.cited-is (record {
            cited = c.loop-followed.invariant.cited;
            all = λ all.
                cited_now_less s e living c.loop-followed.cited (seen_followed x) i (c.loop-followed.invariant.all all) at
                (λ k has.
                and_some (λ (c : Cited). IsCountOf s c.kinds k) c.in_ok-one.field-0
                (c.in_ok-one.ensures.only e k all c.requires c.prelude.ensures has) w.in_default.not-Some);
          })
    ]
