use Rattle.std.proofs.Common.{◌≡◌, ℕ, suc, ◌+◌, ◌<◌, List, ◌∷◌, get_or, drop, length, refl, sym, ap, subst, ◌∙◌, arith, drop-cons}
use Rattle.std.proofs.Math.ListN.{drop_of_length-le}
use Rattle.std.proofs.lemmas.List.Elements.{Contains-get_or}
use Rattle.std.proofs.lemmas.Bool.{false_from_ne_true}
use Rattle.library.specs.Edits.{cites}
use Rattle.catalog.specs.Entries.{Entries}
use Rattle.catalog.specs.Citers.{IsCiter}
use Rattle.catalog.specs.Places.{StandsAt}
use Rattle.catalog.specs.Changes.{changed_at, citing}
use Rattle.catalog.proofs.Citations.{citing-alone}
use Rattle.catalog.proofs.Reciting.{changed_each, each-is-all, stands-changed}
use Rattle.history.proofs.Taking.{kept_on}
use Rattle.history.proofs.draft.Draft.recite_all.Goals as goal

-- the places from the i-th on
from_place : (xs : List ℕ) (i : ℕ) → i < length xs → drop i xs ≡ get_or xs i 0 ∷ drop (i + 1) xs
from_place xs i within =
    let next : suc i ≡ i + 1 = omega arith in
    drop-cons xs i 0 within ∙ ap (λ k. get_or xs i 0 ∷ drop k xs) next

pub recite-requires : goal.recite-requires
recite-requires c =
    let x = c.loop-place in
    let l = x.invariant.listed in
    (l.0, l.1, l.2 _ (Contains-get_or c.args.citers.now x.place-index 0 c.loop-place-test.true))

pub loop-place-preserved : goal.loop-place-preserved
loop-place-preserved c =
    let x = c.loop-place in
    let qs = c.args.citers.now in
    let q = get_or qs x.place-index 0 in
    let f = citing c.args.old.now c.args.new.now in
    let left = from_place qs x.place-index c.loop-place-test.true in
    let l = x.invariant.listed in
    let now = c.recite.new.self in
    let done : now.entries ≡ changed_at q f x.self.entries = c.in_ok-recite.ensures.done in
    record {
      renamed = ap (changed_each (drop (x.place-index + 1) qs) f) done ∙ ap (λ l. changed_each l f x.self.entries) (sym left)
          ∙ x.invariant.renamed;
      listed = (
        l.0,
        subst (λ (es : Entries). StandsAt es c.args.new.now l.0) (sym done)
            (stands-changed f x.self.entries c.args.new.now l.0 q (λ e. refl) l.1),
        λ r at. subst (λ k. IsCiter k l.0 r) (sym c.in_ok-recite.ensures.citers) (l.2 r at),
      );
      kept = kept_on c.args.self.now x.self now x.invariant.kept c.in_ok-recite.ensures.kept;
    }

pub returns-clause-done : goal.returns-clause-done
returns-clause-done c =
    let x = c.loop-place in
    let qs = c.args.citers.now in
    let es = c.args.self.now.entries in
    let old = c.args.old.now in
    let new = c.args.new.now in
    let f = citing old new in
    ap (λ l. changed_each l f x.self.entries) (sym (drop_of_length-le qs c.loop-place-test.false)) ∙ x.invariant.renamed
    ∙ each-is-all f qs es c.requires.ascending (λ q e none at.
    citing-alone old new e (false_from_ne_true (cites old e) (λ y. none (c.requires.all.all q e at y))))
