-- What is left to show of `described_in`.
use Rattle.std.proofs.Common.{◌≡◌, ◌≤◌, ◌∙◌, ◌+◌, ◌++◌, ◌-◌, [], List, Bor, ℕ, suc, map, drop, get_or, sym, ap, subst, arith}
use Rattle.std.proofs.lemmas.List.{drop_all, append-nil}
use Rattle.std.specs.Prelude.{codes}
use Rattle.std.specs.Int.{from_bool}
use Rattle.std.specs.Option.{option_map}
use Rattle.mmtext.specs.declared.token.Token.{Token}
use Rattle.mmtext.specs.Views.{seen}
use Rattle.spreading.specs.Forms.{AreParts, begins_with}
use Rattle.expanding.specs.Bars.{seen_part}
use Rattle.expanding.specs.Descriptions.{Description, fronts, descriptions_behind, description_of, begun_behind, listed}
use Rattle.expanding.specs.InFront.{seen_described}
use Rattle.expanding.proofs.Fronting.{part_next, put_one, put_none, begun_more, begun_few}
use Rattle.expanding.proofs.Gathered.{no_view}
use Rattle.expanding.proofs.described.described_in.Goals as goal
use Rattle.expanding.proofs.described.described_in.Goals.{in-Some+in_ok-push, in_default}

pub loop-part-preserved : goal.loop-part-preserved
loop-part-preserved c =
    let fs = fronts c.args.text.now in
    let xs = c.as_slice-part-items.result.now in
    let i = c.loop-part.part-index in
    let n = c.loop-part.begun in
    let d : Bor (List Token) = record { ref_ptr = (0, 0); now = [] } in
    let p = seen_part (get_or xs i d) in
    let lt = c.loop-part-test.true in
    let found = c.loop-part.found.items in
    let begins : c.begins_with.result ≡ begins_with (codes "begin") p = c.begins_with.ensures in
    let begun : n + c.from-begun.result ≡ begun_behind n p =
    begun_more (begins_with (codes "begin") p) n c.from-begun.result (c.from-begun.ensures ∙ ap from_bool begins) in
    let few : begun_behind n p ≤ suc i = begun_few (begins_with (codes "begin") p) n i c.loop-part.invariant.few in
    let told = description_of fs (begun_behind n p - 1) p in
    let is : option_map seen_described c.description_of.result ≡ told =
    c.description_of.ensures fs c.loop-part.invariant.finds
    ∙ ap (λ k. description_of fs k p) (c.saturating_sub-transaction.ensures ∙ ap (λ k. k - 1) begun) in
    let next = part_next seen_part fs n xs i d (map seen_described found) (descriptions_behind fs 0 (map seen_part xs)) lt
    c.loop-part.invariant.told in
    let left : ℕ → List Description = λ k. descriptions_behind fs k (map seen_part (drop (i + 1) xs)) in
    let all : map seen_described c.match-description_of.found.items ≡ map seen_described found ++ listed told = (
    elim c.match-description_of.branch [
      | in-Some+in_ok-push w ↦
          ap (λ v. map seen_described v.items) w.found-is
          ∙ (ap (map seen_described) w.in_ok-push.ensures.items
          ∙ put_one found _ told (ap (option_map seen_described) (sym w.in-Some.is) ∙ is))
      | in_default w ↦
          ap (λ v. map seen_described v.items) w.found-is
          ∙ put_none found told
          (no_view seen_described c.description_of.result w.in_default.not-Some ∙ is)
    ]
    ) in
    record {
      finds = c.loop-part.invariant.finds;
      few = omega (arith, begun);
      told = ap (λ k. map seen_described c.match-description_of.found.items ++ left k) begun
          ∙ (ap (λ ds. ds ++ left (begun_behind n p)) all ∙ next);
    }

pub returns : goal.returns
returns c =
    let fs = fronts c.args.text.now in
    let xs = c.as_slice-part-items.result.now in
    let cut : AreParts (map seen c.args.words.now) (map seen_part xs) =
    subst (λ ys. AreParts (map seen c.args.words.now) (map seen_part ys)) (sym c.as_slice-part-items.ensures.value)
    c.in_ok-parts.ensures in
    let none = drop_all c.loop-part.part-index xs c.loop-part-test.false in
    let found = map seen_described c.loop-part.found.items in (
      map seen_part xs,
      cut,
      sym (append-nil found)
          ∙ (ap (λ ys. found ++ descriptions_behind fs c.loop-part.begun (map seen_part ys)) (sym none) ∙ c.loop-part.invariant.told),
    )
