-- What is left to show of `unplaced`.
use Rattle.std.proofs.Common.{◌∙◌, map, ap, sym, subst}
use Rattle.library.specs.declared.library.Ranked.{Ranked}
use Rattle.sourceediting.specs.Refusals.{HasCause, OnUnwritten}
use Rattle.sourceediting.specs.Views.{seen_living}
use Rattle.sourceediting.proofs.Numbered.{numbered}
use Rattle.sourceediting.proofs.beside.unplaced.Goals as goal

pub returns-clause-cause : goal.returns-clause-cause
returns-clause-cause c =
    let rs = c.args.entries.now in
    let entry = c.index-entries-number in
    let neighbour = c.in-Some.neighbour in
    subst (HasCause (seen_living c.args.living.now) (map (λ (r : Ranked). r.assertion) rs) c.args.source.now) (sym c.in_ok-why.ensures)
    (record {
      number = c.args.number;
      is_put =
          numbered rs c.args.number entry.result c.as_slice-label.result.now c.requires.within entry.is
          (ap (λ (r : Ranked). r.assertion.label) entry.is ∙ sym c.as_slice-label.ensures);
      place = c.in-Some-number_of.next;
      is_next = c.in-Some-number_of.ensures.numbered;
      beside = c.is_beside.ensures c.if-not-is_beside.false;
      neighbour = neighbour.label.now;
      stays = c.in-Some-from_source.ensures;
      headed = c.in_ok-is_headed.ensures c.if-not-branch.false;
    })

pub returns-clause-unwritten : goal.returns-clause-unwritten
returns-clause-unwritten c = subst (OnUnwritten (λ _. ⊥)) (sym c.in_ok-why.ensures) tt
