-- What is left to show of `name_labels`.
use Rattle.std.proofs.Common.{ℕ, ◌+◌, All, List, [], ◌∷◌, ◌++◌, take, sym, subst}
use Rattle.std.specs.Borrow.{Bor}
use Rattle.std.proofs.lemmas.List.{map_more, take_all}
use Rattle.std.proofs.lemmas.List.Elements.{All-push}
use Rattle.source.specs.Views.{seen_words}
use Rattle.sourceframes.specs.Names.{words_of, name_in, Lasts}
use Rattle.sourcecheck.specs.Shown.{IsPlaced, AreNamed}
use Rattle.sourceframes.proofs.Numbered.{grows_on, lasts_on}
use Rattle.sourcecheck.proofs.Labelled.{named_push}
use Rattle.sourcecheck.proofs.naming.name_labels.Goals as goal

pub loop-label-preserved : goal.loop-label-preserved
loop-label-preserved g c =
    let labels = c.args.labels.now in
    let i = c.loop-label.label-index in
    let old = c.loop-label.named.items in
    let n = c.in_ok-named_by.field-0 in
    let earlier = take c.args.place (g.D.Declared.scope c.args.declared.now).assertions in
    record {
      sound = c.in_ok-named_by.ensures.keeps.sound;
      grows = grows_on _ _ _ c.loop-label.invariant.grows c.in_ok-named_by.ensures.keeps.grows;
      placed = subst (All (IsPlaced c.args.place)) (sym c.in_ok-push.ensures.items)
          (All-push (IsPlaced c.args.place) old n c.loop-label.invariant.placed c.in_ok-named_by.ensures.placed);
      named = λ x at more.
          let name = name_in (words_of c.named_by.new.table ++ more) in
          subst (λ ns. AreNamed name earlier x (seen_words (take (i + 1) labels)) ns) (sym c.in_ok-push.ensures.items)
          (subst (λ ls. AreNamed name earlier x ls (old ++ n ∷ []))
          (sym (map_more (λ (w : Bor (List ℕ)). w.now) labels i _ c.loop-label-test.true))
          (named_push name earlier x (seen_words (take i labels)) old _ n
          (lasts_on (words_of c.loop-label.table) (words_of c.named_by.new.table)
          (λ name. AreNamed name earlier x (seen_words (take i labels)) old) c.in_ok-named_by.ensures.keeps.grows
          (c.loop-label.invariant.named x at) more)
          (c.in_ok-named_by.ensures.named x at more)));
    }

pub returns-clause-named : goal.returns-clause-named
returns-clause-named g c = λ x at.
    let earlier = take c.args.place (g.D.Declared.scope c.args.declared.now).assertions in
    subst (λ ls. Lasts (words_of c.loop-label.table) (λ name. AreNamed name earlier x (seen_words ls) c.loop-label.named.items))
    (take_all c.loop-label.label-index c.args.labels.now c.loop-label-test.false) (c.loop-label.invariant.named x at)
