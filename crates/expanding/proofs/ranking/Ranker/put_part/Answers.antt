-- What is left to show of `put_part`.
use Rattle.std.proofs.Common.{◌≡◌, ◌∙◌, ◌++◌, map, sym, ap, subst}
use Rattle.std.specs.Prelude.{IfErr}
use Rattle.std.proofs.lemmas.List.{append_assoc}
use Rattle.mmtext.specs.Views.{seen}
use Rattle.spreading.specs.Forms.{words_before_place}
use Rattle.expanding.specs.Ranking.{gap_of_place, crowded_at, ranked_place, ranked_part}
use Rattle.expanding.specs.Views.{IsLaid, IsRankerOf, IsTooMany, with_gap}
use Rattle.spreading.specs.Views.{front_words}
use Rattle.expanding.proofs.Placing.{placed, crowded_there, gap_there, on_ok}
use Rattle.expanding.proofs.ranking.Ranker.put_part.Goals as goal

pub returns-clause-laid : goal.returns-clause-laid
returns-clause-laid g c = λ flags earlier ready.
    let s = g.D.Declared.scope c.args.declared.now in
    let p = map seen c.args.part.now in
    let front = map seen c.split_place.result.0.now in
    let place = map seen c.split_place.result.1.now in
    let o = words_before_place p in
    let new = c.put_place.new.laid in
    let both : front ++ ranked_place s flags earlier place ≡ ranked_part s flags earlier p =
    ap (λ ws. ws ++ ranked_place s flags earlier place) c.split_place.ensures.front
    ∙ (ap (λ ws. front_words o p ++ ranked_place s flags earlier ws) c.split_place.ensures.place ∙ sym (placed s flags earlier p o)) in
    on_ok c.put_place.result _ _ (λ put us h.
    subst (λ ws. IsLaid ws new) (append_assoc us front (ranked_place s flags earlier place) ∙ ap (λ ws. us ++ ws) both)
    (put (us ++ front) (c.in_ok-put_words.ensures.laid us (c.begin_at.ensures.words us h))))
    (c.put_place.ensures.laid flags earlier ready)

pub returns-clause-ranker : goal.returns-clause-ranker
returns-clause-ranker g c = λ flags earlier ready.
    let s = g.D.Declared.scope c.args.declared.now in
    let p = map seen c.args.part.now in
    let same = ap (gap_of_place s flags) c.split_place.ensures.place ∙ sym (gap_there s flags earlier p (words_before_place p)) in
    on_ok c.put_place.result _ _ (λ ready. subst (λ o. IsRankerOf s flags (with_gap earlier o) c.put_place.new.self) same ready)
    (c.put_place.ensures.ranker flags earlier ready)

pub returns-clause-crowded : goal.returns-clause-crowded
returns-clause-crowded g c = λ flags earlier ready.
    let s = g.D.Declared.scope c.args.declared.now in
    let p = map seen c.args.part.now in
    let same = ap (λ ws. crowded_at earlier (gap_of_place s flags ws) ws) c.split_place.ensures.place
    ∙ sym (crowded_there s flags earlier p (words_before_place p)) in
    subst (λ m. IfErr c.put_place.result (IsTooMany m)) same (c.put_place.ensures.crowded flags earlier ready)
