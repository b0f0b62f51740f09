-- What is left to show of `texts_of`.
use Rattle.std.proofs.Common.{◌≡◌, ◌∙◌, [], ◌∷◌, ℕ, rules, None, map, refl, sym, ap, subst, append-nil, drop, ◌+◌}
use Rattle.std.specs.Prelude.{MatchOption, Option, Vec}
use Rattle.std.specs.declared.alloc.Global.{Global}
use Rattle.std.proofs.lemmas.List.{drop_all}
use Rattle.giving.specs.Changes.{seen_texts}
use Rattle.pasting.specs.Views.{seen_given_proof}
use Rattle.pasting.specs.declared.own_words.GivenProof.{GivenProof as CodeProof}
use Rattle.dressing.specs.Quoted.{AreQuoted, CanBeWritten, IsQuotable, IsQuotedAs}
use Rattle.dressing.proofs.Quoting.{Leads, has_one, has_none, left_are, one_more}
use Rattle.dressing.proofs.texts.texts_of.Goals as goal
use Rattle.dressing.proofs.texts.texts_of.Goals.{in-Some+in_ok-push, in_default}

pub loop-one-preserved : goal.loop-one-preserved
loop-one-preserved g c = λ items are.
    let s = g.D.Declared.scope c.args.declared.now in
    let qs = c.args.given.now in
    let all = map seen_given_proof qs in
    let i = c.loop-one.one-index in
    let lt = c.loop-one-test.true in
    let d = c.one-item.result in
    let q = seen_given_proof d in
    let left = map seen_given_proof (drop (i + 1) qs) in
    let so_far = seen_texts c.loop-one.texts.items in
    let leads : Leads s items all so_far (q ∷ left) =
    subst (λ (k : CodeProof). Leads s items all so_far (seen_given_proof k ∷ left)) (sym c.one-item.is)
    (subst (Leads s items all so_far) (left_are qs i d lt) (c.loop-one.invariant items are)) in
    let told = c.in_ok-text.ensures items are in
    elim c.match-branch-2.branch [
      | in-Some+in_ok-push w ↦
          let is = ap (λ v. seen_texts v.items) w.texts-is ∙ ap seen_texts w.in_ok-push.ensures.items
          ∙ one_more c.loop-one.texts.items d.label w.in-Some.text in
          let quoted : IsQuotedAs s items q w.in-Some.text.items =
          subst (λ (o : Option (Vec ℕ Global)). MatchOption o (IsQuotable s q → CanBeWritten q.proof → ⊥) (λ text. IsQuotedAs s items q
          text.items)) w.in-Some.is told in
          subst (λ ts. Leads s items all ts left) (sym is) (has_one s items all so_far q left leads w.in-Some.text.items quoted)
      | in_default w ↦
          let is = ap (λ v. seen_texts v.items) w.texts-is in
          let none : c.in_ok-text.field-0 ≡ None = search rules in
          let never : IsQuotable s q → CanBeWritten q.proof → ⊥ =
          subst (λ (o : Option (Vec ℕ Global)). MatchOption o (IsQuotable s q → CanBeWritten q.proof → ⊥) (λ text. IsQuotedAs s items q
          text.items)) none told in
          subst (λ ts. Leads s items all ts left) (sym is) (has_none s items all so_far q left leads never)
    ]

pub returns : goal.returns
returns g c = λ items are.
    let s = g.D.Declared.scope c.args.declared.now in
    let all = map seen_given_proof c.args.given.now in
    let texts = seen_texts c.loop-one.texts.items in
    let none = ap (map seen_given_proof) (drop_all c.loop-one.one-index c.args.given.now c.loop-one-test.false) in
    subst (AreQuoted s items all) (append-nil texts) (c.loop-one.invariant items are []
    (subst (λ qs. AreQuoted s items qs []) (sym none) refl))
