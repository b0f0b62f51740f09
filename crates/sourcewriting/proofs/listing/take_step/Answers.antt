use Rattle.std.proofs.Common.{◌≡◌, ◌∙◌, Some, length, refl, sym, ap, subst, inl, inr}
use Rattle.std.specs.Prelude.{Contains, slice_get}
use Rattle.source.proofs.Lent.{got_lent}
use Rattle.taking.proofs.Turned.{if_ok}
use Rattle.sourcewriting.proofs.Stacks.{taken_alike}
use Rattle.sourcewriting.proofs.Told.{word_there, premise_there, put_none, put_cited}
use Rattle.mmsyntax.specs.ProofWords.{seen_step}
use Rattle.mmsyntax.proofs.Options.{if_there}
use Rattle.sourcewriting.specs.declared.listing.Cited.{Cited}
use Rattle.sourcewriting.specs.Counting.{IsCountOf}
use Rattle.sourcewriting.specs.Leaving.{IsCitedAs, StepTakes}
use Rattle.sourcewriting.proofs.listing.take_step.Goals as goal

some_same : {A : Type 0} (x y : A) → Some x ≡ Some y → x ≡ y
some_same x y e = cc

pub returns-in-Float-clause-taken : goal.returns-in-Float-clause-taken
returns-in-Float-clause-taken g c = λ hs premises all.
    let m = c.args.names.now in
    let s = g.D.Declared.scope c.args.declared.now in
    let at = c.copied-label.ensures ∙ got_lent c.deref.result.now c.in-Float.place c.get.result c.get.ensures.lookup
    ∙ ap (λ ws. slice_get ws c.in-Float.place) c.deref.ensures.value in
    if_ok c.put_leaf.result
    (λ there more.
    put_none s m hs c.args.shared.now c.put_leaf.new.shared all c.copied-label.result
    (λ w is. inl (word_there m.floats.items c.in-Float.place w (sym at ∙ is))) more)
    c.put_leaf.ensures.taken

pub returns-in-Hyp-clause-taken : goal.returns-in-Hyp-clause-taken
returns-in-Hyp-clause-taken g c = λ hs premises all.
    let m = c.args.names.now in
    let s = g.D.Declared.scope c.args.declared.now in
    let at = c.copied-label-in-Hyp.ensures ∙ got_lent c.args.premises.now c.in-Hyp.place c.get-in-Hyp.result c.get-in-Hyp.ensures.lookup in
    if_ok c.put_leaf-in-Hyp.result
    (λ there more.
    put_none s m hs c.args.shared.now c.put_leaf-in-Hyp.new.shared all c.copied-label-in-Hyp.result
    (λ w is.
    inr (premise_there hs w.now (subst (λ ws. Contains ws w.now) premises (word_there c.args.premises.now c.in-Hyp.place w (sym at ∙ is)))))
    more)
    c.put_leaf-in-Hyp.ensures.taken

pub returns-in-Some-clause-taken : goal.returns-in-Some-clause-taken
returns-in-Some-clause-taken g c = λ hs premises all.
    let m = c.args.names.now in
    let s = g.D.Declared.scope c.args.declared.now in
    if_ok c.cite.result
    (λ there more. put_cited s m hs c.args.shared.now c.cite.new.shared all c.in-Cite.label.now c.in-Some.cited.now
    (sym c.in-Some.ensures.value) more)
    c.cite.ensures.taken

pub returns-in-Some-clause-there : goal.returns-in-Some-clause-there
returns-in-Some-clause-there g c = λ rest n takes before.
    let s = g.D.Declared.scope c.args.declared.now in
    let m = c.args.names.now in
    let cites : IsCitedAs s m c.in-Cite.label.now n =
    subst (λ step. StepTakes s m (length c.args.premises.now) (seen_step step) n) c.in-Cite.is takes in
    let same : cites.cited ≡ c.in-Some.cited.now = some_same _ _ (sym cites.found ∙ sym c.in-Some.ensures.value) in
    c.cite.ensures.there rest n (subst (λ (x : Cited). IsCountOf s x.kinds n) same cites.many) before

pub returns-in-Float-clause-nodes : goal.returns-in-Float-clause-nodes
returns-in-Float-clause-nodes g c = λ hs premises all can sound there.
    let m = c.args.names.now in
    let s = g.D.Declared.scope c.args.declared.now in
    let at = c.copied-label.ensures ∙ got_lent c.deref.result.now c.in-Float.place c.get.result c.get.ensures.lookup
    ∙ ap (λ ws. slice_get ws c.in-Float.place) c.deref.ensures.value in
    c.put_leaf.ensures.nodes
    (if_there c.copied-label.result
    (λ w is.
    taken_alike s m hs c.args.shared.now all can w.now 0
    (inr (record { stands = inl (word_there m.floats.items c.in-Float.place w (sym at ∙ is)); none = refl })))) sound there

pub returns-in-Hyp-clause-nodes : goal.returns-in-Hyp-clause-nodes
returns-in-Hyp-clause-nodes g c = λ hs premises all can sound there.
    let m = c.args.names.now in
    let s = g.D.Declared.scope c.args.declared.now in
    let at = c.copied-label-in-Hyp.ensures ∙ got_lent c.args.premises.now c.in-Hyp.place c.get-in-Hyp.result c.get-in-Hyp.ensures.lookup in
    c.put_leaf-in-Hyp.ensures.nodes
    (if_there c.copied-label-in-Hyp.result
    (λ w is.
    taken_alike s m hs c.args.shared.now all can w.now 0
    (inr (record {
      stands = inr (premise_there hs w.now
          (subst (λ ws. Contains ws w.now) premises (word_there c.args.premises.now c.in-Hyp.place w (sym at ∙ is))));
      none = refl;
    })))) sound there

pub returns-in-Some-clause-nodes : goal.returns-in-Some-clause-nodes
returns-in-Some-clause-nodes g c = λ hs premises all can sound there.
    let m = c.args.names.now in
    let s = g.D.Declared.scope c.args.declared.now in
    let cited = c.in-Some.cited.now in
    c.cite.ensures.nodes
    (λ n many.
    taken_alike s m hs c.args.shared.now all can cited.label.now n
    (inl (record {
      name = c.in-Cite.label.now;
      cited = cited;
      found = sym c.in-Some.ensures.value;
      labelled = refl;
      many = many;
    }))) sound there
