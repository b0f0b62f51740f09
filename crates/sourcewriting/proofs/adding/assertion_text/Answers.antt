-- What is left to show of `assertion_text`.
use Rattle.std.proofs.Common.{◌≡◌, ◌∙◌, ℕ, List, length, map, sym, ap, subst, arith}
use Rattle.std.specs.Prelude.{All, Option, Vec, IsTrue, is_some}
use Rattle.std.specs.declared.alloc.Global.{Global}
use Rattle.mmtext.specs.Words.{Word}
use Rattle.items.specs.Layout.{is_word}
use Rattle.sourcewriting.specs.Added.{first_free, is_name, CanBeProved, labels_given, hypotheses_with}
use Rattle.sourcewriting.specs.Leaving.{CanBePutWith}
use Rattle.sourcewriting.proofs.Added.{words_given}
use Rattle.sourcewriting.proofs.adding.assertion_text.Goals as goal

pub returns-in_default : goal.returns-in_default
returns-in_default g c = λ can.
    let x = c.args.statement.now in
    let a = x.assertion.now in
    let label = x.label.now in
    let taken = is_name (g.D.Declared.scope c.args.declared.now) c.args.vocabulary.now.edited.now in
    let labels = c.in_ok-labels.labels.items in
    let given : map (λ (w : Vec ℕ Global). w.items) labels ≡ labels_given taken label a =
    c.in_ok-labels.ensures ∙ ap (λ es. first_free taken label 4294967294 (length es)) c.as_slice-premises.ensures in
    let words = words_given taken label 4294967294 (length a.hyps) labels (omega arith) can.named given in
    let all = subst (λ (ls : List (Vec ℕ Global)). All (λ w. IsTrue (is_word w.items)) ls) (sym c.as_slice-labels.ensures.value) words in
    subst (λ (o : Option (Vec ℕ Global)). IsTrue (is_some o)) c.in_default.is (c.in_ok-front.ensures can.symbols all)

pub returns : goal.returns
returns g c = λ can.
    let x = c.args.statement.now in
    let a = x.assertion.now in
    let label = x.label.now in
    let s = g.D.Declared.scope c.args.declared.now in
    let v = c.args.vocabulary.now in
    let taken = is_name s v.edited.now in
    let given : map (λ (w : Vec ℕ Global). w.items) c.as_slice-labels.result.now ≡ labels_given taken label a =
    ap (λ (ls : List (Vec ℕ Global)). map (λ w. w.items) ls) c.as_slice-labels.ensures.value
    ∙ c.in_ok-labels.ensures
    ∙ ap (λ es. first_free taken label 4294967294 (length es)) c.as_slice-premises.ensures in
    let proof : CanBeProved s v x (map (λ (w : Vec ℕ Global). w.items) c.as_slice-labels.result.now) = λ theorem.
    subst (λ (ws : List Word). CanBePutWith s v.names.now x.is_compressed (hypotheses_with v a ws) a.proof) (sym given)
    (can.proof theorem) in
    c.map.ensures.variant ∙ (c.in_ok-back.ensures can.named.some can.symbols.statement proof)
