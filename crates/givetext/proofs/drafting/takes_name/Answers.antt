-- What is left to show of `takes_name`.
use Rattle.std.proofs.Common.{◌≡◌, ◌∙◌, List, Some, false, map, sym, ap, subst}
use Rattle.std.specs.Prelude.{◌||◌, IsTrue}
use Rattle.std.proofs.lemmas.Bool.{false≢true}
use Rattle.mmtext.specs.Words.{Word}
use Rattle.source.specs.Scopes.{is_in}
use Rattle.giving.specs.Staying.{Change}
use Rattle.sourceediting.specs.Following.{label_then}
use Rattle.sourceediting.specs.Views.{seen_followed}
use Rattle.givetext.proofs.drafting.takes_name.Goals as goal

pub returns : goal.returns
returns g c = λ holds.
    let s = g.D.Declared.scope c.args.declared.now in
    let then = c.label_then-then.result.now in
    let same : then ≡ label_then (seen_followed c.args.followed.now) = c.label_then-then.ensures in
    let absent = λ (cs : List Change) (l : Word). is_in (map (λ (d : Change). d.0) cs) l ≡ false in
    record {
      other = λ e. false≢true (sym c.if-is_called.false ∙ c.is_called.ensures (e ∙ ap (λ (l : Word). Some l) (sym same)));
      named =
          subst (λ (l : Word). IsTrue (is_in s.symbols l || is_in s.labels l)) same (sym c.has_name.ensures ∙ c.if-not-has_name.false);
      unchanged = subst (absent c.args.changes.now) same (c.is_absent.ensures c.if-not-is_absent.false);
      stays = subst (absent c.args.gone.now) same (c.is_absent-2.ensures holds);
    }
