-- What is left to show of `quoted_texts`.
use Rattle.std.proofs.Common.{◌≡◌, [], length, refl, sym, ap, subst, map}
use Rattle.std.specs.Prelude.{IsSome}
use Rattle.std.proofs.lemmas.Bool.{eqb-true}
use Rattle.std.proofs.lemmas.List.{nil_from_length}
use Rattle.giving.specs.Changes.{seen_texts}
use Rattle.items.proofs.Sourced.{declares_divided}
use Rattle.pasting.specs.Views.{seen_given_proof}
use Rattle.dressing.specs.Quoted.{HasQuoted}
use Rattle.dressing.proofs.texts.quoted_texts.Goals as goal

pub unreachable-requires : goal.unreachable-requires
unreachable-requires g c =
    let h = subst IsSome c.in_default.is
    (c.in_ok-indented.ensures.all (declares_divided c.args.source.now (g.D.Declared.scope c.args.declared.now) c.requires)) in
    cc

pub returns-then-is_empty : goal.returns-then-is_empty
returns-then-is_empty g c =
    let none : c.args.given.now ≡ [] =
    nil_from_length c.args.given.now (eqb-true (length c.args.given.now) 0 (sym c.if-is_empty.ensures)) in
    subst (λ gs. HasQuoted (g.D.Declared.scope c.args.declared.now) c.args.source.now (map seen_given_proof gs)
    (seen_texts c.new.result.items)) (sym none) (ap seen_texts c.new.ensures.items)

pub texts_of-requires : goal.texts_of-requires
texts_of-requires g c =
    λ _. (
      (refl, tt),
      (
        c.in_ok-names.ensures,
        c.sources_are_whole.ensures c.requires.statements (g.D.Declared.scope c.args.declared.now) c.requires.declared,
      ),
    )
