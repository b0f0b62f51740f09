-- What is left to show of `cite`.
use Rattle.std.proofs.Common.{rules, arith, ◌≡◌, ◌∙◌, ◌<◌, ◌+◌, ◌-◌, ◌++◌, ◌∷◌, [], ℕ, List, sym, ap, refl, subst, length, take, drop}
use Rattle.std.specs.Prelude.{Some, All}
use Rattle.std.proofs.lemmas.Option.{slice_get_read}
use Rattle.std.proofs.lemmas.List.Elements.{All-drop, recursion_from_All}
use Rattle.taking.specs.declared.named.Named.{Named}
use Rattle.taking.specs.Nodes.{Shared, AreBelow}
use Rattle.taking.specs.Walks.{TakesAll}
use Rattle.taking.specs.Decoding.{stack_on, AreCovered}
use Rattle.taking.proofs.Stacked.{cites_none}
use Rattle.taking.proofs.Cited.{last_args, last_cited, entries_stand, marked_stand, nodes_stand, covered_stand}
use Rattle.taking.proofs.decoder.Decoder.cite.Goals as goal

pub returns-then-count-arity-clause-cited : goal.returns-then-count-arity-clause-cited
returns-then-count-arity-clause-cited c =
    let d = c.args.self.now in
    let x = c.index-named-place.result in
    let is = slice_get_read c.args.named.now (length c.args.named.now) c.args.place x refl c.requires.within c.index-named-place.is in
    let few : length d.entries.items < length x.floats = search rules in
    λ s are.
    cites_none s c.args.named.now are c.args.place x is d.nodes d.marked.items d.entries.items
    (recursion_from_All (λ k. k < length d.nodes) d.entries.items c.requires.stands.entries) few

pub push-requires : goal.push-requires
push-requires c =
    let d = c.args.self.now in
    let n = c.len-count.result - length c.as_slice-arity.result.now in
    subst (λ (ks : List ℕ). AreBelow (length d.nodes) ks) (sym (last_args c.deref.result.now d.entries.items n c.deref.ensures.value))
    (All-drop (λ k. k < length d.nodes) n d.entries.items c.requires.stands.entries)

pub returns-clause-stands : goal.returns-clause-stands
returns-clause-stands c =
    let named = c.args.named.now in
    let d = c.args.self.now in
    let x = c.index-named-place.result in
    let is = slice_get_read named (length named) c.args.place x refl c.requires.within c.index-named-place.is in
    let n = c.len-count.result - length c.as_slice-arity.result.now in
    let counted : c.len-count.result ≡ length d.entries.items = search rules in
    let asked : length c.as_slice-arity.result.now ≡ length x.floats =
    ap length c.as_slice-arity.ensures ∙ ap (λ (z : Named). length z.floats) (sym c.index-named-place.is) in
    let le = c.if-count-arity.false in
    let long : length d.entries.items ≡ n + length x.floats = omega arith in
    let args = last_args c.deref.result.now d.entries.items n c.deref.ensures.value in
    let nodes = c.in_ok-push.ensures.ok ∙ ap (λ ks. d.nodes ++ record { named = c.args.place; arguments = ks } ∷ []) args in
    let entries = c.in_ok-push-2.ensures.items ∙ ap (λ es. es ++ c.len-node.result ∷ []) c.truncate.ensures.items
    ∙ ap (λ k. take n d.entries.items ++ k ∷ []) c.len-node.ensures in
    let ns = d.nodes ++ record { named = c.args.place; arguments = drop n d.entries.items } ∷ [] in
    λ _.
    record {
      entries = subst (λ (ms : List Shared). AreBelow (length ms) c.push-2.new.self.items) (sym nodes)
          (subst (λ (es : List ℕ). AreBelow (length ns) es) (sym entries)
          (entries_stand named d.nodes d.entries.items d.marked.items n c.args.place x is c.requires.stands.entries
          c.requires.stands.marked long));
      marked = subst (λ (ms : List Shared). AreBelow (length ms) d.marked.items) (sym nodes)
          (marked_stand named d.nodes d.entries.items d.marked.items n c.args.place x is c.requires.stands.entries
          c.requires.stands.marked long);
      whole = subst (λ (ms : List Shared). All (TakesAll named) ms) (sym nodes)
          (nodes_stand named d.nodes d.entries.items d.marked.items n c.args.place x is c.requires.stands.entries
          c.requires.stands.marked long
          c.requires.stands.whole);
      covered = subst (λ (ms : List Shared). AreCovered ms c.push-2.new.self.items) (sym nodes)
          (subst (λ (es : List ℕ). AreCovered ns es) (sym entries)
          (covered_stand named d.nodes d.entries.items d.marked.items n c.args.place x is c.requires.stands.entries
          c.requires.stands.marked long
          c.requires.stands.covered));
    }

pub returns-clause-cited : goal.returns-clause-cited
returns-clause-cited c =
    let named = c.args.named.now in
    let d = c.args.self.now in
    let x = c.index-named-place.result in
    let is = slice_get_read named (length named) c.args.place x refl c.requires.within c.index-named-place.is in
    let n = c.len-count.result - length c.as_slice-arity.result.now in
    let counted : c.len-count.result ≡ length d.entries.items = search rules in
    let asked : length c.as_slice-arity.result.now ≡ length x.floats =
    ap length c.as_slice-arity.ensures ∙ ap (λ (z : Named). length z.floats) (sym c.index-named-place.is) in
    let le = c.if-count-arity.false in
    let long : length d.entries.items ≡ n + length x.floats = omega arith in
    let args = last_args c.deref.result.now d.entries.items n c.deref.ensures.value in
    let nodes = c.in_ok-push.ensures.ok ∙ ap (λ ks. d.nodes ++ record { named = c.args.place; arguments = ks } ∷ []) args in
    let entries = c.in_ok-push-2.ensures.items ∙ ap (λ es. es ++ c.len-node.result ∷ []) c.truncate.ensures.items
    ∙ ap (λ k. take n d.entries.items ++ k ∷ []) c.len-node.ensures in
    λ s are.
    last_cited named d.nodes d.entries.items d.marked.items n c.args.place x is c.requires.stands.entries c.requires.stands.marked long
    s are
    ∙ ap (λ ms. Some (stack_on s.labels ms (take n d.entries.items ++ length d.nodes ∷ []) d.marked.items)) (sym nodes)
    ∙ ap (λ es. Some (stack_on s.labels c.push.new.self es d.marked.items)) (sym entries)
