-- What is left to show of `node`.
use Rattle.std.proofs.Common.{◌≡◌, ◌∙◌, ◌<◌, ◌∷◌, ℕ, List, None, Some, Vec, Global, length, refl, sym, ap, subst, arith}
use Rattle.std.specs.Prelude.{All}
use Rattle.std.specs.Str.{bytes_eq}
use Rattle.std.specs.HashMap as hash
use Rattle.std.specs.HashMap.{HashMap, get_by}
use Rattle.std.specs.declared.random_state.RandomState.{RandomState}
use Rattle.std.proofs.lemmas.List.{length_push}
use Rattle.sourcewriting.specs.declared.shared.Node.{Node}
use Rattle.sourcewriting.specs.declared.shared.Shared.{Shared}
use Rattle.sourcewriting.proofs.Nodes.{node_more}
use Rattle.sourcewriting.proofs.shared.Shared.node.Goals as goal

pub returns-in-Some-clause-sound : goal.returns-in-Some-clause-sound
returns-in-Some-clause-sound c = λ below alike sound.
    let h = c.in_ok-number.ensures.numbered alike sound in
    (h.0, h.0.there c.as_slice.result.now c.in-Some.node.now (sym c.in-Some.ensures.value))

pub returns-clause-sound : goal.returns-clause-sound
returns-clause-sound c = λ below alike sound.
    let h = c.in_ok-number.ensures.numbered alike sound in
    let s = c.number_of.new.self in
    let p = c.push.new.self in
    let t : Shared = record {
      words = p.words;
      numbers = p.numbers;
      nodes = p.nodes;
      arguments = p.arguments;
      places = c.insert.new.self;
    } in
    let number = c.in_ok-number.number in
    let args = c.args.arguments.now in
    let d : Node = record { word = number; begin = length s.arguments.items; end = length p.arguments.items } in
    let put = c.in_ok-node.ensures.put in
    let same = c.in_ok-node.ensures.same in
    let there = subst (λ (ns : Vec Node Global). All (λ a. a < length ns.items) args) (sym c.in_ok-number.ensures.same.0) below in
    let absent = subst (λ (key : List ℕ). get_by (λ k. bytes_eq key k.items) s.places ≡ None)
    (c.as_slice.ensures.value ∙ c.in_ok-key.ensures) (sym c.in_default.ensures.value) in
    let at_key = subst
    (λ (key : List ℕ). hash.UpdatesBy (λ x y. bytes_eq x.items y.items) (λ k. bytes_eq key k.items) p.places c.insert.new.self
    (Some c.in_ok-node.node)) c.in_ok-key.ensures c.in_ok-insert.ensures.updates in
    let at_node = subst
    (λ (n : ℕ). hash.UpdatesBy (λ x y. bytes_eq x.items y.items) (λ k. bytes_eq (number ∷ args) k.items) p.places c.insert.new.self
    (Some n)) put.0 at_key in
    let updates = subst
    (λ (m : HashMap (Vec ℕ Global) ℕ RandomState). hash.UpdatesBy (λ x y. bytes_eq x.items y.items)
    (λ k. bytes_eq (number ∷ args) k.items) m c.insert.new.self (Some (length s.nodes.items))) same.2 at_node in
    let more = ap length put.2 ∙ length_push s.nodes.items d in (
      node_more s t c.args.word.now number args d h.0 h.1 there same.0 same.1 put.1 put.2 refl refl refl absent updates,
      omega (arith, put.0, more),
    )
