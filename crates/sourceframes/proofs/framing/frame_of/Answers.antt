-- What is left to show of `frame_of`.
use Rattle.std.proofs.Common.{◌≡◌, ℕ, List, map, filter, ap, sym, ◌∙◌}
use Rattle.std.specs.List.{each_same}
use Rattle.source.specs.Scopes.{is_in, is_mandatory_variable}
use Rattle.source.specs.Views.{seen_words, seen_hypotheses}
use Rattle.source.proofs.Asked.{hypotheses_are, pairs_are}
use Rattle.sourceframes.specs.Names.{words_of}
use Rattle.sourceframes.specs.Frames.{AreVariables, asked_in, asked_of, part_in, part_of, parts_in, is_kept, variable_of}
use Rattle.sourceframes.proofs.Numbered.{grows_on, lasts_on}
use Rattle.sourceframes.proofs.Framed.{kept_pairs}
use Rattle.sourceframes.proofs.framing.frame_of.Goals as goal

pub returns-clause-made : goal.returns-clause-made
returns-clause-made g c = λ x at e said more.
    let xs = (g.D.Declared.scope c.args.declared.now).assertions in
    let place = c.args.place in
    let hs = x.hypotheses in
    let first = hypotheses_are xs place x at _ c.in_ok-mandatory.ensures in
    let ms = c.in_ok-mandatory.mandatory.items in
    let one = each_same ms c.in_ok-clone.field-0.items c.in_ok-clone.ensures.cases.0 in
    let other = each_same ms c.in_ok-clone-2.field-0.items c.in_ok-clone-2.ensures.cases.0 in
    let second = first ∙ sym (ap seen_hypotheses other) in
    let pairs = pairs_are xs place x at _ c.in_ok-pairs.ensures in
    let variables : AreVariables hs c.in_ok-variables.variables =
    c.in_ok-variables.ensures
    ∙ ap (λ hs. map variable_of (seen_hypotheses hs)) one ∙ ap (map variable_of) (sym first) in
    let end = words_of c.pairs_of.new.table in
    let near = c.in_ok-pairs-2.ensures.keeps.grows in
    let far = grows_on (words_of c.demands_of.new.table) (words_of c.pieces_of.new.table) end c.in_ok-statement.ensures.keeps.grows near in
    let named = seen_words c.as_slice.result.now in
    let mentioned : (w : List ℕ) → is_in named w ≡ is_mandatory_variable hs x.statement w =
    λ w. ap (λ ws. is_in (seen_words ws) w) c.as_slice.ensures.value ∙ c.in_ok-mentioned.ensures w
    ∙ ap (λ ks. is_mandatory_variable ks (seen_words c.args.words.now) w) (sym first)
    ∙ ap (λ ws. is_mandatory_variable hs ws w) said in
    record {
      demands = lasts_on (words_of c.demands_of.new.table) end
          (λ name. map (asked_of name) c.in_ok-demands.demands.items ≡ map (asked_in hs)
          (seen_hypotheses c.in_ok-clone-2.field-0.items))
          far (c.in_ok-demands.ensures.made hs variables) more ∙ ap (map (asked_in hs)) (sym second);
      statement = lasts_on (words_of c.pieces_of.new.table) end
          (λ name. map (part_of name) c.in_ok-statement.statement.items ≡ map (part_in hs) (seen_words c.args.words.now))
          near (c.in_ok-statement.ensures.made hs variables) more ∙ ap (map (part_in hs)) said;
      pairs = c.in_ok-pairs-2.ensures.made hs variables more
          ∙ ap (λ ps. map (parts_in hs) (filter (is_kept named) ps)) (sym pairs)
          ∙ ap (map (parts_in hs)) (kept_pairs x named e mentioned);
    }
