-- What is left to show of `thesis_of`.
use Rattle.std.proofs.Common.{◌≡◌, ◌++◌, map, ap, sym, ◌∙◌}
use Rattle.std.specs.List.{filter_map}
use Rattle.source.specs.Views.{seen_hypotheses}
use Rattle.source.proofs.Asked.{active_are, pairs_are}
use Rattle.sourceframes.specs.Names.{words_of, name_in}
use Rattle.sourceframes.specs.Frames.{variable_of, names_of}
use Rattle.sourceframes.proofs.Numbered.{lasts_on}
use Rattle.sourceframes.proofs.thesis.thesis_of.Goals as goal

pub returns-clause-made : goal.returns-clause-made
returns-clause-made g c = λ x at more.
    let xs = (g.D.Declared.scope c.args.declared.now).assertions in
    let active = active_are xs c.args.place x at _ c.requires.active in
    let pairs = pairs_are xs c.args.place x at _ c.in_ok-pairs.ensures in
    record {
      floats = ap (map (name_in (words_of c.numbered.new.table ++ more))) c.in_ok-floats-2.ensures
          ∙ lasts_on (words_of c.floats_of.new.table) (words_of c.numbered.new.table)
          (λ name. map name c.in_ok-floats.floats.items ≡ filter_map variable_of (seen_hypotheses c.args.active.items))
          c.in_ok-pairs-2.ensures.keeps.grows c.in_ok-floats.ensures.made more ∙ ap (filter_map variable_of) (sym active);
      pairs = ap (map (names_of (name_in (words_of c.numbered.new.table ++ more)))) c.in_ok-pairs-3.ensures
          ∙ c.in_ok-pairs-2.ensures.made more ∙ sym pairs;
    }
