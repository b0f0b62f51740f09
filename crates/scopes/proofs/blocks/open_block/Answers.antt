-- What is left to show of `open_block`.
use Rattle.std.proofs.Common.{◌≡◌, ◌∙◌, ◌++◌, ◌∷◌, [], length, ap, sym, rules}
use Rattle.std.proofs.lemmas.List.{length-map}
use Rattle.scopes.specs.declared.tables.Block.{Block}
use Rattle.scopes.specs.Views.{kept_of}
use Rattle.scopes.specs.Sound.{looks_up}
use Rattle.scopes.proofs.Closing.{block_here, sound_block, stand_block}
use Rattle.scopes.proofs.blocks.open_block.Goals as goal

pushed : (c : goal.In_ok-push) → c.push.new.self.items ≡ c.args.tables.now.blocks.items ++ block_here (kept_of c.args.tables.now) ∷ []
pushed c =
    let t = c.args.tables.now in
    let e1 : c.len.result ≡ length t.constants.items = search rules in
    let e2 : c.len-2.result ≡ length t.variables.items = search rules in
    let e3 : c.len-3.result ≡ length t.active.items = search rules in
    let e4 : c.len-4.result ≡ length t.symbols.items = search rules in
    let e5 : c.len-5.result ≡ length t.labels.items = search rules in
    let e6 : c.len-6.result ≡ length t.assertions.items = search rules in
    let f1 : c.len.result ≡ length (kept_of t).constants = e1 ∙ sym (length-map t.constants.items _) in
    let f2 : c.len-2.result ≡ length (kept_of t).variables = e2 ∙ sym (length-map t.variables.items _) in
    let f4 : c.len-4.result ≡ length (kept_of t).symbols = e4 ∙ sym (length-map t.symbols.items _) in
    let f5 : c.len-5.result ≡ length (kept_of t).labels = e5 ∙ sym (length-map t.labels.items _) in
    let f6 : c.len-6.result ≡ length (kept_of t).entries = e6 ∙ sym (length-map t.assertions.items _) in
    let b : Block = record {
      constants = c.len.result;
      variables = c.len-2.result;
      active = c.len-3.result;
      apart = t.last_apart;
      symbols = c.len-4.result;
      labels = c.len-5.result;
      assertions = c.len-6.result;
    } in
    let is : c.push.new.self.items ≡ t.blocks.items ++ b ∷ [] = search rules in
    let here : b ≡ block_here (kept_of t) = cc in
    is ∙ ap (λ x. t.blocks.items ++ x ∷ []) here

pub returns-clause-sound : goal.returns-clause-sound
returns-clause-sound c = rw (pushed c) (sound_block (looks_up c.args.tables.now.names) (kept_of c.args.tables.now) c.requires)

pub returns-clause-stand : goal.returns-clause-stand
returns-clause-stand c = rw (pushed c) (stand_block (looks_up c.args.tables.now.names) (kept_of c.args.tables.now) c.requires)
