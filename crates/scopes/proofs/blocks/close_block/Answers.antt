-- What is left to show of `close_block`.
use Rattle.std.proofs.Common.{◌≡◌, ◌∙◌, ◌++◌, ◌∷◌, [], length, take, ap, refl, sym, rules}
use Rattle.std.proofs.lemmas.List.{take-map}
use Rattle.source.specs.Views.{seen_words}
use Rattle.scopes.specs.Views.{kept_of}
use Rattle.scopes.specs.Sound.{looks_up}
use Rattle.scopes.proofs.Closing.{none_closed, sound_closed, stand_closed}
use Rattle.scopes.proofs.blocks.close_block.Goals as goal

pub returns-in_default-clause-closed : goal.returns-in_default-clause-closed
returns-in_default-clause-closed c =
    let none : length c.args.tables.now.blocks.items ≡ 0 = search rules in
    none_closed (kept_of c.args.tables.now) none

pub returns-in_default-clause-same : goal.returns-in_default-clause-same
returns-in_default-clause-same c = λ _.
    let same : c.pop.new.self.items ≡ c.args.tables.now.blocks.items = search rules in
    rw same refl

pub returns-clause-sound : goal.returns-clause-sound
returns-clause-sound c =
    let t = c.args.tables.now in
    let b = c.in-Some.block in
    let split : t.blocks.items ≡ c.pop.new.self.items ++ b ∷ [] = search rules in
    let vs : seen_words c.truncate.new.self.items ≡ take b.variables (seen_words t.variables.items) =
    ap seen_words c.truncate.ensures.items ∙ sym (take-map _ b.variables t.variables.items) in
    let hs : c.truncate-2.new.self.items ≡ take b.active t.active.items = c.truncate-2.ensures.items in
    rw (vs, hs) (sound_closed (looks_up t.names) (kept_of t) c.pop.new.self.items b c.requires split)

pub returns-clause-closed : goal.returns-clause-closed
returns-clause-closed c =
    let t = c.args.tables.now in
    let b = c.in-Some.block in
    let split : t.blocks.items ≡ c.pop.new.self.items ++ b ∷ [] = search rules in
    let vs : seen_words c.truncate.new.self.items ≡ take b.variables (seen_words t.variables.items) =
    ap seen_words c.truncate.ensures.items ∙ sym (take-map _ b.variables t.variables.items) in
    let hs : c.truncate-2.new.self.items ≡ take b.active t.active.items = c.truncate-2.ensures.items in
    rw (vs, hs) (stand_closed (looks_up t.names) (kept_of t) c.pop.new.self.items b c.requires split)
