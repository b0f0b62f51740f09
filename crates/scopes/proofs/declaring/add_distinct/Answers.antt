-- What is left to show of `add_distinct`.
use Rattle.std.proofs.Common.{◌≡◌, ◌∙◌, ◌++◌, ◌∷◌, [], length, ap, map, rules, sym}
use Rattle.std.proofs.lemmas.List.{map-append, length-map}
use Rattle.source.specs.Views.{seen_words}
use Rattle.scopes.specs.Views.{kept_of, set_apart}
use Rattle.scopes.specs.Sound.{looks_up}
use Rattle.scopes.proofs.Effects.{sound_apart, stand_apart}
use Rattle.scopes.proofs.declaring.add_distinct.Goals as goal

pub returns-clause-sound : goal.returns-clause-sound
returns-clause-sound c =
    let t = c.args.tables.now in
    let pushed : c.push.new.self.items ≡ t.aparts.items ++ record { before = t.last_apart; variables = c.args.variables } ∷ [] =
    search rules in
    let aparts = ap (map set_apart) pushed ∙ map-append set_apart t.aparts.items _ in
    let count : c.len-last.result ≡ length t.aparts.items = search rules in
    let len : c.len-last.result ≡ length (kept_of t).aparts = count ∙ sym (length-map t.aparts.items set_apart) in
    rw (aparts, len) (sound_apart (looks_up t.names) (kept_of t) (seen_words c.args.variables.items) c.requires)

pub returns-clause-stand : goal.returns-clause-stand
returns-clause-stand c =
    let t = c.args.tables.now in
    let pushed : c.push.new.self.items ≡ t.aparts.items ++ record { before = t.last_apart; variables = c.args.variables } ∷ [] =
    search rules in
    let aparts = ap (map set_apart) pushed ∙ map-append set_apart t.aparts.items _ in
    let count : c.len-last.result ≡ length t.aparts.items = search rules in
    let len : c.len-last.result ≡ length (kept_of t).aparts = count ∙ sym (length-map t.aparts.items set_apart) in
    rw (aparts, len) (stand_apart (looks_up t.names) (kept_of t) (seen_words c.args.variables.items) c.requires)
