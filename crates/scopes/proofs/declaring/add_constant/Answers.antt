-- What is left to show of `add_constant`.
use Rattle.std.proofs.Common.{◌≡◌, ◌∙◌, ◌++◌, ◌∷◌, [], Some, ap, rules}
use Rattle.std.proofs.lemmas.List.{map-append}
use Rattle.std.proofs.lemmas.Map.Text.{hash_map_updates_str}
use Rattle.source.specs.Views.{seen_words}
use Rattle.scopes.specs.declared.tables.Name.TheVariants as name
use Rattle.scopes.specs.Views.{kept_of}
use Rattle.scopes.specs.Sound.{looks_up}
use Rattle.scopes.proofs.Symbols.{sound_looks, sound_constant, stand_constant}
use Rattle.scopes.proofs.declaring.add_constant.Goals as goal

pub returns-clause-sound : goal.returns-clause-sound
returns-clause-sound c =
    let t = c.args.tables.now in
    let w = c.args.word.now in
    let pushed : c.push.new.self.items ≡ t.constants.items ++ c.args.word ∷ [] = search rules in
    let also : c.push-2.new.self.items ≡ t.symbols.items ++ c.args.word ∷ [] = search rules in
    let cs : seen_words c.push.new.self.items ≡ seen_words t.constants.items ++ w ∷ [] =
    ap seen_words pushed ∙ map-append _ t.constants.items (c.args.word ∷ []) in
    let ss : seen_words c.push-2.new.self.items ≡ seen_words t.symbols.items ++ w ∷ [] =
    ap seen_words also ∙ map-append _ t.symbols.items (c.args.word ∷ []) in
    rw (cs, ss) (sound_looks _ _ _ (sound_constant (looks_up t.names) (kept_of t) w c.requires.sound c.requires.lawful)
    (hash_map_updates_str w t.names c.insert.new.self (Some name.Constant) c.in_ok-insert.ensures.updates))

pub returns-clause-stand : goal.returns-clause-stand
returns-clause-stand c =
    let t = c.args.tables.now in
    let w = c.args.word.now in
    let pushed : c.push.new.self.items ≡ t.constants.items ++ c.args.word ∷ [] = search rules in
    let also : c.push-2.new.self.items ≡ t.symbols.items ++ c.args.word ∷ [] = search rules in
    let cs : seen_words c.push.new.self.items ≡ seen_words t.constants.items ++ w ∷ [] =
    ap seen_words pushed ∙ map-append _ t.constants.items (c.args.word ∷ []) in
    let ss : seen_words c.push-2.new.self.items ≡ seen_words t.symbols.items ++ w ∷ [] =
    ap seen_words also ∙ map-append _ t.symbols.items (c.args.word ∷ []) in
    rw (cs, ss) (stand_constant (looks_up t.names) (kept_of t) w c.requires.sound)
