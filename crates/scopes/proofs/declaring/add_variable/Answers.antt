-- What is left to show of `add_variable`.
use Rattle.std.proofs.Common.{◌≡◌, ◌∙◌, ◌++◌, ◌∷◌, [], Some, length, ap, cond, sym, rules}
use Rattle.std.specs.Str.{bytes_eq}
use Rattle.std.proofs.lemmas.List.{map-append, length-map}
use Rattle.std.proofs.lemmas.Map.Text.{hash_map_updates_str}
use Rattle.source.specs.Views.{seen_words}
use Rattle.scopes.specs.declared.tables.Name.TheVariants as name
use Rattle.scopes.specs.Views.{kept_of}
use Rattle.scopes.specs.Sound.{looks_up}
use Rattle.scopes.proofs.Symbols.{sound_looks, sound_variable, stand_variable}
use Rattle.scopes.proofs.declaring.add_variable.Goals as goal

pub returns-clause-sound : goal.returns-clause-sound
returns-clause-sound c =
    let t = c.args.tables.now in
    let w = c.args.word.now in
    let pushed : c.push.new.self.items ≡ t.variables.items ++ c.args.word ∷ [] = search rules in
    let also : c.push-2.new.self.items ≡ t.symbols.items ++ c.args.word ∷ [] = search rules in
    let vs : seen_words c.push.new.self.items ≡ seen_words t.variables.items ++ w ∷ [] =
    ap seen_words pushed ∙ map-append _ t.variables.items (c.args.word ∷ []) in
    let ss : seen_words c.push-2.new.self.items ≡ seen_words t.symbols.items ++ w ∷ [] =
    ap seen_words also ∙ map-append _ t.symbols.items (c.args.word ∷ []) in
    let count : c.len.result ≡ length t.variables.items = search rules in
    let place : c.len.result ≡ length (kept_of t).variables = count ∙ sym (length-map t.variables.items _) in
    rw (vs, ss) (sound_looks _ _ _ (sound_variable (looks_up t.names) (kept_of t) w c.requires.sound c.requires.lawful)
    (λ q. hash_map_updates_str w t.names c.insert.new.self
    (Some (name.Variable c.len.result c.noted_float.result)) c.in_ok-insert.ensures.updates q
    ∙ ap (λ n. cond (bytes_eq w q) (Some (name.Variable n c.noted_float.result)) (looks_up t.names q)) place
    ∙ ap (λ f. cond (bytes_eq w q) (Some (name.Variable (length (kept_of t).variables) f)) (looks_up t.names q)) c.noted_float.ensures))

pub returns-clause-stand : goal.returns-clause-stand
returns-clause-stand c =
    let t = c.args.tables.now in
    let w = c.args.word.now in
    let pushed : c.push.new.self.items ≡ t.variables.items ++ c.args.word ∷ [] = search rules in
    let also : c.push-2.new.self.items ≡ t.symbols.items ++ c.args.word ∷ [] = search rules in
    let vs : seen_words c.push.new.self.items ≡ seen_words t.variables.items ++ w ∷ [] =
    ap seen_words pushed ∙ map-append _ t.variables.items (c.args.word ∷ []) in
    let ss : seen_words c.push-2.new.self.items ≡ seen_words t.symbols.items ++ w ∷ [] =
    ap seen_words also ∙ map-append _ t.symbols.items (c.args.word ∷ []) in
    rw (vs, ss) (stand_variable (looks_up t.names) (kept_of t) w c.requires.sound)
