-- What is left to show of `add_float`.
use Rattle.std.proofs.Common.{◌≡◌, ◌∙◌, Some, cond, length, ap, refl, sym, subst, rules}
use Rattle.std.specs.Str.{bytes_eq}
use Rattle.std.proofs.lemmas.Map.Text.{hash_map_updates_str}
use Rattle.source.specs.Statements.{float}
use Rattle.source.specs.Scopes.{typing, declared}
use Rattle.scopes.specs.declared.tables.Name.TheVariants as name
use Rattle.scopes.specs.Views.{Kept, kept_of, stand_of}
use Rattle.scopes.specs.Sound.{looks_up, IsSound}
use Rattle.scopes.proofs.Symbols.{sound_looks}
use Rattle.scopes.proofs.Effects.{sound_float, float_named, stand_link}
use Rattle.scopes.proofs.declaring.add_float.Goals as goal

pub returns-clause-sound : goal.returns-clause-sound
returns-clause-sound c =
    let t = c.args.tables.now in
    let made = c.add_hypothesis.new.tables in
    let label = c.args.label.now in
    let v = c.args.variable.now in
    let named = float_named (looks_up t.names) (kept_of t) label c.args.type_code.now v c.requires.sound c.requires.lawful in
    let sound = sound_float (looks_up t.names) (kept_of t) label c.args.type_code.now v named.0 named.1 c.requires.sound c.requires.lawful
    named.2 in
    let place : c.len-place.result ≡ length t.active.items = search rules in
    let noted : c.noted_place.result ≡ named.0 = c.noted_place.ensures named.0 named.1 named.2 in
    subst (λ (k : Kept). IsSound (looks_up c.insert.new.self) k) (sym c.in_ok-add_hypothesis.ensures.kept)
    (sound_looks _ (looks_up c.insert.new.self) _ sound (λ q.
    hash_map_updates_str v made.names c.insert.new.self (Some (name.Variable c.noted_place.result (Some c.len-place.result)))
    c.in_ok-insert.ensures.updates q
    ∙ ap (λ n. cond (bytes_eq v q) (Some (name.Variable n (Some c.len-place.result))) (looks_up made.names q)) noted
    ∙ ap (λ n. cond (bytes_eq v q) (Some (name.Variable named.0 (Some n))) (looks_up made.names q)) place
    ∙ ap (λ o. cond (bytes_eq v q) (Some (name.Variable named.0 (Some (length t.active.items)))) o)
    (c.in_ok-add_hypothesis.ensures.names q)))

pub returns-clause-stand : goal.returns-clause-stand
returns-clause-stand c =
    let t = c.args.tables.now in
    let label = c.args.label.now in
    let x = float label c.args.type_code.now c.args.variable.now in
    subst (λ (k : Kept). stand_of k ≡ declared (stand_of (kept_of t)) x) (sym c.in_ok-add_hypothesis.ensures.kept)
    (stand_link (looks_up t.names) (kept_of t) (typing label c.args.type_code.now c.args.variable.now) x c.requires.sound refl)
