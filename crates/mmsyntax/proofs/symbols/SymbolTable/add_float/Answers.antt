-- What is left to show of `add_float`.
use Rattle.std.proofs.Common.{◌≡◌, ◌<◌, length, sym, subst, None, Some, rules}
use Rattle.mmsyntax.specs.declared.symbols.Name.TheVariants.{Variable}
use Rattle.mmsyntax.specs.declared.statement.Float.{Float}
use Rattle.mmsyntax.specs.Tables.{Tables, meaning}
use Rattle.mmsyntax.proofs.Names.{indexed-float, still_found}
use Rattle.mmsyntax.proofs.symbols.SymbolTable.add_float.Goals as goal

pub set_float-requires : goal.set_float-requires
set_float-requires c =
    let i = c.self.inside in
    let t : Tables = record { constants = i.constants.items; variables = i.variables.items; floats = i.floats.items } in
    still_found i.names c.insert.new.self c.in_ok-key.key t c.args.word.now c.args.variable c.len-place.result c.self.invariant
    (subst (λ (t : Tables). meaning t c.args.word.now ≡ Some (Variable c.args.variable None)) (sym c.self.view_is) c.requires.variable)
    c.in-Ok.ensures.updates

pub invariant_of-self-2 : goal.invariant_of-self-2
invariant_of-self-2 c =
    let i = c.self.inside in
    let t : Tables = record { constants = i.constants.items; variables = i.variables.items; floats = i.floats.items } in
    let f : Float = record { label = c.args.label.now; type_code = c.args.type_code; variable = c.args.variable } in
    let len : c.len-place.result ≡ length i.floats.items = search rules in
    indexed-float i.names c.insert.new.self c.set_float.new.names c.in_ok-key.key t f c.args.word.now c.len-place.result
    c.push.new.self.items c.self.invariant
    (subst (λ (t : Tables). length t.floats < 65535) (sym c.self.view_is) c.requires.room)
    (subst (λ (t : Tables). meaning t c.args.label.now ≡ None) (sym c.self.view_is) c.requires.new)
    (subst (λ (t : Tables). meaning t c.args.word.now ≡ Some (Variable c.args.variable None)) (sym c.self.view_is) c.requires.variable)
    c.in_ok-key.ensures.items len (search rules) c.in-Ok.ensures.updates c.set_float.ensures
