-- What is left to show of `add_constant`.
use Rattle.std.proofs.Common.{◌≡◌, ◌<◌, length, sym, subst, None, rules}
use Rattle.mmsyntax.specs.Tables.{Tables, meaning}
use Rattle.mmsyntax.proofs.Names.{indexed-constant}
use Rattle.mmsyntax.proofs.symbols.SymbolTable.add_constant.Goals as goal

pub invariant_of-self-in-Ok : goal.invariant_of-self-in-Ok
invariant_of-self-in-Ok c =
    let i = c.self.inside in
    let len : c.len-place.result ≡ length i.constants.items = search rules in
    indexed-constant i.names c.insert.new.self c.in_ok-key.key
    (record { constants = i.constants.items; variables = i.variables.items; floats = i.floats.items }) c.args.word.now
    c.len-place.result c.push.new.self.items
    c.self.invariant (subst (λ (t : Tables). length t.constants < 65535) (sym c.self.view_is) c.requires.room)
    (subst (λ (t : Tables). meaning t c.args.word.now ≡ None) (sym c.self.view_is) c.requires.new)
    c.in_ok-key.ensures.items len (search rules) c.in-Ok.ensures.updates
