use Rattle.std.proofs.Common.{◌≡◌, ◌<◌, ◌≤◌, length, sym, ◌∙◌, Option, Some, None, arith, ℕ, refl}
use Rattle.mmtext.specs.Words.{Word}
use Rattle.mmsyntax.specs.declared.symbols.Name.{Name}
use Rattle.mmsyntax.specs.declared.symbols.Name.TheVariants.{Constant, Variable, Label}
use Rattle.mmsyntax.specs.Tables.{Tables, meaning}
use Rattle.mmsyntax.specs.SymbolWords.{NamesFew}
use Rattle.mmsyntax.proofs.Found.{constant_within, typed_within, label_at}
use Rattle.mmsyntax.proofs.symbols.SymbolTable.look_up.Goals as goal

pub returns-clause-few : goal.returns-clause-few
returns-clause-few c = λ j e.
    let i = c.self.inside in
    let t : Tables = record { constants = i.constants.items; variables = i.variables.items; floats = i.floats.items } in
    let found : meaning t c.args.word.now ≡ Some (Label j) =
    sym (c.self.invariant.indexed c.args.word.now) ∙ sym c.get.ensures.value ∙ sym c.copied.ensures ∙ e in
    let within : j < length t.floats = (label_at t c.args.word.now j found).0 in
    omega (arith, within, c.self.invariant.few)

-- a symbol that a word means is one of few, where there are few
names_few : (t : Tables) (w : Word) (name : Option Name) → meaning t w ≡ name → length t.constants ≤ 65535 → length t.floats ≤ 65535
    → NamesFew name
names_few t w None e constants floats = tt
names_few t w (Some (Constant i)) e constants floats = let within = constant_within t w i e in omega (arith, within, constants)
names_few t w (Some (Variable v None)) e constants floats = tt
names_few t w (Some (Variable v (Some j))) e constants floats = let within = typed_within t w v j e in omega (arith, within, floats)
names_few t w (Some (Label j)) e constants floats = tt

pub returns-clause-symbol : goal.returns-clause-symbol
returns-clause-symbol c =
    let i = c.self.inside in
    let t : Tables = record { constants = i.constants.items; variables = i.variables.items; floats = i.floats.items } in
    let found : meaning t c.args.word.now ≡ c.copied.result =
    sym (c.self.invariant.indexed c.args.word.now) ∙ sym c.get.ensures.value ∙ sym c.copied.ensures in
    names_few t c.args.word.now c.copied.result found c.self.invariant.few_constants c.self.invariant.few
