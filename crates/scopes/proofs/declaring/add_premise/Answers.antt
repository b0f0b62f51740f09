-- What is left to show of `add_premise`.
use Rattle.std.proofs.Common.{◌≡◌, refl, sym, subst}
use Rattle.source.specs.Statements.{hypothesis}
use Rattle.source.specs.Scopes.{premise, declared}
use Rattle.source.specs.Views.{seen_words}
use Rattle.scopes.specs.Views.{Kept, kept_of, stand_of}
use Rattle.scopes.specs.Sound.{looks_up, IsSound}
use Rattle.scopes.proofs.Symbols.{sound_looks}
use Rattle.scopes.proofs.Effects.{sound_premise, stand_link}
use Rattle.scopes.proofs.declaring.add_premise.Goals as goal

pub returns-clause-sound : goal.returns-clause-sound
returns-clause-sound c =
    let t = c.args.tables.now in
    let made = c.add_hypothesis.new.tables in
    let ws = seen_words c.args.expression.items in
    let sound = sound_premise (looks_up t.names) (kept_of t) c.args.label.now ws c.requires.sound c.requires.lawful in
    subst (λ (k : Kept). IsSound (looks_up made.names) k) (sym c.in_ok-add_hypothesis.ensures.kept)
    (sound_looks _ (looks_up made.names) _ sound c.in_ok-add_hypothesis.ensures.names)

pub returns-clause-stand : goal.returns-clause-stand
returns-clause-stand c =
    let t = c.args.tables.now in
    let ws = seen_words c.args.expression.items in
    subst (λ (k : Kept). stand_of k ≡ declared (stand_of (kept_of t)) (hypothesis c.args.label.now ws))
    (sym c.in_ok-add_hypothesis.ensures.kept)
    (stand_link (looks_up t.names) (kept_of t) (premise c.args.label.now ws) (hypothesis c.args.label.now ws) c.requires.sound refl)
