use Rattle.std.proofs.Common.{◌≡◌, ap, sym, subst, ◌∙◌}
use Rattle.cells.specs.Sight.{Looks as LooksOn}
use Rattle.cells.proofs.Sights.{origin_kept}
use Rattle.lawful.specs.Lawful.{setting_given}
use Rattle.lending.specs.Lent.{Pass, Carried, Lending, lent_sight}
use Rattle.transaction.specs.Looks.{Sees}
use Rattle.transaction.specs.Tries.{IsLaterPass, StoresNothing, carried_by}
use Rattle.transaction.proofs.Looked.{may_be_looked}
use Rattle.transaction.proofs.looking.look.Goals as goal

pub show-requires-clause-lawful : goal.show-requires-clause-lawful
show-requires-clause-lawful c =
    may_be_looked c.begin-live.result.run c.read_all.new.live.run c.in-Ok.seen c.read_all.ensures.looks c.begin-live.ensures.blank
    (c.in-Ok.ensures.setting ∙ sym (ap setting_given c.begin-live.ensures.given)) c.in-Ok.ensures.ok

-- a look takes nothing
stored_since : (kit new : Carried) (old now : Lending) → old.going.known.taken ≡ kit.pass.taken → old.staged ≡ kit.staged
    → LooksOn (lent_sight old) (lent_sight now) → StoresNothing (carried_by now) new → StoresNothing kit new
stored_since kit new old now taken staged looks stored = (stored.0 ∙ looks.taken ∙ taken, stored.1 ∙ looks.staged ∙ staged)

pub returns-in-Ok-clause-stored : goal.returns-in-Ok-clause-stored
returns-in-Ok-clause-stored c =
    let lends = c.begin-live.ensures in
    stored_since c.args.kit c.show.result.0 c.begin-live.result.run c.read_all.new.live.run lends.taken lends.staged
    c.read_all.ensures.looks c.show.ensures.stored

pub returns-in-Err-clause-stored : goal.returns-in-Err-clause-stored
returns-in-Err-clause-stored c =
    let lends = c.begin-live.ensures in
    stored_since c.args.kit c.stop.result.0 c.begin-live.result.run c.read_all.new.live.run lends.taken lends.staged
    c.read_all.ensures.looks c.stop.ensures.stored

pub returns-in-Ok-clause-later : goal.returns-in-Ok-clause-later
returns-in-Ok-clause-later c =
    subst (λ (z : Pass). IsLaterPass z c.show.result.0.pass) ((origin_kept c.read_all.ensures.looks.onward) ∙ c.begin-live.ensures.began)
    c.show.ensures.later

pub returns-in-Ok-clause-sees : goal.returns-in-Ok-clause-sees
returns-in-Ok-clause-sees c =
    subst (λ (z : Pass). Sees z c.show.result.0.pass c.show.result.1)
    ((origin_kept c.read_all.ensures.looks.onward) ∙ c.begin-live.ensures.began)
    c.show.ensures.sees

pub returns-in-Err-clause-later : goal.returns-in-Err-clause-later
returns-in-Err-clause-later c =
    subst (λ (z : Pass). IsLaterPass z c.stop.result.0.pass) ((origin_kept c.read_all.ensures.looks.onward) ∙ c.begin-live.ensures.began)
    c.stop.ensures.later

pub returns-in-Err-clause-sees : goal.returns-in-Err-clause-sees
returns-in-Err-clause-sees c =
    subst (λ (z : Pass). Sees z c.stop.result.0.pass c.stop.result.1)
    ((origin_kept c.read_all.ensures.looks.onward) ∙ c.begin-live.ensures.began)
    c.stop.ensures.sees
