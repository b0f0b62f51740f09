use Rattle.std.proofs.lemmas.Result.{IfOk-weaker}
use Rattle.std.proofs.Common.{ap}
use Rattle.tlwords.proofs.words.Words.open.Goals as goal

pub returns-clause-sizes : goal.returns-clause-sizes
returns-clause-sizes g c = IfOk-weaker c.lay_out.result _ _ (λ r o. o.sizes) c.lay_out.ensures.opened

pub returns-clause-key : goal.returns-clause-key
returns-clause-key g c = IfOk-weaker c.lay_out.result _ _ (λ r o. o.key) c.lay_out.ensures.opened

pub returns-clause-passes : goal.returns-clause-passes
returns-clause-passes g c = IfOk-weaker c.lay_out.result _ _ (λ r o. o.passes) c.lay_out.ensures.opened

pub returns-clause-opening : goal.returns-clause-opening
returns-clause-opening g c = IfOk-weaker c.lay_out.result _ _ (λ r o k d l. ap (λ p. p.home) (o.passes k d l)) c.lay_out.ensures.opened

pub returns-clause-sound : goal.returns-clause-sound
returns-clause-sound g c = IfOk-weaker c.lay_out.result _ _ (λ r o. o.sound) c.lay_out.ensures.opened

pub returns-clause-names : goal.returns-clause-names
returns-clause-names g c = IfOk-weaker c.lay_out.result _ _ (λ r o. o.names) c.lay_out.ensures.opened
