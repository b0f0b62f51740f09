use Rattle.std.proofs.Common.{◌≡◌, Some, length, refl, sym, ap, subst, ◌∙◌, arith}
use Rattle.std.specs.List.{slice_get, Contains}
use Rattle.std.proofs.lemmas.Option.{slice_get_within, slice_get_read}
use Rattle.catalog.specs.Citers.{Covers}
use Rattle.history.specs.Drafts.{Drafted}
use Rattle.catalog.proofs.Covering.{all-listed}
use Rattle.history.proofs.draft.Draft.citers_of.Goals as goal

-- the list that was read
read : (c : goal.After-as_slice) → slice_get c.self.inside.citers.items c.args.place ≡ Some c.index.result.now
read c =
    let i = c.self.inside in
    let held = ap (λ (d : Drafted). d.entries) c.self.view_is in
    let within = slice_get_within c.args.self.now.entries c.args.place (Some c.requires.0) c.requires.1 in
    let long = c.self.invariant.3.long in
    slice_get_read i.citers.items (length i.citers.items) c.args.place c.index.result.now refl
    (omega (arith, ap length held)) c.index.ensures

pub returns-clause-listed : goal.returns-clause-listed
returns-clause-listed c =
    let cs = ap (λ (d : Drafted). d.citers) c.self.view_is in
    λ q at. record {
      list = c.index.result.now;
      at = ap (λ l. slice_get l c.args.place) (sym cs) ∙ read c;
      member = subst (λ l. Contains l q) c.as_slice.ensures.value at;
    }

pub returns-clause-all : goal.returns-clause-all
returns-clause-all c =
    let d = c.args.self.now in
    let cs = ap (λ (x : Drafted). x.citers) c.self.view_is in
    let covers : Covers d.citers d.entries = subst (λ (x : Drafted). Covers x.citers x.entries) c.self.view_is
    c.self.invariant.3.covers_now in
    λ e at. rw c.as_slice.ensures.value
    (all-listed d.citers d.entries c.args.place e c.index.result.now covers at (ap (λ l. slice_get l c.args.place) (sym cs) ∙ read c))
