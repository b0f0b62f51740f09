use Rattle.std.proofs.Common.{◌≡◌, ℕ, Vec, length, set, sym, ap, subst, refl}
use Rattle.std.specs.List.Sorted.{IsStrictlyIncreasing}
use Rattle.std.specs.declared.alloc.Global.{Global}
use Rattle.std.proofs.lemmas.List.{length-set}
use Rattle.std.proofs.lemmas.List.Elements.{All-set}
use Rattle.std.proofs.lemmas.Result.{on_ok_weaker}
use Rattle.std.proofs.lemmas.Option.{slice_get_read}
use Rattle.library.specs.Library.{label_of}
use Rattle.catalog.specs.Entries.{StandsIn}
use Rattle.catalog.specs.Places.{StandsAt}
use Rattle.history.specs.Drafts.{Drafted}
use Rattle.catalog.proofs.Changing.{get-set_same}
use Rattle.catalog.proofs.Covering.{keeps-set, list-within}
use Rattle.history.proofs.Listed.{citers_grown}
use Rattle.history.proofs.draft.Draft.list_citer.Goals as goal

pub invariant_of-self : goal.invariant_of-self
invariant_of-self c =
    let i = c.self.inside in
    let cs = i.citers.items in
    let p = c.args.cited in
    let list = c.enter.new.list in
    let Up = λ (l : Vec ℕ Global). IsStrictlyIncreasing l.items in
    let held : i.entries.items ≡ c.args.self.now.entries = ap (λ (x : Drafted). x.entries) c.self.view_is in
    let at : StandsIn i.entries.items p c.requires.0 = subst (λ l. StandsIn l p c.requires.0) (sym held) c.requires.1 in
    let stands : StandsAt i.entries.items (label_of c.requires.0) p = record { entry = c.requires.0; at = at; labelled = refl } in
    let within = list-within cs i.entries.items (label_of c.requires.0) p stands c.self.invariant.3.long in
    let own = slice_get_read cs (length cs) p c.index_mut.result.now refl within c.index_mut.ensures.value in
    let kept = keeps-set cs p c.index_mut.result.now list own c.enter.ensures.kept in
    let v = c.self.invariant in (
      v.0,
      v.1,
      v.2,
      citers_grown cs (set cs p list) i.notes.items i.entries.items (length-set cs p list)
          (All-set Up cs p list c.enter.ensures.ascending v.3.ascending) kept v.3,
      v.4,
    )

pub returns-clause-listed : goal.returns-clause-listed
returns-clause-listed c =
    let i = c.self.inside in
    let cs = i.citers.items in
    let p = c.args.cited in
    let list = c.enter.new.list in
    let held : i.entries.items ≡ c.args.self.now.entries = ap (λ (x : Drafted). x.entries) c.self.view_is in
    let at : StandsIn i.entries.items p c.requires.0 = subst (λ l. StandsIn l p c.requires.0) (sym held) c.requires.1 in
    let stands : StandsAt i.entries.items (label_of c.requires.0) p = record { entry = c.requires.0; at = at; labelled = refl } in
    let within = list-within cs i.entries.items (label_of c.requires.0) p stands c.self.invariant.3.long in
    let there = get-set_same cs p list within in
    on_ok_weaker c.enter.result (λ member. record { list = list; at = there; member = member }) c.enter.ensures.entered
