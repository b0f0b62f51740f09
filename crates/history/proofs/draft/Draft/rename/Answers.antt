use Rattle.std.proofs.Common.{◌≡◌, ℕ, List, Some, false, Ok, set, refl, sym, ap, subst, ◌∙◌}
use Rattle.std.specs.List.{slice_get, Contains}
use Rattle.std.proofs.lemmas.Option.{slice_get_within}
use Rattle.mmframes.specs.Frames.{frame}
use Rattle.library.specs.declared.library.Ranked.{Ranked}
use Rattle.library.specs.Edits.{has, done, label_tests, rename_tests}
use Rattle.catalog.specs.Entries.{living, StandsIn}
use Rattle.catalog.specs.Citers.{Covers, HasAllCiters, IsCiter}
use Rattle.library.specs.Library.{Setting}
use Rattle.history.specs.Refusals.{first_reason}
use Rattle.catalog.specs.Changes.{with_label, citing, changed_all}
use Rattle.history.specs.Drafts.{Drafted, now_in}
use Rattle.catalog.proofs.Covering.{covers-fresh, all-relabelled}
use Rattle.catalog.proofs.Changing.{get-set_same}
use Rattle.catalog.proofs.Known.{verified-uncited}
use Rattle.history.proofs.Commands.{tested_some, tested_none, HasLabel, has_label, has_own, label_free, rename_front, library-renamed}
use Rattle.history.proofs.draft.Draft.rename.Goals as goal

-- the tests of the new label, of labels that are equal
as_labels : (s : Setting) (lib : List Ranked) (v v' w w' : List ℕ) → v ≡ w → v' ≡ w'
    → first_reason (label_tests s lib w w') ≡ first_reason (label_tests s lib v v')
as_labels s lib v v' w w' e f =
    ap (λ x. first_reason (label_tests s lib x w')) (sym e) ∙ ap (λ x. first_reason (label_tests s lib v x)) (sym f)

pub returns-in-Some-refusal-clause-taken : goal.returns-in-Some-refusal-clause-taken
returns-in-Some-refusal-clause-taken c =
    let d = c.args.self.now in
    let lib = now_in d in
    let i = c.self.inside in
    let held : i.entries.items ≡ d.entries = ap (λ (x : Drafted). x.entries) c.self.view_is in
    let w = c.args.old.now in
    let new = c.args.new.now in
    let at = c.in-Some.ensures.some in
    let e = c.in-Some.entry.now in
    let p = c.in-Some.place in
    let own : HasLabel i.places d.entries w p e =
    has_label i.places i.entries.items d.entries c.as_slice-2.result.now c.as_slice-own.result.now w p e c.self.invariant.0.indexed held
    c.as_slice-2.ensures.value at.0 at.1 c.as_slice-own.ensures in
    let told =
    as_labels d.setting lib c.as_slice-own.result.now c.as_slice.result.now w new c.as_slice-own.ensures c.as_slice.ensures
    ∙ sym c.refuse_label-refusal.ensures in
    let first = rename_front d.setting lib w new (has_own i.places d.entries w p e own) ∙ told ∙ c.in-Some-refusal.is in
    rw c.refused-in-Some-refusal.ensures (refl, tested_some (rename_tests d.setting lib w new) _ c.in-Some-refusal.reason first)

pub put-requires-clause-framed : goal.put-requires-clause-framed
put-requires-clause-framed c =
    let d = c.args.self.now in
    let lib = now_in d in
    let i = c.self.inside in
    let held : i.entries.items ≡ d.entries = ap (λ (x : Drafted). x.entries) c.self.view_is in
    let slice : c.as_slice-2.result.now ≡ i.entries.items = c.as_slice-2.ensures.value in
    let w = c.args.old.now in
    let at = c.in-Some.ensures.some in
    let e = c.in-Some.entry.now in
    let p = c.in-Some.place in
    let own : HasLabel i.places d.entries w p e =
    has_label i.places i.entries.items d.entries c.as_slice-2.result.now c.as_slice-own.result.now w p e c.self.invariant.0.indexed held
    slice
    at.0 at.1 c.as_slice-own.ensures in
    let stands : StandsIn i.entries.items p e = subst (λ l. StandsIn l p e) slice at.0 in
    let framed = c.self.invariant.0.framed.framed p e stands in
    ap (λ (x : Drafted). slice_get x.frames p) (sym c.self.view_is) ∙ framed
    ∙ ap (λ (x : Drafted). Some (frame x.setting.prelude e.assertion)) c.self.view_is
    ∙ ap (λ (x : Ranked). Some (frame d.setting.prelude x.assertion)) (sym c.in_ok-renamed.ensures)

pub citers_of-requires : goal.citers_of-requires
citers_of-requires c =
    let d = c.args.self.now in
    let lib = now_in d in
    let i = c.self.inside in
    let held : i.entries.items ≡ d.entries = ap (λ (x : Drafted). x.entries) c.self.view_is in
    let slice : c.as_slice-2.result.now ≡ i.entries.items = c.as_slice-2.ensures.value in
    let w = c.args.old.now in
    let at = c.in-Some.ensures.some in
    let e = c.in-Some.entry.now in
    let p = c.in-Some.place in
    let own : HasLabel i.places d.entries w p e =
    has_label i.places i.entries.items d.entries c.as_slice-2.result.now c.as_slice-own.result.now w p e c.self.invariant.0.indexed held
    slice
    at.0 at.1 c.as_slice-own.ensures in
    let new = c.args.new.now in
    (e, own.at)

pub put-requires-clause-covered : goal.put-requires-clause-covered
put-requires-clause-covered c =
    let d = c.args.self.now in
    let lib = now_in d in
    let i = c.self.inside in
    let held : i.entries.items ≡ d.entries = ap (λ (x : Drafted). x.entries) c.self.view_is in
    let slice : c.as_slice-2.result.now ≡ i.entries.items = c.as_slice-2.ensures.value in
    let w = c.args.old.now in
    let at = c.in-Some.ensures.some in
    let e = c.in-Some.entry.now in
    let p = c.in-Some.place in
    let own : HasLabel i.places d.entries w p e =
    has_label i.places i.entries.items d.entries c.as_slice-2.result.now c.as_slice-own.result.now w p e c.self.invariant.0.indexed held
    slice
    at.0 at.1 c.as_slice-own.ensures in
    let new = c.args.new.now in
    let told =
    as_labels d.setting lib c.as_slice-own.result.now c.as_slice.result.now w new c.as_slice-own.ensures c.as_slice.ensures
    ∙ sym c.refuse_label-refusal.ensures in
    let free : has lib new ≡ false = label_free d.setting lib w new (told ∙ c.in_default-refusal.is) in
    let covers : Covers d.citers d.entries = subst (λ (x : Drafted). Covers x.citers x.entries) c.self.view_is
    c.self.invariant.3.covers_now in
    rw c.in_ok-renamed.ensures
    (covers-fresh d.citers d.entries p (with_label new e) covers (verified-uncited d.setting d.entries new c.requires free)
    (verified-uncited d.setting d.entries new c.requires free p e own.at)
    (λ r x at_r here. covers.listed r p x e at_r own.at here))

pub recite_all-requires-clause-all : goal.recite_all-requires-clause-all
recite_all-requires-clause-all c =
    let d = c.args.self.now in
    let lib = now_in d in
    let i = c.self.inside in
    let held : i.entries.items ≡ d.entries = ap (λ (x : Drafted). x.entries) c.self.view_is in
    let slice : c.as_slice-2.result.now ≡ i.entries.items = c.as_slice-2.ensures.value in
    let w = c.args.old.now in
    let at = c.in-Some.ensures.some in
    let e = c.in-Some.entry.now in
    let p = c.in-Some.place in
    let own : HasLabel i.places d.entries w p e =
    has_label i.places i.entries.items d.entries c.as_slice-2.result.now c.as_slice-own.result.now w p e c.self.invariant.0.indexed held
    slice
    at.0 at.1 c.as_slice-own.ensures in
    let new = c.args.new.now in
    let same : c.as_slice-3.result.now ≡ c.citers_of.result.now = c.as_slice-3.ensures.value ∙ c.in_ok-citers.ensures.items in
    let now = c.in_ok-put.ensures.done.entries ∙ ap (λ (x : Ranked). set d.entries p (Some x)) c.in_ok-renamed.ensures in
    let all : HasAllCiters d.entries w c.citers_of.result.now =
    subst (λ l. HasAllCiters d.entries l c.citers_of.result.now) own.labelled (c.citers_of.ensures.all e own.at) in
    rw (same, now) (all-relabelled d.entries p e w new c.citers_of.result.now all own.at)

pub recite_all-requires-clause-listed : goal.recite_all-requires-clause-listed
recite_all-requires-clause-listed c =
    let d = c.args.self.now in
    let lib = now_in d in
    let i = c.self.inside in
    let held : i.entries.items ≡ d.entries = ap (λ (x : Drafted). x.entries) c.self.view_is in
    let slice : c.as_slice-2.result.now ≡ i.entries.items = c.as_slice-2.ensures.value in
    let w = c.args.old.now in
    let at = c.in-Some.ensures.some in
    let e = c.in-Some.entry.now in
    let p = c.in-Some.place in
    let own : HasLabel i.places d.entries w p e =
    has_label i.places i.entries.items d.entries c.as_slice-2.result.now c.as_slice-own.result.now w p e c.self.invariant.0.indexed held
    slice
    at.0 at.1 c.as_slice-own.ensures in
    let new = c.args.new.now in
    let same : c.as_slice-3.result.now ≡ c.citers_of.result.now = c.as_slice-3.ensures.value ∙ c.in_ok-citers.ensures.items in
    let now = c.in_ok-put.ensures.done.entries ∙ ap (λ (x : Ranked). set d.entries p (Some x)) c.in_ok-renamed.ensures in
    let within = slice_get_within d.entries p (Some e) own.at in (
      p,
      record {
        entry = with_label new e;
        at = ap (λ es. slice_get es p) now ∙ get-set_same d.entries p (Some (with_label new e)) within;
        labelled = refl;
      },
      λ q at. subst (λ cs. IsCiter cs p q) (sym c.in_ok-put.ensures.done.citers)
          (c.citers_of.ensures.listed q (subst (λ l. Contains l q) same at)),
    )

pub returns-clause-taken : goal.returns-clause-taken
returns-clause-taken c =
    let d = c.args.self.now in
    let lib = now_in d in
    let i = c.self.inside in
    let held : i.entries.items ≡ d.entries = ap (λ (x : Drafted). x.entries) c.self.view_is in
    let slice : c.as_slice-2.result.now ≡ i.entries.items = c.as_slice-2.ensures.value in
    let w = c.args.old.now in
    let at = c.in-Some.ensures.some in
    let e = c.in-Some.entry.now in
    let p = c.in-Some.place in
    let own : HasLabel i.places d.entries w p e =
    has_label i.places i.entries.items d.entries c.as_slice-2.result.now c.as_slice-own.result.now w p e c.self.invariant.0.indexed held
    slice
    at.0 at.1 c.as_slice-own.ensures in
    let new = c.args.new.now in
    let told =
    as_labels d.setting lib c.as_slice-own.result.now c.as_slice.result.now w new c.as_slice-own.ensures c.as_slice.ensures
    ∙ sym c.refuse_label-refusal.ensures in
    let now =
    c.in_ok-recite_all.ensures.done ∙ ap (changed_all (citing w new)) c.in_ok-put.ensures.done.entries
    ∙ ap (λ (x : Ranked). changed_all (citing w new) (set d.entries p (Some x))) c.in_ok-renamed.ensures in
    tested_none (rename_tests d.setting lib w new) _
    (rename_front d.setting lib w new (has_own i.places d.entries w p e own) ∙ told ∙ c.in_default-refusal.is)
    ∙ ap (λ l. Ok (done l)) (sym (library-renamed i.places d.entries w new p e own) ∙ ap living (sym now))
