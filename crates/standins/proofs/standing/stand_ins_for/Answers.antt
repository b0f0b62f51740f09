-- What is left to show of `stand_ins_for`: these are the theorems, and so are their labels.
use Rattle.std.proofs.Common.{◌≡◌, ◌∙◌, [], ℕ, List, length, map, filter, sym, ap, ap₂, arith, rules, Bor, Vec, Global}
use Rattle.std.specs.Prelude.{◌&&◌, filter_map}
use Rattle.std.specs.List.{zip}
use Rattle.std.proofs.lemmas.List.{length-map, nil_from_length}
use Rattle.std.proofs.lemmas.Result.{IfOk-weaker}
use Rattle.std.proofs.lemmas.Simd.{map-map}
use Rattle.mmtext.specs.Words.{Word}
use Rattle.source.specs.Scopes.{Pair, is_in}
use Rattle.source.specs.Views.{seen_pairs}
use Rattle.taking.specs.declared.reason.Reason.{Reason}
use Rattle.expanding.specs.Views.{seen_scripts}
use Rattle.intake.specs.Intakes.{axioms_of}
use Rattle.sourceediting.specs.Following.{Following}
use Rattle.sourceediting.proofs.Origins.{seen}
use Rattle.sourceediting.specs.Views.{seen_living}
use Rattle.standins.specs.declared.standing.StandIn.{StandIn as CodeStandIn}
use Rattle.standins.specs.StandIns.{free_labels, is_leaning, opening_labels, stand_in, with_labels, words_of}
use Rattle.standins.specs.Views.{leaning_pair, seen_stand_ins}
use Rattle.standins.proofs.Pairs.{leaning_pairs}
use Rattle.standins.proofs.standing.stand_ins_for.Goals as goal

pub returns-then-is_empty : goal.returns-then-is_empty
returns-then-is_empty g c = λ choice are.
    let s = g.D.Declared.scope c.args.declared.now in
    let t = c.args.taken.now in
    let scripts = c.args.scripts.now in
    let told = c.in_ok-told.told in
    let again = c.in_ok-reproved.reproved in
    let ps = opening_labels s choice t.database in
    let axioms = t.axioms.items in
    let told_are : told ≡ map (λ (a : Word × Reason). a.0) (axioms_of t) =
    c.in_ok-told.ensures
    ∙ ap (map (λ (a : Bor (List ℕ) × Reason). a.0.now)) c.as_slice.ensures.value
    ∙ sym (map-map (λ (a : Word × Reason). a.0) (λ (a : Bor (List ℕ) × Reason). (a.0.now, a.1)) axioms) in
    let theorems : seen_pairs c.in_ok-theorems.theorems.items ≡ filter (is_leaning t scripts) ps =
    c.in_ok-theorems.ensures
    ∙ ap (λ xs. filter_map (leaning_pair told again) (seen_living xs)) c.as_slice-3.ensures.value
    ∙ ap (λ (f : Following). filter_map (leaning_pair told again) f.living)
    (c.in_ok-opening.ensures choice (are ∙ sym c.as_slice-2.ensures.value))
    ∙ leaning_pairs told again ps
    ∙ ap₂ (λ (us vs : List Word). filter (λ (p : Word × Word). is_in us p.0 && is_in vs p.1) ps) told_are c.in_ok-reproved.ensures in
    let long : length c.in_ok-theorems.theorems.items ≡ 0 = search rules in
    let none : c.in_ok-theorems.theorems.items ≡ [] = nil_from_length c.in_ok-theorems.theorems.items long in
    ap seen_stand_ins c.new.ensures.items
    ∙ ap (with_labels (words_of t.database (seen_scripts c.args.words.now))) (sym (ap seen_pairs none) ∙ theorems)

pub returns : goal.returns
returns g c = λ choice are.
    let s = g.D.Declared.scope c.args.declared.now in
    let t = c.args.taken.now in
    let scripts = c.args.scripts.now in
    let told = c.in_ok-told.told in
    let again = c.in_ok-reproved.reproved in
    let ps = opening_labels s choice t.database in
    let axioms = t.axioms.items in
    let told_are : told ≡ map (λ (a : Word × Reason). a.0) (axioms_of t) =
    c.in_ok-told.ensures
    ∙ ap (map (λ (a : Bor (List ℕ) × Reason). a.0.now)) c.as_slice.ensures.value
    ∙ sym (map-map (λ (a : Word × Reason). a.0) (λ (a : Bor (List ℕ) × Reason). (a.0.now, a.1)) axioms) in
    let theorems : seen_pairs c.in_ok-theorems.theorems.items ≡ filter (is_leaning t scripts) ps =
    c.in_ok-theorems.ensures
    ∙ ap (λ xs. filter_map (leaning_pair told again) (seen_living xs)) c.as_slice-3.ensures.value
    ∙ ap (λ (f : Following). filter_map (leaning_pair told again) f.living)
    (c.in_ok-opening.ensures choice (are ∙ sym c.as_slice-2.ensures.value))
    ∙ leaning_pairs told again ps
    ∙ ap₂ (λ (us vs : List Word). filter (λ (p : Word × Word). is_in us p.0 && is_in vs p.1) ps) told_are c.in_ok-reproved.ensures in
    let leaning = filter (is_leaning t scripts) ps in
    let words = words_of t.database (seen_scripts c.args.words.now) in
    let many : c.len.result ≡ length leaning =
    omega (arith, c.len.ensures, c.in_ok-theorems.theorems.ok, ap length theorems, length-map c.in_ok-theorems.theorems.items seen) in
    let labels = c.as_slice-5.ensures.value ∙ c.in_ok-labels.ensures ∙ ap₂ free_labels c.in_ok-words.ensures many in
    let pairs = ap seen_pairs c.as_slice-4.ensures.value ∙ theorems in
    IfOk-weaker c.with_labels.result
    (λ (made : Vec CodeStandIn Global). seen_stand_ins made.items
    ≡ map stand_in (zip (seen_pairs c.as_slice-4.result.now) c.as_slice-5.result.now))
    (λ (made : Vec CodeStandIn Global). seen_stand_ins made.items ≡ with_labels words leaning)
    (λ made is. is ∙ ap₂ (λ (qs : List Pair) (ls : List Word). map stand_in (zip qs ls)) pairs labels) c.with_labels.ensures
