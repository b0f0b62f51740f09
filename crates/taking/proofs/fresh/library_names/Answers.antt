-- What is left to show of `library_names`.
use Rattle.std.proofs.Common.{◌≡◌, ◌<◌, ◌≤◌, ◌∙◌, ◌+◌, [], ap, sym, subst, List, get_or, length, ℕ, false, arith}
use Rattle.std.specs.Prelude.{Some, None}
use Rattle.std.specs.Borrow.{Bor}
use Rattle.std.proofs.lemmas.List.{get_or-map, length-map}
use Rattle.mmtext.specs.Words.{Word}
use Rattle.source.specs.Views.{seen_words}
use Rattle.taking.specs.Fresh.{renamed_by, AreGiven, AreLeft, IsRefused}
use Rattle.taking.proofs.Given.{Given, give, none_given, all_given, refused}
use Rattle.taking.proofs.fresh.library_names.Goals as goal

pub loop-i-init : goal.loop-i-init
loop-i-init g c =
    none_given (g.N.FreeNames.is_free c.args.names.now) c.args.changes.now (seen_words c.args.words.now) c.new-given.result.items
    c.new-given.ensures.items

pub bounds-changes-i : goal.bounds-changes-i
bounds-changes-i g c = subst (λ (n : ℕ). c.loop-i.i < n) (sym c.requires) c.loop-i-test.true

pub returns-in_default-clause-refused : goal.returns-in_default-clause-refused
returns-in_default-clause-refused g c =
    let l = c.loop-i in
    let free = g.N.FreeNames.is_free in
    let words = c.args.words.now in
    let word = λ (w : Bor (List ℕ)). w.now in
    let within : l.i < length (seen_words words) = subst (λ (n : ℕ). l.i < n) (sym (length-map words word)) c.loop-i-test.true in
    let none : renamed_by (free l.names) (get_or c.args.changes.now l.i false) (get_or (seen_words words) l.i []) ≡ None =
    ap (renamed_by (free l.names) (get_or c.args.changes.now l.i false)) (get_or-map word words l.i _ [] c.loop-i-test.true)
    ∙ sym c.in_ok-name.ensures
    ∙ c.in_default.is in
    subst (λ (w : Word). IsRefused (free c.args.names.now) c.args.changes.now (seen_words words) w)
    (get_or-map word words l.i _ [] c.loop-i-test.true)
    (refused (free c.args.names.now) (free l.names) c.args.changes.now (seen_words words) l.i l.given.items l.invariant within none)

pub returns-clause-given : goal.returns-clause-given
returns-clause-given g c =
    let l = c.loop-i in
    let free = g.N.FreeNames.is_free in
    let words = c.args.words.now in
    let many : length (seen_words words) ≡ length words = length-map words (λ (w : Bor (List ℕ)). w.now) in
    let behind : length words ≤ l.i = c.loop-i-test.false in
    let all : l.i ≡ length (seen_words words) = omega arith in
    subst (λ (ns : List Word). AreGiven (free c.args.names.now) c.args.changes.now (seen_words words) ns) (sym c.from_vec.ensures)
    (all_given (free c.args.names.now) (free l.names) c.args.changes.now (seen_words words) l.i l.given.items l.invariant all)

pub returns-clause-left : goal.returns-clause-left
returns-clause-left g c =
    let free = g.N.FreeNames.is_free in
    subst (λ (ns : List Word). AreLeft (free c.args.names.now) (free c.loop-i.names) ns) (sym c.from_vec.ensures) c.loop-i.invariant.left

pub loop-i-preserved : goal.loop-i-preserved
loop-i-preserved g c =
    let l = c.loop-i in
    let free = g.N.FreeNames.is_free in
    let words = c.args.words.now in
    let is : renamed_by (free l.names) (get_or c.args.changes.now l.i false) (get_or (seen_words words) l.i []) ≡ Some c.in-Some.name =
    ap (renamed_by (free l.names) (get_or c.args.changes.now l.i false))
    (get_or-map (λ (w : Bor (List ℕ)). w.now) words l.i _ [] c.loop-i-test.true)
    ∙ sym c.in_ok-name.ensures
    ∙ c.in-Some.is in
    subst (λ (ns : List Word). Given (free c.args.names.now) (free c.give.new.names) c.args.changes.now (seen_words words) (l.i + 1) ns)
    (sym c.in_ok-give.ensures.given)
    (give (free c.args.names.now) (free l.names) (free c.give.new.names) c.args.changes.now (seen_words words) l.i l.given.items
    c.in-Some.name
    l.invariant is c.in_ok-give.ensures.noted)
