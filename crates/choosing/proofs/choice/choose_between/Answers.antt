-- What is left to show of `choose_between`.
use Rattle.std.proofs.Common.{◌≡◌, ◌∙◌, List, Bool, length, refl, subst}
use Rattle.std.specs.Prelude.{filter}
use Rattle.std.proofs.lemmas.Result.{err_from_is_err_and}
use Rattle.choosing.proofs.Marked.{found_at}
use Rattle.choosing.proofs.Chosen.{unknown_first, unknown_second, between_is_chosen, between_too_many, wanted_within}
use Rattle.choosing.proofs.choice.choose_between.Goals as goal

pub needed_between-requires : goal.needed_between-requires
needed_between-requires g c κs =
    let at = found_at (g.D.Declared.scope c.args.declared.now).assertions c.args.to.now c.in_ok-last.last
    c.in_ok-last.ensures.found in
    ((refl, tt), (c.requires.whole, (c.requires.frames, (c.if-last-begin.false, at.3))))

pub selected-requires-clause-within : goal.selected-requires-clause-within
selected-requires-clause-within g c =
    wanted_within (g.D.Declared.scope c.args.declared.now) c.args.to.now c.in_ok-last.last _ c.in_ok-wanted.wanted.items
    c.in_ok-last.ensures.found c.in_ok-wanted.ensures.wanted

pub returns-then-count-gt-MOST_ASSERTIONS-clause-refused : goal.returns-then-count-gt-MOST_ASSERTIONS-clause-refused
returns-then-count-gt-MOST_ASSERTIONS-clause-refused g c =
    let s = g.D.Declared.scope c.args.declared.now in
    let at = found_at s.assertions c.args.to.now c.in_ok-last.last c.in_ok-last.ensures.found in
    λ other. between_too_many s c.args.from c.args.to c.in_ok-begin.begin c.in_ok-last.last c.in_ok-begin.ensures.found
    c.in_ok-last.ensures.found c.if-last-begin.false at.3 c.in_ok-wanted.wanted.items c.in_ok-wanted.ensures.wanted
    c.deref.result.now c.count_marked-count.result (c.deref.ensures.value ∙ c.in_ok-selection.ensures.chosen)
    c.count_marked-count.ensures c.if-count-gt-MOST_ASSERTIONS.true

pub returns-clause-chosen : goal.returns-clause-chosen
returns-clause-chosen g c =
    let s = g.D.Declared.scope c.args.declared.now in
    let at = found_at s.assertions c.args.to.now c.in_ok-last.last c.in_ok-last.ensures.found in
    between_is_chosen s c.args.from c.args.to c.in_ok-begin.begin c.in_ok-last.last c.in_ok-begin.ensures.found
    c.in_ok-last.ensures.found c.if-last-begin.false at.3 c.in_ok-wanted.wanted.items c.in_ok-wanted.ensures.wanted
    c.in_ok-selection.selection c.count_marked-count.result c.requires.whole.distinct c.in_ok-selection.ensures.front
    c.in_ok-selection.ensures.chosen
    (subst (λ (fs : List Bool). c.count_marked-count.result ≡ length (filter (λ b. b) fs)) c.deref.ensures.value
    c.count_marked-count.ensures)
    c.if-count-gt-MOST_ASSERTIONS.false

pub returns-in_err-begin-clause-refused : goal.returns-in_err-begin-clause-refused
returns-in_err-begin-clause-refused g c =
    let s = g.D.Declared.scope c.args.declared.now in
    let p = err_from_is_err_and c.from_residual.result c.from_residual.ensures.1 in
    let u = c.in_err-begin.ensures.unknown in
    rw (p.1, p.2, u.0) (λ other. unknown_first s c.args.from c.args.to u.1)

pub returns-in_err-last-clause-refused : goal.returns-in_err-last-clause-refused
returns-in_err-last-clause-refused g c =
    let s = g.D.Declared.scope c.args.declared.now in
    let p = err_from_is_err_and c.from_residual-in_err-last.result c.from_residual-in_err-last.ensures.1 in
    let u = c.in_err-last.ensures.unknown in
    rw (p.1, p.2, u.0) (λ other. unknown_second s c.args.from c.args.to c.in_ok-begin.begin c.in_ok-begin.ensures.found u.1)
