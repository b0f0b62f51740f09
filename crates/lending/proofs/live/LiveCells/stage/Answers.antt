use Rattle.std.proofs.Common.{◌≡◌, true, length, refl, sym, subst, ◌∙◌}
use Rattle.cells.specs.Sight.{Looks, Stages, ReadsNothing}
use Rattle.cells.proofs.Asking.{nothing_same}
use Rattle.lending.specs.Lent.{lent_sight}
use Rattle.lending.proofs.Lending.{lending_in, agrees_of, staged_lent, refused_lent}
use Rattle.lending.proofs.Sighted.{none_staged, stages_sight, stages_nothing, again_sight, refused_look, refused_nothing}
use Rattle.lending.proofs.live.LiveCells.stage.Goals as goal

pub invariant_of-self : goal.invariant_of-self
invariant_of-self c =
    let s = c.self.inside in
    let may : s.may_stage ≡ true = subst (λ x. (lent_sight x.run).may_stage ≡ true) (sym c.self.view_is) c.requires.may in
    let lent = refused_lent (lending_in s) s.stage s.over c.self.invariant.1 (length c.args.words.now) c.stage.new.self may
    c.in_default-stage.ensures.err in
    (c.self.invariant.0, lent)

pub invariant_of-self-inside : goal.invariant_of-self-inside
invariant_of-self-inside c =
    let s = c.self.inside in
    let may : s.may_stage ≡ true = subst (λ x. (lent_sight x.run).may_stage ≡ true) (sym c.self.view_is) c.requires.may in
    let lent = refused_lent (lending_in s) s.stage s.over c.self.invariant.1 (length c.args.words.now) c.stage.new.self may
    c.in_default-stage.ensures.err in
    (∣ agrees_of _ s.stage s.over lent ∣₁, tt)

pub returns-in_default-stage-clause-err : goal.returns-in_default-stage-clause-err
returns-in_default-stage-clause-err c =
    let l = lending_in c.self.inside in
    subst (λ x. Looks (lent_sight x.run) (lent_sight (record l { going = c.stage.new.self; full = true }))) c.self.view_is
    (refused_look l (length c.args.words.now) c.stage.new.self c.in_default-stage.ensures.err)

pub invariant_of-self-2 : goal.invariant_of-self-2
invariant_of-self-2 c =
    let s = c.self.inside in
    let lent = staged_lent (lending_in s) s.stage s.over c.self.invariant.1 c.args.words.now c.in-Ok.range.start c.stage.new.self
    c.note.new.self c.note.result c.in-Ok.ensures.ok.1 c.note.ensures.ok c.note.ensures.err in
    (c.self.invariant.0, lent)

pub invariant_of-self-inside-2 : goal.invariant_of-self-inside-2
invariant_of-self-inside-2 c =
    let s = c.self.inside in
    let lent = staged_lent (lending_in s) s.stage s.over c.self.invariant.1 c.args.words.now c.in-Ok.range.start c.stage.new.self
    c.note.new.self c.note.result c.in-Ok.ensures.ok.1 c.note.ensures.ok c.note.ensures.err in
    (∣ agrees_of _ c.note.new.self s.over lent ∣₁, tt)

pub returns-in-Some-clause-ok : goal.returns-in-Some-clause-ok
returns-in-Some-clause-ok c =
    let s = c.self.inside in
    let found = sym c.find.ensures ∙ c.in-Some.is in
    subst (λ x. Stages c.args.words.now c.in-Some.range (lent_sight x.run) (lent_sight x.run)) c.self.view_is
    (again_sight (lending_in s) s.stage s.over c.self.invariant.1 c.args.words.now c.in-Some.range refl found)

pub returns-clause-ok : goal.returns-clause-ok
returns-clause-ok c =
    let s = c.self.inside in
    let l = lending_in s in
    let r = c.stage.new.self in
    let words = c.args.words.now in
    let range = c.in-Ok.range in
    let none = none_staged s.stage words (sym c.find.ensures ∙ c.in_default.is) in
    subst (λ x. Stages words range (lent_sight x.run) (lent_sight (record l { going = r; staged = c.note.new.self }))) c.self.view_is
    (stages_sight l words range r c.note.new.self c.note.result c.in-Ok.ensures.ok.1 none c.note.ensures.ok c.note.ensures.err
    c.in-Ok.ensures.ok.0)

pub returns-in_default-stage-clause-reads : goal.returns-in_default-stage-clause-reads
returns-in_default-stage-clause-reads c =
    let l = lending_in c.self.inside in
    subst (λ x. ReadsNothing (lent_sight x.run) (lent_sight (record l { going = c.stage.new.self; full = true }))) c.self.view_is
    (refused_nothing l (length c.args.words.now) c.stage.new.self c.in_default-stage.ensures.err)

pub returns-in-Some-clause-reads : goal.returns-in-Some-clause-reads
returns-in-Some-clause-reads c =
    subst (λ x. ReadsNothing (lent_sight x.run) (lent_sight x.run)) c.self.view_is (nothing_same (lent_sight (lending_in c.self.inside)))

pub returns-clause-reads : goal.returns-clause-reads
returns-clause-reads c =
    let l = lending_in c.self.inside in
    let r = c.stage.new.self in
    subst (λ x. ReadsNothing (lent_sight x.run) (lent_sight (record l { going = r; staged = c.note.new.self }))) c.self.view_is
    (stages_nothing l c.args.words.now c.in-Ok.range.start r c.note.new.self c.in-Ok.ensures.ok.1)
