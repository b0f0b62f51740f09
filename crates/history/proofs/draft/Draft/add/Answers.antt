use Rattle.std.proofs.Common.{◌≡◌, [], ◌∷◌, ◌++◌, None, Some, Ok, true, false, length, set, refl, sym, ap, subst, ◌∙◌}
use Rattle.std.specs.List.{slice_get, list_any}
use Rattle.mmsyntax.specs.declared.statement.Assertion.{Assertion}
use Rattle.mmframes.specs.Frames.{frame}
use Rattle.library.specs.declared.library.Ranked.{Ranked}
use Rattle.library.specs.Library.{Setting, label_of}
use Rattle.library.specs.Edits.{has, is_of_unknown, done, add_tests}
use Rattle.catalog.specs.Entries.{Entries, living, StandsIn}
use Rattle.catalog.specs.Listing.{some_cites}
use Rattle.history.specs.Drafts.{Drafted, now_in}
use Rattle.catalog.proofs.Changing.{get-last, living-opened}
use Rattle.catalog.proofs.Covering.{covers-fresh, stands-opened}
use Rattle.history.proofs.Commands.{tested_some, tested_none, add_free, add_known, library-added}
use Rattle.catalog.proofs.Known.{verified-uncited, known-uncited}
use Rattle.history.proofs.draft.Draft.add.Goals as goal

pub returns-in-Some-clause-taken : goal.returns-in-Some-clause-taken
returns-in-Some-clause-taken c =
    let d = c.args.self.now in
    rw c.refused.ensures (
      refl,
      tested_some (add_tests d.setting (now_in d) c.args.rank c.args.assertion.now) _ c.in-Some.reason
          (sym c.in_ok-reason.ensures ∙ c.in-Some.is),
    )

pub put-requires-clause-free : goal.put-requires-clause-free
put-requires-clause-free c =
    let d = c.args.self.now in
    let a = c.args.assertion.now in
    let free = add_free d.setting (now_in d) c.args.rank a (sym c.in_ok-reason.ensures ∙ c.in_default.is) in
    let same = ap living (c.in_ok-cite.ensures.entries ∙ c.in_ok-place.ensures.entries) ∙ living-opened d.entries in
    ap (λ l. has l c.in_ok-assertion.assertion.label) same
    ∙ ap (λ (x : Assertion). has (now_in d) x.label) c.in_ok-assertion.ensures ∙ free

pub put-requires-clause-framed : goal.put-requires-clause-framed
put-requires-clause-framed c =
    let d = c.args.self.now in
    let i = c.self.inside in
    let a = c.args.assertion.now in
    let opened = c.in_ok-place.ensures in
    let p = c.in_ok-place.place in
    let f = c.in_ok-frame.frame in
    let long : length d.frames ≡ length d.entries =
    ap (λ (x : Drafted). length x.frames) (sym c.self.view_is) ∙ c.self.invariant.0.framed.long
    ∙ ap (λ (x : Drafted). length x.entries) c.self.view_is in
    let setting = c.in_ok-cite.ensures.kept.setting ∙ opened.kept.setting in
    let made : f ≡ frame c.cite.new.self.setting.prelude c.in_ok-assertion.assertion =
    c.in_ok-frame.ensures ∙ ap (λ (x : Drafted). frame x.setting.prelude a) c.self.view_is
    ∙ ap (λ (s : Setting). frame s.prelude a) (sym setting) ∙ ap (frame c.cite.new.self.setting.prelude) (sym c.in_ok-assertion.ensures) in
    ap (λ fs. slice_get fs p) (c.in_ok-cite.ensures.frames ∙ opened.frames) ∙ ap (slice_get (d.frames ++ f ∷ [])) (opened.place ∙ sym long)
    ∙ get-last d.frames f ∙ ap (λ x. Some x) made

pub put-requires-clause-covered : goal.put-requires-clause-covered
put-requires-clause-covered c =
    let d = c.args.self.now in
    let lib = now_in d in
    let a = c.args.assertion.now in
    let b = c.in_ok-assertion.assertion in
    let p = c.in_ok-place.place in
    let next = c.cite.new.self in
    let cited = c.in_ok-cite.ensures in
    let new : Ranked = record { rank = c.args.rank; assertion = b } in
    let tests = sym c.in_ok-reason.ensures ∙ c.in_default.is in
    let free : has lib b.label ≡ false = ap (λ (x : Assertion). has lib x.label) c.in_ok-assertion.ensures
    ∙ add_free d.setting lib c.args.rank a tests in
    let known : list_any (is_of_unknown lib) b.proof ≡ false =
    ap (λ (x : Assertion). list_any (is_of_unknown lib) x.proof) c.in_ok-assertion.ensures ∙ add_known d.setting lib c.args.rank a tests in
    let now : next.entries ≡ d.entries ++ None ∷ [] = cited.entries ∙ c.in_ok-place.ensures.entries in
    let listed : a.proof ≡ b.proof = ap (λ (x : Assertion). x.proof) (sym c.in_ok-assertion.ensures) in
    covers-fresh next.citers next.entries p new cited.covered
    (λ q f at. verified-uncited d.setting d.entries b.label c.requires free q f
    (stands-opened d.entries q f (subst (λ es. StandsIn es q f) now at)))
    (known-uncited lib b.label b.proof free known)
    (λ r e at here. cited.entered.entered r e at (subst (λ steps. some_cites steps (label_of e) ≡ true) (sym listed) here))

pub returns-clause-taken : goal.returns-clause-taken
returns-clause-taken c =
    let d = c.args.self.now in
    let a = c.args.assertion.now in
    let rank = c.args.rank in
    let opened = c.in_ok-place.ensures in
    let p = c.in_ok-place.place in
    let now =
    c.in_ok-put.ensures.done.entries
    ∙ ap (λ (es : Entries). set es p (Some (record { rank = rank; assertion = c.in_ok-assertion.assertion })))
    (c.in_ok-cite.ensures.entries ∙ opened.entries)
    ∙ ap (λ (x : Assertion). set (d.entries ++ None ∷ []) p (Some (record { rank = rank; assertion = x }))) c.in_ok-assertion.ensures in
    tested_none (add_tests d.setting (now_in d) rank a) _ (sym c.in_ok-reason.ensures ∙ c.in_default.is)
    ∙ ap (λ l. Ok (done l)) (sym (library-added d.entries rank a p opened.place) ∙ ap living (sym now))
