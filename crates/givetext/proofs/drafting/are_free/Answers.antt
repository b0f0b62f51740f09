-- What is left to show of `are_free`.
use Rattle.std.proofs.Common.{◌≡◌, ◌∙◌, ℕ, List, [], None, Some, false, get_or, map, sym, ap, subst}
use Rattle.std.specs.Prelude.{◌≢◌, ◌||◌, Contains, IsTrue}
use Rattle.std.specs.Borrow.{Bor}
use Rattle.std.proofs.lemmas.List.{get_or_default}
use Rattle.mmtext.specs.Words.{Word}
use Rattle.source.specs.Scopes.{is_in}
use Rattle.source.specs.Views.{seen_words}
use Rattle.library.proofs.Filtered.{contains_mapped}
use Rattle.sourceediting.specs.declared.following.Followed.{Followed}
use Rattle.sourceediting.specs.Following.{label_then}
use Rattle.sourceediting.specs.Views.{seen_followed, seen_living}
use Rattle.sourceediting.proofs.Marks.{firsts, firsts_marked}
use Rattle.givetext.specs.Parts.{TakesName}
use Rattle.givetext.proofs.drafting.are_free.Goals as goal

pub returns-then-takes_name : goal.returns-then-takes_name
returns-then-takes_name g c = λ taken entries edited own source.
    let s = g.D.Declared.scope c.args.declared.now in
    let xs = c.as_slice-followed-items.result.now in
    let k = c.loop-followed.followed-index in
    let e : Bor (List ℕ) = record { ref_ptr = (0, 0); now = [] } in
    let d : Followed = record { source = None; first = e; now = e; moved = false } in
    let x : Followed = get_or xs k d in
    let takes : TakesName s (seen_followed x) c.args.changes.now c.in_ok-gone.gone = c.takes_name.ensures c.if-takes_name.true in
    let label = c.in_ok-from_slice.field-0 in
    let same : label_then (seen_followed x) ≡ label = sym (c.in_ok-from_slice.ensures ∙ c.label_then-label.ensures) in
    let gone : firsts c.in_ok-gone.gone ≡ seen_words c.args.following.now.gone.items =
    ap firsts c.in_ok-gone.ensures ∙ firsts_marked (seen_words c.as_slice.result.now) ∙ ap seen_words c.as_slice.ensures.value in
    record {
      followed = seen_followed x;
      lives =
          subst (λ (ys : List Followed). Contains (seen_living ys) (seen_followed x)) c.as_slice-followed-items.ensures.value
          (contains_mapped seen_followed xs x (k, c.loop-followed-test.true, get_or_default xs k x d c.loop-followed-test.true));
      then = same;
      other = subst (λ (l : Word). (seen_followed x).source ≢ Some l) same takes.other;
      named = subst (λ (l : Word). IsTrue (is_in s.symbols l || is_in s.labels l)) same takes.named;
      unchanged = subst (λ (l : Word). is_in (map (λ c. c.0) c.args.changes.now) l ≡ false) same takes.unchanged;
      stays =
          subst (λ (ws : List Word). is_in ws label ≡ false) gone
          (subst (λ (l : Word). is_in (firsts c.in_ok-gone.gone) l ≡ false) same takes.stays);
    }
