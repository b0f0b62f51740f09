-- What is left to show of `mark_premises`.
use Rattle.std.proofs.Common.{◌≡◌, ◌∙◌, ◌+◌, ◌<◌, ℕ, suc, [], length, take, map, ap, sym, subst, arith, rules, false}
use Rattle.std.specs.List.{slice_get}
use Rattle.std.specs.Option.{option_map, unwrap_or}
use Rattle.std.proofs.lemmas.List.{length-map}
use Rattle.std.proofs.Math.ListN.{set}
use Rattle.source.specs.Scopes.{is_mandatory}
use Rattle.scopes.specs.Views.{kept_of, scope_of, marks_of}
use Rattle.scopes.proofs.Marks.{mark_step}
use Rattle.scopes.proofs.Seeing.{same_scope}
use Rattle.scopes.proofs.frames.mark_premises.Goals as goal

pub loop-place-preserved : goal.loop-place-preserved
loop-place-preserved c =
    let i = c.loop-place.place in
    let k = kept_of c.loop-place.tables in
    let j = kept_of c.args.tables.now in
    let hs = (scope_of j).hypotheses in
    let q = is_mandatory [] [] in
    let same : (scope_of k).hypotheses ≡ hs = ap (λ s. s.hypotheses) (same_scope k j c.loop-place.invariant.stand) in
    let mark : c.is_premise_at-mark.result ≡ unwrap_or (option_map q (slice_get hs i)) false =
    c.is_premise_at-mark.ensures ∙ ap (λ xs. unwrap_or (option_map q (slice_get xs i)) false) same in
    let next : suc i ≡ i + 1 = omega arith in
    let size : length c.loop-place.tables.active.items ≡ length c.args.tables.now.active.items = c.loop-place.invariant.size in
    let count : c.len-place-end.result ≡ length c.args.tables.now.active.items = search rules in
    let below : i < c.len-place-end.result = c.loop-place-test.true in
    let inside : i < length hs = subst (λ (n : ℕ). i < n) (sym (length-map c.args.tables.now.active.items _)) (omega arith) in
    let within : i < length (marks_of k) = subst (λ (n : ℕ). i < n) (sym (length-map c.loop-place.tables.active.items _)) (omega arith) in
    record {
      sound = c.set_mark.ensures.sound;
      stand = c.set_mark.ensures.stand ∙ c.loop-place.invariant.stand;
      size = c.set_mark.ensures.size ∙ c.loop-place.invariant.size;
      marks = ap (take (i + 1)) (c.set_mark.ensures.marks ∙ ap (set (marks_of k) i) mark)
          ∙ ap (λ (n : ℕ). take n (set (marks_of k) i (unwrap_or (option_map q (slice_get hs i)) false))) (sym next)
          ∙ mark_step q hs (marks_of k) i within inside c.loop-place.invariant.marks
          ∙ ap (λ (n : ℕ). take n (map q hs)) next;
    }
