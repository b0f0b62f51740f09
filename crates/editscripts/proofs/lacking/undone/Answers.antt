-- What is left to show of `undone`.
use Rattle.std.proofs.Common.{◌≡◌, ◌∙◌, ◌+◌, ◌++◌, [], ℕ, suc, List, length, map, take, refl, sym, ap, add-one, Vec, Global}
use Rattle.std.specs.Prelude.{slice_index_or, string_bytes}
use Rattle.std.proofs.lemmas.Option.{slice_get_read}
use Rattle.transaction.specs.declared.outcome.Outcome.{Outcome}
use Rattle.checking.specs.Checks.{Bytes, Orders}
use Rattle.locating.specs.Lines.{line_at}
use Rattle.editscripts.specs.Undone.{undone_of}
use Rattle.editscripts.specs.Views.{seen_texts, beginnings_of}
use Rattle.editscripts.proofs.Undoing.{each_seen, each_next}
use Rattle.editscripts.proofs.lacking.undone.Goals as goal

pub loop-n-preserved : goal.loop-n-preserved
loop-n-preserved c =
    let paths = map (λ p. p.now) c.args.run.now.paths.now in
    let texts = seen_texts c.args.run.now.texts.now in
    let begin = beginnings_of c.args.run.now.laid.now in
    let scripts = c.args.run.now.scripts.now in
    let rows = c.args.run.now.rows.now in
    let n = c.loop-n.n in
    let row = c.index-rows-n.result in
    let at = slice_get_read rows (length rows) n row refl c.loop-n-test.true c.index-rows-n.is in
    let I = λ (r : Vec Outcome Global). r.items in
    let L : ℕ → List ℕ = λ k. map (line_at (slice_index_or texts k [])) (slice_index_or begin k []) in
    let G : ℕ → List Outcome → List Bytes = λ k outcomes. undone_of (slice_index_or paths (suc k) []) (L k) (slice_index_or scripts k [])
    outcomes in
    let path : c.path_at-path.result.now ≡ slice_index_or paths (suc n) [] =
    c.path_at-path.ensures ∙ ap (λ k. slice_index_or paths k []) (add-one n) in
    let lines : c.as_slice.result.now ≡ L n = c.as_slice.ensures.value ∙ c.in_ok-lines.ensures in
    let script : c.transactions_at-script.result.now ≡ slice_index_or scripts n [] = c.transactions_at-script.ensures in
    let outcomes : c.as_slice-in-loop-n.result.now ≡ row.items = c.as_slice-in-loop-n.ensures.value in
    let one : undone_of c.path_at-path.result.now c.as_slice.result.now c.transactions_at-script.result.now
    c.as_slice-in-loop-n.result.now ≡ G n row.items =
    ap (λ (p : Bytes). undone_of p c.as_slice.result.now c.transactions_at-script.result.now c.as_slice-in-loop-n.result.now) path
    ∙ ap (λ ls. undone_of (slice_index_or paths (suc n) []) ls c.transactions_at-script.result.now c.as_slice-in-loop-n.result.now) lines
    ∙ ap (λ (x : Orders). undone_of (slice_index_or paths (suc n) []) (L n) x c.as_slice-in-loop-n.result.now) script
    ∙ ap (λ os. undone_of (slice_index_or paths (suc n) []) (L n) (slice_index_or scripts n []) os) outcomes in
    let before = map string_bytes c.loop-n.said.items in
    each_next (λ k r. G k (I r)) rows n row at c.loop-n-test.true [] before _ (c.in_ok-put_undone.ensures ∙ ap (λ ls. before ++ ls) one)
    (c.loop-n.invariant ∙ each_seen I G 0 (take n rows))
    ∙ sym (each_seen I G 0 (take (n + 1) rows))
