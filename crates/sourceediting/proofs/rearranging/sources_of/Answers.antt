-- What is left to show of `sources_of`.
use Rattle.std.proofs.Common.{◌≡◌, ◌∙◌, List, [], ◌∷◌, ℕ, Some, None, ap, sym, rules}
use Rattle.std.specs.Borrow.{Bor}
use Rattle.std.specs.Option.{option_map}
use Rattle.std.proofs.lemmas.List.{map-append, append-nil}
use Rattle.mmtext.specs.Words.{Word}
use Rattle.source.specs.Views.{seen_words}
use Rattle.sourceediting.specs.Following.{Followed}
use Rattle.sourceediting.proofs.Labels.{gives_more}
use Rattle.sourceediting.proofs.rearranging.sources_of.Goals as goal
use Rattle.sourceediting.proofs.rearranging.sources_of.Goals.{in-Some+in_ok-push, in_default}

pub loop-followed-preserved : goal.loop-followed-preserved
loop-followed-preserved c =
    let xs = c.args.living.now in
    let k = c.loop-followed.followed-index in
    let before : List Word = seen_words c.loop-followed.sources.items in
    elim c.match-source_label.branch [
      | in-Some+in_ok-push w ↦
          let source = w.in-Some.source in
          rw w.sources-is
          (ap seen_words w.in_ok-push.ensures.items
          ∙ map-append (λ (w : Bor (List ℕ)). w.now) c.loop-followed.sources.items (source ∷ [])
          ∙ gives_more xs k _ c.loop-followed-test.true (λ (x : Followed). x.source) before (Some source.now)
          c.loop-followed.invariant (ap (option_map (λ (w : Bor (List ℕ)). w.now)) (sym w.in-Some.is) ∙ c.source_label.ensures))
      | in_default w ↦
          let none : c.source_label.result ≡ None = search rules in
          rw w.sources-is
          (sym (append-nil before)
          ∙ gives_more xs k _ c.loop-followed-test.true (λ (x : Followed). x.source) before None
          c.loop-followed.invariant (ap (option_map (λ (w : Bor (List ℕ)). w.now)) (sym none) ∙ c.source_label.ensures))
    ]
