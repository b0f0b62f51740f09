-- What is left to show of `labels_among`.
use Rattle.std.proofs.Common.{◌≡◌, ◌∙◌, ℕ, List, [], ◌∷◌, map, Some, None, ap, sym, rules}
use Rattle.std.specs.Borrow.{Bor}
use Rattle.std.specs.Option.{option_map}
use Rattle.std.proofs.lemmas.List.{map-append, append-nil}
use Rattle.mmtext.specs.Words.{Word}
use Rattle.source.specs.Views.{seen_words}
use Rattle.sourceediting.specs.Axioms.{axiom_label}
use Rattle.sourceediting.proofs.Labels.{gives_more}
use Rattle.sourceediting.proofs.axioms.labels_among.Goals as goal
use Rattle.sourceediting.proofs.axioms.labels_among.Goals.{in-Some+in_ok-push, in_default}

abbrev now : Bor (List ℕ) → Word
now w = w.now

pub loop-followed-preserved : goal.loop-followed-preserved
loop-followed-preserved c =
    let xs = c.args.living.now in
    let k = c.loop-followed.followed-index in
    let labels : List Word = map (λ c. c.0) c.args.axioms.now in
    let before : List Word = seen_words c.loop-followed.found.items in
    elim c.match-axiom_label.branch [
      | in-Some+in_ok-push w ↦
          let made = w.in-Some.label in
          rw w.found-is
          (ap seen_words w.in_ok-push.ensures.items
          ∙ map-append now c.loop-followed.found.items (made ∷ [])
          ∙ gives_more xs k _ c.loop-followed-test.true (axiom_label labels) before (Some made.now)
          c.loop-followed.invariant (ap (option_map now) (sym w.in-Some.is) ∙ c.axiom_label.ensures))
      | in_default w ↦
          let none : c.axiom_label.result ≡ None = search rules in
          rw w.found-is
          (sym (append-nil before)
          ∙ gives_more xs k _ c.loop-followed-test.true (axiom_label labels) before None
          c.loop-followed.invariant (ap (option_map now) (sym none) ∙ c.axiom_label.ensures))
    ]
