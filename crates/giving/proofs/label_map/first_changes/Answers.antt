-- What is left to show of `first_changes`.
use Rattle.std.proofs.Common.{◌≡◌, ◌∙◌, ◌+◌, ℕ, ◌++◌, ◌∷◌, [], take, get_or, sym, List, rules, true, false}
use Rattle.std.specs.Borrow.{Bor}
use Rattle.std.specs.Option.{is_some}
use Rattle.std.proofs.lemmas.List.{map_more}
use Rattle.mmtext.specs.Words.{Word}
use Rattle.source.specs.Views.{seen_pairs}
use Rattle.giving.specs.Changes.{looks_up}
use Rattle.giving.proofs.Changing.{finds_again, finds_new}
use Rattle.giving.proofs.label_map.first_changes.Goals as goal
use Rattle.giving.proofs.label_map.first_changes.Goals.{then-not-contains_key+in_ok-insert, else-not-contains_key}

pub loop-old-preserved : goal.loop-old-preserved
loop-old-preserved c =
    let pairs = c.args.pairs.now in
    let i = c.loop-old.old-index in
    let e : Bor (List ℕ) = record { ref_ptr = (0, 0); now = [] } in
    let d : Bor (List ℕ) × Bor (List ℕ) = (e, e) in
    let pair = get_or pairs i d in
    let x : Word = pair.0.now in
    let front = seen_pairs (take i pairs) in
    let old = c.loop-old.labels in
    let more : seen_pairs (take (i + 1) pairs) ≡ front ++ (x, pair.1.now) ∷ [] = map_more _ pairs i d c.loop-old-test.true in
    let known : c.contains_key.result ≡ is_some (looks_up old x) = search rules in
    elim c.if-not-contains_key.branch [
      | then-not-contains_key+in_ok-insert w ↦
          let absent : is_some (looks_up old x) ≡ false = sym known ∙ search rules in
          rw (w.labels-is, more) (finds_new old front x c.loop-old.invariant w.insert.new.self pair.1 absent w.in_ok-insert.ensures.updates)
      | else-not-contains_key w ↦
          let there : is_some (looks_up old x) ≡ true = sym known ∙ search rules in
          rw (w.labels-is, more) (finds_again old front x c.loop-old.invariant pair.1.now there)
    ]
