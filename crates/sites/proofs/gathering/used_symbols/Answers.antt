-- What is left to show of `used_symbols`.
use Rattle.std.proofs.Common.{◌≡◌, ◌∙◌, ◌++◌, ◌∷◌, [], ℕ, Bool, true, false, List, get_or, sym, ap, rules}
use Rattle.std.specs.Prelude.{filter}
use Rattle.std.specs.Borrow.{Bor}
use Rattle.std.proofs.lemmas.List.{map-append, take_all}
use Rattle.mmtext.specs.Words.{Word}
use Rattle.source.specs.Views.{has, seen_words}
use Rattle.sites.proofs.Listing.{passes, fails}
use Rattle.sites.proofs.gathering.used_symbols.Goals as goal
use Rattle.sites.proofs.gathering.used_symbols.Goals.{then-contains+in_ok-push, else-contains}

pub loop-word-init : goal.loop-word-init
loop-word-init c = ap seen_words c.new-made.ensures.items

pub loop-word-preserved : goal.loop-word-preserved
loop-word-preserved c =
    let ws = c.args.words.now in
    let i = c.loop-word.word-index in
    let d : Bor (List ℕ) = record { ref_ptr = (0, 0); now = [] } in
    let p : Word → Bool = has c.args.used.now.symbols in
    elim c.if-contains.branch [
      | then-contains+in_ok-push w ↦
          let is : p (get_or ws i d).now ≡ true = search rules in
          rw w.made-is
          (ap seen_words w.in_ok-push.ensures.items
          ∙ map-append (λ (x : Bor (List ℕ)). x.now) c.loop-word.made.items (get_or ws i d ∷ [])
          ∙ ap (λ (us : List Word). us ++ (get_or ws i d).now ∷ []) c.loop-word.invariant
          ∙ sym (passes p ws i d c.loop-word-test.true is))
      | else-contains w ↦
          let is : p (get_or ws i d).now ≡ false = search rules in
          rw w.made-is (c.loop-word.invariant ∙ sym (fails p ws i d c.loop-word-test.true is))
    ]

pub returns : goal.returns
returns c =
    let l = c.loop-word in
    l.invariant
    ∙ ap (λ (ws : List (Bor (List ℕ))). filter (has c.args.used.now.symbols) (seen_words ws))
    (take_all l.word-index c.args.words.now c.loop-word-test.false)
