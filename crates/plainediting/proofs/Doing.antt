-- Transactions done on a desk, some and then others.
use Rattle.std.proofs.Common.{◌≡◌, ℕ, ◌+◌, ◌<◌, List, [], ◌∷◌, ◌++◌, length, get_or, take, refl, ap, sym, subst, ◌∙◌, add-zero}
use Rattle.std.proofs.Common.{length-append, arith}
use Rattle.std.proofs.lemmas.List.{append-nil, take_more}
use Rattle.library.specs.declared.command.Command.{Command}
use Rattle.library.specs.Histories.{after_all}
use Rattle.transaction.specs.declared.outcome.Outcome.{Outcome}
use Rattle.plainediting.specs.declared.desk.Desk.{Desk}
use Rattle.plainediting.specs.Outcomes.{entries_of, history_after}
use Rattle.plainediting.specs.Desks.{Does, DoesAll}
use Rattle.plainediting.proofs.Histories.{after_all-append}
use Rattle.plainediting.proofs.Outcomes.{history_after-append, outcomes_append}

-- none
pub does_none : (d : Desk) → DoesAll d [] [] d
does_none d = record { setting = refl; outcomes_are = tt; library = refl; count = sym (add-zero d.committed) }

-- one
does_one : (a b : Desk) (cs : List Command) (o : Outcome) → Does a cs o b → DoesAll a (cs ∷ []) (o ∷ []) b
does_one a b cs o d =
    let alone = sym (append-nil (entries_of cs o)) in
    record {
      setting = d.setting;
      outcomes_are = (d.outcome, tt);
      library = d.library ∙ ap (after_all a.editor.setting a.editor.library) alone;
      count = d.count ∙ ap (λ h. a.committed + length h) alone;
    }

-- some, and others behind them
pub does_append : (a b c : Desk) (xs : List (List Command)) (os : List Outcome) (ys : List (List Command)) (ps : List Outcome)
    → DoesAll a xs os b → DoesAll b ys ps c → DoesAll a (xs ++ ys) (os ++ ps) c
does_append a b c xs os ys ps first second =
    let s = a.editor.setting in
    let lib = a.editor.library in
    let front = history_after xs os in
    let rest = history_after ys ps in
    let both : history_after (xs ++ ys) (os ++ ps) ≡ front ++ rest =
    history_after-append s lib a.committed xs os ys ps first.outcomes_are in
    let moved = rw (first.setting, first.library, first.count) at second.outcomes_are in
    record {
      setting = second.setting ∙ first.setting;
      outcomes_are = outcomes_append s lib a.committed xs os ys ps first.outcomes_are moved;
      library = second.library
          ∙ ap (λ t. after_all t b.editor.library rest) first.setting
          ∙ ap (λ l. after_all s l rest) first.library
          ∙ sym (after_all-append s lib front rest)
          ∙ ap (after_all s lib) (sym both);
      count = let k = first.count in let m = second.count in
          let more : c.committed ≡ a.committed + length (front ++ rest) = omega (arith, length-append front rest) in
          more ∙ ap (λ h. a.committed + length h) (sym both);
    }

-- some, and one more
pub does_more : (a b c : Desk) (xs : List (List Command)) (os : List Outcome) (cs : List Command) (o : Outcome)
    → DoesAll a xs os b → Does b cs o c → DoesAll a (xs ++ cs ∷ []) (os ++ o ∷ []) c
does_more a b c xs os cs o first d = does_append a b c xs os (cs ∷ []) (o ∷ []) first (does_one b c cs o d)

-- the next of a list
pub does_next : (a b c : Desk) (xs : List (List Command)) (i : ℕ) (os ps : List Outcome) (x cs : List Command) (o : Outcome)
    → i < length xs → x ≡ get_or xs i x → cs ≡ x → ps ≡ os ++ o ∷ [] → DoesAll a (take i xs) os b → Does b cs o c
    → DoesAll a (take (i + 1) xs) ps c
does_next a b c xs i os ps x cs o lt at same pushed first d =
    let one : take (i + 1) xs ≡ take i xs ++ cs ∷ [] = take_more xs i x lt ∙ ap (λ y. take i xs ++ y ∷ []) (sym at ∙ sym same) in
    subst (λ ys. DoesAll a ys ps c) (sym one)
    (subst (λ qs. DoesAll a (take i xs ++ cs ∷ []) qs c) (sym pushed) (does_more a b c (take i xs) os cs o first d))
