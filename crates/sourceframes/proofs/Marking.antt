-- Marks of one more number.
use Rattle.std.proofs.Common.{◌≡◌, ℕ, suc, ◌+◌, ◌<◌, Bool, true, false, ◌||◌, List, [], ◌∷◌, ◌++◌, length, take, get_or, refl, sym, ap, subst, ◌∙◌, inl, inr, arith}
use Rattle.std.specs.Prelude.{◌==◌}
use Rattle.std.specs.List.{list_any}
use Rattle.std.proofs.Math.ListN.{set}
use Rattle.std.proofs.Math.Seq.{take-suc}
use Rattle.std.proofs.lemmas.Bool.{cases_eq, eq-eqb, ne_eqb, or_right}
use Rattle.std.proofs.lemmas.List.{get_or-set_same, get_or-set_other}
use Rattle.std.proofs.lemmas.List.Folds.{list_any-append}
use Rattle.sourceframes.specs.Marks.{AreMarked}

pub or_false : (b : Bool) → (b || false) ≡ b
or_false true = refl
or_false false = refl

-- the mark at a place is put
pub mark_put : (ms : List Bool) (k n : ℕ) → k < length ms → get_or (set ms k true) n false ≡ (get_or ms n false || (k == n))
mark_put ms k n lt = elim (cases_eq k n) [
  | inl e ↦
      subst (λ j. get_or (set ms k true) j false ≡ (get_or ms j false || (k == j))) e
      (get_or-set_same ms k true false lt
      ∙ sym (ap (λ b. get_or ms k false || b) (eq-eqb k k refl) ∙ or_right (get_or ms k false) true refl))
  | inr d ↦
      get_or-set_other ms k n true false (λ e. d (sym e))
      ∙ sym (ap (λ b. get_or ms n false || b) (ne_eqb k n d) ∙ or_false (get_or ms n false))
]

-- a number at which there is no mark changes none
pub mark_past : (ms : List Bool) (k n : ℕ) → n < length ms → length ms < k + 1 → get_or ms n false ≡ (get_or ms n false || (k == n))
mark_past ms k n lt le =
    sym (ap (λ b. get_or ms n false || b) (ne_eqb k n (λ e. absurd (omega (arith, lt, le, e)))) ∙ or_false (get_or ms n false))

pub marked_on : (ns : List ℕ) (i : ℕ) (old new : List Bool) → i < length ns → length new ≡ length old
    → ((n : ℕ) → n < length new → get_or new n false ≡ (get_or old n false || (get_or ns i 0 == n)))
    → AreMarked (take i ns) old → AreMarked (take (i + 1) ns) new
marked_on ns i old new lt long put was = λ n here.
    let more : take (i + 1) ns ≡ take i ns ++ get_or ns i 0 ∷ [] =
    ap (λ k. take k ns) (let e : i + 1 ≡ suc i = omega arith in e) ∙ take-suc ns i 0 lt in
    put n here ∙ ap (λ b. b || (get_or ns i 0 == n)) (was n (omega (arith, here, long)))
    ∙ ap (λ b. list_any (λ v. v == n) (take i ns) || b) (sym (or_false (get_or ns i 0 == n)))
    ∙ sym (ap (list_any (λ v. v == n)) more ∙ list_any-append (λ v. v == n) (take i ns) (get_or ns i 0 ∷ []))
