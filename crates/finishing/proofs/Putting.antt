-- Records put at their places: each entry is one that a record tells, and a place stays empty only where no record has its number.
use Rattle.std.proofs.Common.{◌≡◌, ◌∙◌, ap, sym, subst, refl, ℕ, zero, suc, ◌+◌, ◌<◌, List, [], ◌∷◌, ◌++◌, length, Option, Some, None, inl, inr, ⊎_elim, arith, append_assoc}
use Rattle.std.specs.Prelude.{◌⊎◌, slice_get, Vec}
use Rattle.std.specs.declared.alloc.Global.{Global}
use Rattle.std.proofs.Math.ListN.{set}
use Rattle.std.proofs.lemmas.List.{length-set, map-append}
use Rattle.std.proofs.lemmas.Option.{slice_get_within}
use Rattle.mmsyntax.proofs.Items.{set_same}
use Rattle.library.specs.declared.history.Entry.{Entry}
use Rattle.library.specs.Histories.{seen_entry}
use Rattle.ranges.specs.Ranges.{Has}
use Rattle.ranges.proofs.Members.{has_append_left, has_append_right, has_append_cases}
use Rattle.transaction.specs.declared.outcome.Record.{Record}
use Rattle.transaction.specs.Members.{entry_recorded}
use Rattle.transaction.specs.Closings.{lists_of}
use Rattle.finishing.specs.Ordering.{Tells, IsToldIn, AreOrdered, ArePut}

-- ---- one place of a list

-- what stands there then was put there, or stood there before
set_cases : {A : Type 0} (xs : List A) (k : ℕ) (x : A) (i : ℕ) (y : A) → slice_get (set xs k x) i ≡ Some y
    → ((i ≡ k) × (x ≡ y)) ⊎ (slice_get xs i ≡ Some y)
set_cases [] k x i y at = inr at
set_cases (z ∷ xs) zero x zero y at = inl (refl, cc)
set_cases (z ∷ xs) zero x (suc i) y at = inr at
set_cases (z ∷ xs) (suc k) x zero y at = inr at
set_cases (z ∷ xs) (suc k) x (suc i) y at = ⊎_elim (λ p. inl (ap suc p.0, p.1)) (λ old. inr old) (set_cases xs k x i y at)

-- ---- records, one after another

module _ (front : List Record) (r : Record) (first old : List (Option Entry)) (p : ArePut front first old) where
  earlier : (i : ℕ) (e : Entry) → ((q : Record) × Has q front × Tells q i e) ⊎ (slice_get first i ≡ Some (Some e))
      → ((q : Record) × Has q (front ++ r ∷ []) × Tells q i e) ⊎ (slice_get first i ≡ Some (Some e))
  earlier i e (inl t) = inl (t.0, has_append_left front (r ∷ []) t.0 t.1, t.2)
  earlier i e (inr at) = inr at

  -- no number of the records is that of a place that stays empty, where the last one's isn't
  unnumbered : (i : ℕ) → slice_get old i ≡ Some None → (r.number ≡ suc i → ⊥)
      → (slice_get first i ≡ Some None) × ((q : Record) → Has q (front ++ r ∷ []) → q.number ≡ suc i → ⊥)
  unnumbered i at other =
      let before = p.none i at in (
        before.0,
        λ q has is. elim (has_append_cases front (r ∷ []) q has) [
          | inl early ↦ before.1 q early is
          | inr last ↦ elim last [
            | inl e ↦ other (ap (λ (x : Record). x.number) (sym e) ∙ is)
            | inr none ↦ absurd none
          ]
        ],
      )

  -- a record whose number is that of no place is left out
  pub one_skipped : (r.number ≡ 0) ⊎ (length old < r.number) → ArePut (front ++ r ∷ []) first old
  one_skipped outside =
      record {
        long = p.long;
        put = λ i e at. earlier i e (p.put i e at);
        none = λ i at. unnumbered i at (λ is.
            let lt = slice_get_within old i None at in
            elim outside [ inl none ↦ omega (arith, is, none) | inr past ↦ omega (arith, is, past, lt) ]);
      }

  pub one_put : (k : ℕ) (e : Entry) → r.number ≡ suc k → k < length old → seen_entry e ≡ entry_recorded r.done
      → ArePut (front ++ r ∷ []) first (set old k (Some e))
  one_put k e number lt tells =
      record {
        long = length-set old k (Some e) ∙ p.long;
        put = λ i f at. put_at i f (set_cases old k (Some e) i (Some f) at);
        none = λ i at. none_at i at (set_cases old k (Some e) i None at);
      }
    where
      put_at : (i : ℕ) (f : Entry) → ((i ≡ k) × (Some e ≡ Some f)) ⊎ (slice_get old i ≡ Some (Some f))
          → ((q : Record) × Has q (front ++ r ∷ []) × Tells q i f) ⊎ (slice_get first i ≡ Some (Some f))
      put_at i f (inl here) =
          let same : e ≡ f = let s = here.1 in cc in
          inl (r, has_append_right front (r ∷ []) r (inl refl), (number ∙ ap suc (sym here.0), sym tells ∙ ap seen_entry same))
      put_at i f (inr at) = earlier i f (p.put i f at)

      none_at : (i : ℕ) → slice_get (set old k (Some e)) i ≡ Some None → ((i ≡ k) × (Some e ≡ None)) ⊎ (slice_get old i ≡ Some None)
          → (slice_get first i ≡ Some None) × ((q : Record) → Has q (front ++ r ∷ []) → q.number ≡ suc i → ⊥)
      none_at i at (inl here) = let s = here.1 in absurd (cc)
      none_at i at (inr before) = unnumbered i before (λ is.
          let place : i ≡ k = omega (arith, is, number) in
          let there = set_same old k (Some e) lt in
          let now = ap (slice_get (set old k (Some e))) (sym place) ∙ at in
          cc)

-- some of the records are put, and the others are left
pub record IsAmid (all rest : List Record) (left : ℕ) (old new : List (Option Entry)) : Type 0 where
  pub front : List Record
  pub parts : front ++ rest ≡ all
  pub left_is : left ≡ length rest
  pub put : ArePut front old new

-- in front of those that are left stands one more
goes_on : {A : Type 0} (front rest all : List A) (x : A) → front ++ x ∷ rest ≡ all → (front ++ x ∷ []) ++ rest ≡ all
goes_on front rest all x parts = append_assoc front (x ∷ []) rest ∙ parts

pub amid_next : (all left rest : List Record) (count less : ℕ) (r : Record) (first old new : List (Option Entry))
    (a : IsAmid all left count first old) → left ≡ r ∷ rest → less + 1 ≡ count → ArePut (a.front ++ r ∷ []) first new
    → IsAmid all rest less first new
amid_next all left rest count less r first old new a next one p =
    let size = ap length next in
    let before = a.left_is in
    record {
      front = a.front ++ r ∷ [];
      parts = goes_on a.front rest all r (ap (λ xs. a.front ++ xs) (sym next) ∙ a.parts);
      left_is = omega (arith, one, before, size);
      put = p;
    }

-- ---- lists of records, one after another

-- a record of one of the lists tells the entry
abbrev ToldBy : List (List Record) → ℕ → Entry → Type 0
ToldBy lists i e = (x : List Record) × (r : Record) × Has x lists × Has r x × Tells r i e

module _ (clock : ℕ) (front : List (List Record)) (own : List Record) (old new : List (Option Entry)) (before : AreOrdered clock front old)
    (p : ArePut own old new) where
  pub one_ordered : AreOrdered clock (front ++ own ∷ []) new
  one_ordered =
      record {
        long = p.long ∙ before.long;
        told_by = λ i e at. told_now i e (p.put i e at);
        none = λ i at. none_now i (p.none i at);
      }
    where
      told_now : (i : ℕ) (e : Entry) → ((r : Record) × Has r own × Tells r i e) ⊎ (slice_get old i ≡ Some (Some e))
          → ToldBy (front ++ own ∷ []) i e
      told_now i e (inl t) = (own, t.0, has_append_right front (own ∷ []) own (inl refl), t.1, t.2)
      told_now i e (inr at) =
          let t = before.told_by i e at in (t.0, t.1, has_append_left front (own ∷ []) t.0 t.2, t.3, t.4)

      none_now : (i : ℕ) → (slice_get old i ≡ Some None) × ((r : Record) → Has r own → r.number ≡ suc i → ⊥)
          → IsToldIn (front ++ own ∷ []) i → ⊥
      none_now i n t =
          elim (has_append_cases front (own ∷ []) t.0 t.2) [
            | inl early ↦ before.none i n.0 (t.0, t.1, early, t.3, t.4)
            | inr last ↦ elim last [
              | inl e ↦ n.1 t.1 (subst (Has t.1) e t.3) t.4
              | inr none ↦ absurd none
            ]
          ]

-- the records of some of the lists are put, and the other lists are left
pub record IsOrderedAmid (clock : ℕ) (all rest : List (Vec Record Global)) (left : ℕ) (entries : List (Option Entry)) : Type 0 where
  pub front : List (Vec Record Global)
  pub parts : front ++ rest ≡ all
  pub left_is : left ≡ length rest
  pub ordered : AreOrdered clock (lists_of front) entries

pub ordered_next : (clock : ℕ) (all left rest : List (Vec Record Global)) (count less : ℕ) (own : Vec Record Global)
    (old new : List (Option Entry)) (a : IsOrderedAmid clock all left count old) → left ≡ own ∷ rest → less + 1 ≡ count
    → ArePut own.items old new → IsOrderedAmid clock all rest less new
ordered_next clock all left rest count less own old new a next one p =
    let size = ap length next in
    let before = a.left_is in
    record {
      front = a.front ++ own ∷ [];
      parts = goes_on a.front rest all own (ap (λ xs. a.front ++ xs) (sym next) ∙ a.parts);
      left_is = omega (arith, one, before, size);
      ordered =
          subst (λ lists. AreOrdered clock lists new) (sym (map-append (λ (x : Vec Record Global). x.items) a.front (own ∷ [])))
          (one_ordered clock (lists_of a.front) own.items old new a.ordered p);
    }
