-- How far blocks reach that begin in front of a place.
use Rattle.std.proofs.Common.{◌≡◌, ◌∙◌, ℕ, zero, suc, ltb, ◌+◌, ◌<◌, ◌≤◌, max, Bool, true, false, cond, List, ◌∷◌, ◌++◌, Option, Some, None}
use Rattle.std.proofs.Common.{length, refl, sym, ap, subst, arith, append_assoc, length-append, inl, inr, ⊎_elim}
use Rattle.std.specs.Prelude.{◌&&◌, ◌||◌, ◌⊎◌, ◌↔◌}
use Rattle.std.specs.List.{list_all}
use Rattle.std.proofs.lemmas.Bool.{cases_lt, eq-eqb, eqb-true, ltb-true, lt-ltb}
use Rattle.leaving.specs.declared.part.Part.{Part}
use Rattle.leaving.specs.declared.blocks.Left.{Left}
use Rattle.leaving.specs.Leaving.{fates, is_deleted, open_behind, IsLeft, TakesComments, is_comment, GoesWithBlock, goes_alone, Goes}
use Rattle.leaving.specs.Ends.{left_at, is_outermost, takes_comments}
use Rattle.leaving.proofs.Closed.{IsLeftAs, left_there, left_found}
use Rattle.leaving.proofs.Splits.{same_front, IsWithin, within}

-- ---- of any blocks

-- such a block begins there, and ends there
pub record IsAt (q : List Part → List Part → Type 0) (whole : List Part) (at end : ℕ) : Type 0 where
  pub front : List Part
  pub block : List Part
  pub rest : List Part
  pub whole_is : whole ≡ front ++ (block ++ rest)
  pub place : length front ≡ at
  pub is : q front block
  pub end_is : end ≡ length front + length block

-- those that begin in front of a place reach so far, and no farther
pub record Reaches (q : List Part → List Part → Type 0) (whole : List Part) (k m : ℕ) : Type 0 where
  pub far : (at end : ℕ) → at < k → IsAt q whole at end → end ≤ m
  pub real : (m ≡ 0) ⊎ ((at : ℕ) × (at < k) × IsAt q whole at m)

-- where the one ends that begins at a place
abbrev pub Begins : (List Part → List Part → Type 0) → List Part → ℕ → Option ℕ → Type 0
Begins q whole k None = (end : ℕ) → IsAt q whole k end → ⊥
Begins q whole k (Some e) = ((end : ℕ) → IsAt q whole k end → end ≡ e) × IsAt q whole k e

abbrev pub reach_to : ℕ → Option ℕ → ℕ
reach_to m None = m
reach_to m (Some e) = max m e

module _ (q : List Part → List Part → Type 0) (whole : List Part) where
  further_none : (k m : ℕ) → Reaches q whole k m → Begins q whole k None → Reaches q whole (k + 1) m
  further_none k m r none = record {
    far = λ at end lt is. ⊎_elim (λ (h : at < k). r.far at end h is)
        (λ (h : k ≤ at). let same : at ≡ k = omega arith in absurd (none end (subst (λ n. IsAt q whole n end) same is))) (cases_lt at k);
    real = ⊎_elim (λ (h : m ≡ 0). inl h) (λ (h : (at : ℕ) × (at < k) × IsAt q whole at m). inr (h.0, omega (arith, h.1), h.2)) r.real;
  }

  further_some : (k m e : ℕ) → Reaches q whole k m → Begins q whole k (Some e) → Reaches q whole (k + 1) (max m e)
  further_some k m e r (only, here) = record {
    far = λ at end lt is. ⊎_elim (λ (h : at < k). omega (arith, r.far at end h is))
        (λ (h : k ≤ at). let same : at ≡ k = omega arith in omega (arith, only end (subst (λ n. IsAt q whole n end) same is)))
        (cases_lt at k);
    real = ⊎_elim
        (λ (le : m < e). inr (k, omega arith, let is : e ≡ max m e = omega arith in subst (IsAt q whole k) is here))
        (λ (le : e ≤ m). let is : m ≡ max m e = omega arith in
        ⊎_elim (λ (h : m ≡ 0). inl (omega arith))
        (λ (h : (at : ℕ) × (at < k) × IsAt q whole at m). inr (h.0, omega (arith, h.1), subst (IsAt q whole h.0) is h.2)) r.real)
        (cases_lt m e);
  }

  pub further : (k m : ℕ) (e : Option ℕ) → Reaches q whole k m → Begins q whole k e → Reaches q whole (k + 1) (reach_to m e)
  further k m None r b = further_none k m r b
  further k m (Some e) r b = further_some k m e r b

  module _ (before : List Part) (x : Part) (after : List Part) (m : ℕ) (is : whole ≡ before ++ x ∷ after)
      (r : Reaches q whole (length before + 1) m) where
    -- what stands in front of so many stands in one
    stands_in : length before < m → (a : (at : ℕ) × (at < length before + 1) × IsAt q whole at m)
        × IsWithin a.2.front a.2.block a.2.rest before x after
    stands_in lt = ⊎_elim (λ (h : m ≡ 0). absurd (omega arith)) (λ (a : (at : ℕ) × (at < length before + 1) × IsAt q whole at m).
        let at = a.2 in (
          a,
          within at.front at.block at.rest before x after (sym is ∙ at.whole_is) (omega (arith, a.1, at.place)) (omega (arith, at.end_is)),
        )) r.real

    -- what stands in one stands in front of so many
    reaches_past : (front above below rest : List Part) → before ≡ front ++ above → after ≡ below ++ rest → q front (above ++ x ∷ below)
        → length before < m
    reaches_past front above below rest before_is after_is good =
        let block = above ++ x ∷ below in
        let both = ap length before_is ∙ length-append front above in
        let long = length-append above (x ∷ below) in
        let whole_is : whole ≡ front ++ (block ++ rest) =
        is ∙ (ap (λ y. y ++ x ∷ after) before_is ∙ (ap (λ y. (front ++ above) ++ x ∷ y) after_is
        ∙ (append_assoc front above (x ∷ (below ++ rest)) ∙ sym (ap (λ y. front ++ y) (append_assoc above (x ∷ below) rest))))) in
        let end = r.far (length front) (length front + length block) (omega (arith, both)) (record {
          front = front;
          block = block;
          rest = rest;
          whole_is = whole_is;
          place = refl;
          is = good;
          end_is = refl;
        }) in
        omega (arith, both, long, end)

-- ---- of blocks that have nothing left

abbrev pub IsAnyLeft : List Part → List Part → Type 0
IsAnyLeft front block = IsLeft block

abbrev pub IsCommentedLeft : List Part → List Part → Type 0
IsCommentedLeft front block = IsLeft block × TakesComments front block

abbrev pub end_of : Option Left → Option ℕ
end_of None = None
end_of (Some l) = Some l.end

abbrev pub commented_end : Option ℕ → Option Left → Option ℕ
commented_end depth None = None
commented_end depth (Some l) = cond (takes_comments depth l) (Some l.end) None

-- ---- that take their comments along

either : (a b c : Bool) → (a || (b && c)) ≡ true → (a ≡ true) ⊎ ((b ≡ true) × (c ≡ true))
either true b c e = inl refl
either false true true e = inr (refl, refl)
either false true false e = absurd cc
either false false c e = absurd cc

if_one : (a b c : Bool) → a ≡ true → (a || (b && c)) ≡ true
if_one true b c e = refl
if_one false b c e = absurd cc

if_both : (a b c : Bool) → b ≡ true → c ≡ true → (a || (b && c)) ≡ true
if_both true b c e f = refl
if_both false true true e f = refl
if_both false true false e f = absurd cc
if_both false false c e f = absurd cc

outermost : (depth : Option ℕ) → is_outermost depth ≡ true → depth ≡ Some 0
outermost None e = absurd cc
outermost (Some zero) e = refl
outermost (Some (suc n)) e = absurd cc

module _ (before : List Part) (depth : Option ℕ) (at : depth ≡ open_behind 0 before) (total : ℕ) (block rest : List Part) (l : Left)
    (h : IsLeftAs total block rest l) where
  takes_when : takes_comments depth l ≡ true → TakesComments before block
  takes_when e = ⊎_elim (λ (d : l.is_deleted ≡ true). inl (sym h.deleted ∙ d))
      (λ (p : (is_outermost depth ≡ true) × (l.is_single ≡ true)).
      inr (sym at ∙ outermost depth p.0, eqb-true (length (fates block)) 1 (sym h.single ∙ p.1)))
      (either l.is_deleted (is_outermost depth) l.is_single e)

  when_takes : TakesComments before block → takes_comments depth l ≡ true
  when_takes = ⊎_elim
      (λ (d : list_all is_deleted (fates block) ≡ true). if_one l.is_deleted (is_outermost depth) l.is_single (h.deleted ∙ d))
      (λ (p : (open_behind 0 before ≡ Some 0) × (length (fates block) ≡ 1)).
      if_both l.is_deleted (is_outermost depth) l.is_single (ap is_outermost (at ∙ p.0))
      (h.single ∙ eq-eqb (length (fates block)) 1 p.1))

-- ---- at a place

module _ (whole before : List Part) (x : Part) (after : List Part) (is : whole ≡ before ++ x ∷ after) where
  known : (q : List Part → List Part → Type 0) → ((front block : List Part) → q front block → IsLeft block) → (end : ℕ)
      → (a : IsAt q whole (length before) end)
      → (l : Left) × (left_at (length whole) x after ≡ Some l) × IsLeftAs (length whole) a.block a.rest l × (l.end ≡ end)
      × (a.front ≡ before)
  known q left end a =
      let same = same_front a.front before (a.block ++ a.rest) (x ∷ after) a.place (sym a.whole_is ∙ is) in
      let there = left_there (length whole) a.block a.rest x after (left a.front a.block a.is) (sym same.1) in
      let long = ap length a.whole_is ∙ length-append a.front (a.block ++ a.rest) in
      let longer = length-append a.block a.rest in
      (there.0, there.1, there.2, omega (arith, there.2.end, a.end_is, long, longer), same.0)

  made : (l : Left) → left_at (length whole) x after ≡ Some l → (q : List Part → List Part → Type 0)
      → ((block rest : List Part) → IsLeftAs (length whole) block rest l → q before block) → IsAt q whole (length before) l.end
  made l e q good =
      let f = left_found (length whole) x after l e in
      let whole_is : whole ≡ before ++ (f.0 ++ f.1) = is ∙ ap (λ y. before ++ y) f.2 in
      let long = ap length whole_is ∙ length-append before (f.0 ++ f.1) in
      let longer = length-append f.0 f.1 in
      record {
        front = before;
        block = f.0;
        rest = f.1;
        whole_is = whole_is;
        place = refl;
        is = good f.0 f.1 f.3;
        end_is = omega (arith, f.3.end, long, longer);
      }

  pub begins_any : (o : Option Left) → left_at (length whole) x after ≡ o → Begins IsAnyLeft whole (length before) (end_of o)
  begins_any None e = λ end a.
      let k = known IsAnyLeft (λ front block h. h) end a in
      let no : None ≡ Some k.0 = sym e ∙ k.1 in absurd cc
  begins_any (Some l) e = (
    λ end a.
        let k = known IsAnyLeft (λ front block h. h) end a in
        let same : Some k.0 ≡ Some l = sym k.1 ∙ e in
        let left : k.0 ≡ l = cc in sym k.3 ∙ ap (λ y. y.end) left,
    made l e IsAnyLeft (λ block rest h. h.left),
  )

  module _ (depth : Option ℕ) (at : depth ≡ open_behind 0 before) where
    begins_if : (l : Left) → left_at (length whole) x after ≡ Some l → (b : Bool) → takes_comments depth l ≡ b
        → Begins IsCommentedLeft whole (length before) (cond b (Some l.end) None)
    begins_if l e true takes = (
      λ end a.
          let k = known IsCommentedLeft (λ front block h. h.0) end a in
          let same : Some k.0 ≡ Some l = sym k.1 ∙ e in
          let left : k.0 ≡ l = cc in sym k.3 ∙ ap (λ y. y.end) left,
      made l e IsCommentedLeft (λ block rest h. (h.left, takes_when before depth at (length whole) block rest l h takes)),
    )
    begins_if l e false takes = λ end a.
        let k = known IsCommentedLeft (λ front block h. h.0) end a in
        let same : Some k.0 ≡ Some l = sym k.1 ∙ e in
        let left : k.0 ≡ l = cc in
        let along = subst (λ f. TakesComments f a.block) k.4 a.is.1 in
        let yes = when_takes before depth at (length whole) a.block a.rest k.0 k.2 along in
        let no : true ≡ false = sym yes ∙ (ap (takes_comments depth) left ∙ takes) in absurd cc

    pub begins_commented : (o : Option Left) → left_at (length whole) x after ≡ o
        → Begins IsCommentedLeft whole (length before) (commented_end depth o)
    begins_commented None e = λ end a.
        let k = known IsCommentedLeft (λ front block h. h.0) end a in
        let no : None ≡ Some k.0 = sym e ∙ k.1 in absurd cc
    begins_commented (Some l) e = begins_if l e (takes_comments depth l) refl

-- ---- who goes

module _ (whole before : List Part) (x : Part) (after : List Part) (is : whole ≡ before ++ x ∷ after) (any commented : ℕ)
    (ra : Reaches IsAnyLeft whole (length before + 1) any) (rc : Reaches IsCommentedLeft whole (length before + 1) commented) where
  with_block : (b : Bool) → is_comment x ≡ b → (ltb (length before) (cond b commented any) ≡ true) ↔ GoesWithBlock before x after
  with_block true comment = (
    λ t.
        let s = stands_in IsCommentedLeft whole before x after commented is rc (ltb-true (length before) commented t) in
        record {
          front = s.0.2.front;
          above = s.1.above;
          below = s.1.below;
          rest = s.0.2.rest;
          before_is = s.1.before_is;
          after_is = s.1.after_is;
          left = subst IsLeft s.1.block_is s.0.2.is.0;
          comments = λ _. subst (TakesComments s.0.2.front) s.1.block_is s.0.2.is.1;
        },
    λ g.
        lt-ltb (length before) commented
        (reaches_past IsCommentedLeft whole before x after commented is rc g.front g.above g.below g.rest g.before_is g.after_is
        (g.left, g.comments comment)),
  )
  with_block false other = (
    λ t.
        let s = stands_in IsAnyLeft whole before x after any is ra (ltb-true (length before) any t) in
        record {
          front = s.0.2.front;
          above = s.1.above;
          below = s.1.below;
          rest = s.0.2.rest;
          before_is = s.1.before_is;
          after_is = s.1.after_is;
          left = subst IsLeft s.1.block_is s.0.2.is;
          comments = λ comment. let no : true ≡ false = sym comment ∙ other in absurd cc;
        },
    λ g.
        lt-ltb (length before) any
        (reaches_past IsAnyLeft whole before x after any is ra g.front g.above g.below g.rest g.before_is g.after_is g.left),
  )

  goes_either : (alone block : Bool) → goes_alone x after ≡ alone → ((block ≡ true) ↔ GoesWithBlock before x after)
      → ((alone || block) ≡ true) ↔ Goes before x after
  goes_either true block e h = (λ _. inl e, λ _. refl)
  goes_either false block e h =
      let not_alone : goes_alone x after ≡ true → block ≡ true = λ t. let no : true ≡ false = sym t ∙ e in absurd cc in
      (λ b. inr (h.0 b), ⊎_elim not_alone h.1)

  pub goes_if : ((goes_alone x after || ltb (length before) (cond (is_comment x) commented any)) ≡ true) ↔ Goes before x after
  goes_if =
      goes_either (goes_alone x after) (ltb (length before) (cond (is_comment x) commented any)) refl (with_block (is_comment x) refl)
