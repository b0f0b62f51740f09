-- One more item of a walk.
use Rattle.std.proofs.Common.{◌≡◌, ◌∙◌, ℕ, ltb, ◌+◌, ◌<◌, ◌≤◌, Bool, true, cond, List, [], ◌∷◌, ◌++◌, Option, length, get_or, take, drop}
use Rattle.std.proofs.Common.{refl, sym, ap, subst, arith, append-nil, append_assoc}
use Rattle.std.specs.Prelude.{◌||◌, ◌↔◌, IfSome}
use Rattle.std.proofs.lemmas.List.{take-append-drop, drop_more, take_more, drop_all, length-take-le}
use Rattle.std.proofs.lemmas.Option.{IfSome_then}
use Rattle.leaving.specs.declared.part.Part.{Part}
use Rattle.leaving.specs.declared.part.Part.TheVariants.{Description}
use Rattle.leaving.specs.declared.blocks.Left.{Left}
use Rattle.leaving.specs.declared.going.Reach.{Reach}
use Rattle.leaving.specs.Leaving.{open_behind, is_comment, goes_alone, Goes, AreGoing}
use Rattle.leaving.specs.Ends.{left_at, lefts, open_after, reach_at}
use Rattle.leaving.proofs.Reaching.{Reaches, Begins, further, IsAnyLeft, IsCommentedLeft, end_of, commented_end, begins_any}
use Rattle.leaving.proofs.Reaching.{begins_commented, goes_if}
use Rattle.leaving.proofs.Walked.{lefts_at, open_more, open_few, any_at, commented_at, depth_at}

module _ (parts : List Part) (k : ℕ) (lt : k < length parts) where
  abbrev before : List Part
  before = take k parts

  abbrev x : Part
  x = get_or parts k Description

  abbrev after : List Part
  after = drop (k + 1) parts

  whole_is : parts ≡ before ++ x ∷ after
  whole_is = sym (take-append-drop k parts) ∙ ap (λ y. before ++ y) (drop_more parts k Description lt)

  long : length before ≡ k
  long = length-take-le k parts (omega arith)

  pub begins : (o : Option Left) (made : List (Option Left)) → made ≡ lefts (length parts) parts → o ≡ get_or made k o
      → left_at (length parts) x after ≡ o
  begins o made e is =
      sym (is ∙ (ap (λ y. get_or y k o) e ∙ (ap (λ y. get_or (lefts (length parts) y) k o) whole_is
      ∙ (ap (λ n. get_or (lefts (length parts) (before ++ x ∷ after)) n o) (sym long) ∙ lefts_at (length parts) before x after o))))

  module _ (r : Reach) (o : Option Left) (is : left_at (length parts) x after ≡ o) (depth : r.depth ≡ open_behind 0 before) where
    pub step_any : Reaches IsAnyLeft parts k r.any → Reaches IsAnyLeft parts (k + 1) (reach_at r o).any
    step_any far =
        subst (Reaches IsAnyLeft parts (k + 1)) (sym (any_at r o))
        (further IsAnyLeft parts k r.any (end_of o) far
        (subst (λ n. Begins IsAnyLeft parts n (end_of o)) long (begins_any parts before x after whole_is o is)))

    pub step_commented : Reaches IsCommentedLeft parts k r.commented → Reaches IsCommentedLeft parts (k + 1) (reach_at r o).commented
    step_commented far =
        subst (Reaches IsCommentedLeft parts (k + 1)) (sym (commented_at r o))
        (further IsCommentedLeft parts k r.commented (commented_end r.depth o) far
        (subst (λ n. Begins IsCommentedLeft parts n (commented_end r.depth o)) long
        (begins_commented parts before x after whole_is r.depth depth o is)))

    pub step_depth : open_after (reach_at r o).depth x ≡ open_behind 0 (take (k + 1) parts)
    step_depth =
        ap (λ d. open_after d x) (depth_at r o ∙ depth)
        ∙ (sym (open_more before x 0) ∙ ap (open_behind 0) (sym (take_more parts k Description lt)))

    pub few_open : (limit : ℕ) → length parts < limit → IfSome (reach_at r o).depth (λ n. n + 1 < limit)
    few_open limit short =
        subst (λ d. IfSome d (λ n. n + 1 < limit)) (sym (depth_at r o ∙ depth))
        (IfSome_then (open_behind 0 before) (open_few before 0) (λ n h. omega (arith, long)))

  pub step_going : (g : Bool) (any commented : ℕ) → Reaches IsAnyLeft parts (k + 1) any → Reaches IsCommentedLeft parts (k + 1) commented
      → g ≡ (goes_alone x after || ltb k (cond (is_comment x) commented any)) → (goes : List Bool)
      → ((gs : List Bool) → AreGoing before (drop k parts) gs → AreGoing [] parts (goes ++ gs)) → (gs : List Bool)
      → AreGoing (take (k + 1) parts) after gs → AreGoing [] parts ((goes ++ g ∷ []) ++ gs)
  step_going g any commented ra rc is goes so_far gs more =
      let same = sym long in
      let here = goes_if parts before x after whole_is any commented (subst (λ n. Reaches IsAnyLeft parts (n + 1) any) same ra)
      (subst (λ n. Reaches IsCommentedLeft parts (n + 1) commented) same rc) in
      let at = subst (λ n. ((goes_alone x after || ltb n (cond (is_comment x) commented any)) ≡ true) ↔ Goes before x after) long here in
      let goes_here = subst (λ b. (b ≡ true) ↔ Goes before x after) (sym is) at in
      let behind = subst (λ y. AreGoing y after gs) (take_more parts k Description lt) more in
      subst (AreGoing [] parts) (sym (append_assoc goes (g ∷ []) gs))
      (so_far (g ∷ gs) (subst (λ y. AreGoing before y (g ∷ gs)) (sym (drop_more parts k Description lt)) (goes_here, behind)))

pub all_going : (parts : List Part) (k : ℕ) (goes : List Bool) → length parts ≤ k
    → ((gs : List Bool) → AreGoing (take k parts) (drop k parts) gs → AreGoing [] parts (goes ++ gs)) → AreGoing [] parts goes
all_going parts k goes le so_far =
    subst (AreGoing [] parts) (append-nil goes) (so_far [] (subst (λ y. AreGoing (take k parts) y []) (sym (drop_all k parts le)) refl))
