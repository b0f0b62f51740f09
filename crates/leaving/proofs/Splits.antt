-- Lists that are split in two ways.
use Rattle.std.proofs.Common.{◌≡◌, ◌∙◌, ◌+◌, ◌<◌, ◌≤◌, List, [], ◌∷◌, ◌++◌, length, refl, sym, ap, arith}

-- fronts of one length
pub same_front : {A : Type 0} (front before xs ys : List A) → length front ≡ length before → front ++ xs ≡ before ++ ys
    → (front ≡ before) × (xs ≡ ys)
same_front [] [] xs ys n e = (refl, e)
same_front [] (b ∷ bs) xs ys n e = absurd (omega arith)
same_front (f ∷ fs) [] xs ys n e = absurd (omega arith)
same_front (f ∷ fs) (b ∷ bs) xs ys n e =
    let head : f ≡ b = cc in
    let tail : fs ++ xs ≡ bs ++ ys = cc in
    let rest = same_front fs bs xs ys (omega arith) tail in
    let fronts : fs ≡ bs = rest.0 in (cc, rest.1)

-- an element within a middle
pub record IsWithin {A : Type 0} (front block rest before : List A) (x : A) (after : List A) : Type 0 where
  pub above : List A
  pub below : List A
  pub before_is : before ≡ front ++ above
  pub block_is : block ≡ above ++ x ∷ below
  pub after_is : after ≡ below ++ rest

within_block : {A : Type 0} (block rest before : List A) (x : A) (after : List A) → before ++ x ∷ after ≡ block ++ rest
    → length before < length block → IsWithin [] block rest before x after
within_block [] rest before x after e lt = absurd (omega arith)
within_block (b ∷ bs) rest [] x after e lt =
    let head : x ≡ b = cc in
    let tail : after ≡ bs ++ rest = cc in
    record { above = []; below = bs; before_is = refl; block_is = ap (λ y. y ∷ bs) (sym head); after_is = tail }
within_block (b ∷ bs) rest (y ∷ ys) x after e lt =
    let head : y ≡ b = cc in
    let tail : ys ++ x ∷ after ≡ bs ++ rest = cc in
    let w = within_block bs rest ys x after tail (omega arith) in
    let block : bs ≡ w.above ++ x ∷ w.below = w.block_is in
    record {
      above = y ∷ w.above;
      below = w.below;
      before_is = ap (λ zs. y ∷ zs) w.before_is;
      block_is = ap (λ z. z ∷ bs) (sym head) ∙ ap (λ zs. y ∷ zs) block;
      after_is = w.after_is;
    }

pub within : {A : Type 0} (front block rest before : List A) (x : A) (after : List A) → before ++ x ∷ after ≡ front ++ (block ++ rest)
    → length front ≤ length before → length before < length front + length block → IsWithin front block rest before x after
within [] block rest before x after e le lt = within_block block rest before x after e (omega arith)
within (f ∷ fs) block rest [] x after e le lt = absurd (omega arith)
within (f ∷ fs) block rest (b ∷ bs) x after e le lt =
    let head : b ≡ f = cc in
    let tail : bs ++ x ∷ after ≡ fs ++ (block ++ rest) = cc in
    let w = within fs block rest bs x after tail (omega arith) (omega arith) in
    record {
      above = w.above;
      below = w.below;
      before_is = ap (λ y. y ∷ bs) head ∙ ap (λ ys. f ∷ ys) w.before_is;
      block_is = w.block_is;
      after_is = w.after_is;
    }
