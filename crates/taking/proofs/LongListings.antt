-- In the tree of a proof each label stands over as many trees as it takes, or is a ? that stands over none, and the listing of such a tree
-- is as long as its size says.
use Rattle.std.proofs.Common.{◌≡◌, ℕ, suc, ◌+◌, ◌≤◌, Bool, List, [], ◌∷◌, ◌++◌, length, map, refl, sym, ap, subst, ◌∙◌, inl, inr, arith}
use Rattle.std.specs.Prelude.{Option, Some, None, slice_get, nat_lt, true, false, if◌then◌else◌, ◌⊎◌}
use Rattle.std.specs.Option.{option_map, option_and_then}
use Rattle.std.specs.List.{AllByRecursion, flat_map, list_any}
use Rattle.std.proofs.lemmas.Bool.{cases_Bool, ltb-false, cond-true, or_left, or_right}
use Rattle.std.proofs.lemmas.List.{length-append, map-append}
use Rattle.std.proofs.lemmas.Option.{same_Some, option_and_then_some}
use Rattle.mmtext.specs.Words.{Word}
use Rattle.mmsyntax.specs.declared.statement.Step.{Step as Listed}
use Rattle.mmsyntax.specs.declared.statement.Assertion.{Assertion as Unit'}
use Rattle.source.specs.Statements.{Proof}
use Rattle.source.specs.Scopes.{Hypothesis, typing, premise, Assertion}
use Rattle.source.specs.Proofs.{Tree, Trees, node, none, some, over, Step, names, again, marks, unknown, steps_of, taken_by}
use Rattle.source.specs.Proofs.{Stack, empty, pop, put, cite}
use Rattle.source.specs.Proofs.{repeat, mark, stepped, run_steps, only, single, denoted_by, denoted, size, sizes, total, is_unfinished}
use Rattle.source.proofs.Finished.{is_absent_step, finished_steps}
use Rattle.taking.specs.declared.reason.Reason.{Reason}
use Rattle.taking.specs.declared.reason.Reason.TheVariants.{Unfinished, TooLong}
use Rattle.taking.specs.Names.{Map}
use Rattle.taking.specs.Says.{both}
use Rattle.taking.specs.Listings.{at_floats, at_premises, in_profile_order, joined, step_in, listing, listings, IsListed}
use Rattle.taking.specs.Reasons.{Choice, reason_of, reason_of_finished}
use Rattle.taking.specs.Taken.{HasProof}
use Rattle.taking.specs.Lengths.{how_many, TakesEnough, TakeEnough}
use Rattle.mmsyntax.proofs.Distinct.{all_append}
use Rattle.taking.proofs.Listed.{all_at}
use Rattle.taking.proofs.Picked.{total_append}

-- each label stands over as many trees as it takes, or, where that may be, over none
abbrev mutual
  Stands : Type 0 → List Assertion → List Hypothesis → Tree → Type 0
  Stands P earlier active (node w trees) =
      ((option_map length (taken_by earlier active w) ≡ Some (how_many trees)) ⊎ (P × (how_many trees ≡ 0)))
      × AllStand P earlier active trees

  AllStand : Type 0 → List Assertion → List Hypothesis → Trees → Type 0
  AllStand P earlier active none = Unit {0}
  AllStand P earlier active (some t ts) = Stands P earlier active t × AllStand P earlier active ts

mutual
  enough_stands : (earlier : List Assertion) (active : List Hypothesis) (t : Tree) → TakesEnough earlier active t
      → Stands (Unit {0}) earlier active t
  enough_stands earlier active (node w trees) h = (inl h.0, enough_stand earlier active trees h.1)

  enough_stand : (earlier : List Assertion) (active : List Hypothesis) (ts : Trees) → TakeEnough earlier active ts
      → AllStand (Unit {0}) earlier active ts
  enough_stand earlier active none h = tt
  enough_stand earlier active (some t ts) h = (enough_stands earlier active t h.0, enough_stand earlier active ts h.1)

mutual
  stands_enough : (earlier : List Assertion) (active : List Hypothesis) (t : Tree) → Stands ⊥ earlier active t
      → TakesEnough earlier active t
  stands_enough earlier active (node w trees) h =
      (elim h.0 [ inl takes ↦ takes | inr other ↦ absurd other.0 ], stand_enough earlier active trees h.1)

  stand_enough : (earlier : List Assertion) (active : List Hypothesis) (ts : Trees) → AllStand ⊥ earlier active ts
      → TakeEnough earlier active ts
  stand_enough earlier active none h = tt
  stand_enough earlier active (some t ts) h = (stands_enough earlier active t h.0, stand_enough earlier active ts h.1)

-- ---- proofs denote such trees

module _ (P : Type 0) (earlier : List Assertion) (active : List Hypothesis) where
  abbrev make : Word → List Tree → Tree
  make w ts = node w (over ts)

  abbrev Sound : Stack Tree → Type 0
  Sound s = AllByRecursion (Stands P earlier active) s.entries × AllByRecursion (Stands P earlier active) s.marked

  popped : (hs : List Hypothesis) (xs off : List Tree) (p : List Tree × List Tree) → pop hs xs off ≡ Some p
      → AllByRecursion (Stands P earlier active) xs → AllByRecursion (Stands P earlier active) off
      → AllByRecursion (Stands P earlier active) p.0 × AllByRecursion (Stands P earlier active) p.1
      × (length p.0 ≡ length hs + length off)
  popped [] xs off p e a b =
      let same : ◌≡◌ {A = List Tree × List Tree} (off, xs) p = same_Some _ _ e in
      subst (λ q. AllByRecursion (Stands P earlier active) q.0 × AllByRecursion (Stands P earlier active) q.1
      × (length q.0 ≡ 0 + length off))
      same (b, a, omega arith)
  popped (h ∷ hs) [] off p e a b = absurd cc
  popped (h ∷ hs) (x ∷ xs) off p e a b =
      let rest = popped hs xs (x ∷ off) p e a.1 (a.0, b) in
      (rest.0, rest.1, omega (arith, rest.2))

  over_many : (ts : List Tree) → how_many (over ts) ≡ length ts
  over_many [] = refl
  over_many (t ∷ ts) = ap suc (over_many ts)

  over_stand : (ts : List Tree) → AllByRecursion (Stands P earlier active) ts → AllStand P earlier active (over ts)
  over_stand [] a = tt
  over_stand (t ∷ ts) a = (a.0, over_stand ts a.1)

  putted : (w : Word) (hs : List Hypothesis) (s s' : Stack Tree) (q : Option (List Tree × List Tree)) → pop hs s.entries [] ≡ q
      → Some hs ≡ taken_by earlier active w → put make w s.marked q ≡ Some s' → Sound s → Sound s'
  putted w hs s s' None q-is is e a = absurd cc
  putted w hs s s' (Some p) q-is is e a =
      let rest = popped hs s.entries [] p q-is a.0 tt in
      let many : length hs ≡ how_many (over p.0) = omega (arith, rest.2, over_many p.0) in
      subst Sound (same_Some _ _ e)
      (((inl (ap (option_map length) (sym is) ∙ ap (λ n. Some n) many), over_stand p.0 rest.0), rest.1), a.1)

  cited : (w : Word) (s s' : Stack Tree) (o : Option (List Hypothesis)) → o ≡ taken_by earlier active w → cite make w s o ≡ Some s'
      → Sound s → Sound s'
  cited w s s' None is e a = absurd cc
  cited w s s' (Some hs) is e a = putted w hs s s' (pop hs s.entries []) refl is e a

  repeated : (s s' : Stack Tree) (n : ℕ) (o : Option Tree) → slice_get s.marked n ≡ o → repeat s o ≡ Some s' → Sound s → Sound s'
  repeated s s' n None is e a = absurd cc
  repeated s s' n (Some x) is e a =
      subst Sound (same_Some _ _ e) ((all_at (Stands P earlier active) s.marked n x a.1 is, a.0), a.1)

  marked : (xs ms : List Tree) (s' : Stack Tree) → mark xs ms ≡ Some s' → AllByRecursion (Stands P earlier active) xs
      → AllByRecursion (Stands P earlier active) ms → Sound s'
  marked [] ms s' e a b = absurd cc
  marked (x ∷ xs) ms s' e a b =
      subst Sound (same_Some _ _ e) (a, all_append (Stands P earlier active) ms (x ∷ []) b (a.0, tt))

  one : (s s' : Stack Tree) (x : Step) → (is_absent_step x ≡ true → P) → stepped make earlier active s x ≡ Some s' → Sound s → Sound s'
  one s s' (names w) p e a = cited w s s' (taken_by earlier active w) refl e a
  one s s' (again n) p e a = repeated s s' n (slice_get s.marked n) refl e a
  one s s' marks p e a = marked s.entries s.marked s' e a.0 a.1
  one s s' unknown p e a = subst Sound (same_Some _ _ e) (((inr (p refl, refl), tt), a.0), a.1)

  all : (o : Option (Stack Tree)) (xs : List Step) (s' : Stack Tree) → (list_any is_absent_step xs ≡ true → P)
      → run_steps make earlier active o xs ≡ Some s' → ((s : Stack Tree) → o ≡ Some s → Sound s) → Sound s'
  all o [] s' p e a = a s' e
  all None (x ∷ xs) s' p e a = absurd cc
  all (Some s) (x ∷ xs) s' p e a =
      all (stepped make earlier active s x) xs s' (λ h. p (or_right (is_absent_step x) (list_any is_absent_step xs) h)) e
      (λ s2 e2. one s s2 x (λ h. p (or_left (is_absent_step x) (list_any is_absent_step xs) h)) e2 (a s refl))

  only_one : (xs : List Tree) (t : Tree) → only xs ≡ Some t → AllByRecursion (Stands P earlier active) xs → Stands P earlier active t
  only_one [] t e a = absurd cc
  only_one (x ∷ []) t e a = subst (Stands P earlier active) (same_Some x t e) a.0
  only_one (x ∷ y ∷ xs) t e a = absurd cc

  lone : (o : Option (Stack Tree)) (t : Tree) → single o ≡ Some t → ((s : Stack Tree) → o ≡ Some s → Sound s) → Stands P earlier active t
  lone None t e a = absurd cc
  lone (Some s) t e a = only_one s.entries t e (a s refl).0

  made_stands : (steps : List Step) (t : Tree) → (list_any is_absent_step steps ≡ true → P) → denoted_by earlier active steps ≡ Some t
      → Stands P earlier active t
  made_stands steps t p e =
      lone (run_steps make earlier active (Some empty) steps) t e
      (λ s is. all (Some empty) steps s p is (λ s2 e2. subst Sound (same_Some _ _ e2) (tt, tt)))

-- what is so of the trees of steps is so of the tree of a proof
of_denoted : (earlier : List Assertion) (x : Assertion) (t : Tree) (P : Tree → Type 0)
    → ((proof : Proof) → x.proof ≡ Some proof → (steps : List Step) → steps_of x.hypotheses proof ≡ Some steps
    → denoted_by earlier x.active steps ≡ Some t → P t)
    → denoted earlier x ≡ Some t → P t
of_denoted earlier x t P h e =
    option_and_then_some (λ (proof : Proof). option_and_then (denoted_by earlier x.active) (steps_of x.hypotheses proof)) x.proof t e
    (λ proof is says. option_and_then_some (denoted_by earlier x.active) (steps_of x.hypotheses proof) t says
    (λ steps are denotes. h proof is steps are denotes))

denoted_stands : (earlier : List Assertion) (x : Assertion) (t : Tree) → denoted earlier x ≡ Some t
    → Stands (Unit {0}) earlier x.active t
denoted_stands earlier x t e =
    of_denoted earlier x t (Stands (Unit {0}) earlier x.active)
    (λ proof is steps are denotes. made_stands (Unit {0}) earlier x.active steps t (λ h. tt) denotes) e

-- in the tree of a finished proof each label stands over as many trees as it takes
pub denoted_enough : (earlier : List Assertion) (x : Assertion) (proof : Proof) (t : Tree) → x.proof ≡ Some proof
    → is_unfinished proof ≡ false → denoted earlier x ≡ Some t → TakesEnough earlier x.active t
denoted_enough earlier x proof t is finished e =
    stands_enough earlier x.active t
    (of_denoted earlier x t (Stands ⊥ earlier x.active)
    (λ own own-is steps are denotes.
    let same : proof ≡ own = same_Some proof own (sym is ∙ own-is) in
    let none = finished_steps x.hypotheses own steps (sym (ap is_unfinished same) ∙ finished) are in
    made_stands ⊥ earlier x.active steps t (λ h. absurd cc) denotes) e)

-- ---- lengths

length_flat : {A : Type 0} (xs : List (List A)) → length (flat_map (λ x. x) xs) ≡ total (map (λ x. length x) xs)
length_flat [] = refl
length_flat (x ∷ xs) = omega (arith, length-append x (flat_map (λ x. x) xs), length_flat xs)

arranged_long : {A : Type 0} (hs : List Hypothesis) (xs : List (List A)) → length hs ≡ length xs
    → total (map (λ x. length x) (at_floats hs xs)) + total (map (λ x. length x) (at_premises hs xs)) ≡ total (map (λ x. length x) xs)
arranged_long [] [] e = omega arith
arranged_long [] (x ∷ xs) e = absurd (omega arith)
arranged_long (typing label c v ∷ hs) [] e = absurd (omega arith)
arranged_long (premise label ws ∷ hs) [] e = absurd (omega arith)
arranged_long (typing label c v ∷ hs) (x ∷ xs) e = omega (arith, arranged_long hs xs (omega arith))
arranged_long (premise label ws ∷ hs) (x ∷ xs) e = omega (arith, arranged_long hs xs (omega arith))

-- of none
arranged_none : {A : Type 0} (hs : List Hypothesis) (xs : List (List A)) → length xs ≡ 0
    → total (map (λ x. length x) (at_floats hs xs)) + total (map (λ x. length x) (at_premises hs xs)) ≡ total (map (λ x. length x) xs)
arranged_none [] [] e = omega arith
arranged_none (typing label c v ∷ hs) [] e = omega arith
arranged_none (premise label ws ∷ hs) [] e = omega arith
arranged_none hs (x ∷ xs) e = absurd (omega arith)

joined_long : (o : Option (List Hypothesis)) (ps : Option (List (List Listed))) (own : Option Listed) (steps : List Listed) (n k : ℕ)
    → joined o ps own ≡ Some steps → (option_map length o ≡ Some n) ⊎ (n ≡ 0)
    → ((parts : List (List Listed)) → ps ≡ Some parts → (length parts ≡ n) × (total (map (λ x. length x) parts) ≡ k)) → length steps ≡ suc k
joined_long None ps own steps n k e a l = absurd cc
joined_long (Some hs) None own steps n k e a l = absurd cc
joined_long (Some hs) (Some parts) None steps n k e a l = absurd cc
joined_long (Some hs) (Some parts) (Some own) steps n k e a l =
    let both = l parts refl in
    let arranged = in_profile_order hs parts in
    let flat = length_flat arranged in
    let sum = ap total (map-append (λ (x : List Listed). length x) (at_floats hs parts) (at_premises hs parts))
    ∙ total_append (map (λ x. length x) (at_floats hs parts)) (map (λ x. length x) (at_premises hs parts)) in
    let more : total (map (λ x. length x) (at_floats hs parts)) + total (map (λ x. length x) (at_premises hs parts))
    ≡ total (map (λ x. length x) parts) =
    elim a [
      | inl takes ↦ arranged_long hs parts (let same : length hs ≡ n = cc in omega (arith, both.0))
      | inr few ↦ arranged_none hs parts (both.0 ∙ few)
    ] in
    let steps-are : flat_map (λ x. x) arranged ++ own ∷ [] ≡ steps = same_Some _ _ e in
    omega (arith, ap length steps-are, length-append (flat_map (λ x. x) arranged) (own ∷ []), flat, sum, more, both.1)

both_long : (o : Option (List Listed)) (ps : Option (List (List Listed))) (parts : List (List Listed)) (n k j : ℕ) → both o ps ≡ Some parts
    → ((x : List Listed) → o ≡ Some x → length x ≡ j)
    → ((xs : List (List Listed)) → ps ≡ Some xs → (length xs ≡ n) × (total (map (λ x. length x) xs) ≡ k))
    → (length parts ≡ suc n) × (total (map (λ x. length x) parts) ≡ j + k)
both_long None ps parts n k j e a b = absurd cc
both_long (Some x) None parts n k j e a b = absurd cc
both_long (Some x) (Some xs) parts n k j e a b =
    let one = a x refl in
    let rest = b xs refl in
    subst (λ ps. (length ps ≡ suc n) × (total (map (λ x. length x) ps) ≡ j + k)) (same_Some _ _ e)
    (omega (arith, rest.0), omega (arith, one, rest.1))

module _ (m : Map) (earlier : List Assertion) (active : List Hypothesis) where
  either : (w : Word) (n : ℕ) → (option_map length (taken_by earlier active w) ≡ Some n) ⊎ (Unit {0} × (n ≡ 0))
      → (option_map length (taken_by earlier active w) ≡ Some n) ⊎ (n ≡ 0)
  either w n (inl takes) = inl takes
  either w n (inr other) = inr other.1

  mutual
    stands_long : (t : Tree) (steps : List Listed) → Stands (Unit {0}) earlier active t → listing m earlier active t ≡ Some steps
        → length steps ≡ size t
    stands_long (node w trees) steps h e =
        joined_long (taken_by earlier active w) (listings m earlier active trees) (step_in m active w) steps
        (how_many trees) (sizes trees) e (either w (how_many trees) h.0)
        (λ parts is. listings_long trees parts h.1 is)

    listings_long : (ts : Trees) (parts : List (List Listed)) → AllStand (Unit {0}) earlier active ts
        → listings m earlier active ts ≡ Some parts
        → (length parts ≡ how_many ts) × (total (map (λ x. length x) parts) ≡ sizes ts)
    listings_long none parts h e =
        subst (λ ps. (length ps ≡ 0) × (total (map (λ (x : List Listed). length x) ps) ≡ 0)) (same_Some _ _ e) (refl, refl)
    listings_long (some t ts) parts h e =
        both_long (listing m earlier active t) (listings m earlier active ts) parts (how_many ts) (sizes ts) (size t) e
        (λ x is. stands_long t x h.0 is) (λ xs is. listings_long ts xs h.1 is)

  pub listing_long : (t : Tree) (steps : List Listed) → TakesEnough earlier active t → listing m earlier active t ≡ Some steps
      → length steps ≡ size t
  listing_long t steps h e = stands_long t steps (enough_stands earlier active t h) e

pub proof_long : (m : Map) (earlier : List Assertion) (x : Assertion) (a : Unit') (listed : IsListed m earlier x a)
    → length a.proof ≡ size listed.tree
proof_long m earlier x a listed =
    stands_long m earlier x.active listed.tree a.proof (denoted_stands earlier x listed.tree listed.denotes) listed.lists

-- ---- what is taken

-- where there is no reason, the tree is small
small : (choice : Choice) (earlier : List Assertion) (x : Assertion) (t : Tree) (o : Option Tree) → o ≡ Some t
    → reason_of_finished choice earlier x.label o ≡ None → size t ≤ 16384
small choice earlier x t None is e = absurd cc
small choice earlier x t (Some u) is e =
    elim (cases_Bool (nat_lt 16384 (size u))) [
      | inl large ↦
          let why : Some TooLong ≡ None = sym (cond-true (nat_lt 16384 (size u)) (Some TooLong) _ large) ∙ e in
          absurd cc
      | inr fits ↦
          let same : u ≡ t = same_Some u t is in
          subst (λ v. size v ≤ 16384) same (ltb-false 16384 (size u) fits)
    ]

pub unfinished_or : (b : Bool) (r : Option Reason) → (if b then Some Unfinished else r) ≡ None → r ≡ None
unfinished_or true r e = absurd cc
unfinished_or false r e = e

pub taken_short : (m : Map) (choice : Choice) (earlier : List Assertion) (x : Assertion) (a : Unit') (p : Option Proof) (r : Option Reason)
    → p ≡ x.proof → r ≡ reason_of choice earlier x p → HasProof m earlier x a p r → length a.proof ≤ 16384
taken_short m choice earlier x a None r p-is r-is h = let none : length a.proof ≡ 0 = ap length h.1 in omega arith
taken_short m choice earlier x a (Some proof) (Some why) p-is r-is h = let none : length a.proof ≡ 0 = ap length h.1 in omega arith
taken_short m choice earlier x a (Some proof) None p-is r-is h =
    let listed = h.1 in
    let few = small choice earlier x listed.tree (denoted earlier x) listed.denotes
    (unfinished_or (is_unfinished proof) (reason_of_finished choice earlier x.label (denoted earlier x)) (sym r-is)) in
    omega (arith, few, proof_long m earlier x a listed)
