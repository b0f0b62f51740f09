-- Pairs of variables, and the lists that restrict them.
use Rattle.std.proofs.Common.{◌≡◌, ◌≢◌, ◌∙◌, ◌⊎◌, ℕ, ◌<◌, Bool, true, false, List, [], ◌∷◌, ◌++◌, All, length, map, take, get_or, zero, suc, ◌+◌, refl, sym, ap, subst, inl, inr, arith}
use Rattle.std.proofs.Common.{append-nil}
use Rattle.std.specs.Prelude.{◌==◌, ◌&&◌, ◌||◌, Vec}
use Rattle.std.specs.declared.alloc.Global.{Global}
use mathlib.Core.Bool.{not}
use Rattle.std.specs.List.{list_any, list_all}
use Rattle.std.proofs.Math.Seq.{take-length}
use Rattle.std.proofs.lemmas.Bool.{and_parts, or_left, or_right, eq-eqb, eqb-true, or_cases}
use Rattle.std.proofs.lemmas.List.{take_more}
use Rattle.std.proofs.lemmas.List.Elements.{All-push, All-from_recursion}
use Rattle.std.proofs.lemmas.List.{get_or-map, length-map}
use Rattle.std.specs.List.{AllByRecursion}
use Rattle.std.proofs.lemmas.Grind.{flat_map-append}
use Rattle.std.proofs.lemmas.List.Folds.{list_any-append, list_any_at, Any-from_list_any}
use Rattle.mmsyntax.proofs.Options.{alike}
use Rattle.sourcewriting.specs.Groups.{is_pair, has_pair, IsPaired, pairs_of, restricted, seen_groups, AreGrouped}
use Rattle.sourcewriting.specs.Grouping.{are_paired, stand_in, IsGroupOf}

-- ---- tests

both : (x y : Bool) → x ≡ true → y ≡ true → (x && y) ≡ true
both x y e f = ap (λ b. b && y) e ∙ f

-- ---- pairs

-- a pair is of its own variables, and of those the other way round
of_both : (x y : ℕ) → is_pair x y (x, y) ≡ true
of_both x y =
    or_left ((x == x) && (y == y)) ((x == y) && (y == x)) (both (x == x) (y == y) (eq-eqb x x refl) (eq-eqb y y refl))

of_both_turned : (x y : ℕ) → is_pair y x (x, y) ≡ true
of_both_turned x y =
    or_right ((x == y) && (y == x)) ((x == x) && (y == y)) (both (x == x) (y == y) (eq-eqb x x refl) (eq-eqb y y refl))

-- a pair is of two variables: it is these, one way round or the other
which : (x y : ℕ) (p : ℕ × ℕ) → is_pair x y p ≡ true → (p ≡ (x, y)) ⊎ (p ≡ (y, x))
which x y p is = elim (or_cases ((p.0 == x) && (p.1 == y)) ((p.0 == y) && (p.1 == x)) is) [
  | inl e ↦
      let parts = and_parts (p.0 == x) (p.1 == y) e in
      let one = eqb-true p.0 x parts.0 in
      let other = eqb-true p.1 y parts.1 in inl (ap (λ a. (a, p.1)) one ∙ ap (λ b. (x, b)) other)
  | inr e ↦
      let parts = and_parts (p.0 == y) (p.1 == x) e in
      let one = eqb-true p.0 y parts.0 in
      let other = eqb-true p.1 x parts.1 in inr (ap (λ a. (a, p.1)) one ∙ ap (λ b. (y, b)) other)
]

turned_pair : (x y : ℕ) (p : ℕ × ℕ) → is_pair x y p ≡ true → is_pair y x p ≡ true
turned_pair x y p is = elim (which x y p is) [
  | inl e ↦ ap (is_pair y x) e ∙ of_both_turned x y
  | inr e ↦ ap (is_pair y x) e ∙ of_both y x
]

turned : (ps : List (ℕ × ℕ)) (x y : ℕ) → has_pair ps x y ≡ true → has_pair ps y x ≡ true
turned [] x y h = h
turned (p ∷ ps) x y h = elim (or_cases (is_pair x y p) (has_pair ps x y) h) [
  | inl e ↦ or_left (is_pair y x p) (has_pair ps y x) (turned_pair x y p e)
  | inr e ↦ or_right (is_pair y x p) (has_pair ps y x) (turned ps x y e)
]

-- what there is of a pair's own variables there is of those that it is of
as_pair : (ps : List (ℕ × ℕ)) (x y : ℕ) (p : ℕ × ℕ) → is_pair x y p ≡ true → has_pair ps p.0 p.1 ≡ true → has_pair ps x y ≡ true
as_pair ps x y p is h = elim (which x y p is) [
  | inl e ↦ subst (λ (q : ℕ × ℕ). has_pair ps q.0 q.1 ≡ true) e h
  | inr e ↦ turned ps y x (subst (λ (q : ℕ × ℕ). has_pair ps q.0 q.1 ≡ true) e h)
]

-- where each of some pairs is among others, so is what they are of
all_among : (ps qs : List (ℕ × ℕ)) → All (λ q. has_pair ps q.0 q.1 ≡ true) qs → (x y : ℕ) → has_pair qs x y ≡ true → has_pair ps x y ≡ true
all_among ps qs all x y h =
    let one = Any-from_list_any (is_pair x y) qs h in
    let q = one.1 in
    as_pair ps x y q one.4 (subst (λ (r : ℕ × ℕ). has_pair ps r.0 r.1 ≡ true) one.3 (all one.0 q one.2))

-- a pair of them stands at a place
pub pair_there : (ps : List (ℕ × ℕ)) (i : ℕ) (d : ℕ × ℕ) → i < length ps → has_pair ps (get_or ps i d).0 (get_or ps i d).1 ≡ true
pair_there ps i d lt =
    let p = get_or ps i d in list_any_at (is_pair p.0 p.1) ps i d lt (of_both p.0 p.1)

-- ---- one list

-- a variable with each of some
one_paired : (ps : List (ℕ × ℕ)) (v : ℕ) (ws : List ℕ) → list_all (has_pair ps v) ws ≡ true → (x y : ℕ)
    → has_pair (map (λ w. (v, w)) ws) x y ≡ true → has_pair ps x y ≡ true
one_paired ps v [] all x y h = absurd cc
one_paired ps v (w ∷ ws) all x y h =
    let parts = and_parts (has_pair ps v w) (list_all (has_pair ps v) ws) all in
    elim (or_cases (is_pair x y (v, w)) (has_pair (map (λ w. (v, w)) ws) x y) h) [
      | inl e ↦ as_pair ps x y (v, w) e parts.0
      | inr e ↦ one_paired ps v ws parts.1 x y e
    ]

-- the pairs of variables of which each two make a pair are among these
pub all_paired : (ps : List (ℕ × ℕ)) (vs : List ℕ) → are_paired ps vs ≡ true → (x y : ℕ) → has_pair (pairs_of vs) x y ≡ true
    → has_pair ps x y ≡ true
all_paired ps [] all x y h = absurd cc
all_paired ps (v ∷ vs) all x y h =
    let parts = and_parts (list_all (has_pair ps v) vs) (are_paired ps vs) all in
    elim (or_cases (has_pair (map (λ w. (v, w)) vs) x y) (has_pair (pairs_of vs) x y)
    (sym (list_any-append (is_pair x y) (map (λ w. (v, w)) vs) (pairs_of vs)) ∙ h)) [
      | inl e ↦ one_paired ps v vs parts.0 x y e
      | inr e ↦ all_paired ps vs parts.1 x y e
    ]

all_more : (f : ℕ → Bool) (vs : List ℕ) (v : ℕ) → list_all f vs ≡ true → f v ≡ true → list_all f (vs ++ v ∷ []) ≡ true
all_more f [] v all one = both (f v) true one refl
all_more f (u ∷ us) v all one =
    let parts = and_parts (f u) (list_all f us) all in both (f u) (list_all f (us ++ v ∷ [])) parts.0 (all_more f us v parts.1 one)

paired_more : (ps : List (ℕ × ℕ)) (vs : List ℕ) (v : ℕ) → are_paired ps vs ≡ true → list_all (λ w. has_pair ps w v) vs ≡ true
    → are_paired ps (vs ++ v ∷ []) ≡ true
paired_more ps [] v all one = refl
paired_more ps (u ∷ us) v all one =
    let parts = and_parts (list_all (has_pair ps u) us) (are_paired ps us) all in
    let new = and_parts (has_pair ps u v) (list_all (λ w. has_pair ps w v) us) one in
    both (list_all (has_pair ps u) (us ++ v ∷ [])) (are_paired ps (us ++ v ∷ [])) (all_more (has_pair ps u) us v parts.0 new.0)
    (paired_more ps us v parts.1 new.1)

-- a list of two, and one more
pub group_begun : (ps : List (ℕ × ℕ)) (one other : ℕ) (group : List ℕ) → has_pair ps one other ≡ true → group ≡ one ∷ other ∷ []
    → IsGroupOf ps one other group
group_begun ps one other group h e = record {
  others = [];
  begins = e;
  paired =
      ap (are_paired ps) e
      ∙ both (has_pair ps one other && true) true (both (has_pair ps one other) true h refl) refl;
}

pub group_more : (ps : List (ℕ × ℕ)) (one other v : ℕ) (old new : List ℕ) → IsGroupOf ps one other old
    → list_all (λ w. has_pair ps w v) old ≡ true → new ≡ old ++ v ∷ [] → IsGroupOf ps one other new
group_more ps one other v old new g all e = record {
  others = g.others ++ v ∷ [];
  begins = e ∙ ap (λ vs. vs ++ v ∷ []) g.begins;
  paired = ap (are_paired ps) e ∙ paired_more ps old v g.paired all;
}

-- it has the pair with which it begins
group_has : (ps : List (ℕ × ℕ)) (one other : ℕ) (group : List ℕ) → IsGroupOf ps one other group → has_pair (pairs_of group) one other ≡ true
group_has ps one other group g =
    ap (λ vs. has_pair (pairs_of vs) one other) g.begins
    ∙ or_left (is_pair one other (one, other))
    (has_pair (map (λ w. (one, w)) g.others ++ pairs_of (other ∷ g.others)) one other) (of_both one other)

-- its variables are those of pairs
with_first : (ps : List (ℕ × ℕ)) (v : ℕ) (ws : List ℕ) → list_all (has_pair ps v) ws ≡ true → AllByRecursion (IsPaired ps) ws
with_first ps v [] all = tt
with_first ps v (w ∷ ws) all =
    let parts = and_parts (has_pair ps v w) (list_all (has_pair ps v) ws) all in
    ((v, turned ps v w parts.0), with_first ps v ws parts.1)

group_paired : (ps : List (ℕ × ℕ)) (one other : ℕ) (group : List ℕ) → IsGroupOf ps one other group → All (IsPaired ps) group
group_paired ps one other group g =
    let whole : are_paired ps (one ∷ other ∷ g.others) ≡ true = sym (ap (are_paired ps) g.begins) ∙ g.paired in
    let all = (and_parts (list_all (has_pair ps one) (other ∷ g.others)) (are_paired ps (other ∷ g.others)) whole).0 in
    let first = (and_parts (has_pair ps one other) (list_all (has_pair ps one) g.others) all).0 in
    subst (All (IsPaired ps)) (sym g.begins)
    (All-from_recursion (IsPaired ps) (one ∷ other ∷ g.others) ((other, first), with_first ps one (other ∷ g.others) all))

-- ---- variables in a list

first_with : (v : ℕ) (ws : List ℕ) (x y : ℕ) → v ≡ x → list_any (λ w. w == y) ws ≡ true → has_pair (map (λ w. (v, w)) ws) x y ≡ true
first_with v [] x y e h = absurd cc
first_with v (w ∷ ws) x y e h = elim (or_cases (w == y) (list_any (λ w. w == y) ws) h) [
  | inl f ↦
      or_left (is_pair x y (v, w)) (has_pair (map (λ w. (v, w)) ws) x y)
      (ap (λ a. is_pair x y (a, w)) e ∙ (ap (λ b. is_pair x y (x, b)) (eqb-true w y f) ∙ of_both x y))
  | inr f ↦ or_right (is_pair x y (v, w)) (has_pair (map (λ w. (v, w)) ws) x y) (first_with v ws x y e f)
]

both_in : (vs : List ℕ) (x y : ℕ) → x ≢ y → list_any (λ w. w == x) vs ≡ true → list_any (λ w. w == y) vs ≡ true
    → has_pair (pairs_of vs) x y ≡ true
both_in [] x y differ h k = absurd cc
both_in (v ∷ vs) x y differ h k =
    let first = has_pair (map (λ w. (v, w)) vs) x y in
    let later = has_pair (pairs_of vs) x y in
    list_any-append (is_pair x y) (map (λ w. (v, w)) vs) (pairs_of vs)
    ∙ elim (or_cases (v == x) (list_any (λ w. w == x) vs) h) [
      | inl e ↦ elim (or_cases (v == y) (list_any (λ w. w == y) vs) k) [
        | inl f ↦ absurd (differ (sym (eqb-true v x e) ∙ eqb-true v y f))
        | inr f ↦ or_left first later (first_with v vs x y (eqb-true v x e) f)
      ]
      | inr e ↦ elim (or_cases (v == y) (list_any (λ w. w == y) vs) k) [
        | inl f ↦ or_left first later (turned (map (λ w. (v, w)) vs) y x (first_with v vs y x (eqb-true v y f) e))
        | inr f ↦ or_right first later (both_in vs x y differ e f)
      ]
    ]

differ_if : (x y : ℕ) → not (x == y) ≡ true → x ≢ y
differ_if x y h e = let same : false ≡ true = sym (ap not (eq-eqb x y e)) ∙ h in cc

pub pair_in : (vs : List ℕ) (x y : ℕ) → stand_in vs x y ≡ true → has_pair (pairs_of vs) x y ≡ true
pair_in vs x y h =
    let parts = and_parts (not (x == y)) (list_any (λ w. w == x) vs && list_any (λ w. w == y) vs) h in
    let two = and_parts (list_any (λ w. w == x) vs) (list_any (λ w. w == y) vs) parts.1 in
    both_in vs x y (differ_if x y parts.0) two.0 two.1

-- ---- some lists

pub restricted_there : (gs : List (Vec ℕ Global)) (i : ℕ) (g d : Vec ℕ Global) (x y : ℕ) → i < length gs → g ≡ get_or gs i d
    → has_pair (pairs_of g.items) x y ≡ true → has_pair (restricted (seen_groups gs)) x y ≡ true
restricted_there [] i g d x y lt e h = absurd (omega (arith, lt))
restricted_there (v ∷ gs) zero g d x y lt e h =
    list_any-append (is_pair x y) (pairs_of v.items) (restricted (seen_groups gs))
    ∙ or_left (has_pair (pairs_of v.items) x y) (has_pair (restricted (seen_groups gs)) x y)
    (ap (λ (u : Vec ℕ Global). has_pair (pairs_of u.items) x y) (sym e) ∙ h)
restricted_there (v ∷ gs) (suc i) g d x y lt e h =
    list_any-append (is_pair x y) (pairs_of v.items) (restricted (seen_groups gs))
    ∙ or_right (has_pair (pairs_of v.items) x y) (has_pair (restricted (seen_groups gs)) x y)
    (restricted_there gs i g d x y (omega (arith, lt)) e h)

-- the pairs in front of a place are in lists, and the lists have no other pair
pub record AreGroupedTo (ps : List (ℕ × ℕ)) (i : ℕ) (groups : List (List ℕ)) : Type 0 where
  pub sound : (x y : ℕ) → has_pair (restricted groups) x y ≡ true → has_pair ps x y ≡ true
  pub there : All (λ p. has_pair (restricted groups) p.0 p.1 ≡ true) (take i ps)
  pub paired : All (All (IsPaired ps)) groups

pub none_grouped : (ps : List (ℕ × ℕ)) → AreGroupedTo ps 0 []
none_grouped ps = record {
  sound = λ x y h. absurd cc;
  there = λ k d lt. absurd (omega (arith, lt));
  paired = λ k d lt. absurd (omega (arith, lt));
}

pub all_grouped : (ps : List (ℕ × ℕ)) (groups : List (List ℕ)) → AreGroupedTo ps (length ps) groups → AreGrouped ps groups
all_grouped ps groups g = record {
  alike = λ x y.
      alike (has_pair (restricted groups) x y) (has_pair ps x y) (g.sound x y)
      (all_among (restricted groups) ps
      (subst (λ qs. All (λ p. has_pair (restricted groups) p.0 p.1 ≡ true) qs) (take-length ps) g.there) x y);
  paired = g.paired;
}

grouped_next : (ps : List (ℕ × ℕ)) (i : ℕ) (d : ℕ × ℕ) (old new : List (List ℕ)) → i < length ps
    → ((x y : ℕ) → has_pair (restricted new) x y ≡ true → has_pair ps x y ≡ true)
    → ((x y : ℕ) → has_pair (restricted old) x y ≡ true → has_pair (restricted new) x y ≡ true)
    → has_pair (restricted new) (get_or ps i d).0 (get_or ps i d).1 ≡ true → All (All (IsPaired ps)) new → AreGroupedTo ps i old
    → AreGroupedTo ps (i + 1) new
grouped_next ps i d old new lt sound kept here paired g = record {
  sound = sound;
  there =
      subst (λ qs. All (λ p. has_pair (restricted new) p.0 p.1 ≡ true) qs) (sym (take_more ps i d lt))
      (All-push (λ p. has_pair (restricted new) p.0 p.1 ≡ true) (take i ps) (get_or ps i d)
      (λ k e inside. kept (get_or (take i ps) k e).0 (get_or (take i ps) k e).1 (g.there k e inside)) here);
  paired = paired;
}

-- a pair that is in a list before
pub grouped_before : (ps : List (ℕ × ℕ)) (i : ℕ) (d : ℕ × ℕ) (groups : List (List ℕ)) → i < length ps
    → has_pair (restricted groups) (get_or ps i d).0 (get_or ps i d).1 ≡ true → AreGroupedTo ps i groups → AreGroupedTo ps (i + 1) groups
grouped_before ps i d groups lt here g = grouped_next ps i d groups groups lt g.sound (λ x y h. h) here g.paired g

-- one that begins a list
pub grouped_new : (ps : List (ℕ × ℕ)) (i : ℕ) (d : ℕ × ℕ) (old new : List (List ℕ)) (group : List ℕ) → i < length ps
    → IsGroupOf ps (get_or ps i d).0 (get_or ps i d).1 group → new ≡ old ++ group ∷ [] → AreGroupedTo ps i old
    → AreGroupedTo ps (i + 1) new
grouped_new ps i d old new group lt is e g =
    let p = get_or ps i d in
    let cut : restricted new ≡ restricted old ++ pairs_of group =
    ap restricted e ∙ (flat_map-append pairs_of old (group ∷ []) ∙ ap (λ qs. restricted old ++ qs) (append-nil (pairs_of group))) in
    let parts : (x y : ℕ) → has_pair (restricted new) x y ≡ (has_pair (restricted old) x y || has_pair (pairs_of group) x y) =
    λ x y. ap (list_any (is_pair x y)) cut ∙ list_any-append (is_pair x y) (restricted old) (pairs_of group) in
    grouped_next ps i d old new lt
    (λ x y h. elim (or_cases (has_pair (restricted old) x y) (has_pair (pairs_of group) x y) (sym (parts x y) ∙ h)) [
      | inl f ↦ g.sound x y f
      | inr f ↦ all_paired ps group is.paired x y f
    ])
    (λ x y h. parts x y ∙ or_left (has_pair (restricted old) x y) (has_pair (pairs_of group) x y) h)
    (parts p.0 p.1 ∙ or_right (has_pair (restricted old) p.0 p.1) (has_pair (pairs_of group) p.0 p.1) (group_has ps p.0 p.1 group is))
    (subst (All (All (IsPaired ps))) (sym e) (All-push (All (IsPaired ps)) old group g.paired (group_paired ps p.0 p.1 group is))) g

-- ---- what is so of the variables of pairs

of_pair : (P : ℕ → Type 0) (x y : ℕ) (p : ℕ × ℕ) → is_pair x y p ≡ true → P p.0 × P p.1 → P x
of_pair P x y p is both = elim (which x y p is) [
  | inl e ↦ subst (λ (q : ℕ × ℕ). P q.0) e both.0
  | inr e ↦ subst (λ (q : ℕ × ℕ). P q.1) e both.1
]

of_paired : (P : ℕ → Type 0) (ps : List (ℕ × ℕ)) (x : ℕ) → All (λ p. P p.0 × P p.1) ps → IsPaired ps x → P x
of_paired P ps x all paired =
    let one = Any-from_list_any (is_pair x paired.0) ps paired.1 in
    of_pair P x paired.0 one.1 one.4 (subst (λ (q : ℕ × ℕ). P q.0 × P q.1) one.3 (all one.0 one.1 one.2))

-- is so of those of a list
pub all_in_group : (P : ℕ → Type 0) (ps : List (ℕ × ℕ)) (gs : List (Vec ℕ Global)) (i : ℕ) (g d : Vec ℕ Global) → i < length gs
    → g ≡ get_or gs i d → AreGrouped ps (seen_groups gs) → All (λ p. P p.0 × P p.1) ps → All P g.items
all_in_group P ps gs i g d lt is grouped all =
    let long = length-map gs (λ (g : Vec ℕ Global). g.items) in
    let at = grouped.paired i d.items (omega (arith, long, lt)) in
    let here = subst (All (IsPaired ps)) (get_or-map (λ (g : Vec ℕ Global). g.items) gs i d d.items lt) at in
    let paired = subst (λ (v : Vec ℕ Global). All (IsPaired ps) v.items) (sym is) here in
    λ k e inside. of_paired P ps (get_or g.items k e) all (paired k e inside)
